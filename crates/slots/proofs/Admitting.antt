-- Adding the runs that start at position e to the list, and what holds before the first boundary. Assumes nothing.
use mathlib.Core.Path.{◌≡◌, refl, sym, ap, ◌∙◌, subst}
use mathlib.Core.List.{List}
use Prim.Native.Nat.{ℕ, ◌+◌, ◌-◌, ◌*◌, ◌≤◌, ◌<◌}
use native.Mathlib.Omega.{arith}
use native.Mathlib.Decide.{dec_lt, ℕ_discrete}
use borrow.Author.Tests.{lt-ltb, le-ltb}
use lib.ListN.{length, get_or, set, length-set}
use lib.Seq.{get_or-set_same, get_or-set_other, drop-set-lt}
use Rattle.runs.specs.Table.{runs_of, record_at}
use Rattle.factors.specs.Factorization.{Choice, cell}
use Rattle.factors.specs.Table.{rows, Holds}
use Rattle.factors.proofs.TableLaws.{holds_same}
use Rattle.factors.proofs.Filling.{start_first, start_others}
use Rattle.periods.specs.Square.{square?}
use Rattle.factorizer.specs.Piece.{piece?}
use Rattle.factorizer.proofs.FillLaws.{begun, begun_front, begun_zeros}
use Rattle.slots.specs.Ready.{start_of, two_of, known_cell, Lead, list_row, Ready, Admitted, Added}
use Rattle.slots.proofs.Tabled.{Tabled}
use Rattle.slots.proofs.Turn.{entry_of, place_of, Holding}
use Rattle.slots.proofs.Computed.{slot_bound}

-- ---- the numbers are added one by one

pub added_none : (n lives next : ℕ) (t : List ℕ) → Added n lives next next t t
added_none n lives next t = record { long = refl; old = λ y h. refl; new = λ k h. absurd (omega arith); rest = refl }

pub added_more : (n lives next i : ℕ) (t u : List ℕ) → next ≤ i → lives + (i - next) < n + 1 → rows * (n + 1) ≤ length t → Added n lives next i t u
    → Added n lives next (i + 1) t (set u (list_row n + lives + (i - next)) i)
added_more n lives next i t u h l room A = record {
  long = length-set u (list_row n + lives + (i - next)) i ∙ A.long;
  old = λ y g. get_or-set_other u (list_row n + lives + (i - next)) y i 0 (omega arith) ∙ A.old y g;
  new = λ k g. go k (ℕ_discrete (next + k) i) g;
  rest = drop-set-lt (rows * (n + 1)) u (list_row n + lives + (i - next)) i (omega arith) ∙ A.rest;
}
  where
    go : (k : ℕ) → Dec (next + k ≡ i) → next + k < i + 1 → get_or (set u (list_row n + lives + (i - next)) i) (list_row n + lives + k) 0 ≡ next + k
    go k (yes e) g =
        let z : k ≡ i - next = omega arith in
        ap (λ (y : ℕ). get_or (set u (list_row n + lives + (i - next)) i) (list_row n + lives + y) 0) z
        ∙ get_or-set_same u (list_row n + lives + (i - next)) i 0 (omega (arith, A.long)) ∙ sym e
    go k (no e) g = get_or-set_other u (list_row n + lives + (i - next)) (list_row n + lives + k) i 0 (omega arith) ∙ A.new k (omega arith)

-- and each starts at position e at the latest
pub begun_more : (runs : List ℕ) (e next i : ℕ) → ((k : ℕ) → next ≤ k → k < i → (record_at runs k).first ≤ e) → (record_at runs i).first ≤ e
    → (k : ℕ) → next ≤ k → k < i + 1 → (record_at runs k).first ≤ e
begun_more runs e next i before h k l u = go (ℕ_discrete k i)
  where
    go : Dec (k ≡ i) → (record_at runs k).first ≤ e
    go (yes z) = let f : (record_at runs k).first ≡ (record_at runs i).first = ap (λ (x : ℕ). (record_at runs x).first) z in omega arith
    go (no z) = before k l (omega arith)

-- ---- then the list has the runs that start by e

module _ (c : Choice) (w runs : List ℕ) (R : Tabled w runs) (e next r lives : ℕ) (t u : List ℕ) (inside : e ≤ length w)
    (before : (i : ℕ) → i < next → (record_at runs i).first < e) (A : Admitted runs (length (runs_of w)) e next r) (D : Added (length w) lives next r t u) where
  abbrev n : ℕ
  n = length w

  -- the runs below the next one start before e + 1
  pub before_next : (i : ℕ) → i < r → (record_at runs i).first < e + 1
  before_next i h = go (dec_lt i next)
    where
      go : Dec (i < next) → (record_at runs i).first < e + 1
      go (yes x) = omega (arith, before i x)
      go (no x) = omega (arith, A.begun i (omega arith) h)

  same : (y : ℕ) → y < list_row n → get_or u y 0 ≡ get_or t y 0
  same y h = D.old y (omega arith)

  -- an entry: an old one, or a new one
  old_entry : (k : ℕ) → k < lives → entry_of w u k ≡ entry_of w t k
  old_entry k h = D.old (list_row n + k) (omega arith)

  new_entry : (k : ℕ) → lives ≤ k → k < lives + (r - next) → entry_of w u k ≡ next + (k - lives)
  new_entry k h l =
      let z : list_row n + k ≡ list_row n + lives + (k - lives) = omega arith in
      ap (λ (y : ℕ). get_or u y 0) z ∙ D.new (k - lives) (omega (arith, A.low))

  pub admitted_ready : Ready c w runs e e lives t → Ready c w runs (e + 1) e (lives + (r - next)) u
  admitted_ready S = record { known = known; listed = λ k h. listed k (dec_lt k lives) h; lists = λ i h f g. lists i (dec_lt i next) (dec_lt i r) h f g; slots = slots }
    where
      known : (m : ℕ) → m ≤ n → Holds u m (n + 1 + m) (known_cell c w e m)
      known m h = holds_same t m (n + 1 + m) u (known_cell c w e m) (same m (omega arith)) (same (n + 1 + m) (omega arith)) (S.known m h)

      listed : (k : ℕ) → Dec (k < lives) → k < lives + (r - next) → (entry_of w u k < length (runs_of w)) × ((record_at runs (entry_of w u k)).first < e + 1)
      listed k (yes x) h = rw (old_entry k x) ((S.listed k x).0, omega (arith, (S.listed k x).1))
      listed k (no x) h = rw (new_entry k (omega arith) h) (omega (arith, A.high), before_next (next + (k - lives)) (omega arith))

      lists : (i : ℕ) → Dec (i < next) → Dec (i < r) → i < length (runs_of w) → (record_at runs i).first < e + 1 → e ≤ (record_at runs i).last
          → (k : ℕ) × (k < lives + (r - next)) × (entry_of w u k ≡ i)
      lists i (yes x) y h f g = let q = S.lists i h (before i x) g in (q.0, omega (arith, q.1), old_entry q.0 q.1 ∙ q.2)
      lists i (no x) (yes y) h f g = (lives + (i - next), omega arith, new_entry (lives + (i - next)) (omega arith) (omega arith) ∙ omega arith)
      lists i (no x) (no y) h f g = absurd (omega (arith, A.stops (omega arith), R.sorted r i (omega arith) h))

      slots : (i x : ℕ) → i < length (runs_of w) → e ≤ (record_at runs i).last → Holding runs i x → x < e → e ≤ x + two_of runs i → Lead c w runs i x (get_or u (place_of w runs i x) 0)
      slots i x h g d l f =
          subst (Lead c w runs i x) (sym (same (place_of w runs i x) (slot_bound n (start_of runs i) (two_of runs i) x (omega arith) (omega arith)))) (S.slots i x h g d l f)

-- ---- before the first boundary

pub ready_starts : (c : Choice) (w runs t : List ℕ) → Tabled w runs → rows * (length w + 1) ≤ length t → Ready c w runs 1 1 0 (begun w t)
ready_starts c w runs t R room = record {
  known = λ m h. known m h (ℕ_discrete m 0);
  listed = λ k h. absurd (omega arith);
  lists = λ i h f g. absurd (omega (arith, (R.sound i h).starts));
  slots = λ i x h g d l f. absurd (omega (arith, (R.sound i h).smallest.period.positive));
}
  where
    known : (m : ℕ) → m ≤ length w → Dec (m ≡ 0) → Holds (begun w t) m (length w + 1 + m) (known_cell c w 1 m)
    known m h (yes e) = rw e (start_first c (piece? square? w) (length w) t (begun w t) (begun_front w t room) (begun_zeros w t room))
    known m h (no e) =
        rw (le-ltb m 1 (omega arith)) (start_others c (piece? square? w) (length w) t (begun w t) (begun_front w t room) (begun_zeros w t room) m h (omega arith))

-- ---- after the last one all cells are known

pub ready_ends : (c : Choice) (w runs : List ℕ) (upto e lives : ℕ) (t : List ℕ) → length w < e → Ready c w runs upto e lives t
    → (m : ℕ) → m ≤ length w → Holds t m (length w + 1 + m) (cell c (piece? square? w) m)
ready_ends c w runs upto e lives t h S m l =
    let z : known_cell c w e m ≡ cell c (piece? square? w) m = rw (lt-ltb m e (omega arith)) refl in
    subst (Holds t m (length w + 1 + m)) z (S.known m l)
