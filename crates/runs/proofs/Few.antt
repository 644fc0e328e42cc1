-- A word that is not empty has fewer runs than symbols, however they are listed (`runs_few`): each run is marked at one of the boundaries inside the word, and no
-- boundary marks two runs. A mark of a run with period p is a boundary inside it, at most p after its start, where the next p symbols are a Lyndon word; the order of
-- symbols is the one in which the symbol after the run comes before the one that the period would have there. Runs with one mark and one period are one run. With
-- periods p < p', the Lyndon word of p' symbols would have to come before its own suffix after p symbols, and does not. Assumes nothing.
use mathlib.Core.Path.{◌≡◌, refl, sym, ap, ◌∙◌, subst, subst₂}
use mathlib.Core.Logic.{◌≢◌}
use mathlib.Core.Bool.{Bool, true, false}
use mathlib.Core.List.{List, [], ◌∷◌}
use Prim.Native.Nat.{ℕ, zero, suc, ◌+◌, ◌-◌, ◌≤◌, ◌<◌}
use native.Mathlib.Omega.{arith}
use native.Mathlib.Decide.{dec_lt, ℕ_discrete}
use lib.ListN.{length}
use Rattle.laws.proofs.Pigeon.{pigeon}
use Rattle.periods.proofs.InPlace.{symbol}
use Rattle.runs.specs.declared.Record.{Record}
use Rattle.runs.specs.Run.{Entry, Lists}
use Rattle.runs.specs.Table.{runs_of}
use Rattle.runs.proofs.InPlace.{RunIn, run_unique, run_in}
use Rattle.runs.proofs.Entries.{entry_same}
use Rattle.runs.proofs.Listed.{runs_listed}
use Rattle.runs.proofs.Roots.{Below, Ahead, LeastStart, Lyndon, below_asym, ahead_differs, ahead_order, least_start_exists, least_start_lyndon}

-- boundary q marks the run between the boundaries A and B; where the run ends with the word, either order will do
pub record Mark (f : ℕ → ℕ) (n A B p q : ℕ) : Type 0 where
  pub run : RunIn f n A B p
  pub order : Bool
  pub after : A < q
  pub upto : q ≤ A + p
  pub lyndon : Lyndon order f p q
  pub next : B < n → Below order (f B) (f (B - p))

module _ (f : ℕ → ℕ) (n : ℕ) where
  pub mark_exists : (A B p : ℕ) → RunIn f n A B p → (q : ℕ) × Mark f n A B p q
  mark_exists A B p R = go (dec_lt (f B) (f (B - p)))
    where
      make : (o : Bool) → (B < n → Below o (f B) (f (B - p))) → (q : ℕ) × LeastStart o f (suc A) p p q → (q : ℕ) × Mark f n A B p q
      make o h (q, X) = (
        q,
        record {
          run = R;
          order = o;
          after = X.from;
          upto = omega arith;
          lyndon = least_start_lyndon f A B p R.smallest (suc A) (omega arith) (omega arith) o q X;
          next = h;
        },
      )

      start : (o : Bool) → (q : ℕ) × LeastStart o f (suc A) p p q
      start o = least_start_exists f A B p R.smallest (suc A) (omega arith) (omega arith) o

      go : Dec (f B < f (B - p)) → (q : ℕ) × Mark f n A B p q
      go (yes v) = make true (λ l. v) (start true)
      go (no v) = make false (λ l. omega (arith, R.right l)) (start false)

  -- a boundary that marks a run marks none with a larger period
  mark_not_larger : {A B p A' B' p' q : ℕ} → Mark f n A B p q → Mark f n A' B' p' q → p < p' → ⊥
  mark_not_larger {A} {B} {p} {A'} {B'} {p'} {q} M N h = go (ℕ_discrete p 1)
    where
      -- period 1: the symbol before q is the one after it and the last of the other Lyndon word, but a Lyndon word does not end in its first symbol
      one : p ≡ 1 → Ahead N.order f (q + p' - (q + p' - 1)) q (q + p' - 1) → ⊥
      one e X =
          ahead_differs f X
          (ap f (omega arith)
          ∙ sym (M.run.smallest.period.same (q - 1) (omega arith) (omega arith))
          ∙ N.run.smallest.period.same (q - 1) (omega arith) (omega arith) ∙ ap f (omega arith))

      -- a larger period: the orders agree; the first difference of the other Lyndon word and its suffix after p symbols is in the run, just after it, or later
      more : M.order ≡ N.order → Ahead N.order f (q + p' - (q + p)) q (q + p) → ⊥
      more e X = by (dec_lt (q + p + X.common) B) (dec_lt B (q + p + X.common))
        where
          -- the other run goes on after B
          goes_on : B ≤ q + p + X.common → B < n
          goes_on l = omega arith

          by : Dec (q + p + X.common < B) → Dec (B < q + p + X.common) → ⊥
          by (yes v) d =
              ahead_differs f X (M.run.smallest.period.same (q + X.common) (omega arith) (omega arith) ∙ ap f (omega arith))
          by (no v) (yes u) =
              M.run.right (goes_on (omega arith)) (ap f (omega arith) ∙ sym (X.same (B - (q + p)) (omega arith)) ∙ ap f (omega arith))
          by (no v) (no u) =
              below_asym N.order (f (q + X.common)) (f (q + p + X.common)) X.less
              (subst₂ (Below N.order) (ap f (omega arith)) (ap f (omega arith))
              (subst (λ (o : Bool). Below o (f B) (f (B - p))) e (M.next (goes_on (omega arith)))))

      go : Dec (p ≡ 1) → ⊥
      go (yes e) = one e (N.lyndon (q + p' - 1) (omega arith) (omega arith))
      go (no e) =
          more (ahead_order f (M.lyndon (q + 1) (omega arith) (omega arith)) (N.lyndon (q + 1) (omega arith) (omega arith)))
          (N.lyndon (q + p) (omega arith) (omega arith))

  -- a boundary marks one run
  pub mark_unique : {A B p A' B' p' q : ℕ} → Mark f n A B p q → Mark f n A' B' p' q → (A ≡ A') × (B ≡ B') × (p ≡ p')
  mark_unique {A} {B} {p} {A'} {B'} {p'} {q} M N = go (dec_lt p p') (dec_lt p' p)
    where
      equal : p ≡ p' → (A ≡ A') × (B ≡ B') × (p ≡ p')
      equal e =
          let r = run_unique f n A B A' B' q (q + p) p M.run (subst (λ (x : ℕ). RunIn f n A' B' x) (sym e) N.run)
          (omega arith) (omega arith) (omega arith) (omega arith) (omega arith) in
          (r.0, r.1, e)

      go : Dec (p < p') → Dec (p' < p) → (A ≡ A') × (B ≡ B') × (p ≡ p')
      go (yes v) d = absurd (mark_not_larger M N v)
      go (no v) (yes u) = absurd (mark_not_larger N M u)
      go (no v) (no u) = equal (omega arith)

-- ---- a list of the runs

entry_exists : (xs : List Record) (i : ℕ) → i < length xs → (r : Record) × Entry xs (suc i) r
entry_exists [] i l = absurd (omega arith)
entry_exists (x ∷ xs) zero l = (x, refl)
entry_exists (x ∷ xs) (suc i) l = entry_exists xs i (omega arith)

-- entry i + 1 of a list, and a boundary that marks its run
record Marked (w : List ℕ) (rows : List Record) (i : ℕ) : Type 0 where
  row : Record
  entry : Entry rows (suc i) row
  starts : 1 ≤ row.first
  boundary : ℕ
  mark : Mark (symbol w) (length w) (row.first - 1) row.last row.period boundary

module _ (w : List ℕ) (rows : List Record) (L : Lists w rows) where
  marked : (i : ℕ) → i < length rows → Marked w rows i
  marked i l = go (entry_exists rows i l)
    where
      go : (r : Record) × Entry rows (suc i) r → Marked w rows i
      go (r, h) =
          let R = L.sound (suc i) r h in
          let z = mark_exists (symbol w) (length w) (r.first - 1) r.last r.period (run_in w r.first r.last r.period R) in
          record { row = r; entry = h; starts = R.starts; boundary = z.0; mark = z.1 }

  boundary_inside : {i : ℕ} (M : Marked w rows i) → (1 ≤ M.boundary) × (M.boundary < length w)
  boundary_inside M = (omega arith, omega arith)

  boundary_unique : (i j : ℕ) (M : Marked w rows i) (N : Marked w rows j) → M.boundary ≡ N.boundary → i ≡ j
  boundary_unique i j M N e =
      let u = mark_unique (symbol w) (length w) M.mark
      (subst (λ (q : ℕ). Mark (symbol w) (length w) (N.row.first - 1) N.row.last N.row.period q) (sym e) N.mark) in
      omega (arith, entry_same rows L.sorted (suc i) (suc j) M.row N.row M.entry N.entry (omega (arith, u.0)) u.2)

  -- n - 1 boundaries are inside a word of n symbols; the empty word needs no case of its own
  pub runs_at_most : length rows ≤ length w - 1
  runs_at_most = pigeon (length rows) (length w - 1) (λ i l. (marked i l).boundary - 1) low differ
    where
      low : (i : ℕ) (l : i < length rows) → (marked i l).boundary - 1 < length w - 1
      low i l = omega (arith, boundary_inside (marked i l))

      differ : (i j : ℕ) (l : i < length rows) (u : j < length rows) → i < j → (marked i l).boundary - 1 ≢ (marked j u).boundary - 1
      differ i j l u x e =
          omega (arith, boundary_unique i j (marked i l) (marked j u) (omega (arith, boundary_inside (marked i l), boundary_inside (marked j u))))

  -- CLAIM: "a sequence of n ≥ 1 passes has fewer than n runs"
  pub runs_few : 1 ≤ length w → length rows < length w
  runs_few h = omega (arith, runs_at_most)

-- the computed table
pub table_at_most : (w : List ℕ) → length (runs_of w) ≤ length w - 1
table_at_most w = runs_at_most w (runs_of w) (runs_listed w)
