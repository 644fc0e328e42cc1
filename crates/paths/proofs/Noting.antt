-- The runs are noted one after the other, up to the first that starts after a boundary: then what is noted at a unit is the last run with that unit that starts at
-- or before the boundary (`noted_latest`), since the firsts never fall, and a key tells of its run all that counts. So the test of a piece of a path goes by what
-- is found of the piece. By induction on the count of the keys. Assumes nothing.
use mathlib.Core.Path.{◌≡◌, refl, sym, ap, ap₂, ◌∙◌, subst}
use mathlib.Core.Bool.{Bool, true, false, cond, ◌&&◌}
use mathlib.Core.List.{List, [], ◌∷◌, ◌++◌}
use Prim.Native.Nat.{ℕ, zero, suc, ◌+◌, ◌-◌, ◌*◌, ◌/◌, ◌%◌, ◌≤◌, ◌<◌}
use native.Mathlib.Omega.{arith}
use native.Mathlib.Numerals.{add-one}
use native.Mathlib.Decide.{dec_lt, ℕ_discrete}
use borrow.Author.Tests.{le-leb, lt-leb, eq-eqb, ne_eqb}
use lib.Dec.{eqb, leb, ltb}
use lib.ListN.{length, get_or, set, take, drop, replicate, length-set, length-append, length-replicate, get_or-replicate, get_or-append}
use lib.Seq.{get_or-set_same, get_or-set_other, length-take-le}
use Rattle.std.proofs.Common.{get_or-take}
use Rattle.answers.specs.Outcome.{limit}
use Rattle.laws.proofs.Stores.{sets-front}
use Rattle.periods.specs.Period.{part, smallest_period, held_period, unit_memory, repetition?, block_unit}
use Rattle.periods.proofs.Claims.{part_smallest}
use Rattle.runs.specs.declared.Record.{Record}
use Rattle.runs.specs.declared.Listing.TheVariants.{Keys}
use Rattle.runs.specs.Run.{Entry}
use Rattle.runs.specs.Table.{runs_of}
use Rattle.runs.specs.Listing.{key_step, flat_by}
use Rattle.runs.proofs.Listings.{held_or_none, key_first, key_unit, key_at, length-flat_by}
use Rattle.runs.proofs.Entries.{sorted_first, entry_left, entry_right, entry_one_row, entry_bounds}
use Rattle.runs.proofs.Listed.{runs_listed}
use Rattle.runs.proofs.Few.{table_at_most}
use Rattle.halves.specs.Scratch.{listed}
use Rattle.halves.proofs.Records.{listed_enough}
use Rattle.repetitions.specs.Block.{block?}
use Rattle.paths.specs.LookUp.{last_number, has_period, starts_by, latest_number, of_key, passed, Keyed, Noted, NextLater, Found}
use Rattle.paths.specs.Calls.{segment?}
use Rattle.paths.proofs.PathJudgeClaims.{segment_given}
use Rattle.paths.proofs.Latest.{last_none, last_more, in_run_latest}

-- ---- the keys of a table that was listed

entry_there : (rs : List Record) (k : ℕ) → k < length rs → (r : Record) × Entry rs (suc k) r
entry_there [] k h = absurd (omega arith)
entry_there (r ∷ rs) zero h = (r, refl)
entry_there (r ∷ rs) (suc k) h = let e = entry_there rs k (omega arith) in (e.0, e.1)

-- the table u was t
pub keys_listed : (w t u : List ℕ) (count : ℕ) → length w ≤ limit → length w ≤ length t → length u ≡ length t → count ≡ length (runs_of w) → u ≡ listed Keys w t → Keyed w u count
keys_listed w t u count small room long e f = record {
  few = omega (arith, table_at_most w);
  room = omega (arith, table_at_most w);
  all = e;
  at = λ k r E. ap (λ (x : List ℕ). get_or x k 0) are ∙ get_or-append (flat_by Keys (runs_of w)) _ 0 k (omega (arith, ends, entry_bounds (runs_of w) (suc k) r E)) ∙ key_at (runs_of w) k r E;
}
  where
    ends : length (flat_by Keys (runs_of w)) ≡ length (runs_of w)
    ends = omega (arith, length-flat_by Keys (runs_of w))

    are : u ≡ flat_by Keys (runs_of w) ++ drop (length (flat_by Keys (runs_of w))) t
    are = f ∙ listed_enough Keys w t (omega arith) ∙ sets-front t (flat_by Keys (runs_of w)) (omega (arith, ends, table_at_most w))

-- so are they in its first places alone
module _ (w u : List ℕ) (count : ℕ) (K : Keyed w u count) where
  pub keys_long : length (take count u) ≡ count
  keys_long = length-take-le count u K.room

  pub keys_there : Keyed w (take count u) (length (take count u))
  keys_there = record {
    few = omega (arith, keys_long, K.few);
    room = omega arith;
    all = keys_long ∙ K.all;
    at = λ k r E. get_or-take count u k 0 (omega (arith, K.all, entry_bounds (runs_of w) (suc k) r E)) ∙ K.at k r E;
  }

-- ---- the runs of the first keys

pub passed_none : (keys : List ℕ) → passed 0 keys ≡ []
unfolding passed
passed_none keys = refl

passed_more : (keys : List ℕ) (c : ℕ) → passed (c + 1) keys ≡ passed c keys ++ (of_key (get_or keys c 0) ∷ [])
unfolding passed
passed_more keys c = rw (add-one c) refl

length-passed : (keys : List ℕ) (c : ℕ) → length (passed c keys) ≡ c
unfolding passed
length-passed keys zero = refl
length-passed keys (suc c) = omega (arith, length-append (passed c keys) (of_key (get_or keys c 0) ∷ []), length-passed keys c)

passed_entry : (keys : List ℕ) (k c : ℕ) → k < c → Entry (passed c keys) (suc k) (of_key (get_or keys k 0))
unfolding passed
passed_entry keys k zero h = absurd (omega arith)
passed_entry keys k (suc c) h = go (ℕ_discrete k c) (λ z. passed_entry keys k c z)
  where
    go : Dec (k ≡ c) → (k < c → Entry (passed c keys) (suc k) (of_key (get_or keys k 0))) → Entry (passed c keys ++ (of_key (get_or keys c 0) ∷ [])) (suc k) (of_key (get_or keys k 0))
    go (no z) ih = entry_left (passed c keys) _ (suc k) _ (ih (omega arith))
    go (yes z) ih =
        let e : length (passed c keys) + 1 ≡ suc k = omega (arith, length-passed keys c) in
        subst (λ (i : ℕ). Entry (passed c keys ++ (of_key (get_or keys c 0) ∷ [])) i (of_key (get_or keys k 0))) e
        (entry_right (passed c keys) (of_key (get_or keys c 0) ∷ []) 1 _ (ap (λ (i : ℕ). of_key (get_or keys i 0)) (sym z)))

-- ---- one run after the other

-- in a table of zeros none is noted yet
pub none_noted : (keys : List ℕ) (count : ℕ) (latest : List ℕ) → latest ≡ replicate 257 0 → Noted keys count 0 0 latest
none_noted keys count latest e = record {
  within = omega arith;
  early = λ k h. absurd (omega arith);
  places = ap length e ∙ length-replicate {A = ℕ} 257 0;
  last = λ p h l. ap (λ (x : List ℕ). get_or x p 0) e ∙ get_or-replicate 257 p 0 0 (omega arith) ∙ sym (ap (last_number (has_period p)) (passed_none keys) ∙ last_none (has_period p));
}

-- what was noted up to one boundary can be gone on with at a later one
pub noted_later : (keys : List ℕ) (count i j next : ℕ) (latest : List ℕ) → i ≤ j → Noted keys count i next latest → Noted keys count j next latest
noted_later keys count i j next latest h N = record { within = N.within; early = λ k l. omega (arith, N.early k l); places = N.places; last = N.last }

-- the last with a unit among one run more
last_next : (keys : List ℕ) (next p : ℕ) → last_number (has_period p) (passed (next + 1) keys) ≡ cond (eqb (get_or keys next 0 % key_step) p) (next + 1) (last_number (has_period p) (passed next keys))
last_next keys next p =
    ap (last_number (has_period p)) (passed_more keys next) ∙ last_more (has_period p) (passed next keys) (of_key (get_or keys next 0))
    ∙ ap (λ (m : ℕ). cond (eqb (get_or keys next 0 % key_step) p) m (last_number (has_period p) (passed next keys))) (omega (arith, length-passed keys next))

pub noted_more : (keys : List ℕ) (count i next : ℕ) (latest : List ℕ) → Noted keys count i next latest → next < count → get_or keys next 0 / key_step ≤ i + 1
    → Noted keys count i (next + 1) (set latest (get_or keys next 0 % key_step) (next + 1))
noted_more keys count i next latest N l h = record {
  within = omega arith;
  early = λ k x. early k (dec_lt k next) x;
  places = length-set latest q (next + 1) ∙ N.places;
  last = λ p x y. last p (ℕ_discrete p q) x y;
}
  where
    q : ℕ
    q = get_or keys next 0 % key_step

    early : (k : ℕ) → Dec (k < next) → k < next + 1 → get_or keys k 0 / key_step ≤ i + 1
    early k (yes x) y = N.early k x
    early k (no x) y = let e : k ≡ next = omega arith in rw e h

    last : (p : ℕ) → Dec (p ≡ q) → 1 ≤ p → p < key_step → get_or (set latest q (next + 1)) p 0 ≡ last_number (has_period p) (passed (next + 1) keys)
    last p (yes e) x y = rw e (get_or-set_same latest q (next + 1) 0 (omega (arith, N.places)) ∙ sym (last_next keys next q ∙ rw (eq-eqb q q refl) refl))
    last p (no e) x y = get_or-set_other latest q p (next + 1) 0 e ∙ N.last p x y ∙ sym (last_next keys next p ∙ rw (ne_eqb q p (λ z. e (sym z))) refl)

-- ---- all that start at or before the boundary

-- two lists of one length that pass a test at the same numbers
last_same : (t : Record → Bool) (xs ys : List Record) → length xs ≡ length ys → ((k : ℕ) (r s : Record) → Entry xs (suc k) r → Entry ys (suc k) s → t r ≡ t s) → last_number t xs ≡ last_number t ys
unfolding last_number
last_same t [] [] e h = refl
last_same t [] (y ∷ ys) e h = absurd (omega arith)
last_same t (x ∷ xs) [] e h = absurd (omega arith)
last_same t (x ∷ xs) (y ∷ ys) e h =
    ap₂ (λ (m : ℕ) (b : Bool). cond (eqb m 0) (cond b 1 0) (suc m)) (last_same t xs ys (omega arith) (λ k r s E F. h (suc k) r s E F)) (h 0 x y refl refl)

module _ (w keys : List ℕ) (count i next : ℕ) (latest : List ℕ) (K : Keyed w keys count) (N : Noted keys count i next latest) (L : NextLater keys count i next) where
  -- the first of a run, and its unit, as its key has them
  first_is : (k : ℕ) (r : Record) → Entry (runs_of w) (suc k) r → get_or keys k 0 / key_step ≡ r.first
  first_is k r E = ap (λ (x : ℕ). x / key_step) (K.at k r E) ∙ key_first r.first r.period

  -- the firsts never fall
  later : (k : ℕ) → next ≤ k → k < count → i + 1 < get_or keys k 0 / key_step
  later k h l =
      let a = entry_there (runs_of w) next (omega (arith, K.all)) in
      let b = entry_there (runs_of w) k (omega (arith, K.all)) in
      omega (
        arith,
        L (omega arith),
        first_is next a.0 a.1,
        first_is k b.0 b.1,
        sorted_first (runs_of w) (runs_listed w).sorted (suc next) (suc k) a.0 b.0 a.1 b.1 (omega arith),
      )

  -- of the runs that start at or before the boundary, the unit alone decides
  early_last : (p c : ℕ) → c ≤ next → last_number (starts_by p i) (passed c keys) ≡ last_number (has_period p) (passed c keys)
  unfolding passed
  early_last p zero h = last_none (starts_by p i) ∙ sym (last_none (has_period p))
  early_last p (suc c) h =
      last_more (starts_by p i) (passed c keys) (of_key (get_or keys c 0))
      ∙ rw (le-leb (get_or keys c 0 / key_step) (i + 1) (N.early c (omega arith)))
      (ap (λ (m : ℕ). cond (has_period p (of_key (get_or keys c 0))) (suc (length (passed c keys))) m) (early_last p c (omega arith)))
      ∙ sym (last_more (has_period p) (passed c keys) (of_key (get_or keys c 0)))

  -- and the others do not count
  late_last : (p d : ℕ) → next + d ≤ count → last_number (starts_by p i) (passed (next + d) keys) ≡ last_number (starts_by p i) (passed next keys)
  late_last p zero h = let e : next + 0 ≡ next = omega arith in rw e refl
  late_last p (suc d) h =
      let e : next + suc d ≡ next + d + 1 = omega arith in
      ap (λ (c : ℕ). last_number (starts_by p i) (passed c keys)) e
      ∙ ap (last_number (starts_by p i)) (passed_more keys (next + d))
      ∙ last_more (starts_by p i) (passed (next + d) keys) (of_key (get_or keys (next + d) 0))
      ∙ rw (lt-leb (get_or keys (next + d) 0 / key_step) (i + 1) (later (next + d) (omega arith) (omega arith))) (late_last p d (omega arith))

  -- a unit that unit memory holds is the same in a key
  same_unit : (p q : ℕ) → 1 ≤ p → p < key_step → eqb (cond (held_period q) q 0) p ≡ eqb q p
  same_unit p q h l = go (dec_lt unit_memory q)
    where
      go : Dec (unit_memory < q) → eqb (cond (held_period q) q 0) p ≡ eqb q p
      go (yes z) = rw (lt-leb q unit_memory z) (ne_eqb 0 p (λ e. omega arith) ∙ sym (ne_eqb q p (λ e. omega arith)))
      go (no z) = rw (le-leb q unit_memory (omega arith)) refl

  same_test : (p k : ℕ) (r s : Record) → 1 ≤ p → p < key_step → Entry (passed count keys) (suc k) r → Entry (runs_of w) (suc k) s → starts_by p i r ≡ starts_by p i s
  same_test p k r s h l E F =
      let e = entry_one_row (passed count keys) (suc k) r (of_key (get_or keys k 0)) E (passed_entry keys k count (omega (arith, entry_bounds (passed count keys) (suc k) r E, length-passed keys count))) in
      ap (starts_by p i) e
      ∙ ap₂ (λ (a b : ℕ). leb a (i + 1) && eqb b p) (first_is k s F) (ap (λ (x : ℕ). x % key_step) (K.at k s F) ∙ key_unit s.first s.period)
      ∙ ap (λ (b : Bool). leb s.first (i + 1) && b) (same_unit p s.period h l)

  -- CLAIM: what is noted at a unit is the last run with it that starts at or before the boundary
  pub noted_latest : (p : ℕ) → 1 ≤ p → p < key_step → get_or latest p 0 ≡ latest_number w p i
  unfolding latest_number
  noted_latest p h l =
      let e : next + (count - next) ≡ count = omega (arith, N.within) in
      N.last p h l ∙ sym (early_last p next (omega arith)) ∙ sym (late_last p (count - next) (omega (arith, e)))
      ∙ ap (λ (c : ℕ). last_number (starts_by p i) (passed c keys)) e
      ∙ last_same (starts_by p i) (passed count keys) (runs_of w) (length-passed keys count ∙ K.all) (λ k r s E F. same_test p k r s h l E F)

-- ---- what is found of a piece, and the test of a piece of a path

-- unit memory holds the unit of a block
pub unit_held : (turns : ℕ) (s : List ℕ) → block_unit turns s < key_step
unfolding block_unit repetition?
unit_held turns s = go (ltb 0 (length s)) (leb (turns * smallest_period s) (length s))
  where
    go : (a b : Bool) → cond (a && (b && held_period (smallest_period s))) (smallest_period s) 0 < key_step
    go false b = omega arith
    go true false = omega arith
    go true true = held_or_none (smallest_period s)

module _ (turns : ℕ) (w : List ℕ) (i j : ℕ) (up : i < j) (within : j ≤ length w) where
  pub unit_none : block_unit turns (part w i j) ≡ 0 → block? held_period turns w i j ≡ false
  unfolding block_unit
  unit_none e = go (repetition? held_period turns (part w i j)) refl e
    where
      go : (b : Bool) → repetition? held_period turns (part w i j) ≡ b → cond b (smallest_period (part w i j)) 0 ≡ 0 → block? held_period turns w i j ≡ false
      go true f h = absurd (omega (arith, (part_smallest w i j within up).period.positive))
      go false f h = rw (le-leb j (length w) within) f

  pub unit_some : (u : ℕ) → u ≡ block_unit turns (part w i j) → 1 ≤ u → (block? held_period turns w i j ≡ true) × (u ≡ smallest_period (part w i j))
  unfolding block_unit
  unit_some u e h = go (repetition? held_period turns (part w i j)) refl e
    where
      go : (b : Bool) → repetition? held_period turns (part w i j) ≡ b → u ≡ cond b (smallest_period (part w i j)) 0 → (block? held_period turns w i j ≡ true) × (u ≡ smallest_period (part w i j))
      go true f g = (rw (le-leb j (length w) within) f, g)
      go false f g = absurd (omega arith)

  -- it is decided by what is found of the piece
  module _ (two : 2 ≤ turns) (ns : List ℕ) (k unit number : ℕ) (inside : k + k + 1 < length ns) (F : Found turns w i j unit number) where
    told : segment? held_period turns w ns (suc k) i j ≡ (block? held_period turns w i j && eqb (latest_number w (smallest_period (part w i j)) i) (get_or ns (k + k) 0))
    told = segment_given held_period turns w ns k i j inside ∙ in_run_latest held_period turns two w (get_or ns (k + k) 0) i j

    pub piece_no_block : unit ≡ 0 → segment? held_period turns w ns (suc k) i j ≡ false
    piece_no_block e = told ∙ rw (unit_none (sym F.is_unit ∙ e)) refl

    pub piece_compared : 1 ≤ unit → segment? held_period turns w ns (suc k) i j ≡ eqb number (get_or ns (k + k) 0)
    piece_compared h =
        let s = unit_some unit F.is_unit h in
        told ∙ rw s.0 (ap (λ (m : ℕ). eqb m (get_or ns (k + k) 0)) (ap (λ (p : ℕ). latest_number w p i) (sym s.1) ∙ sym (F.is_number h)))
