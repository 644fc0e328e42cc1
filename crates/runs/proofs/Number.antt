-- The number of the first record that passes a test, for any test: it is that of a record that passes, and 0 only where none does; how a loop over a table
-- finds it. Then the number of the run that encloses a part twice its unit or longer: there is such a run (`one_run`), so the number is not 0; it is
-- at most the count of the runs. And the numbers of a block, by its unit and its run number. By induction on the records. Assumes nothing.
use mathlib.Core.Path.{◌≡◌, refl, sym, ap, subst}
use mathlib.Core.Logic.{◌≢◌}
use mathlib.Core.Bool.{Bool, true, false, cond, ◌&&◌}
use mathlib.Core.List.{List, [], ◌∷◌}
use Prim.Native.Nat.{ℕ, zero, suc, ◌+◌, ◌-◌, ◌*◌, ◌/◌, ◌%◌, ◌≤◌, ◌<◌}
use native.Mathlib.Omega.{arith}
use native.Mathlib.Numerals.{add-one}
use lib.Dec.{T, leb, eqb, le→leb, eqb_refl, eqb-suc-zero}
use lib.ListN.{length}
use Rattle.laws.proofs.Tests.{and_intro}
use Rattle.periods.specs.Period.{part, smallest_period}
use Rattle.periods.proofs.Claims.{smallest_period_is}
use Rattle.runs.specs.declared.Record.{Record}
use Rattle.runs.specs.Run.{Entry}
use Rattle.runs.specs.Table.{runs_of}
use Rattle.runs.specs.Number.{encloses?, first_number, run_number, block_numbers}
use Rattle.runs.proofs.Entries.{no_entry}
use Rattle.runs.proofs.Listed.{runs_listed}
use Rattle.runs.proofs.InPlace.{one_run}
use Rattle.runs.proofs.Rows.{part_long}

next_suc : (i : ℕ) → cond (eqb (suc i) 0) 0 (suc (suc i)) ≡ suc (suc i)
next_suc i = rw (eqb-suc-zero i) refl

-- r is the entry with number i, and passes
pub record Passes (t : Record → Bool) (rows : List Record) (i : ℕ) : Type 0 where
  pub row : Record
  pub entry : Entry rows i row
  pub passed : T (t row)

module _ (t : Record → Bool) where
  -- what it means that none of more records passes
  none_passes : (r : Record) (rs : List Record) → first_number t (r ∷ rs) ≡ 0 → (t r ≡ false) × (first_number t rs ≡ 0)
  unfolding first_number
  none_passes r rs e = go (t r) refl (first_number t rs) refl e
    where
      go : (b : Bool) → t r ≡ b → (m : ℕ) → first_number t rs ≡ m → cond b 1 (cond (eqb m 0) 0 (suc m)) ≡ 0 → (t r ≡ false) × (first_number t rs ≡ 0)
      go true f m g e = absurd (omega arith)
      go false f zero g e = (f, g)
      go false f (suc m) g e = absurd (omega (arith, next_suc m))

  -- CLAIM: the number is that of a record that passes
  pub first_sound : (rows : List Record) (i : ℕ) → first_number t rows ≡ suc i → Passes t rows (suc i)
  unfolding first_number
  first_sound [] i e = absurd (omega arith)
  first_sound (r ∷ rs) i e = go (λ j. first_sound rs j) (t r) refl e
    where
      later : (m : ℕ) → ((j : ℕ) → m ≡ suc j → Passes t rs (suc j)) → cond (eqb m 0) 0 (suc m) ≡ suc i → Passes t (r ∷ rs) (suc i)
      later zero h x = absurd (omega arith)
      later (suc m) h x =
          let y : i ≡ suc m = omega (arith, next_suc m) in
          rw y (let P = h m refl in record { row = P.row; entry = P.entry; passed = P.passed })

      go : ((j : ℕ) → first_number t rs ≡ suc j → Passes t rs (suc j)) → (u : Bool) → t r ≡ u → cond u 1 (cond (eqb (first_number t rs) 0) 0 (suc (first_number t rs))) ≡ suc i
          → Passes t (r ∷ rs) (suc i)
      go ih true f x = let y : i ≡ 0 = omega arith in rw y record { row = r; entry = refl; passed = subst T (sym f) tt }
      go ih false f x = later (first_number t rs) ih x

  -- CLAIM: it is 0 only where none passes
  pub first_none : (rows : List Record) → first_number t rows ≡ 0 → (i : ℕ) → Passes t rows i → ⊥
  first_none [] e i P = no_entry i P.row P.entry
  first_none (r ∷ rs) e i P = go (first_none rs) (none_passes r rs e) i P.row P.entry P.passed
    where
      go : (first_number t rs ≡ 0 → (j : ℕ) → Passes t rs j → ⊥) → (t r ≡ false) × (first_number t rs ≡ 0) → (i : ℕ) (s : Record) → Entry (r ∷ rs) i s → T (t s) → ⊥
      go ih k zero s E p = E
      go ih k (suc zero) s E p = subst T k.0 (subst (λ (y : Record). T (t y)) (sym E) p)
      go ih k (suc (suc i)) s E p = ih k.1 (suc i) record { row = s; entry = E; passed = p }

  pub first_at_most : (rows : List Record) → first_number t rows ≤ length rows
  unfolding first_number
  first_at_most [] = omega arith
  first_at_most (r ∷ rs) = go (t r) (first_number t rs) (first_at_most rs)
    where
      go : (b : Bool) (i : ℕ) → i ≤ length rs → cond b 1 (cond (eqb i 0) 0 (suc i)) ≤ suc (length rs)
      go true i h = omega arith
      go false zero h = omega arith
      go false (suc i) h = omega (arith, next_suc i)

-- ---- the run that encloses a part

-- CLAIM: a part twice its unit or longer has a run's number
pub run_numbered : (w : List ℕ) (i j : ℕ) → j ≤ length w → 0 < length (part w i j) → 2 * smallest_period (part w i j) ≤ length (part w i j) → run_number w i j ≢ 0
unfolding run_number
run_numbered w i j h some twice e =
    let p = smallest_period (part w i j) in
    let R = one_run w i j p h (smallest_period_is (part w i j) some) twice in
    let E = (runs_listed w).complete R.first R.last p R.run in
    first_none (encloses? i j p) (runs_of w) e E.0
    record {
      row = record { first = R.first; last = R.last; period = p; root = E.1 };
      entry = E.2;
      passed =
          and_intro (leb R.first (i + 1)) (leb j R.last && eqb p p) (le→leb R.first (i + 1) R.starts)
          (and_intro (leb j R.last) (eqb p p) (le→leb j R.last R.ends) (eqb_refl p));
    }

-- ---- the numbers of a block

-- by its unit and its run number
pub block_numbers_are : (w : List ℕ) (k i j unit run : ℕ) → j ≤ length w → unit ≡ smallest_period (part w i j) → run ≡ run_number w i j
    → (k + 1) ∷ (i + 1) ∷ j ∷ unit ∷ ((j - i) / unit) ∷ ((j - i) % unit) ∷ run ∷ [] ≡ block_numbers w (k + 1) i j
block_numbers_are w k i j unit run h e f =
    let p = smallest_period (part w i j) in
    rw (e, f, add-one i)
    (ap (λ (n : ℕ). (k + 1) ∷ suc i ∷ j ∷ p ∷ (n / p) ∷ (n % p) ∷ run_number w i j ∷ []) (sym (part_long w i j h)))

pub run_number_at_most : (w : List ℕ) (i j : ℕ) → run_number w i j ≤ length (runs_of w)
unfolding run_number
run_number_at_most w i j = first_at_most (encloses? i j (smallest_period (part w i j))) (runs_of w)
