-- The unit of a block, by the candidates that were tried: the first period found is it, if it is one of a block; and there is none once a number is reached that
-- a block of the length cannot have for its unit, since every later one is greater. Assumes nothing.
use mathlib.Core.Path.{◌≡◌, refl, sym, subst}
use mathlib.Core.Bool.{Bool, true, false, cond, not}
use mathlib.Core.List.{List}
use Prim.Native.Nat.{ℕ, ◌*◌, ◌≤◌, ◌<◌}
use native.Mathlib.Omega.{arith}
use native.Mathlib.Decide.{dec_lt}
use native.Mathlib.Nat.{mul-le-mul_left}
use borrow.Author.Tests.{ne_eqb}
use lib.Dec.{T, leb, eqb, leb→le, le→leb}
use lib.ListN.{length}
use Rattle.laws.proofs.Tests.{and_intro, and_left, and_right, T_true}
use Rattle.periods.specs.Period.{Period, SmallestPeriod, Repetition, smallest_period, repetition?, unit_memory, held_period, block_of?, block_unit}
use Rattle.periods.proofs.Claims.{smallest_period_unique, repetition_by_unit, repetition_sound, repetition_complete}

-- a part cannot be a block of a greater unit either
pub block_of_less : (k len u v : ℕ) → u ≤ v → T (block_of? k len v) → T (block_of? k len u)
block_of_less k len u v h t =
    let long = leb→le (k * v) len (and_left (leb (k * v) len) (held_period v) t) in
    let low = leb→le v unit_memory (and_right (leb (k * v) len) (held_period v) t) in
    and_intro (leb (k * u) len) (held_period u) (le→leb (k * u) len (omega (arith, mul-le-mul_left k h))) (le→leb u unit_memory (omega arith))

-- what the test says
pub block_of_means : (k len u : ℕ) → block_of? k len u ≡ true → (k * u ≤ len) × (u ≤ unit_memory)
block_of_means k len u e =
    let t = subst T (sym e) tt in (
      leb→le (k * u) len (and_left (leb (k * u) len) (held_period u) t),
      leb→le u unit_memory (and_right (leb (k * u) len) (held_period u) t),
    )

module _ (k : ℕ) (s : List ℕ) where
  -- the smallest period, if a block of the length can have it
  pub block_unit_found : (p : ℕ) → SmallestPeriod s p → block_of? k (length s) p ≡ true → p ≡ block_unit k s
  unfolding block_unit
  block_unit_found p S t =
      let e = smallest_period_unique s p S in
      rw (repetition_by_unit held_period k s (omega (arith, S.period.positive, S.period.fits)), e, t) refl

  -- no number below p is a period, and no block of the length has the unit p
  pub block_unit-none : (p : ℕ) → ((q : ℕ) → q < p → Period s q → ⊥) → block_of? k (length s) p ≡ false → 0 ≡ block_unit k s
  unfolding block_unit
  block_unit-none p none f = go (repetition? held_period k s) refl
    where
      go : (b : Bool) → repetition? held_period k s ≡ b → ◌≡◌ {A = ℕ} 0 (cond b (smallest_period s) 0)
      go false e = refl
      go true e = absurd (by (repetition_sound held_period k s (subst T (sym e) tt)))
        where
          by : Repetition held_period k s → ⊥
          by R = far (dec_lt R.period p)
            where
              far : Dec (R.period < p) → ⊥
              far (yes l) = none R.period l R.smallest.period
              far (no l) =
                  subst T f (block_of_less k (length s) p R.period (omega arith)
                  (and_intro (leb (k * R.period) (length s)) (held_period R.period) (le→leb (k * R.period) (length s) R.long) R.permitted))

  -- where it is not 0 the word is a block, and it is its unit
  pub block_unit_tells : not (eqb (block_unit k s) 0) ≡ repetition? held_period k s
  unfolding block_unit
  block_unit_tells = go (repetition? held_period k s) refl
    where
      go : (b : Bool) → repetition? held_period k s ≡ b → not (eqb (cond b (smallest_period s) 0) 0) ≡ b
      go false e = refl
      go true e =
          let R = repetition_sound held_period k s (subst T (sym e) tt) in
          rw (ne_eqb (smallest_period s) 0 (λ z. omega (arith, z, smallest_period_unique s R.period R.smallest, R.smallest.period.positive))) refl

  pub block_unit_of_block : Repetition held_period k s → block_unit k s ≡ smallest_period s
  unfolding block_unit
  block_unit_of_block R = rw (T_true (repetition? held_period k s) (repetition_complete held_period k s R)) refl
