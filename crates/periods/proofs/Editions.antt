-- The editions: which numbers the test takes for one, what their turn numbers are, and what the conversion of a number says of it. By cases on the number.
-- Assumes nothing.
use mathlib.Core.Path.{◌≡◌, refl, ◌∙◌}
use mathlib.Core.Bool.{Bool, true, false, cond}
use Prim.Native.Nat.{ℕ, ◌*◌, ◌≤◌}
use native.Mathlib.Omega.{arith}
use native.Mathlib.Nat.{mul-le-mul_right}
use lib.Dec.{eqb}
use Rattle.laws.proofs.OneOrTwo.{one_or_two?, test_of_one_or_two, test_of_other, one_or_two_by_test, other_by_test}
use Rattle.std.proofs.Common.{rules}
use Rattle.std.specs.Prelude.{Ok, Err}
use Rattle.answers.specs.declared.Refusal.{Refusal}
use Rattle.answers.specs.declared.Refusal.TheVariants.{BadEdition}
use Rattle.periods.specs.declared.edition.Edition as known
use Rattle.periods.specs.declared.edition.Edition.TheVariants.{First, Second}
use Rattle.periods.specs.Edition.{Edition, turns_of, bad_edition?, Turns, edition_of, turns_in}

-- CLAIM: edition 1 has two turns, edition 2 has three
pub turns_of_edition_1 : turns_of 1 ≡ 2
unfolding turns_of
turns_of_edition_1 = refl

pub turns_of_edition_2 : turns_of 2 ≡ 3
unfolding turns_of
turns_of_edition_2 = refl

-- every turn number is 2 or 3
pub turns_range : (e : ℕ) → Turns (turns_of e)
unfolding turns_of
turns_range e = go (eqb e 1)
  where
    go : (b : Bool) → Turns (cond b 2 3)
    go true = (omega arith, omega arith)
    go false = (omega arith, omega arith)

pub two_turns : (e : ℕ) → 2 ≤ turns_of e
two_turns e = (turns_range e).0

-- so many turns of a unit, with a bound that is linear in the unit
pub turns_below : (k p : ℕ) → Turns k → k * p ≤ 3 * p
turns_below k p h = mul-le-mul_right p h.1

-- so is that of an edition that is known
pub turns_in_range : (e : known.Edition) → Turns (turns_in e)
turns_in_range First = (omega arith, omega arith)
turns_in_range Second = (omega arith, omega arith)

pub edition? : (e : ℕ) → Dec (Edition e)
edition? e = one_or_two? e

-- CLAIM: the test decides whether a number is an edition
pub test_of_edition : (e : ℕ) → Edition e → bad_edition? e ≡ false
unfolding bad_edition?
test_of_edition e h = test_of_one_or_two e h

pub test_of_no_edition : (e : ℕ) → (Edition e → ⊥) → bad_edition? e ≡ true
unfolding bad_edition?
test_of_no_edition e h = test_of_other e h

-- and so the code's test says which it is
pub edition_by_test : (e : ℕ) → bad_edition? e ≡ false → Edition e
unfolding bad_edition?
edition_by_test e h = one_or_two_by_test e h

pub no_edition_by_test : (e : ℕ) → bad_edition? e ≡ true → Edition e → ⊥
unfolding bad_edition?
no_edition_by_test e h x = other_by_test e h x

-- ---- the conversion

pub edition_of_other : (e : ℕ) → (Edition e → ⊥) → edition_of e ≡ Err BadEdition
unfolding edition_of
edition_of_other e h = rw (test_of_no_edition e h) refl

-- where it gives an edition x, the number is one, and x has its turn number
module _ (e : ℕ) (x : known.Edition) (h : Ok x ≡ edition_of e) where
  pub test_known : bad_edition? e ≡ false
  unfolding edition_of
  test_known = go (bad_edition? e) h
    where
      go : (t : Bool) → Ok x ≡ cond t (Err BadEdition) (Ok (cond (eqb e 1) First Second)) → t ≡ false
      go true f = absurd (search rules)
      go false f = refl

  pub edition_known : Edition e
  edition_known = edition_by_test e test_known

  pub turns_known : turns_in x ≡ turns_of e
  unfolding edition_of turns_of
  turns_known = go (bad_edition? e) (eqb e 1) h
    where
      go : (t b : Bool) → Ok x ≡ cond t (Err BadEdition) (Ok (cond b First Second)) → turns_in x ≡ cond b 2 3
      go true b f = absurd (search rules)
      go false true f = let x-is : x ≡ First = cc in rw x-is refl
      go false false f = let x-is : x ≡ Second = cc in rw x-is refl

-- where it refuses, the number is no edition, and the refusal is 12
module _ (e : ℕ) (r : Refusal) (h : Err r ≡ edition_of e) where
  pub test_refused : bad_edition? e ≡ true
  unfolding edition_of
  test_refused = go (bad_edition? e) h
    where
      go : (t : Bool) → Err r ≡ cond t (Err BadEdition) (Ok (cond (eqb e 1) First Second)) → t ≡ true
      go true f = refl
      go false f = absurd (search rules)

  pub edition_refused : Edition e → ⊥
  edition_refused = no_edition_by_test e test_refused

  pub refusal_known : r ≡ BadEdition
  unfolding edition_of
  refusal_known = let f : Err r ≡ Err BadEdition = h ∙ rw test_refused refl in cc
