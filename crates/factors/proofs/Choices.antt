-- What the conversion of a number to a choice says of the number. By cases on the tests of the definition. Assumes nothing.
use mathlib.Core.Path.{◌≡◌, refl, ◌∙◌}
use mathlib.Core.Bool.{Bool, true, false, cond}
use Prim.Native.Nat.{ℕ}
use lib.Dec.{eqb}
use Rattle.laws.proofs.OneOrTwo.{OneOrTwo, one_or_two_by_test, other_by_test}
use Rattle.std.proofs.Common.{rules}
use Rattle.std.specs.Prelude.{Ok, Err}
use Rattle.answers.specs.declared.Refusal.{Refusal}
use Rattle.answers.specs.declared.Refusal.TheVariants.{BadChoice}
use Rattle.factors.specs.declared.Choice as known
use Rattle.factors.specs.declared.Choice.TheVariants.{Fewest, Most}
use Rattle.factors.specs.Factorization.{smallest, largest, choice_of, bad_choice?}
use Rattle.factors.specs.Choice.{choice_in, known_as, choice_named}

-- where it gives a choice x, the number is 1 or 2, and x asks for what it does
module _ (n : ℕ) (x : known.Choice) (h : Ok x ≡ choice_named n) where
  test_known : bad_choice? n ≡ false
  unfolding choice_named
  test_known = go (bad_choice? n) h
    where
      go : (t : Bool) → Ok x ≡ cond t (Err BadChoice) (Ok (known_as (choice_of n))) → t ≡ false
      go true f = absurd (search rules)
      go false f = refl

  pub choice_known : OneOrTwo n
  choice_known = one_or_two_by_test n test_known

  pub choice_meant : choice_in x ≡ choice_of n
  unfolding choice_named
  choice_meant = go (bad_choice? n) (eqb n 1) h
    where
      go : (t b : Bool) → Ok x ≡ cond t (Err BadChoice) (Ok (known_as (cond b smallest largest))) → choice_in x ≡ cond b smallest largest
      go true b f = absurd (search rules)
      go false true f = let x-is : x ≡ Fewest = cc in rw x-is refl
      go false false f = let x-is : x ≡ Most = cc in rw x-is refl

-- where it refuses, the number is neither, and the refusal is 8
module _ (n : ℕ) (r : Refusal) (h : Err r ≡ choice_named n) where
  test_refused : bad_choice? n ≡ true
  unfolding choice_named
  test_refused = go (bad_choice? n) h
    where
      go : (t : Bool) → Err r ≡ cond t (Err BadChoice) (Ok (known_as (choice_of n))) → t ≡ true
      go true f = refl
      go false f = absurd (search rules)

  pub choice_refused : OneOrTwo n → ⊥
  choice_refused = other_by_test n test_refused

  pub refusal_known : r ≡ BadChoice
  unfolding choice_named
  refusal_known = let f : Err r ≡ Err BadChoice = h ∙ rw test_refused refl in cc
