-- The numbers that name a choice, computed. Assumes nothing.
use Rattle.std.proofs.Common.{◌≡◌, refl, Ok, Err}
use Rattle.answers.specs.declared.Refusal.TheVariants.{BadChoice}
use Rattle.factors.specs.declared.Choice.TheVariants.{Fewest, Most}
use Rattle.factors.specs.Choice.{choice_named}

pub no_choice_zero : choice_named 0 ≡ Err BadChoice
unfolding choice_named
no_choice_zero = refl

pub one_is_fewest : choice_named 1 ≡ Ok Fewest
unfolding choice_named
one_is_fewest = refl

pub two_is_most : choice_named 2 ≡ Ok Most
unfolding choice_named
two_is_most = refl

pub no_choice_three : choice_named 3 ≡ Err BadChoice
unfolding choice_named
no_choice_three = refl
