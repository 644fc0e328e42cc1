-- `factors::ChoiceTryFromU32::try_from` meets its contract: each number is the one that the definition tests for. Assumes nothing.
use Rattle.std.proofs.Common.{arith}
use Rattle.std.proofs.lemmas.Bool.Decides.{nat_tests}
use Rattle.factors.specs.Choice.{choice_named}
use Rattle.factors.proofs.ChoiceTryFromU32.try_from.Goals as goal

pub returns-in-1 : goal.returns-in-1
unfolding choice_named
returns-in-1 c = grind (arith, nat_tests)

pub returns-in-2 : goal.returns-in-2
unfolding choice_named
returns-in-2 c = grind (arith, nat_tests)

pub returns-in_default : goal.returns-in_default
unfolding choice_named
returns-in_default c = grind (arith, nat_tests)
