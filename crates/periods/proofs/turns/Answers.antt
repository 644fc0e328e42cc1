-- `periods::turns` meets its contract: the definition asks whether the number is that of edition 1. Assumes nothing.
use Rattle.std.proofs.Common.{arith}
use Rattle.std.proofs.lemmas.Bool.Decides.{nat_tests}
use Rattle.periods.specs.Edition.{turns_of}
use Rattle.periods.proofs.turns.Goals as goal

pub returns-in-1 : goal.returns-in-1
unfolding turns_of
returns-in-1 c = grind (arith, nat_tests)

pub returns-in_default : goal.returns-in_default
unfolding turns_of
returns-in_default c = grind (arith, nat_tests)
