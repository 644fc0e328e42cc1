-- offer takes the size in two ways and keeps the table in one, as the test of the definition has it. Assumes nothing.
use native.Mathlib.Omega.{arith}
use Rattle.std.proofs.lemmas.Bool.Decides.{nat_tests}
use Rattle.factors.specs.Table.{offered}
use Rattle.factors.proofs.inner.offer.Goals as goal

pub returns-then-known : goal.returns-then-known
unfolding offered
returns-then-known c = grind (arith, nat_tests)

pub returns-else-prefers : goal.returns-else-prefers
unfolding offered
returns-else-prefers c = grind (arith, nat_tests)
