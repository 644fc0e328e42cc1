-- `halves::inner::solve` meets its contract: the measure is how long the part is. Assumes nothing.
use Rattle.std.proofs.Common.{◌-◌}
use Rattle.halves.proofs.inner.+solve.Given as goal

abbrev pub decreases-solve : goal.decreases-solve
decreases-solve l = l.hi - l.lo
