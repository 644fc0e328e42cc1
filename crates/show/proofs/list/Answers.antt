-- `show::list` meets its contract: the lengths of the texts add up, and the numbers have only so many bytes. Assumes nothing.
use native.Mathlib.Omega.{arith}
use Rattle.show.proofs.Lengths.{shown_long}
use Rattle.show.proofs.list.Goals as goal

pub overflow_add-result-2 : goal.overflow_add-result-2
overflow_add-result-2 g c = omega (arith, c.numbers.ensures, shown_long 32 c.args.xs.now)
