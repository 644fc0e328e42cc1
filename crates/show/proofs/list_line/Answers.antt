-- `show::list_line` meets its contract: the lengths of the texts add up, and the numbers have only so many bytes. Assumes nothing.
use native.Mathlib.Omega.{arith}
use mathlib.Core.List.{◌∷◌}
use lib.ListN.{length-append}
use Rattle.show.specs.Text.{numbers_shown}
use Rattle.show.proofs.Lengths.{shown_long}
use Rattle.show.proofs.list_line.Goals as goal

pub overflow_add-result : goal.overflow_add-result
overflow_add-result g c =
    omega (arith, c.list.ensures, length-append c.args.name.now (58 ∷ numbers_shown 32 c.args.xs.now), shown_long 32 c.args.xs.now)
