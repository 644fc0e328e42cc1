-- `show::numbers` meets its contract: what is printed and what is left make the text. Assumes nothing.
use mathlib.Core.Path.{◌≡◌}
use Prim.Native.Nat.{◌+◌}
use lib.ListN.{length, drop}
use Rattle.decimals.specs.Decimal.{fields_after}
use Rattle.show.proofs.numbers.Given as goal

abbrev pub invariant-loop-x : goal.invariant-loop-x
invariant-loop-x g l = (l.count + length (fields_after l.before (drop l.x-index l.xs)) ≡ length (fields_after l.before l.xs))
