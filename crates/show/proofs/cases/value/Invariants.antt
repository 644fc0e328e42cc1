-- `show::cases::value` meets its contract: the number so far and the bytes that are left spell the number. Assumes nothing.
use mathlib.Core.Path.{◌≡◌}
use Prim.Native.Nat.{◌<◌}
use lib.ListN.{drop}
use Rattle.show.specs.Cases.{value_from}
use Rattle.show.proofs.cases.value.Given as goal

abbrev pub invariant-loop-i : goal.invariant-loop-i
invariant-loop-i l = (l.x < 4294967296) × (value_from l.x (drop l.i l.s) ≡ value_from 0 (drop l.from l.s))
