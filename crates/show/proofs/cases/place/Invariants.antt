-- `show::cases::place` meets its contract: no place that is passed has the byte, so what it starts is as before. Assumes nothing.
use mathlib.Core.Path.{◌≡◌}
use lib.ListN.{length, drop}
use Rattle.show.specs.Cases.{from_byte}
use Rattle.show.proofs.cases.place.Given as goal

abbrev pub invariant-loop-i : goal.invariant-loop-i
invariant-loop-i l = length (from_byte l.b (drop l.i l.s)) ≡ length (from_byte l.b (drop l.from l.s))
