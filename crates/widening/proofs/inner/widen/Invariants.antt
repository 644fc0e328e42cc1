-- `widening::inner::widen` meets its contract: its loop keeps that the bytes so far stand in front, before what was there. Assumes nothing.
use Rattle.std.proofs.Common.{◌≡◌, ◌++◌, take, drop}
use Rattle.widening.proofs.inner.widen.Given as goal

abbrev pub invariant-loop-i : goal.invariant-loop-i
invariant-loop-i l = l.wide ≡ take l.i l.bytes ++ drop l.i l.initial.wide
