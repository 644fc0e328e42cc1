-- `bench::line_length` meets its contract: its loop keeps that no byte 10 stands before place i. Assumes nothing.
use mathlib.Core.Path.{◌≡◌}
use Prim.Native.Nat.{◌+◌}
use lib.ListN.{drop}
use Rattle.bench.specs.Line.{line_length}
use Rattle.bench.proofs.line_length.Given as goal

abbrev pub invariant-loop-i : goal.invariant-loop-i
invariant-loop-i l = l.i + line_length (drop l.i l.s) ≡ line_length l.s
