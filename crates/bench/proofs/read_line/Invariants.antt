-- `bench::read_line` meets its contract: its loop keeps that no byte 10 stands among the bytes that were read; a read changes none of these, and leaves buf as
-- long as it was. Assumes nothing.
use mathlib.Core.Path.{◌≡◌}
use Prim.Native.Nat.{◌-◌, ◌≤◌}
use lib.ListN.{length, take}
use Rattle.bench.specs.Line.{line_length}
use Rattle.bench.proofs.read_line.Given as goal

abbrev pub invariant-loop-have : goal.invariant-loop-have
invariant-loop-have g l = (l.have ≤ l.n) × (length l.buf ≡ l.n) × (line_length (take l.have l.buf) ≡ l.have)

abbrev pub decreases-loop-have : goal.decreases-loop-have
decreases-loop-have g l = l.n - l.have
