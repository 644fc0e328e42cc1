-- `halves::inner::starts` meets its contract: its loop keeps that the numbers so far were replaced by sums, and the sum of them. Assumes nothing.
use Rattle.std.proofs.Common.{◌≡◌}
use Rattle.halves.specs.Kept.{sum_to, Summed}
use Rattle.halves.proofs.inner.starts.Given as goal

abbrev pub invariant-loop-place : goal.invariant-loop-place
invariant-loop-place l = (l.total ≡ sum_to l.initial.s l.place-index) × Summed l.initial.s l.s l.place-index
