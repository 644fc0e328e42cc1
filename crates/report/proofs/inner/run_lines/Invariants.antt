-- `report::inner::run_lines` meets its contract: its loop keeps what is left to store, the lines of the records from the one at hand on. Assumes nothing.
use Rattle.std.proofs.Common.{◌≡◌, length, drop}
use Rattle.report.specs.Text.{run_lines}
use Rattle.writers.proofs.Stores.{Left}
use Rattle.report.proofs.inner.run_lines.Given as goal

abbrev pub invariant-loop-i : goal.invariant-loop-i
invariant-loop-i l = (length l.out ≡ length l.fn.out) × Left l.fn.out l.fn.at (run_lines 0 l.fn.runs) l.out l.next (run_lines l.i (drop l.i l.fn.runs))
