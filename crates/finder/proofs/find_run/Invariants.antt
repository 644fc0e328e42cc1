-- `finder::find_run` meets its contract: none of the records passed over is the one. Assumes nothing.
use Rattle.std.proofs.Common.{◌≡◌, ◌+◌, drop}
use Rattle.finder.specs.Find.{find_run}
use Rattle.finder.proofs.find_run.Given as goal

abbrev pub invariant-loop-i : goal.invariant-loop-i
invariant-loop-i l = find_run l.runs l.first l.last l.period ≡ l.i + find_run (drop l.i l.runs) l.first l.last l.period
