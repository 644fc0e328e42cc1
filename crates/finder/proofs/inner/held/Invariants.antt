-- `finder::inner::held` meets its contract: the records passed are those of the table. Assumes nothing.
use Rattle.std.proofs.Common.{◌≡◌, length, take}
use Rattle.runs.specs.Table.{records}
use Rattle.finder.specs.Find.{record_limit}
use Rattle.finder.proofs.inner.held.Given as goal

abbrev pub invariant-loop-i : goal.invariant-loop-i
invariant-loop-i l = (length l.held ≡ record_limit) × (take l.i l.held ≡ records l.i l.table)
