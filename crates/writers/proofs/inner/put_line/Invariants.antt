-- `writers::inner::put_line` meets its contract: the name is stored, then the fields by a loop that keeps what is left of them, then the line end. Assumes
-- nothing.
use Rattle.std.proofs.Common.{drop}
use Rattle.writers.specs.Line.{fields_of}
use Rattle.writers.proofs.Stores.{Left}
use Rattle.writers.proofs.inner.put_line.Given as goal

abbrev pub invariant-loop-x : goal.invariant-loop-x
invariant-loop-x l = Left l.initial.out l.initial.next (fields_of l.xs) l.out l.next (fields_of (drop l.x-index l.xs))
