-- `plan_lines::inner::read_ends` meets its contract: before the turn for end k + 1 the first k are in the table. Assumes nothing.
use mathlib.Core.Path.{◌≡◌}
use mathlib.Core.List.{◌++◌}
use lib.ListN.{length, drop}
use Rattle.plan_lines.specs.Line.{ends_in}
use Rattle.plan_lines.proofs.inner.read_ends.Given as goal

abbrev pub invariant-loop-k : goal.invariant-loop-k
invariant-loop-k l = (length l.table ≡ length l.initial.table) × (l.table ≡ ends_in l.width l.s l.k ++ drop l.k l.initial.table)
