-- `plan_lines::inner::ends_at` meets its contract: before the turn for end k + 1 the first k stand at their places. Assumes nothing.
use mathlib.Core.Path.{◌≡◌}
use mathlib.Core.Bool.{true}
use Rattle.plan_lines.specs.Line.{ends?}
use Rattle.plan_lines.specs.Kinds.{width_in}
use Rattle.plan_lines.proofs.inner.ends_at.Given as goal

abbrev pub invariant-loop-k : goal.invariant-loop-k
invariant-loop-k l = ends? (width_in l.kind) l.s l.k ≡ true
