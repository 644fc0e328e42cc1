-- `plan_lines::inner::ends_at` meets its contract: before the turn for end k + 1 the first k stand at their places. Assumes nothing.
use mathlib.Core.Path.{sym, ap, ◌∙◌}
use native.Mathlib.Omega.{arith}
use Rattle.plan_lines.specs.Line.{field?}
use Rattle.plan_lines.specs.Kinds.{width_in}
use Rattle.plan_lines.proofs.Loops.{ends_none, ends_more, ends_fail}
use Rattle.plan_lines.proofs.inner.ends_at.Goals as goal

pub loop-k-init : goal.loop-k-init
loop-k-init c = ends_none _ _

pub returns-then-not-field_at : goal.returns-then-not-field_at
returns-then-not-field_at c =
    let g = c.args in
    let tested = c.field_at.ensures ∙ ap (field? (width_in g.kind) g.s.now) c.bytes_for.ensures in
    sym (ends_fail (width_in g.kind) g.s.now g.count c.loop-k.k (omega arith) (sym tested ∙ c.if-not-field_at.true))

pub loop-k-preserved : goal.loop-k-preserved
loop-k-preserved c =
    let g = c.args in
    let k = c.loop-k.k in
    let tested = c.field_at.ensures ∙ ap (field? (width_in g.kind) g.s.now) c.bytes_for.ensures in
    ends_more (width_in g.kind) g.s.now k c.loop-k.invariant (sym tested ∙ c.if-not-field_at.false)
