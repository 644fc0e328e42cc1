-- `plan_lines::inner::field_at` meets its contract: the comma is compared, and the reader says whether there are digits. Assumes nothing.
use mathlib.Core.Path.{sym, ◌∙◌}
use native.Mathlib.Omega.{arith}
use Rattle.plan_lines.specs.Kinds.{width_in}
use Rattle.plan_lines.proofs.Loops.{is_read, field_is}
use Rattle.plan_lines.proofs.inner.field_at.Goals as goal

pub returns-then-s-at-eq-COMMA : goal.returns-then-s-at-eq-COMMA
returns-then-s-at-eq-COMMA c =
    let g = c.args in
    field_is (width_in g.kind) g.s.now g.at c.is_some.result (omega arith)
    (is_read (width_in g.kind) c.width.result g.s.now g.at c.read.result c.width.ensures c.read.ensures ∙ sym c.is_some.ensures)
