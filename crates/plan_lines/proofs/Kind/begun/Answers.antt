-- `plan_lines::Kind::begun` meets its contract: std's `starts_with` is the one of the specs. Assumes nothing.
use mathlib.Core.Path.{sym, ◌∙◌}
use Rattle.plan_lines.proofs.Loops.{std_starts}
use Rattle.plan_lines.proofs.Kind.begun.Goals as goal

pub returns-then-starts_with : goal.returns-then-starts_with
returns-then-starts_with c = sym c.if-starts_with.true ∙ c.starts_with.ensures.value ∙ std_starts _ _

pub returns-else-starts_with : goal.returns-else-starts_with
returns-else-starts_with c = sym c.if-starts_with.false ∙ c.starts_with.ensures.value ∙ std_starts _ _
