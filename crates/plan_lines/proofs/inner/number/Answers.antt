-- `plan_lines::inner::number` meets its contract: the reader gives the number of the digits that stand there. Assumes nothing.
use mathlib.Core.Path.{refl, sym, ap, ◌∙◌}
use Rattle.decimals.specs.Read.{number_view}
use Rattle.plan_lines.proofs.Loops.{some_read, value_read}
use Rattle.plan_lines.proofs.inner.number.Goals as goal

pub unwrap-requires : goal.unwrap-requires
unwrap-requires c = let g = c.args in some_read g.width g.width g.s.now g.at c.read.result refl c.read.ensures c.requires.2

pub returns : goal.returns
returns c = let g = c.args in value_read g.width g.width g.s.now g.at c.unwrap.result refl (ap number_view (sym c.unwrap.ensures) ∙ c.read.ensures)
