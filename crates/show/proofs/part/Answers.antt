-- `show::part` meets its contract: the list has the numbers, or nothing is printed. Assumes nothing.
use mathlib.Core.Path.{sym, ap, ◌∙◌}
use lib.ListN.{length}
use Rattle.show.specs.Text.{line_text}
use Rattle.show.proofs.Lengths.{part_some, part_none}
use Rattle.show.proofs.part.Goals as goal

pub returns-in-Some : goal.returns-in-Some
returns-in-Some g c =
    let h = c.in-Some.ensures.lookup.0 in
    c.list_line.ensures ∙ ap (λ ys. length (line_text c.args.name.now ys)) h.2 ∙ ap length (sym (part_some c.args.name.now c.args.xs.now c.args.from c.args.to h.0 h.1))

pub returns-in-None : goal.returns-in-None
returns-in-None g c = ap length (sym (part_none c.args.name.now c.args.xs.now c.args.from c.args.to c.in-None.ensures.lookup.0))
