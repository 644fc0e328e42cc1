-- `page_lines::inner::put_line` meets its contract: numbers, symbols and the line's end are stored one after the other. Assumes nothing.
use mathlib.Core.Path.{sym}
use Rattle.page_lines.proofs.Columns.{start_unit}
use Rattle.page_lines.proofs.LineClaims.{line_stored}
use Rattle.page_lines.proofs.inner.put_line.Goals as goal

pub returns : goal.returns
returns c =
    let g = c.args in
    line_stored g.form c.requires.2 g.out.now _ _ g.numbers.now g.unit.now g.at _ _ c.requires.1 c.put_numbers.ensures (sym start_unit) c.min-shown.ensures c.put_symbols.ensures
