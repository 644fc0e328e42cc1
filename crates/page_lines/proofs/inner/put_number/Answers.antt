-- `page_lines::inner::put_number` meets its contract: the spaces are as many as the digits leave of the column. Assumes nothing.
use native.Mathlib.Omega.{arith}
use Rattle.decimals.specs.Decimal.{digit_count}
use Rattle.decimals.proofs.Claims.{digits-length}
use Rattle.decimals.proofs.Fields.{counted_fits}
use Rattle.page_lines.proofs.Columns.{right_stored}
use Rattle.page_lines.proofs.inner.put_number.Goals as goal

pub overflow_sub-blank : goal.overflow_sub-blank
overflow_sub-blank c = let x = c.args.x in omega (arith, c.count-digits.ensures, digits-length (digit_count 9 x) x)

pub write-requires : goal.write-requires
write-requires c =
    let x = c.args.x in
    let n = c.count-digits in
    omega (arith, c.fill.auto.out, n.ensures, digits-length (digit_count 9 x) x, counted_fits x n.result (omega arith) n.ensures)

pub returns : goal.returns
returns c =
    let g = c.args in
    right_stored g.out.now _ _ g.at g.width g.x _ c.count-digits.ensures c.fill.ensures c.write.ensures
