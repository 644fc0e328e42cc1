-- `page_lines::inner::put_symbol` meets its contract: with the digits that are still to be stored, those of the quotient that is left, the bytes are what they shall
-- be. Assumes nothing.
use mathlib.Core.Path.{sym, ◌∙◌}
use Prim.Native.Nat.{◌-◌}
use native.Mathlib.Omega.{arith}
use Rattle.page_lines.proofs.Columns.{digit_stored, digits_stored}
use Rattle.page_lines.proofs.inner.put_symbol.Goals as goal

pub loop-left-preserved : goal.loop-left-preserved
loop-left-preserved c =
    let l = c.loop-left in
    rw c.from.ensures (sym (digit_stored l.out c.args.at l.left (l.left - 1) l.rest (omega arith)) ∙ l.invariant)

pub returns : goal.returns
returns c =
    let l = c.loop-left in
    sym (digits_stored l.out c.args.at l.left l.rest (omega arith)) ∙ l.invariant
