-- write_ends writes the ends of the blocks up to boundary j: the last one is stored, the call below writes those before it, and ends_back is the two together.
-- The boundary falls at each call. Assumes nothing.
use mathlib.Core.Path.{◌≡◌, ◌∙◌}
use native.Mathlib.Omega.{arith}
use Rattle.factors.proofs.TableLaws.{linked_zero, linked_step, ends_back-zero, ends_back_more}
use Rattle.factors.proofs.inner.+write_ends.Goals as goal

pub returns-then-j-eq0 : goal.returns-then-j-eq0
returns-then-j-eq0 t c =
    let z : c.args.count ≡ 0 = linked_zero c.args.prev.now _ (rw c.if-j-eq0.true at c.requires.0) in
    rw (z, ends_back-zero)

pub returns : goal.returns
returns t c = c.write_ends.ensures ∙ ends_back_more _ _ _ _ (linked_step _ _ _ c.if-j-eq0.false c.requires.0).some (omega arith)
