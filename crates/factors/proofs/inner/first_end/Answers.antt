-- `factors::inner::first_end` meets its contract: its loop keeps that the first end of the blocks that are left is the one asked for. Assumes nothing.
use Rattle.std.proofs.Common.{◌≡◌, ◌+◌, ◌-◌, ◌∙◌, arith}
use Rattle.factors.proofs.TableLaws.{linked_more, first_end_here, first_end_back}
use Rattle.factors.proofs.inner.first_end.Goals as goal

pub loop-preserved : goal.loop-preserved
loop-preserved c =
    let e : c.args.count + 1 - (c.loop.counter + 1) ≡ c.args.count + 1 - c.loop.counter - 1 = omega arith in
    (rw e (linked_more _ _ _ (omega arith) c.loop.invariant.0).rest, rw e (first_end_back _ _ _ (omega arith) ∙ c.loop.invariant.1))

pub returns : goal.returns
returns c = first_end_here _ _ _ (omega arith) c.loop.invariant.0 ∙ c.loop.invariant.1
