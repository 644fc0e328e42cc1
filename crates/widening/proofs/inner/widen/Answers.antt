-- `widening::inner::widen` meets its contract: its loop keeps that the bytes so far stand in front, before what was there. Assumes nothing.
use native.Mathlib.Omega.{arith}
use Rattle.widening.proofs.Widened.{widen_more}
use Rattle.widening.proofs.inner.widen.Goals as goal

pub loop-i-preserved : goal.loop-i-preserved
loop-i-preserved c = rw c.from.ensures (widen_more c.args.bytes.now c.args.wide.now _ c.loop-i.i c.loop-i.invariant (omega arith) (omega arith))
