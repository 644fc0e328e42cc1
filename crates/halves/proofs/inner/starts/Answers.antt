-- `halves::inner::starts` meets its contract: its loop keeps that the numbers so far were replaced by sums, and the sum of them. Assumes nothing.
use native.Mathlib.Omega.{arith}
use lib.ListN.{length}
use Rattle.halves.proofs.Sums.{sum-none, sum_more, sum_below, summed_none, summed_more}
use Rattle.halves.proofs.inner.starts.Goals as goal

pub loop-place-init : goal.loop-place-init
loop-place-init c = (sum-none _, summed_none _)

pub overflow_add-total : goal.overflow_add-total
overflow_add-total c =
    let l = c.loop-place in
    let s = c.args.s.now in
    omega (arith, l.invariant.0, l.invariant.1.rest l.place-index (omega arith), sum_below s l.place-index (length s) (omega arith))

pub loop-place-preserved : goal.loop-place-preserved
loop-place-preserved c =
    let l = c.loop-place in (
      omega (arith, l.invariant.0, l.invariant.1.rest l.place-index (omega arith), sum_more c.args.s.now l.place-index),
      summed_more _ _ _ _ (omega arith) l.invariant.0 l.invariant.1,
    )
