-- `show::bytes` meets its contract: what is printed and what is left make the text. Assumes nothing.
use native.Mathlib.Omega.{arith}
use Rattle.show.proofs.Lengths.{visible_more, visible_done, visible_long}
use Rattle.show.proofs.bytes.Goals as goal

pub overflow_add-count : goal.overflow_add-count
overflow_add-count g c = omega (arith, visible_long c.args.s.now, visible_more c.args.s.now c.loop-b.b-index (omega arith), c.visible-count.ensures.0)

pub loop-b-preserved : goal.loop-b-preserved
loop-b-preserved g c = omega (arith, visible_more c.args.s.now c.loop-b.b-index (omega arith), c.visible-count.ensures.0)

pub returns : goal.returns
returns g c = omega (arith, visible_done c.args.s.now c.loop-b.b-index (omega arith))
