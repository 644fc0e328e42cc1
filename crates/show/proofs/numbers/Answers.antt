-- `show::numbers` meets its contract: what is printed and what is left make the text. Assumes nothing.
use mathlib.Core.Path.{◌≡◌, ap}
use native.Mathlib.Omega.{arith}
use borrow.Author.Tests.{lt-ltb, le-ltb}
use lib.ListN.{length}
use Rattle.decimals.specs.Decimal.{fields_after}
use Rattle.decimals.proofs.Fields.{fields_done, fields_long}
use Rattle.show.specs.Text.{most, numbers_shown}
use Rattle.show.proofs.Lengths.{numbers_more}
use Rattle.show.proofs.numbers.Goals as goal

pub returns-then-xs-gt-MOST : goal.returns-then-xs-gt-MOST
unfolding numbers_shown
returns-then-xs-gt-MOST g c = simp (lt-ltb _ _ c.if-xs-gt-MOST.true)

pub overflow_add-count : goal.overflow_add-count
overflow_add-count g c = omega (arith, fields_long c.args.before c.args.xs.now)

pub loop-x-preserved : goal.loop-x-preserved
loop-x-preserved g c = omega (arith, numbers_more c.args.before c.args.xs.now c.loop-x.x-index (omega arith), c.after-count.ensures.0)

pub returns : goal.returns
unfolding numbers_shown
returns g c =
    let e : c.loop-x.count ≡ length (fields_after c.args.before c.args.xs.now) =
    omega (arith, ap length (fields_done c.args.before c.args.xs.now c.loop-x.x-index (omega arith))) in
    simp (le-ltb most (length c.args.xs.now) (omega arith)) e
