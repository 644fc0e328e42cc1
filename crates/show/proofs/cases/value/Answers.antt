-- `show::cases::value` meets its contract: the number so far and the bytes that are left spell the number. Assumes nothing.
use mathlib.Core.Path.{sym, ◌∙◌}
use native.Mathlib.Omega.{arith}
use Rattle.show.proofs.Tables.{value_low, value_high, value_more, value_done}
use Rattle.show.proofs.cases.value.Goals as goal

pub returns-in_default : goal.returns-in_default
returns-in_default c = sym (value_low c.args.s.now c.loop-i.i (omega arith) c.loop-i.x (omega arith)) ∙ c.loop-i.invariant.1

pub returns-in_default-2 : goal.returns-in_default-2
returns-in_default-2 c = sym (value_high c.args.s.now c.loop-i.i (omega arith) c.loop-i.x (omega arith)) ∙ c.loop-i.invariant.1

pub loop-i-preserved : goal.loop-i-preserved
loop-i-preserved c =
    (omega arith, rw (c.from.ensures, c.from-in-loop-i.ensures) (sym (value_more c.args.s.now c.loop-i.i (omega arith) c.loop-i.x (omega arith) (omega arith)) ∙ c.loop-i.invariant.1))

pub returns : goal.returns
returns c = sym (value_done c.args.s.now c.loop-i.i (omega arith) c.loop-i.x) ∙ c.loop-i.invariant.1
