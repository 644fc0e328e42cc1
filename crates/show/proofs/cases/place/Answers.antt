-- `show::cases::place` meets its contract: no place that is passed has the byte, so what it starts is as before. Assumes nothing.
use mathlib.Core.Path.{ap}
use native.Mathlib.Omega.{arith}
use lib.ListN.{length, length-drop}
use Rattle.show.proofs.Tables.{byte_here, byte_later, byte_none}
use Rattle.show.proofs.cases.place.Goals as goal

pub returns-then-s-i-clause-value : goal.returns-then-s-i-clause-value
returns-then-s-i-clause-value c =
    let l = c.loop-i in
    omega (arith, ap length (byte_here c.args.s.now l.i (omega arith) c.args.b c.if-s-i.true), length-drop l.i c.args.s.now)

pub loop-i-preserved : goal.loop-i-preserved
loop-i-preserved c = omega (arith, ap length (byte_later c.args.s.now c.loop-i.i (omega arith) c.args.b c.if-s-i.false))

pub returns-clause-value : goal.returns-clause-value
returns-clause-value c = omega (arith, ap length (byte_none c.args.s.now c.loop-i.i (omega arith) c.args.b))
