-- `bench::line_length` meets its contract: its loop keeps that no byte 10 stands before place i. Assumes nothing.
use native.Mathlib.Omega.{arith}
use Rattle.bench.proofs.Lines.{line_here, line_more, line_over}
use Rattle.bench.proofs.line_length.Goals as goal

pub returns-then-b-eq-LINE_END-clause-value : goal.returns-then-b-eq-LINE_END-clause-value
returns-then-b-eq-LINE_END-clause-value c = omega (arith, line_here c.args.s.now c.loop-i.i (omega arith) c.if-b-eq-LINE_END.true)

pub loop-i-preserved : goal.loop-i-preserved
loop-i-preserved c = omega (arith, line_more c.args.s.now c.loop-i.i (omega arith) c.if-b-eq-LINE_END.false)

pub returns-clause-value : goal.returns-clause-value
returns-clause-value c = omega (arith, line_over c.args.s.now c.loop-i.i (omega arith))
