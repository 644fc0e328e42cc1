-- `show::cases::values` meets its contract: with the numbers that are still to be stored the table is what it shall be. Assumes nothing.
use mathlib.Core.Path.{sym, ap, ◌∙◌}
use native.Mathlib.Omega.{arith}
use native.Mathlib.Numerals.{add-one}
use lib.ListN.{length, drop, length-set}
use lib.Seq.{sets}
use Rattle.show.specs.Cases.{values_in}
use Rattle.show.proofs.Tables.{values_here, values_later, values_none, sets_out}
use Rattle.show.proofs.cases.values.Goals as goal

pub loop-i-preserved-then-b-ne-COMMA : goal.loop-i-preserved-then-b-ne-COMMA
loop-i-preserved-then-b-ne-COMMA c =
    let l = c.loop-i in
    let e = values_later c.args.s.now l.i (omega arith) c.if-b-ne-COMMA.true in
    (omega arith, l.invariant.1, omega (arith, ap length e), ap (sets l.t l.k) (sym e) ∙ l.invariant.3)

pub returns-then-t-k-clause-t_after : goal.returns-then-t-k-clause-t_after
returns-then-t-k-clause-t_after c =
    let l = c.loop-i in
    sym (sets_out l.t l.k (values_in (drop l.i c.args.s.now)) (omega arith)) ∙ l.invariant.3

pub loop-i-preserved : goal.loop-i-preserved
loop-i-preserved c =
    let l = c.loop-i in
    let e = values_here c.args.s.now l.i (omega arith) c.if-b-ne-COMMA.false in
    let n = length-set l.t l.k c.value.result in
    (omega (arith, n), omega (arith, n), omega (arith, ap length e, l.invariant.2), rw (add-one l.k, c.value.ensures) (ap (sets l.t l.k) (sym e) ∙ l.invariant.3))

pub returns-clause-value : goal.returns-clause-value
returns-clause-value c =
    let l = c.loop-i in
    omega (arith, ap length (values_none c.args.s.now l.i (omega arith)), l.invariant.2)

pub returns-clause-t_after : goal.returns-clause-t_after
returns-clause-t_after c =
    let l = c.loop-i in
    ap (sets l.t l.k) (sym (values_none c.args.s.now l.i (omega arith))) ∙ l.invariant.3
