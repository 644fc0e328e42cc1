-- `plans::inner::judge` meets its contract: its loop keeps that the verdict on the ends that are left is the answer. Assumes nothing.
use mathlib.Core.Path.{◌≡◌, sym, ap, ◌∙◌}
use mathlib.Core.Bool.{false}
use mathlib.Core.List.{[], ◌∷◌}
use Prim.Native.Nat.{ℕ}
use native.Mathlib.Omega.{arith}
use Rattle.answers.specs.Outcome.{accepted}
use Rattle.factors.specs.Verdict.{bad_end?}
use Rattle.factors.proofs.Judging.{end_fits}
use Rattle.plans.proofs.Judged.{judge_too_long, judge_first, judge_bad_end, judge_next, judge_unfinished, judge_finished}
use Rattle.plans.proofs.inner.judge.Goals as goal

pub returns-then-most-len : goal.returns-then-most-len
returns-then-most-len g c = λ ends G. sym (judge_too_long c.args.most c.args.n ends c.if-most-len.true)

pub loop-k-init : goal.loop-k-init
loop-k-init g c = (omega arith, omega arith, λ ends G. judge_first c.args.most c.args.n ends (omega arith))

pub returns-then-bad_end : goal.returns-then-bad_end
returns-then-bad_end g c = λ ends G.
    let l = c.loop-k in
    judge_bad_end c.args.most c.args.n ends l.k l.before (l.invariant.2 ends G) _ (omega (arith, G.0)) (G.1 l.k _ c.loop-k-test.true c.end-next.ensures) c.if-bad_end.ensures

pub loop-k-preserved : goal.loop-k-preserved
loop-k-preserved g c =
    let l = c.loop-k in
    let e : false ≡ bad_end? c.args.n l.before c.end-next.result = c.if-bad_end.ensures in
    let f = end_fits c.args.n l.before c.end-next.result (sym e) in (
      omega (arith, f),
      f.1,
      λ ends G. judge_next c.args.most c.args.n ends l.k l.before (l.invariant.2 ends G) _ (omega (arith, G.0)) (G.1 l.k _ c.loop-k-test.true c.end-next.ensures) e,
    )

pub returns-then-before-len : goal.returns-then-before-len
returns-then-before-len g c = λ ends G.
    let l = c.loop-k in judge_unfinished c.args.most c.args.n ends l.k l.before (l.invariant.2 ends G) (omega (arith, G.0)) c.if-before-len.true

pub returns : goal.returns
returns g c = λ ends G.
    let l = c.loop-k in
    ap (λ (k : ℕ). accepted (k ∷ [])) (sym G.0) ∙ judge_finished c.args.most c.args.n ends l.k l.before (l.invariant.2 ends G) (omega (arith, G.0)) c.if-before-len.false
