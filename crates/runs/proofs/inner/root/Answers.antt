-- `runs::inner::root` meets its contract: its loop keeps that best and rival agree so far, and that of the starts before rival only best may be the least one.
-- Each turn adds at least 1 to best, rival and same together, which stay below three units after the boundary. Assumes nothing.
use mathlib.Core.Path.{sym, subst}
use Prim.Native.Nat.{ℕ, ◌+◌, ◌<◌}
use native.Mathlib.Omega.{arith}
use native.Mathlib.Numerals.{add-one}
use Rattle.periods.proofs.InPlace.{symbol}
use Rattle.runs.proofs.Roots.{Agree, agree_none, agree_more}
use Rattle.runs.proofs.RootSearch.{narrowed_none, narrowed_found, same_short, rival_passed, best_passed}
use Rattle.runs.proofs.inner.root.Goals as goal

pub loop-rival-init : goal.loop-rival-init
loop-rival-init c =
    let g = c.args in
    let u : 0 < g.p = c.requires.2.period.positive in
    (omega arith, omega arith, omega arith, u, agree_none (symbol g.w.now) g.a (g.a + 1), narrowed_none g.w.now g.a g.p c.requires.1 c.requires.2)

-- they agree: still within the unit
pub loop-rival-preserved-then-x-y : goal.loop-rival-preserved-then-x-y
loop-rival-preserved-then-x-y c =
    let g = c.args in
    let l = c.loop-rival in
    let v = l.invariant in (
      v.0,
      v.1,
      v.2,
      same_short g.w.now g.a g.p c.requires.1 c.requires.2 l.best l.rival l.same v.0 v.2 c.loop-rival-test.true v.4 v.3 c.if-x-y.true,
      subst (λ (m : ℕ). Agree (symbol g.w.now) m l.best l.rival) (sym (add-one l.same)) (agree_more (symbol g.w.now) l.same l.best l.rival v.4 c.if-x-y.true),
      v.5,
    )

-- best comes first
pub loop-rival-preserved-then-x-y-2 : goal.loop-rival-preserved-then-x-y-2
loop-rival-preserved-then-x-y-2 c =
    let g = c.args in
    let l = c.loop-rival in
    let v = l.invariant in (
      v.0,
      v.1,
      omega arith,
      omega arith,
      agree_none (symbol g.w.now) l.best (l.rival + (l.same + 1)),
      rival_passed g.w.now g.a g.p c.requires.1 c.requires.2 l.best l.rival l.same v.0 v.2 c.loop-rival-test.true v.4 v.3 c.if-x-y-2.true v.5,
    )

-- rival comes first
pub loop-rival-preserved : goal.loop-rival-preserved
loop-rival-preserved c =
    let g = c.args in
    let l = c.loop-rival in
    let v = l.invariant in
    let x = symbol g.w.now (l.best + l.same) in
    let y = symbol g.w.now (l.rival + l.same) in
    let later : y < x = omega (arith, c.if-x-y.false, c.if-x-y-2.false) in
    let next = c.max-rival.result in (
      omega arith,
      omega arith,
      omega (arith, c.max-rival.ensures),
      omega arith,
      agree_none (symbol g.w.now) l.rival next,
      best_passed g.w.now g.a g.p c.requires.1 c.requires.2 l.best l.rival l.same v.0 v.2 c.loop-rival-test.true v.4 v.3 later v.5 next (omega (arith, c.max-rival.ensures)),
    )

pub returns : goal.returns
returns c =
    let g = c.args in
    let l = c.loop-rival in
    narrowed_found g.w.now g.a g.p c.requires.1 c.requires.2 l.best l.rival c.loop-rival-test.false l.invariant.5
