-- `runs::inner::root` meets its contract: its loop keeps that best and rival agree so far, and that of the starts before rival only best may be the least one.
-- Each turn adds at least 1 to best, rival and same together, which stay below three units after the boundary. Assumes nothing.
use Prim.Native.Nat.{◌+◌, ◌-◌, ◌*◌, ◌≤◌, ◌<◌}
use Rattle.periods.proofs.InPlace.{symbol}
use Rattle.runs.proofs.Roots.{Agree}
use Rattle.runs.proofs.RootSearch.{Narrowed}
use Rattle.runs.proofs.inner.root.Given as goal

abbrev pub invariant-loop-rival : goal.invariant-loop-rival
invariant-loop-rival l = (l.a ≤ l.best) × (l.best < l.a + l.p) × (l.best < l.rival) × (l.same < l.p) × Agree (symbol l.w) l.same l.best l.rival × Narrowed l.w l.a l.p l.best l.rival

abbrev pub decreases-loop-rival : goal.decreases-loop-rival
decreases-loop-rival l = 2 * l.a + 3 * l.p - (l.best + l.rival + l.same)
