-- `decimals::inner::count` meets its contract: what is counted and what is left to count make the number of digits. Assumes nothing.
use mathlib.Core.Path.{◌∙◌}
use Prim.Native.Nat.{◌+◌, ◌-◌, ◌/◌, ◌^◌, ◌<◌, ◌≤◌}
use native.Mathlib.Omega.{arith}
use Rattle.decimals.proofs.Loops.{counted_first, counted_more, rest_falls}
use Rattle.decimals.proofs.inner.count.Goals as goal

pub loop-rest-init : goal.loop-rest-init
loop-rest-init c = (omega arith, omega arith, counted_first c.args.x)

pub loop-rest-preserved : goal.loop-rest-preserved
loop-rest-preserved c =
    let l = c.loop-rest in
    let f : (l.k ≤ 9) × (l.rest / 10 < 10 ^ (10 - (l.k + 1))) = rest_falls l.k l.rest (omega arith) l.invariant.1 in
    (omega (arith, f.0), f.1, l.invariant.2 ∙ counted_more l.k l.rest (omega arith) l.invariant.1)
