-- `decimals::inner::count` meets its contract: what is counted and what is left to count make the number of digits. Assumes nothing.
use mathlib.Core.Path.{◌≡◌}
use Prim.Native.Nat.{◌-◌, ◌^◌, ◌<◌, ◌≤◌}
use Rattle.decimals.specs.Decimal.{digit_count}
use Rattle.decimals.proofs.Loops.{counted}
use Rattle.decimals.proofs.inner.count.Given as goal

abbrev pub invariant-loop-rest : goal.invariant-loop-rest
invariant-loop-rest l = (l.k ≤ 10) × (l.rest < 10 ^ (10 - l.k)) × (digit_count 9 l.x ≡ counted l.k l.rest)

abbrev pub decreases-loop-rest : goal.decreases-loop-rest
decreases-loop-rest l = l.rest
