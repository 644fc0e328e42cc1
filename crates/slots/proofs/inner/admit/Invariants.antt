-- `slots::inner::admit` meets its contract: the loop keeps that the numbers up to the present one were added. Assumes nothing.
use Prim.Native.Nat.{ℕ, ◌≤◌, ◌<◌}
use Rattle.runs.specs.Table.{record_at}
use Rattle.slots.specs.Ready.{Added}
use Rattle.slots.proofs.inner.admit.Given as goal

abbrev pub invariant-loop-i : goal.invariant-loop-i
invariant-loop-i l = record {
  begun : (k : ℕ) → l.next ≤ k → k < l.i → (record_at l.runs k).first ≤ l.e;
  added : Added l.n l.lives l.next l.i l.initial.work l.work;
}
