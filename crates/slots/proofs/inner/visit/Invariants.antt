-- `slots::inner::visit` meets its contract: the loop keeps what holds while a boundary is taken (proofs/Turn.antt), by the steps of proofs/Turns.antt, and
-- proofs/Taken.antt has the end. Assumes nothing.
use Prim.Native.Nat.{◌≤◌}
use Rattle.periods.specs.Width.{symbols}
use Rattle.factors.specs.Choice.{choice_in}
use Rattle.slots.proofs.Turn.{Turn}
use Rattle.slots.proofs.inner.visit.Given as goal

abbrev pub invariant-loop-k : goal.invariant-loop-k
invariant-loop-k l = record {
  turn : Turn (choice_in l.choice) (symbols l.w) l.runs l.e l.lives l.initial.work l.work l.k l.kept l.k l.best;
  best_small : l.best ≤ l.e;
}
