-- `slots::inner::fill` meets its contract: its loop keeps `Ready` of specs/Ready.antt, and the runs before the next one start before the boundary. Assumes
-- nothing.
use Prim.Native.Nat.{ℕ, ◌≤◌, ◌<◌}
use lib.ListN.{length}
use Rattle.runs.specs.Table.{record_at}
use Rattle.factors.specs.Choice.{choice_in}
use Rattle.periods.specs.Width.{symbols}
use Rattle.factorizer.specs.Window.{RestKept}
use Rattle.slots.specs.Ready.{Ready}
use Rattle.slots.proofs.inner.fill.Given as goal

abbrev pub invariant-loop-e : goal.invariant-loop-e
invariant-loop-e _ l = record {
  next_fits : l.next ≤ l.count;
  few_lives : l.lives ≤ l.next;
  before : (i : ℕ) → i < l.next → (record_at l.runs i).first < l.e;
  ready : Ready (choice_in l.asked) (symbols l.w) l.runs l.e l.e l.lives l.work;
  rest : RestKept (length (symbols l.w)) l.fn.work l.work;
}
