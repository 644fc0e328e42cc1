-- `plans::inner::judge` meets its contract: its loop keeps that the verdict on the ends that are left is the answer. Assumes nothing.
use mathlib.Core.Path.{◌≡◌}
use mathlib.Core.List.{List}
use Prim.Native.Nat.{ℕ, ◌≤◌}
use Rattle.factors.proofs.Judging.{judged_from}
use Rattle.plans.specs.Calls.{any_piece, plausible}
use Rattle.plans.specs.Ends.{GivesEnds}
use Rattle.plans.proofs.inner.judge.Given as goal

abbrev pub invariant-loop-k : goal.invariant-loop-k
invariant-loop-k g l =
    (l.k ≤ l.before) × (l.before ≤ l.n) × ((ends : List ℕ) → GivesEnds (goal.F-post g l.end) l.count ends → judged_from any_piece l.n ends l.k l.before ≡ plausible l.most l.n ends)
