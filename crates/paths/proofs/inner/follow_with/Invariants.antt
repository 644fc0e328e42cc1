-- `paths::inner::follow_with` meets its contract: its loop keeps which pairs are left, and that the verdict on their blocks is the verdict on all. Assumes
-- nothing.
use mathlib.Core.Path.{◌≡◌}
use Prim.Native.Nat.{◌+◌, ◌≤◌}
use lib.ListN.{length, drop}
use Rattle.periods.specs.Period.{held_period}
use Rattle.periods.specs.Edition.{turns_in}
use Rattle.periods.specs.Width.{symbols}
use Rattle.factors.specs.Verdict.{verdict}
use Rattle.factors.proofs.Judging.{judged_from}
use Rattle.paths.specs.Graph.{ends_of_pairs}
use Rattle.paths.specs.Calls.{segment?}
use Rattle.paths.proofs.inner.follow_with.Given as goal

abbrev pub invariant-loop-k : goal.invariant-loop-k
invariant-loop-k g l =
    let w = symbols l.w in
    let k = l.k-iterator.count in
    let test = segment? held_period (turns_in l.edition) w l.numbers in
    (l.k-iterator.iter.size ≡ 2) × (l.k-iterator.iter.rest.now ≡ drop (k + k) l.numbers) × (k + k ≤ length l.numbers)
    × (symbols l.look_up.w ≡ w) × (k ≤ l.look_up.before)
    × (judged_from test (length w) (ends_of_pairs l.numbers) k l.look_up.before ≡ verdict test (length w) (ends_of_pairs l.numbers))
