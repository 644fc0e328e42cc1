-- `plans::write_plan` meets its contract: each way out is the case of `write_outcome` that its tests lead to, and `write_means` says what that means. Assumes
-- nothing.
use mathlib.Core.Path.{◌≡◌, refl, sym, ap, ◌∙◌, subst}
use mathlib.Core.Bool.{Bool}
use mathlib.Core.List.{List, [], ◌∷◌}
use Prim.Native.Nat.{ℕ, ◌≤◌, ◌<◌, ◌^◌}
use native.Mathlib.Omega.{arith}
use lib.ListN.{length}
use lib.Seq.{sets}
use Rattle.std.specs.Prelude.{Result, Ok}
use Rattle.std.proofs.Common.{rules}
use Rattle.std.proofs.lemmas.Result.{err_from_is_err_and}
use Rattle.laws.proofs.Stores.{sets-front}
use Rattle.answers.specs.declared.Refusal.{Refusal}
use Rattle.answers.specs.Outcome.{accepted, counted_view, limit}
use Rattle.plan_lines.specs.Line.{width_of, needs_long, line, plan_line, Small, bytes_for}
use Rattle.plan_lines.proofs.Loops.{width_bound, step_bound}
use Rattle.plan_lines.proofs.LineClaims.{length-line}
use Rattle.plans.specs.Calls.{plausible}
use Rattle.plans.proofs.CallClaims.{plausible_low, plausible-length, plausible-line, judge_counts, judge_refuses, write_refused, write_too_few, write_written, write_answered}
use Rattle.plans.proofs.write_plan.Goals as goal
use Rattle.plans.proofs.write_plan.Goals.{After-bytes_for-bytes}

-- n and ends that are not refused: the ends are counted, and a line of them has fewer bytes than 2 ^ 32
module _ (n : ℕ) (ends : List ℕ) (r : Result ℕ Refusal) (k : ℕ) (by : counted_view r ≡ plausible limit n ends) (is : r ≡ Ok k) where
  judged : (plausible limit n ends ≡ accepted (k ∷ [])) × (k ≡ length ends)
  judged = judge_counts limit n ends r k by is

  few : length ends ≤ limit
  few = omega (arith, plausible_low limit n ends _ judged.0, plausible-length limit n ends _ judged.0)

  module _ (long : Bool) (kind : long ≡ needs_long n) where
    bounded : bytes_for (width_of long) k < 2 ^ 32
    bounded = omega (arith, width_bound long, step_bound (width_of long) k (width_bound long), judged.1, few)

    -- the line has the bytes that are computed
    long_enough : (b : ℕ) → b ≡ bytes_for (width_of long) k → length (plan_line n ends) ≡ b
    long_enough b e =
        length-line (needs_long n) n ends
        ∙ ap (λ (x : Bool). bytes_for (width_of x) (length ends)) (sym kind)
        ∙ ap (bytes_for (width_of long)) (sym judged.1)
        ∙ sym e

pub returns-in_err-count : goal.returns-in_err-count
returns-in_err-count c =
    let n = c.args.n in
    let ends = c.args.ends.now in
    let t = c.args.out.now in
    let r = err_from_is_err_and c.from_residual.result c.from_residual.ensures.1 in
    let w = write_refused n ends t _ _ (judge_refuses limit n ends c.judge.result c.in_err-count.field-0.0 (c.judge.ensures ends (refl, λ k x l p. search rules)) c.in_err-count.was) in
    rw (r.1, r.2) (write_answered n ends t _ _ w.0 w.1)

-- past the judge
module _ (c : After-bytes_for-bytes) where
  abbrev n : ℕ
  n = c.args.n

  abbrev ends : List ℕ
  ends = c.args.ends.now

  by_judge : counted_view c.judge.result ≡ plausible limit n ends
  by_judge = c.judge.ensures ends (refl, λ k x l p. search rules)

  accepted_by : plausible limit n ends ≡ accepted (c.in_ok-count.count ∷ [])
  accepted_by = (judged n ends c.judge.result c.in_ok-count.count by_judge c.in_ok-count.was).0

  bytes_are : length (plan_line n ends) ≡ c.bytes_for-bytes.result
  bytes_are = long_enough n ends c.judge.result c.in_ok-count.count by_judge c.in_ok-count.was _ c.of-kind.ensures _ c.bytes_for-bytes.ensures

  bytes_few : c.bytes_for-bytes.result < 2 ^ 32
  bytes_few = omega (arith, c.bytes_for-bytes.ensures, bounded n ends c.judge.result c.in_ok-count.count by_judge c.in_ok-count.was _ c.of-kind.ensures)

pub returns-then-out-bytes : goal.returns-then-out-bytes
returns-then-out-bytes c =
    let n = c.args.n in
    let ends = c.args.ends.now in
    let t = c.args.out.now in
    let b = (goal.at.returns-then-out-bytes c).After-bytes_for-bytes in
    let w = write_too_few n ends t _ (accepted_by b) (omega (arith, bytes_are b)) in
    write_answered n ends t _ _ w.0 w.1

pub write_line-requires : goal.write_line-requires
write_line-requires c =
    let n = c.args.n in
    let ends = c.args.ends.now in
    let b = (goal.at.write_line-requires c).After-bytes_for-bytes in
    let L = plausible-line n ends _ (accepted_by b) in
    let s = sym c.of-kind.ensures in (
      subst (λ (x : Bool). bytes_for (width_of x) (length ends) ≤ length c.args.out.now) s (omega (arith, bytes_are b, length-line (needs_long n) n ends)),
      subst (λ (x : Bool). Small (width_of x) (n ∷ length ends ∷ ends)) s (L.small_length, (L.small_count, L.small_ends)),
    )

pub overflow_cast-result : goal.overflow_cast-result
overflow_cast-result c = omega (arith, bytes_few (goal.at.overflow_cast-result c).After-bytes_for-bytes)

pub returns : goal.returns
returns c =
    let n = c.args.n in
    let ends = c.args.ends.now in
    let t = c.args.out.now in
    let b = (goal.at.returns c).After-bytes_for-bytes in
    let room : length (plan_line n ends) ≤ length t = omega (arith, bytes_are b) in
    let w = write_written n ends t _ (accepted_by b) room in
    write_answered n ends t _ _
    (ap (λ (x : ℕ). accepted (x ∷ [])) (sym (bytes_are b)) ∙ w.0)
    (c.write_line.ensures
    ∙ ap (λ (x : Bool). sets t 0 (line x n ends)) c.of-kind.ensures
    ∙ sets-front t (plan_line n ends) room
    ∙ w.1)
