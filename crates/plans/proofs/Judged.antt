-- The refusals 1, 3 and 5, which writing and reading a plan share: the limit, then the verdict with every piece allowed. What the loop keeps is that `judged_from` of
-- factors/proofs/Judging.antt is the answer. Assumes nothing.
use mathlib.Core.Path.{◌≡◌, refl, sym, ap, ◌∙◌}
use mathlib.Core.Bool.{Bool, true, false}
use mathlib.Core.List.{List, [], ◌∷◌}
use Prim.Native.Nat.{ℕ, ◌+◌, ◌≤◌, ◌<◌}
use native.Mathlib.Omega.{arith}
use borrow.Author.Tests.{le-ltb, lt-ltb}
use lib.ListN.{length, get_or}
use Rattle.answers.specs.Outcome.{accepted, refused, limit}
use Rattle.factors.specs.Verdict.{verdict, bad_end?}
use Rattle.factors.proofs.Judging.{judged_from, judged_first, judged_bad_end, judged_block, judged_unfinished, judged_finished}
use Rattle.plans.specs.Calls.{any_piece, limit_of, plausible}

pub judge_too_long : (most n : ℕ) (ends : List ℕ) → most < n → plausible most n ends ≡ refused 1 0
unfolding plausible
judge_too_long most n ends h = simp (lt-ltb most n h)

pub judge_verdict : (most n : ℕ) (ends : List ℕ) → n ≤ most → plausible most n ends ≡ verdict any_piece n ends
unfolding plausible
judge_verdict most n ends h = simp (le-ltb most n h)

pub judge_first : (most n : ℕ) (ends : List ℕ) → n ≤ most → judged_from any_piece n ends 0 0 ≡ plausible most n ends
judge_first most n ends h = judged_first any_piece n ends ∙ sym (judge_verdict most n ends h)

-- the ends before number k + 1 are fine, and the last of them is `before`
module _ (most n : ℕ) (ends : List ℕ) (k before : ℕ) (kept : judged_from any_piece n ends k before ≡ plausible most n ends) where
  pub judge_bad_end : (x : ℕ) → k < length ends → x ≡ get_or ends k 0 → true ≡ bad_end? n before x → refused 3 (k + 1) ≡ plausible most n ends
  judge_bad_end x h e b = judged_bad_end any_piece n ends k before x h e (sym b) ∙ kept

  pub judge_next : (x : ℕ) → k < length ends → x ≡ get_or ends k 0 → false ≡ bad_end? n before x → judged_from any_piece n ends (k + 1) x ≡ plausible most n ends
  judge_next x h e b = judged_block any_piece n ends k before x h e (sym b) refl ∙ kept

  pub judge_unfinished : length ends ≤ k → (before ≡ n → ⊥) → refused 5 0 ≡ plausible most n ends
  judge_unfinished h e = judged_unfinished any_piece n ends k before h e ∙ kept

  pub judge_finished : length ends ≡ k → before ≡ n → accepted (length ends ∷ []) ≡ plausible most n ends
  judge_finished h e = ap (λ (j : ℕ). accepted (j ∷ [])) h ∙ judged_finished any_piece n ends k before (omega arith) e ∙ kept

pub limit_bound : (long : Bool) → limit_of long ≤ limit
limit_bound false = omega arith
limit_bound true = omega arith
