-- The verdict as a loop reaches it, for any test of blocks: the ends before number k + 1 are fine and the last of them is `before`; the next end decides, or
-- goes on. What each judge's loop keeps is that `judged_from` is the answer. By the order of the tests in `verdict_from`. Assumes nothing.
use mathlib.Core.Path.{◌≡◌, refl, sym, ap, ◌∙◌}
use mathlib.Core.Bool.{Bool, true, false, true≢false}
use mathlib.Core.List.{List, [], ◌∷◌}
use Prim.Native.Nat.{ℕ, suc, ◌+◌, ◌≤◌, ◌<◌}
use native.Mathlib.Omega.{arith}
use native.Mathlib.Numerals.{add-one}
use native.Mathlib.Decide.{dec_lt, dec_le}
use borrow.Author.Tests.{le-leb, lt-leb, lt-ltb}
use lib.ListN.{length, get_or, drop, drop_of_length-le}
use lib.Seq.{drop-cons}
use Rattle.answers.specs.Outcome.{Outcome, accepted, refused}
use Rattle.factors.specs.Verdict.{bad_end?, verdict_from, verdict}
use Rattle.factors.proofs.VerdictClaims.{verdict_finished, verdict_unfinished}

-- an end that is not out of place is above the one before it, and at most n
pub end_fits : (n i e : ℕ) → bad_end? n i e ≡ false → (i < e) × (e ≤ n)
end_fits n i e h = go (dec_lt i e) (dec_le e n)
  where
    go : Dec (i < e) → Dec (e ≤ n) → (i < e) × (e ≤ n)
    go (yes a) (yes b) = (a, b)
    go (no a) b = absurd (true≢false (sym (simp (le-leb e i (omega arith))) ∙ h))
    go (yes a) (no b) = absurd (true≢false (sym (simp (lt-leb e i a, lt-ltb n e (omega arith))) ∙ h))

-- the verdict on the ends from number k + 1 on
abbrev pub judged_from : (ℕ → ℕ → ℕ → Bool) → ℕ → List ℕ → ℕ → ℕ → Outcome
judged_from block? n ends k before = verdict_from block? n k before (drop k ends)

pub judged_first : (block? : ℕ → ℕ → ℕ → Bool) (n : ℕ) (ends : List ℕ) → judged_from block? n ends 0 0 ≡ verdict block? n ends
unfolding verdict
judged_first block? n ends = refl

module _ (block? : ℕ → ℕ → ℕ → Bool) (n : ℕ) (ends : List ℕ) (k before : ℕ) where
  -- end number k + 1 is e
  module _ (e : ℕ) (inside : k < length ends) (is : e ≡ get_or ends k 0) where
    next : verdict_from block? n k before (e ∷ drop (suc k) ends) ≡ judged_from block? n ends k before
    next = ap (verdict_from block? n k before) (ap (λ (x : ℕ). x ∷ drop (suc k) ends) is ∙ sym (drop-cons ends k 0 inside))

    pub judged_bad_end : bad_end? n before e ≡ true → refused 3 (k + 1) ≡ judged_from block? n ends k before
    judged_bad_end h = ap (refused 3) (add-one k) ∙ sym (simp h) ∙ next

    pub judged_no_block : bad_end? n before e ≡ false → block? (suc k) before e ≡ false → refused 4 (k + 1) ≡ judged_from block? n ends k before
    judged_no_block h b = ap (refused 4) (add-one k) ∙ sym (simp (h, b)) ∙ next

    pub judged_block : bad_end? n before e ≡ false → block? (suc k) before e ≡ true → judged_from block? n ends (k + 1) e ≡ judged_from block? n ends k before
    judged_block h b = ap (λ (j : ℕ). verdict_from block? n j e (drop j ends)) (add-one k) ∙ sym (simp (h, b)) ∙ next

  -- no end is left
  module _ (all : length ends ≤ k) where
    last : verdict_from block? n k before [] ≡ judged_from block? n ends k before
    last = ap (verdict_from block? n k before) (sym (drop_of_length-le ends all))

    pub judged_unfinished : (before ≡ n → ⊥) → refused 5 0 ≡ judged_from block? n ends k before
    judged_unfinished h = sym (verdict_unfinished block? n k before h) ∙ last

    pub judged_finished : before ≡ n → accepted (k ∷ []) ≡ judged_from block? n ends k before
    judged_finished h = sym (verdict_finished block? n k before h) ∙ last
