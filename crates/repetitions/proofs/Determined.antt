-- The meanings in the contracts of this crate's calls leave nothing open: only the answer and the tables that the computed definitions give have them, as for every
-- best split and every judge of one (factorizer/proofs). By cases on the meanings. Assumes nothing.
use mathlib.Core.Path.{◌≡◌, ◌∙◌}
use mathlib.Core.List.{List}
use Prim.Native.Nat.{ℕ}
use native.Mathlib.Omega.{arith}
use Rattle.answers.specs.Outcome.{Outcome}
use Rattle.periods.specs.Period.{Repetition, repetition?, held_period}
use Rattle.periods.specs.Edition.{turns_of}
use Rattle.factorizer.proofs.Rules.{repetition_decides}
use Rattle.factorizer.proofs.JudgeClaims.{judged_determined}
use Rattle.factorizer.proofs.Determined.{chosen_determined}
use Rattle.repetitions.specs.BestSplit.{best_outcome, best_ends_table, best_work, BestMeaning}
use Rattle.repetitions.specs.Judge.{split_outcome, SplitMeaning}
use Rattle.repetitions.proofs.BestClaims.{Promised, promised_long, promised_bad_edition, promised_chosen}
use Rattle.repetitions.proofs.JudgeClaims.{split_too_long, split_bad_edition, split_judged}
use Rattle.repetitions.specs.BestSplit as split
use Rattle.repetitions.specs.Judge as judge

-- CLAIM: the meaning of best split determines the answer, the ends and the working table
pub best_determined : (w : List ℕ) (edition choice : ℕ) (e t : List ℕ) (o : Outcome) (x y : List ℕ) → BestMeaning w edition choice e t o x y
    → (o ≡ best_outcome w edition choice e t) × (x ≡ best_ends_table w edition choice e t) × (y ≡ best_work w edition choice t)
best_determined w edition choice e t o x y M = go M
  where
    by : {p : Outcome} {u z : List ℕ} → o ≡ p → x ≡ u → y ≡ z → Promised w edition choice e t p u z → (o ≡ best_outcome w edition choice e t) × (x ≡ best_ends_table w edition choice e t) × (y ≡ best_work w edition choice t)
    by a b d P = (a ∙ P.answer, b ∙ P.ends, d ∙ P.work)

    go : BestMeaning w edition choice e t o x y → (o ≡ best_outcome w edition choice e t) × (x ≡ best_ends_table w edition choice e t) × (y ≡ best_work w edition choice t)
    go (split.BestMeaning.too_long h a b d) = by a b d (promised_long w edition choice e t h)
    go (split.BestMeaning.bad_edition h i a b d) = by a b d (promised_bad_edition w edition choice e t h i)
    go (split.BestMeaning.chosen h i C) =
        let k = turns_of edition in
        let P = promised_chosen w edition choice e t h i o x y (chosen_determined (Repetition held_period k) (repetition? held_period k) (repetition_decides held_period k) w choice e t (omega arith) o x y C) in
        (P.answer, P.ends, P.work)

-- CLAIM: the meaning of judge a split determines the answer
pub split_determined : (w : List ℕ) (edition : ℕ) (ends : List ℕ) (o : Outcome) → SplitMeaning w edition ends o → o ≡ split_outcome w edition ends
split_determined w edition ends o (judge.SplitMeaning.too_long h e) = e ∙ split_too_long w edition ends h
split_determined w edition ends o (judge.SplitMeaning.bad_edition h i e) = e ∙ split_bad_edition w edition ends h i
split_determined w edition ends o (judge.SplitMeaning.judged h i J) =
    let k = turns_of edition in
    judged_determined (Repetition held_period k) (repetition? held_period k) (repetition_decides held_period k) w ends o J ∙ split_judged w edition ends h i
