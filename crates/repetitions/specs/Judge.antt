-- Judge a split: what it answers, and what that means.
use Rattle.std.specs.Prelude.{◌≡◌, List, ℕ, ◌≤◌, ◌<◌, length}
use Rattle.answers.specs.declared.Refusal.TheVariants.{TooLong, BadEdition}
use Rattle.answers.specs.Outcome.{Outcome, refused, refusal, limit}
use Rattle.periods.specs.Period.{Repetition, repetition?, held_period}
use Rattle.periods.specs.Edition.{Edition, turns_of}
use Rattle.factorizer.specs.Judge.{piece_verdict, Judged}
use Rattle.repetitions.specs.BestSplit.{told}

-- ---- "Judge a split: 1; then for each end in turn 3, 4; then 5", and 12 "directly after 1". "4 now covers a unit above 256 in every call that gives it for blocks"

unfoldable pub split_outcome : List ℕ → ℕ → List ℕ → Outcome
split_outcome w edition ends =
    told w edition (refusal TooLong) (refusal BadEdition) (piece_verdict (repetition? held_period (turns_of edition)) w ends)

pub data SplitMeaning (w : List ℕ) (edition : ℕ) (ends : List ℕ) (o : Outcome) : Type 0 where
  too_long : limit < length w → o ≡ refused 1 0 → SplitMeaning w edition ends o
  bad_edition : length w ≤ limit → (Edition edition → ⊥) → o ≡ refused 12 0 → SplitMeaning w edition ends o
  judged : length w ≤ limit → Edition edition → Judged (Repetition held_period (turns_of edition)) w ends o → SplitMeaning w edition ends o
