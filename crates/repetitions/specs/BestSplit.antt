-- Best split: what it answers, what it leaves in both tables, and what that means. "Best split: 1, 8, 9, 2, 7", and 12 "directly after 1". All but 1 and 12 is
-- what every best split has (factorizer/specs/Best.antt), here for repetitions with the turn number of the edition and the units that memory holds: "Best means best
-- among splits the winder can hold".
use Rattle.std.specs.Prelude.{◌≡◌, cond, List, ℕ, ◌≤◌, ◌<◌, ltb, length}
use Rattle.answers.specs.declared.Refusal.TheVariants.{TooLong, BadEdition}
use Rattle.answers.specs.Outcome.{Outcome, refused, refusal, limit}
use Rattle.periods.specs.Period.{Repetition, repetition?, held_period}
use Rattle.periods.specs.Edition.{Edition, bad_edition?, turns_of}
use Rattle.factors.specs.Factorization.{Cell}
use Rattle.factorizer.specs.Best.{whole_cell, chosen_outcome, chosen_ends, chosen_work, Unfactorizable, Chosen}

-- ---- computed

-- the whole word's boundary, for blocks of k turns
abbrev pub last_cell : ℕ → List ℕ → ℕ → Cell
last_cell k w choice = whole_cell (repetition? held_period k) w choice

-- "1 now means above 70,000" "12, an edition other than 1 or 2, directly after 1". One of these is met, or the rest decides.
abbrev pub told : {A : Type 0} → List ℕ → ℕ → A → A → A → A
told w edition long unknown rest = cond (ltb limit (length w)) long (cond (bad_edition? edition) unknown rest)

-- e and t are the lent tables for the ends and for the work
unfoldable pub best_outcome : List ℕ → ℕ → ℕ → List ℕ → List ℕ → Outcome
best_outcome w edition choice e t =
    told w edition (refusal TooLong) (refusal BadEdition) (chosen_outcome (repetition? held_period (turns_of edition)) w choice e t)

unfoldable pub best_ends_table : List ℕ → ℕ → ℕ → List ℕ → List ℕ → List ℕ
best_ends_table w edition choice e t = told w edition e e (chosen_ends (repetition? held_period (turns_of edition)) w choice e t)

unfoldable pub best_work : List ℕ → ℕ → ℕ → List ℕ → List ℕ
best_work w edition choice t = told w edition t t (chosen_work (repetition? held_period (turns_of edition)) w choice t)

-- ---- demand 3

-- a word has no split into blocks of k turns
abbrev pub Unsplittable : ℕ → List ℕ → Type 0
Unsplittable k w = Unfactorizable (Repetition held_period k) w

-- x and y are the tables at exit
pub data BestMeaning (w : List ℕ) (edition choice : ℕ) (e t : List ℕ) (o : Outcome) (x y : List ℕ) : Type 0 where
  too_long : limit < length w → o ≡ refused 1 0 → x ≡ e → y ≡ t → BestMeaning w edition choice e t o x y
  bad_edition : length w ≤ limit → (Edition edition → ⊥) → o ≡ refused 12 0 → x ≡ e → y ≡ t → BestMeaning w edition choice e t o x y
  chosen : length w ≤ limit → Edition edition → Chosen (Repetition held_period (turns_of edition)) w choice e t o x y → BestMeaning w edition choice e t o x y
