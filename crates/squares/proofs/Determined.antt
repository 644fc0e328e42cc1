-- The meanings in the contracts of this crate's calls leave nothing open: only the answer and the tables that the computed definitions give have them, as for every
-- best split and every judge of one (factorizer/proofs). By cases on the meanings. Assumes nothing.
use mathlib.Core.Path.{◌≡◌, ◌∙◌}
use mathlib.Core.List.{List}
use Prim.Native.Nat.{ℕ}
use native.Mathlib.Omega.{arith}
use Rattle.answers.specs.Outcome.{Outcome}
use Rattle.periods.specs.Square.{Square, square?}
use Rattle.factorizer.proofs.Rules.{square_decides}
use Rattle.factorizer.proofs.JudgeClaims.{judged_determined}
use Rattle.factorizer.proofs.Determined.{chosen_determined}
use Rattle.squares.specs.BestSquares.{squares_outcome, squares_ends, squares_work, SquaresMeaning}
use Rattle.squares.specs.JudgeSquares.{squares_judged_outcome, SquaresJudgedMeaning}
use Rattle.squares.proofs.CallClaims.{promised_long, promised_chosen, squares_judged_too_long, squares_judged_fine}
use Rattle.squares.specs.BestSquares as best
use Rattle.squares.specs.JudgeSquares as judge

-- CLAIM: the meaning of best squares determines the answer, the ends and the working table
pub squares_determined : (w : List ℕ) (choice : ℕ) (e t : List ℕ) (o : Outcome) (x y : List ℕ) → SquaresMeaning w choice e t o x y
    → (o ≡ squares_outcome w choice e t) × (x ≡ squares_ends w choice e t) × (y ≡ squares_work w choice t)
squares_determined w choice e t o x y (best.SquaresMeaning.too_long h a b d) = let P = promised_long w choice e t h in (a ∙ P.answer, b ∙ P.ends, d ∙ P.work)
squares_determined w choice e t o x y (best.SquaresMeaning.chosen h C) =
    let P = promised_chosen w choice e t h o x y (chosen_determined Square square? square_decides w choice e t (omega arith) o x y C) in
    (P.answer, P.ends, P.work)

-- CLAIM: the meaning of judge squares determines the answer
pub squares_judged_determined : (w ends : List ℕ) (o : Outcome) → SquaresJudgedMeaning w ends o → o ≡ squares_judged_outcome w ends
squares_judged_determined w ends o (judge.SquaresJudgedMeaning.too_long h e) = e ∙ squares_judged_too_long w ends h
squares_judged_determined w ends o (judge.SquaresJudgedMeaning.judged h J) = judged_determined Square square? square_decides w ends o J ∙ squares_judged_fine w ends h
