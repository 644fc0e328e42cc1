-- Judge squares: what it answers, and what that means. "Errors: those of best split and the judge, without 12 ...; 4 is there a piece that is not a square."
use Rattle.std.specs.Prelude.{◌≡◌, cond, List, ℕ, ◌≤◌, ◌<◌, ltb, length}
use Rattle.answers.specs.declared.Refusal.TheVariants.{TooLong}
use Rattle.answers.specs.Outcome.{Outcome, refused, refusal, limit}
use Rattle.periods.specs.Square.{Square, square?}
use Rattle.factorizer.specs.Judge.{piece_verdict, Judged}

-- 1, and then "for each end in turn 3, 4; then 5"
unfoldable pub squares_judged_outcome : List ℕ → List ℕ → Outcome
squares_judged_outcome w ends = cond (ltb limit (length w)) (refusal TooLong) (piece_verdict square? w ends)

pub data SquaresJudgedMeaning (w ends : List ℕ) (o : Outcome) : Type 0 where
  too_long : limit < length w → o ≡ refused 1 0 → SquaresJudgedMeaning w ends o
  judged : length w ≤ limit → Judged Square w ends o → SquaresJudgedMeaning w ends o
