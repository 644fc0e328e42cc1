-- Best squares: what it answers, what it leaves in both tables, and what that means. "Errors: those of best split and the judge, without 12, with tables left as
-- for best split, also after 2 and 7". All but 1 is what every best split has (factorizer/specs/Best.antt), here for squares: "For these shops, what demand 3
-- says of none, fewest, most and ends is about splits into squares."
use Rattle.std.specs.Prelude.{◌≡◌, cond, List, ℕ, ◌≤◌, ◌<◌, ltb, length}
use Rattle.answers.specs.declared.Refusal.TheVariants.{TooLong}
use Rattle.answers.specs.Outcome.{Outcome, refused, refusal, limit}
use Rattle.periods.specs.Square.{Square, square?}
use Rattle.factorizer.specs.Best.{chosen_outcome, chosen_ends, chosen_work, Chosen}

-- e and t are the lent tables for the ends and for the work
unfoldable pub squares_outcome : List ℕ → ℕ → List ℕ → List ℕ → Outcome
squares_outcome w choice e t = cond (ltb limit (length w)) (refusal TooLong) (chosen_outcome square? w choice e t)

unfoldable pub squares_ends : List ℕ → ℕ → List ℕ → List ℕ → List ℕ
squares_ends w choice e t = cond (ltb limit (length w)) e (chosen_ends square? w choice e t)

unfoldable pub squares_work : List ℕ → ℕ → List ℕ → List ℕ
squares_work w choice t = cond (ltb limit (length w)) t (chosen_work square? w choice t)

-- x and y are the tables at exit
pub data SquaresMeaning (w : List ℕ) (choice : ℕ) (e t : List ℕ) (o : Outcome) (x y : List ℕ) : Type 0 where
  too_long : limit < length w → o ≡ refused 1 0 → x ≡ e → y ≡ t → SquaresMeaning w choice e t o x y
  chosen : length w ≤ limit → Chosen Square w choice e t o x y → SquaresMeaning w choice e t o x y
