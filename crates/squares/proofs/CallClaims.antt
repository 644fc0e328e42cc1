-- Best squares says all of demand 3 about splits into squares, and judge squares accepts exactly these: `squares_means`, `squares_judged_means`. Squares are pieces that a
-- test decides, so what every best split and every judge of one says holds for them (factorizer/proofs); here is refusal 1. Assumes nothing.
use mathlib.Core.Path.{◌≡◌, refl, sym, subst}
use mathlib.Core.Logic.{◌≢◌}
use mathlib.Core.List.{List}
use Prim.Native.Nat.{ℕ, ◌+◌, ◌/◌, ◌≤◌, ◌<◌}
use native.Mathlib.Omega.{arith}
use native.Mathlib.Decide.{dec_lt}
use borrow.Author.Tests.{lt-ltb, le-ltb}
use lib.ListN.{length, take}
use Rattle.answers.specs.Outcome.{Outcome, refused, limit}
use Rattle.answers.proofs.Claims.{refused_number}
use Rattle.periods.specs.Period.{part, Repetition, any_period}
use Rattle.periods.specs.Square.{twice, Square, square?}
use Rattle.periods.proofs.InPlace.{placed_part}
use Rattle.periods.proofs.Squares.{square_even, square_repeats}
use Rattle.factors.specs.Factorization.{Factorization, size, Choice, cell, best_ends}
use Rattle.factors.specs.Table.{none, size_in}
use Rattle.factors.proofs.Chains.{chain_map, size_half}
use Rattle.factors.proofs.Optimal.{Answers}
use Rattle.factorizer.specs.Piece.{Piece, piece?}
use Rattle.factorizer.specs.Best.{Reported}
use Rattle.factorizer.specs.Judge.{piece_verdict, Judged}
use Rattle.factorizer.proofs.Rules.{square_decides}
use Rattle.factorizer.proofs.BestClaims.{piece_answers, prefix_reported, ChosenGiven, chosen_means, chosen_suffice}
use Rattle.factorizer.proofs.JudgeClaims.{judged_means}
use Rattle.squares.specs.BestSquares.{squares_outcome, squares_ends, squares_work, SquaresMeaning, too_long, chosen}
use Rattle.squares.specs.JudgeSquares.{squares_judged_outcome, SquaresJudgedMeaning}
use Rattle.squares.specs.JudgeSquares as judge

-- CLAIM: the theorem of factors, for squares, and what is reported of each prefix, as a word of its own
module _ (c : Choice) (w : List ℕ) (m : ℕ) where
  pub squares_answers : Answers c (Piece Square w) m (cell c (piece? square? w) m) (best_ends c (piece? square? w) m)
  squares_answers = piece_answers Square square? square_decides c w m

  pub squares_reported : m ≤ length w → length w < none → Reported Square c (take m w) (size_in (cell c (piece? square? w) m))
  squares_reported = prefix_reported Square square? square_decides c w m

-- CLAIM: a split into squares is one into repetitions of two turns, with units of any length; and it has at most half as many squares as symbols, rounded down
pub squares_repetitions : (w : List ℕ) (m : ℕ) (es : List ℕ) → Factorization (Piece Square w) m es → Factorization (Piece (Repetition any_period twice) w) m es
squares_repetitions w m es = chain_map (Piece Square w) (Piece (Repetition any_period twice) w) (λ i j K. (K.0, square_repeats (part w i j) K.1)) 0 es m

pub squares_half : (w : List ℕ) (m : ℕ) (es : List ℕ) → Factorization (Piece Square w) m es → size es ≤ m / 2
squares_half w = size_half (Piece Square w) long
  where
    long : (i j : ℕ) → Piece Square w i j → i + 2 ≤ j
    long i j K = omega (arith, (placed_part w i j K.0).long, square_even (part w i j) K.1, K.1.filled)

-- ---- best squares

module _ (w : List ℕ) (choice : ℕ) (e t : List ℕ) where
  -- the three promises: the answer, the ends and the work
  pub record Promised (o : Outcome) (x y : List ℕ) : Type 0 where
    pub answer : o ≡ squares_outcome w choice e t
    pub ends : x ≡ squares_ends w choice e t
    pub work : y ≡ squares_work w choice t

  pub promised_long : limit < length w → Promised (refused 1 0) e t
  unfolding squares_outcome squares_ends squares_work
  promised_long h = let f = lt-ltb limit (length w) h in record { answer = rw f refl; ends = rw f refl; work = rw f refl }

  pub promised_chosen : length w ≤ limit → (o : Outcome) (x y : List ℕ) → ChosenGiven square? w choice e t o x y → Promised o x y
  unfolding squares_outcome squares_ends squares_work
  promised_chosen h o x y G = let f = le-ltb limit (length w) h in record { answer = rw f G.answer; ends = rw f G.ends; work = rw f G.work }

  -- CLAIM: best squares says all of demand 3
  pub squares_means : SquaresMeaning w choice e t (squares_outcome w choice e t) (squares_ends w choice e t) (squares_work w choice t)
  squares_means = go (dec_lt limit (length w))
    where
      by : {o : Outcome} {x y : List ℕ} → Promised o x y → SquaresMeaning w choice e t o x y
          → SquaresMeaning w choice e t (squares_outcome w choice e t) (squares_ends w choice e t) (squares_work w choice t)
      by P M = rw (← P.answer, ← P.ends, ← P.work) M

      go : Dec (limit < length w) → SquaresMeaning w choice e t (squares_outcome w choice e t) (squares_ends w choice e t) (squares_work w choice t)
      go (yes h) = by (promised_long h) (too_long h refl refl refl)
      go (no h) =
          by (promised_chosen (omega arith) _ _ _ record { answer = refl; ends = refl; work = refl })
          (chosen (omega arith) (chosen_means Square square? square_decides w choice e t (omega arith)))

  -- so the promises give the meaning
  pub squares_given : (o : Outcome) (x y : List ℕ) → Promised o x y → SquaresMeaning w choice e t o x y
  squares_given o x y P = rw (P.answer, P.ends, P.work) squares_means

  -- CLAIM: n/2 places for the ends suffice: no answer that means what the documents say is 7
  pub squares_suffice : length w / 2 ≤ length e → (o : Outcome) (x y : List ℕ) → SquaresMeaning w choice e t o x y → (i : ℕ) → o ≢ refused 7 i
  squares_suffice room o x y (too_long h f a b) i z = omega (arith, refused_number o 1 7 0 i f z)
  squares_suffice room o x y (chosen h C) i z = chosen_suffice Square w choice e t (squares_half w (length w)) room o x y C i z

-- ---- judge squares

module _ (w ends : List ℕ) where
  pub squares_judged_too_long : limit < length w → refused 1 0 ≡ squares_judged_outcome w ends
  unfolding squares_judged_outcome
  squares_judged_too_long h = rw (lt-ltb limit (length w) h) refl

  pub squares_judged_fine : length w ≤ limit → piece_verdict square? w ends ≡ squares_judged_outcome w ends
  unfolding squares_judged_outcome
  squares_judged_fine h = rw (le-ltb limit (length w) h) refl

  -- CLAIM: judge squares says what the documents ask
  pub squares_judged_means : SquaresJudgedMeaning w ends (squares_judged_outcome w ends)
  squares_judged_means = go (dec_lt limit (length w))
    where
      go : Dec (limit < length w) → SquaresJudgedMeaning w ends (squares_judged_outcome w ends)
      go (yes h) = judge.SquaresJudgedMeaning.too_long h (sym (squares_judged_too_long h))
      go (no h) = judge.SquaresJudgedMeaning.judged (omega arith) (subst (Judged Square w ends) (squares_judged_fine (omega arith)) (judged_means Square square? square_decides w ends))

  pub squares_judged_given : (o : Outcome) → o ≡ squares_judged_outcome w ends → SquaresJudgedMeaning w ends o
  squares_judged_given o e = rw e squares_judged_means
