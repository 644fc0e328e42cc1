-- What the exported functions give for the documents' answers, computed. Assumes nothing.
use mathlib.Core.Path.{◌≡◌, refl}
use mathlib.Core.List.{[], ◌∷◌}
use lib.ListN.{replicate}
use Rattle.periods.specs.Period.{smallest_period, repetition?}
use Rattle.periods.specs.Edition.{bad_edition?, turns_of}
use Rattle.periods.specs.Part.{part_outcome, description}
use Rattle.factors.specs.Factorization.{cell, best_ends}
use Rattle.factors.specs.Verdict.{verdict}
use Rattle.repetitions.specs.Judge.{split_outcome}
use Rattle.periods.specs.Square.{square?}
use Rattle.factorizer.specs.Best.{chosen_outcome}
use Rattle.squares.specs.BestSquares.{squares_outcome}
use Rattle.squares.specs.JudgeSquares.{squares_judged_outcome}
use Rattle.comparison.specs.Calls.{compared, which_outcome}
use Rattle.cegridom.specs.Export.{result_of, index_of, value_of, version}
use Rattle.periods.proofs.Words.{word_aaaa, word_aabaabaa, word_ab, word_ababa}

-- "ababa * | 5 (unit 2, turns 2, rest 1)": accepted, with four values
pub part_result : result_of (part_outcome word_ababa 1 1 5 5) ∷ index_of (part_outcome word_ababa 1 1 5 5) ∷ [] ≡ 0 ∷ 0 ∷ []
unfolding part_outcome description repetition? smallest_period bad_edition? turns_of
part_result = refl

pub part_values : value_of 0 (part_outcome word_ababa 1 1 5 5) ∷ value_of 1 (part_outcome word_ababa 1 1 5 5) ∷ value_of 2 (part_outcome word_ababa 1 1 5 5) ∷ value_of 3 (part_outcome word_ababa 1 1 5 5) ∷ [] ≡ 2 ∷ 2 ∷ 1 ∷ 1 ∷ []
unfolding part_outcome description repetition? smallest_period bad_edition? turns_of
part_values = refl

-- "2,2,8 gives 3 at index 2", and no number of blocks
pub judged_2_2_8 : result_of (split_outcome word_aabaabaa 1 (2 ∷ 2 ∷ 8 ∷ [])) ∷ index_of (split_outcome word_aabaabaa 1 (2 ∷ 2 ∷ 8 ∷ [])) ∷ value_of 0 (split_outcome word_aabaabaa 1 (2 ∷ 2 ∷ 8 ∷ [])) ∷ [] ≡ 3 ∷ 2 ∷ 0 ∷ []
unfolding split_outcome verdict repetition? smallest_period bad_edition? turns_of
judged_2_2_8 = refl

-- "12, an edition other than 1 or 2": no value, no index
pub edition_3_result : result_of (part_outcome word_ababa 3 1 5 5) ∷ index_of (part_outcome word_ababa 3 1 5 5) ∷ value_of 0 (part_outcome word_ababa 3 1 5 5) ∷ [] ≡ 12 ∷ 0 ∷ 0 ∷ []
unfolding part_outcome bad_edition?
edition_3_result = refl

-- "7 can now come from the part call, after 6": no value, no index
pub part_a_place_short : result_of (part_outcome word_ababa 1 1 5 4) ∷ index_of (part_outcome word_ababa 1 1 5 4) ∷ value_of 0 (part_outcome word_ababa 1 1 5 4) ∷ [] ≡ 7 ∷ 0 ∷ 0 ∷ []
unfolding part_outcome bad_edition?
part_a_place_short = refl

-- "one call answers 1 or 2": accepted, with the number of the word; 2 without one
pub which_result : result_of (which_outcome word_ab word_ababa 1 24) ∷ value_of 0 (which_outcome word_ab word_ababa 1 24) ∷ index_of (which_outcome word_ab word_ababa 1 24) ∷ [] ≡ 0 ∷ 2 ∷ 0 ∷ []
unfolding compared cell best_ends repetition? smallest_period bad_edition? turns_of
which_result = refl

pub which_neither : result_of (which_outcome word_ab word_ab 1 12) ∷ value_of 0 (which_outcome word_ab word_ab 1 12) ∷ index_of (which_outcome word_ab word_ab 1 12) ∷ [] ≡ 2 ∷ 0 ∷ 0 ∷ []
unfolding compared cell best_ends repetition? smallest_period bad_edition? turns_of
which_neither = refl

-- "aaaa has fewest 4, most 2,4": the size; "4 is there a piece that is not a square", with its index
pub squares_result : result_of (squares_outcome word_aaaa 2 (replicate 2 7) (replicate 20 9)) ∷ value_of 0 (squares_outcome word_aaaa 2 (replicate 2 7) (replicate 20 9)) ∷ index_of (squares_outcome word_aaaa 2 (replicate 2 7) (replicate 20 9)) ∷ [] ≡ 0 ∷ 2 ∷ 0 ∷ []
unfolding squares_outcome chosen_outcome cell square?
squares_result = refl

pub squares_judged : result_of (squares_judged_outcome word_aaaa (2 ∷ 3 ∷ [])) ∷ value_of 0 (squares_judged_outcome word_aaaa (2 ∷ 3 ∷ [])) ∷ index_of (squares_judged_outcome word_aaaa (2 ∷ 3 ∷ [])) ∷ [] ≡ 4 ∷ 0 ∷ 2 ∷ []
unfolding squares_judged_outcome verdict square?
squares_judged = refl

-- 0.10
pub version_is_0_11 : version ≡ 11
version_is_0_11 = refl
