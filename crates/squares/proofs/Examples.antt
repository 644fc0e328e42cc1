-- The examples of the request and of source document 002, computed from the definitions that the contracts of this crate cite: one table of cases with one claim,
-- the refusals, the judged splits, and a split of most squares. Assumes nothing.
use mathlib.Core.Path.{◌≡◌, refl}
use mathlib.Core.List.{List, [], ◌∷◌}
use Prim.Native.Nat.{ℕ}
use lib.Dec.{T}
use lib.ListN.{replicate}
use Rattle.answers.specs.Outcome.{Outcome, accepted, refused}
use Rattle.periods.specs.Square.{square?}
use Rattle.periods.proofs.Words.{word_a, word_aa, word_aaa, word_aaaa, word_aaaaa, word_aaaaaa, word_aabaabaa, word_aabb, word_ab, word_abaababaabbbaabbbb, word_ababa, word_abababab, word_baa, word_empty}
use Rattle.factors.specs.Factorization.{cell, best_ends}
use Rattle.factors.specs.Table.{none, sizes}
use Rattle.factors.specs.Verdict.{verdict}
use Rattle.factorizer.specs.Best.{chosen_outcome, chosen_ends, chosen_work}
use Rattle.factorizer.proofs.Cases.{lent_ends, lent_work, Case, all}
use Rattle.squares.specs.BestSquares.{squares_outcome, squares_ends, squares_work}
use Rattle.squares.specs.JudgeSquares.{squares_judged_outcome}

-- ---- best squares

-- a word by a choice, and what is expected
abbrev case : List ℕ → ℕ → Outcome → List ℕ → List ℕ → Case
case w choice answer ends best = record {
  word = w;
  gives = squares_outcome w choice (lent_ends w) (lent_work w);
  table = squares_ends w choice (lent_ends w) (lent_work w);
  work = squares_work w choice (lent_work w);
  answer = answer;
  ends = ends;
  best = best;
}

-- "aaaa has fewest 4, most 2,4. On aabaabaa both answers are 2,8." The last is Example 1 of document 002; no word of odd length has a split
abbrev pub examples : List Case
examples =
    case word_empty 1 (accepted (0 ∷ [])) [] (0 ∷ [])
    ∷ case word_empty 2 (accepted (0 ∷ [])) [] (0 ∷ [])
    ∷ case word_a 1 (refused 2 0) [] (0 ∷ none ∷ [])
    ∷ case word_a 2 (refused 2 0) [] (0 ∷ none ∷ [])
    ∷ case word_aa 1 (accepted (1 ∷ [])) (2 ∷ []) (0 ∷ none ∷ 1 ∷ [])
    ∷ case word_aa 2 (accepted (1 ∷ [])) (2 ∷ []) (0 ∷ none ∷ 1 ∷ [])
    ∷ case word_ab 1 (refused 2 0) [] (0 ∷ none ∷ none ∷ [])
    ∷ case word_ab 2 (refused 2 0) [] (0 ∷ none ∷ none ∷ [])
    ∷ case word_aaa 1 (refused 2 0) [] (0 ∷ none ∷ 1 ∷ none ∷ [])
    ∷ case word_aaa 2 (refused 2 0) [] (0 ∷ none ∷ 1 ∷ none ∷ [])
    ∷ case word_aaaa 1 (accepted (1 ∷ [])) (4 ∷ []) (0 ∷ none ∷ 1 ∷ none ∷ 1 ∷ [])
    ∷ case word_aaaa 2 (accepted (2 ∷ [])) (2 ∷ 4 ∷ []) (0 ∷ none ∷ 1 ∷ none ∷ 2 ∷ [])
    ∷ case word_aaaaa 1 (refused 2 0) [] (0 ∷ none ∷ 1 ∷ none ∷ 1 ∷ none ∷ [])
    ∷ case word_aaaaa 2 (refused 2 0) [] (0 ∷ none ∷ 1 ∷ none ∷ 2 ∷ none ∷ [])
    ∷ case word_aaaaaa 1 (accepted (1 ∷ [])) (6 ∷ []) (0 ∷ none ∷ 1 ∷ none ∷ 1 ∷ none ∷ 1 ∷ [])
    ∷ case word_aaaaaa 2 (accepted (3 ∷ [])) (2 ∷ 4 ∷ 6 ∷ []) (0 ∷ none ∷ 1 ∷ none ∷ 2 ∷ none ∷ 3 ∷ [])
    ∷ case word_ababa 1 (refused 2 0) [] (0 ∷ none ∷ none ∷ none ∷ 1 ∷ none ∷ [])
    ∷ case word_ababa 2 (refused 2 0) [] (0 ∷ none ∷ none ∷ none ∷ 1 ∷ none ∷ [])
    ∷ case word_abababab 1 (accepted (1 ∷ [])) (8 ∷ []) (0 ∷ none ∷ none ∷ none ∷ 1 ∷ none ∷ none ∷ none ∷ 1 ∷ [])
    ∷ case word_abababab 2 (accepted (2 ∷ [])) (4 ∷ 8 ∷ []) (0 ∷ none ∷ none ∷ none ∷ 1 ∷ none ∷ none ∷ none ∷ 2 ∷ [])
    ∷ case word_aabb 1 (accepted (2 ∷ [])) (2 ∷ 4 ∷ []) (0 ∷ none ∷ 1 ∷ none ∷ 2 ∷ [])
    ∷ case word_aabb 2 (accepted (2 ∷ [])) (2 ∷ 4 ∷ []) (0 ∷ none ∷ 1 ∷ none ∷ 2 ∷ [])
    ∷ case word_baa 1 (refused 2 0) [] (0 ∷ none ∷ none ∷ none ∷ [])
    ∷ case word_baa 2 (refused 2 0) [] (0 ∷ none ∷ none ∷ none ∷ [])
    ∷ case word_aabaabaa 1 (accepted (2 ∷ [])) (2 ∷ 8 ∷ []) (0 ∷ none ∷ 1 ∷ none ∷ none ∷ none ∷ 1 ∷ none ∷ 2 ∷ [])
    ∷ case word_aabaabaa 2 (accepted (2 ∷ [])) (2 ∷ 8 ∷ []) (0 ∷ none ∷ 1 ∷ none ∷ none ∷ none ∷ 1 ∷ none ∷ 2 ∷ [])
    ∷ case word_abaababaabbbaabbbb 1 (accepted (3 ∷ [])) (6 ∷ 16 ∷ 18 ∷ []) (0 ∷ none ∷ none ∷ none ∷ none ∷ none ∷ 1 ∷ none ∷ none ∷ none ∷ 1 ∷ none ∷ 2 ∷ none ∷ 3 ∷ none ∷ 2 ∷ none ∷ 3 ∷ [])
    ∷ case word_abaababaabbbaabbbb 2 (accepted (5 ∷ [])) (10 ∷ 12 ∷ 14 ∷ 16 ∷ 18 ∷ []) (0 ∷ none ∷ none ∷ none ∷ none ∷ none ∷ 1 ∷ none ∷ none ∷ none ∷ 1 ∷ none ∷ 2 ∷ none ∷ 3 ∷ none ∷ 4 ∷ none ∷ 5 ∷ [])
    ∷ []

-- CLAIM: the examples, answer, ends and working table
pub examples_hold : T (all examples)
unfolding squares_outcome squares_ends squares_work chosen_outcome chosen_ends chosen_work cell best_ends sizes square?
examples_hold = tt

-- "70,001 passes": 1 comes first, and both tables stay
pub squares_too_long_first : squares_outcome (replicate 70001 97) 0 [] [] ≡ refused 1 0
unfolding squares_outcome
squares_too_long_first = refl

pub squares_too_long_ends : squares_ends (replicate 70001 97) 1 (7 ∷ []) (9 ∷ []) ≡ 7 ∷ []
unfolding squares_ends
squares_too_long_ends = refl

pub squares_too_long_work : squares_work (replicate 70001 97) 1 (9 ∷ []) ≡ 9 ∷ []
unfolding squares_work
squares_too_long_work = refl

-- the longest word that is taken
pub squares_longest : squares_outcome (replicate 70000 97) 1 [] [] ≡ refused 9 0
unfolding squares_outcome chosen_outcome
squares_longest = refl

pub squares_choice_zero : squares_outcome word_aaaa 0 [] [] ≡ refused 8 0
unfolding squares_outcome chosen_outcome
squares_choice_zero = refl

pub squares_choice_three : squares_outcome word_aaaa 3 [] [] ≡ refused 8 0
unfolding squares_outcome chosen_outcome
squares_choice_three = refl

-- "9: a working table under 4×(n+1) places"
pub squares_table_a_place_short : squares_outcome word_aa 1 (7 ∷ []) (replicate 11 9) ≡ refused 9 0
unfolding squares_outcome chosen_outcome
squares_table_a_place_short = refl

-- no split comes before too few places
pub squares_no_split_first : squares_outcome word_aaa 1 [] (replicate 16 9) ≡ refused 2 0
unfolding squares_outcome chosen_outcome cell square?
squares_no_split_first = refl

-- 7: the ends' table stays, the working table does not
pub squares_a_place_short : squares_outcome word_aaaa 2 (7 ∷ []) (replicate 20 9) ≡ refused 7 0
unfolding squares_outcome chosen_outcome cell square?
squares_a_place_short = refl

pub squares_a_place_short_ends : squares_ends word_aaaa 2 (7 ∷ []) (replicate 20 9) ≡ 7 ∷ []
unfolding squares_ends chosen_ends cell best_ends square?
squares_a_place_short_ends = refl

pub squares_a_place_short_work : squares_work word_aaaa 2 (replicate 20 9) ≡ 0 ∷ 4294967295 ∷ 1 ∷ 4294967295 ∷ 2 ∷ replicate 15 0
unfolding squares_work chosen_work sizes square?
squares_a_place_short_work = refl

-- ---- judged splits

-- "A square's half need not be primitive"
pub judged_4 : squares_judged_outcome word_aaaa (4 ∷ []) ≡ accepted (1 ∷ [])
unfolding squares_judged_outcome verdict square?
judged_4 = refl

pub judged_2_4 : squares_judged_outcome word_aaaa (2 ∷ 4 ∷ []) ≡ accepted (2 ∷ [])
unfolding squares_judged_outcome verdict square?
judged_2_4 = refl

-- "two largest square factorizations: (aa, baabaa) and (aabaab, aa)"
pub judged_2_8 : squares_judged_outcome word_aabaabaa (2 ∷ 8 ∷ []) ≡ accepted (2 ∷ [])
unfolding squares_judged_outcome verdict square?
judged_2_8 = refl

pub judged_6_8 : squares_judged_outcome word_aabaabaa (6 ∷ 8 ∷ []) ≡ accepted (2 ∷ [])
unfolding squares_judged_outcome verdict square?
judged_6_8 = refl

-- a block that is no square: it has a rest
pub judged_8 : squares_judged_outcome word_aabaabaa (8 ∷ []) ≡ refused 4 1
unfolding squares_judged_outcome verdict square?
judged_8 = refl

-- an odd length
pub judged_3 : squares_judged_outcome word_aaa (3 ∷ []) ≡ refused 4 1
unfolding squares_judged_outcome verdict square?
judged_3 = refl

pub judged_2_3 : squares_judged_outcome word_aaa (2 ∷ 3 ∷ []) ≡ refused 4 2
unfolding squares_judged_outcome verdict square?
judged_2_3 = refl

-- halves that differ
pub judged_halves : squares_judged_outcome word_ab (2 ∷ []) ≡ refused 4 1
unfolding squares_judged_outcome verdict square?
judged_halves = refl

-- "for each end in turn 3, 4; then 5"
pub judged_2_2_8 : squares_judged_outcome word_aabaabaa (2 ∷ 2 ∷ 8 ∷ []) ≡ refused 3 2
unfolding squares_judged_outcome verdict square?
judged_2_2_8 = refl

pub judged_2_9 : squares_judged_outcome word_aabaabaa (2 ∷ 9 ∷ []) ≡ refused 3 2
unfolding squares_judged_outcome verdict square?
judged_2_9 = refl

pub judged_2 : squares_judged_outcome word_aabaabaa (2 ∷ []) ≡ refused 5 0
unfolding squares_judged_outcome verdict square?
judged_2 = refl

pub judged_no_ends : squares_judged_outcome word_aabaabaa [] ≡ refused 5 0
unfolding squares_judged_outcome verdict square?
judged_no_ends = refl

pub judged_empty : squares_judged_outcome [] [] ≡ accepted (0 ∷ [])
unfolding squares_judged_outcome verdict square?
judged_empty = refl

-- F1, F2 and F3 of Example 1 of document 002, the first factor of F1 and F2 being abaababaab
pub judged_f1 : squares_judged_outcome word_abaababaabbbaabbbb (10 ∷ 12 ∷ 14 ∷ 16 ∷ 18 ∷ []) ≡ accepted (5 ∷ [])
unfolding squares_judged_outcome verdict square?
judged_f1 = refl

pub judged_f2 : squares_judged_outcome word_abaababaabbbaabbbb (10 ∷ 12 ∷ 14 ∷ 18 ∷ []) ≡ accepted (4 ∷ [])
unfolding squares_judged_outcome verdict square?
judged_f2 = refl

pub judged_f3 : squares_judged_outcome word_abaababaabbbaabbbb (6 ∷ 16 ∷ 18 ∷ []) ≡ accepted (3 ∷ [])
unfolding squares_judged_outcome verdict square?
judged_f3 = refl

pub judged_too_long : squares_judged_outcome (replicate 70001 97) [] ≡ refused 1 0
unfolding squares_judged_outcome
judged_too_long = refl
