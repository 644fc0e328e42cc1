-- The documents' examples of the definitions that the contracts of this crate cite, computed: the starred sequences in both editions as one table each with
-- one claim, the two longest sequences of letters, the tie rule, the judged splits, and what unit memory holds. Assumes nothing.
use mathlib.Core.Path.{◌≡◌, refl, ap, ◌∙◌}
use mathlib.Core.Logic.{inl, inr}
use mathlib.Core.Bool.{true, false}
use mathlib.Core.List.{List, [], ◌∷◌, ◌++◌}
use Prim.Native.Nat.{ℕ, zero, suc, ◌+◌, ◌≤◌}
use native.Mathlib.Omega.{arith}
use native.Mathlib.Nat.{zero-add}
use lib.Dec.{T, leb→le}
use lib.ListN.{get_or, replicate, get_or-append, get_or-replicate}
use Rattle.answers.specs.Outcome.{Outcome, accepted, refused}
use Rattle.periods.specs.Period.{smallest_period, repetition?, unit_memory, held_period}
use Rattle.periods.specs.Square.{power}
use Rattle.periods.specs.Edition.{bad_edition?, turns_of}
use Rattle.factors.specs.Factorization.{LongerFromEnd, cell, best_ends}
use Rattle.factors.specs.Table.{none, sizes}
use Rattle.factors.specs.Verdict.{verdict}
use Rattle.factorizer.specs.Best.{chosen_outcome, chosen_ends, chosen_work}
use Rattle.factorizer.proofs.Cases.{lent_ends, lent_work, Case, all}
use Rattle.repetitions.specs.Block.{block?}
use Rattle.repetitions.specs.BestSplit.{best_outcome, best_ends_table, best_work, Unsplittable}
use Rattle.repetitions.specs.Judge.{split_outcome}
use Rattle.repetitions.proofs.Blocks.{block_in}
use Rattle.periods.proofs.Words.{one_and, word_a, word_aa, word_aaa, word_aaaa, word_aaaaa, word_aaaaaa, word_aabaabaa, word_aabaabaacbbcbbcbb, word_aabb, word_ab, word_abaabaababaabaabababa, word_ababa, word_baa, word_empty}

-- ---- the starred cases

-- a word in an edition and by a choice, and what is expected
abbrev case : ℕ → List ℕ → ℕ → Outcome → List ℕ → List ℕ → Case
case edition w choice answer ends best = record {
  word = w;
  gives = best_outcome w edition choice (lent_ends w) (lent_work w);
  table = best_ends_table w edition choice (lent_ends w) (lent_work w);
  work = best_work w edition choice (lent_work w);
  answer = answer;
  ends = ends;
  best = best;
}

-- document 01's table; its row "ab * | 2 | 2" means refusal 2, since ab is no block
abbrev pub starred : List Case
starred =
    case 1 word_empty 1 (accepted (0 ∷ [])) [] (0 ∷ [])
    ∷ case 1 word_empty 2 (accepted (0 ∷ [])) [] (0 ∷ [])
    ∷ case 1 word_a 1 (refused 2 0) [] (0 ∷ none ∷ [])
    ∷ case 1 word_a 2 (refused 2 0) [] (0 ∷ none ∷ [])
    ∷ case 1 word_ab 1 (refused 2 0) [] (0 ∷ none ∷ none ∷ [])
    ∷ case 1 word_ab 2 (refused 2 0) [] (0 ∷ none ∷ none ∷ [])
    ∷ case 1 word_aa 1 (accepted (1 ∷ [])) (2 ∷ []) (0 ∷ none ∷ 1 ∷ [])
    ∷ case 1 word_aa 2 (accepted (1 ∷ [])) (2 ∷ []) (0 ∷ none ∷ 1 ∷ [])
    ∷ case 1 word_aaaa 1 (accepted (1 ∷ [])) (4 ∷ []) (0 ∷ none ∷ 1 ∷ 1 ∷ 1 ∷ [])
    ∷ case 1 word_aaaa 2 (accepted (2 ∷ [])) (2 ∷ 4 ∷ []) (0 ∷ none ∷ 1 ∷ 1 ∷ 2 ∷ [])
    ∷ case 1 word_aaaaa 1 (accepted (1 ∷ [])) (5 ∷ []) (0 ∷ none ∷ 1 ∷ 1 ∷ 1 ∷ 1 ∷ [])
    ∷ case 1 word_aaaaa 2 (accepted (2 ∷ [])) (2 ∷ 5 ∷ []) (0 ∷ none ∷ 1 ∷ 1 ∷ 2 ∷ 2 ∷ [])
    ∷ case 1 word_ababa 1 (accepted (1 ∷ [])) (5 ∷ []) (0 ∷ none ∷ none ∷ none ∷ 1 ∷ 1 ∷ [])
    ∷ case 1 word_ababa 2 (accepted (1 ∷ [])) (5 ∷ []) (0 ∷ none ∷ none ∷ none ∷ 1 ∷ 1 ∷ [])
    ∷ case 1 word_baa 1 (refused 2 0) [] (0 ∷ none ∷ none ∷ none ∷ [])
    ∷ case 1 word_baa 2 (refused 2 0) [] (0 ∷ none ∷ none ∷ none ∷ [])
    ∷ case 1 word_aabb 1 (accepted (2 ∷ [])) (2 ∷ 4 ∷ []) (0 ∷ none ∷ 1 ∷ none ∷ 2 ∷ [])
    ∷ case 1 word_aabb 2 (accepted (2 ∷ [])) (2 ∷ 4 ∷ []) (0 ∷ none ∷ 1 ∷ none ∷ 2 ∷ [])
    ∷ case 1 word_aabaabaa 1 (accepted (1 ∷ [])) (8 ∷ []) (0 ∷ none ∷ 1 ∷ none ∷ none ∷ none ∷ 1 ∷ 1 ∷ 1 ∷ [])
    ∷ case 1 word_aabaabaa 2 (accepted (2 ∷ [])) (2 ∷ 8 ∷ []) (0 ∷ none ∷ 1 ∷ none ∷ none ∷ none ∷ 1 ∷ 1 ∷ 2 ∷ [])
    ∷ []

-- CLAIM: the starred cases, answer, ends and working table
pub starred_hold : T (all starred)
unfolding best_outcome best_ends_table best_work chosen_outcome chosen_ends chosen_work cell best_ends sizes repetition? smallest_period bad_edition? turns_of
starred_hold = tt

-- the same sequences in edition 2, and two more of equal symbols: "In edition 2 a block has length ≥ 3 × unit"
abbrev pub starred_in_2 : List Case
starred_in_2 =
    case 2 word_empty 1 (accepted (0 ∷ [])) [] (0 ∷ [])
    ∷ case 2 word_empty 2 (accepted (0 ∷ [])) [] (0 ∷ [])
    ∷ case 2 word_a 1 (refused 2 0) [] (0 ∷ none ∷ [])
    ∷ case 2 word_a 2 (refused 2 0) [] (0 ∷ none ∷ [])
    ∷ case 2 word_ab 1 (refused 2 0) [] (0 ∷ none ∷ none ∷ [])
    ∷ case 2 word_ab 2 (refused 2 0) [] (0 ∷ none ∷ none ∷ [])
    ∷ case 2 word_aa 1 (refused 2 0) [] (0 ∷ none ∷ none ∷ [])
    ∷ case 2 word_aa 2 (refused 2 0) [] (0 ∷ none ∷ none ∷ [])
    ∷ case 2 word_aaa 1 (accepted (1 ∷ [])) (3 ∷ []) (0 ∷ none ∷ none ∷ 1 ∷ [])
    ∷ case 2 word_aaa 2 (accepted (1 ∷ [])) (3 ∷ []) (0 ∷ none ∷ none ∷ 1 ∷ [])
    ∷ case 2 word_aaaa 1 (accepted (1 ∷ [])) (4 ∷ []) (0 ∷ none ∷ none ∷ 1 ∷ 1 ∷ [])
    ∷ case 2 word_aaaa 2 (accepted (1 ∷ [])) (4 ∷ []) (0 ∷ none ∷ none ∷ 1 ∷ 1 ∷ [])
    ∷ case 2 word_aaaaa 1 (accepted (1 ∷ [])) (5 ∷ []) (0 ∷ none ∷ none ∷ 1 ∷ 1 ∷ 1 ∷ [])
    ∷ case 2 word_aaaaa 2 (accepted (1 ∷ [])) (5 ∷ []) (0 ∷ none ∷ none ∷ 1 ∷ 1 ∷ 1 ∷ [])
    ∷ case 2 word_aaaaaa 1 (accepted (1 ∷ [])) (6 ∷ []) (0 ∷ none ∷ none ∷ 1 ∷ 1 ∷ 1 ∷ 1 ∷ [])
    ∷ case 2 word_aaaaaa 2 (accepted (2 ∷ [])) (3 ∷ 6 ∷ []) (0 ∷ none ∷ none ∷ 1 ∷ 1 ∷ 1 ∷ 2 ∷ [])
    ∷ case 2 word_ababa 1 (refused 2 0) [] (0 ∷ none ∷ none ∷ none ∷ none ∷ none ∷ [])
    ∷ case 2 word_ababa 2 (refused 2 0) [] (0 ∷ none ∷ none ∷ none ∷ none ∷ none ∷ [])
    ∷ case 2 word_baa 1 (refused 2 0) [] (0 ∷ none ∷ none ∷ none ∷ [])
    ∷ case 2 word_baa 2 (refused 2 0) [] (0 ∷ none ∷ none ∷ none ∷ [])
    ∷ case 2 word_aabb 1 (refused 2 0) [] (0 ∷ none ∷ none ∷ none ∷ none ∷ [])
    ∷ case 2 word_aabb 2 (refused 2 0) [] (0 ∷ none ∷ none ∷ none ∷ none ∷ [])
    ∷ case 2 word_aabaabaa 1 (refused 2 0) [] (0 ∷ none ∷ none ∷ none ∷ none ∷ none ∷ none ∷ none ∷ none ∷ [])
    ∷ case 2 word_aabaabaa 2 (refused 2 0) [] (0 ∷ none ∷ none ∷ none ∷ none ∷ none ∷ none ∷ none ∷ none ∷ [])
    ∷ []

-- CLAIM: the same in edition 2
pub starred_in_2_hold : T (all starred_in_2)
unfolding best_outcome best_ends_table best_work chosen_outcome chosen_ends chosen_work cell best_ends sizes repetition? smallest_period bad_edition? turns_of
starred_in_2_hold = tt

-- ---- the two longest sequences of letters

pub fewest_of_001 : best_outcome word_abaabaababaabaabababa 1 1 (replicate 4 7) (replicate 88 9) ≡ accepted (2 ∷ [])
unfolding best_outcome chosen_outcome cell repetition? smallest_period bad_edition? turns_of
fewest_of_001 = refl

pub fewest_ends_of_001 : best_ends_table word_abaabaababaabaabababa 1 1 (replicate 4 7) (replicate 88 9) ≡ 16 ∷ 21 ∷ 7 ∷ 7 ∷ []
unfolding best_ends_table chosen_ends cell best_ends repetition? smallest_period bad_edition? turns_of
fewest_ends_of_001 = refl

pub most_of_001 : best_outcome word_abaabaababaabaabababa 1 2 (replicate 4 7) (replicate 88 9) ≡ accepted (4 ∷ [])
unfolding best_outcome chosen_outcome cell repetition? smallest_period bad_edition? turns_of
most_of_001 = refl

pub most_ends_of_001 : best_ends_table word_abaabaababaabaabababa 1 2 (replicate 4 7) (replicate 88 9) ≡ 6 ∷ 10 ∷ 16 ∷ 21 ∷ []
unfolding best_ends_table chosen_ends cell best_ends repetition? smallest_period bad_edition? turns_of
most_ends_of_001 = refl

pub fewest_of_000 : best_outcome word_aabaabaacbbcbbcbb 1 1 (replicate 4 7) (replicate 72 9) ≡ accepted (2 ∷ [])
unfolding best_outcome chosen_outcome cell repetition? smallest_period bad_edition? turns_of
fewest_of_000 = refl

pub fewest_ends_of_000 : best_ends_table word_aabaabaacbbcbbcbb 1 1 (replicate 4 7) (replicate 72 9) ≡ 8 ∷ 17 ∷ 7 ∷ 7 ∷ []
unfolding best_ends_table chosen_ends cell best_ends repetition? smallest_period bad_edition? turns_of
fewest_ends_of_000 = refl

pub most_of_000 : best_outcome word_aabaabaacbbcbbcbb 1 2 (replicate 4 7) (replicate 72 9) ≡ accepted (4 ∷ [])
unfolding best_outcome chosen_outcome cell repetition? smallest_period bad_edition? turns_of
most_of_000 = refl

pub most_ends_of_000 : best_ends_table word_aabaabaacbbcbbcbb 1 2 (replicate 4 7) (replicate 72 9) ≡ 2 ∷ 8 ∷ 15 ∷ 17 ∷ []
unfolding best_ends_table chosen_ends cell best_ends repetition? smallest_period bad_edition? turns_of
most_ends_of_000 = refl

-- ---- refusals of best split

-- "70,001 passes": 1 comes first, and both tables stay
pub best_too_long_first : best_outcome (replicate 70001 97) 1 0 [] [] ≡ refused 1 0
unfolding best_outcome chosen_outcome bad_edition? turns_of
best_too_long_first = refl

pub best_too_long_ends : best_ends_table (replicate 70001 97) 1 1 (7 ∷ []) (9 ∷ []) ≡ 7 ∷ []
unfolding best_ends_table chosen_ends bad_edition? turns_of
best_too_long_ends = refl

pub best_too_long_work : best_work (replicate 70001 97) 1 1 (9 ∷ []) ≡ 9 ∷ []
unfolding best_work chosen_work bad_edition? turns_of
best_too_long_work = refl

pub best_choice_zero : best_outcome word_aaaa 1 0 [] [] ≡ refused 8 0
unfolding best_outcome chosen_outcome bad_edition? turns_of
best_choice_zero = refl

pub best_choice_three : best_outcome word_aaaa 1 3 [] [] ≡ refused 8 0
unfolding best_outcome chosen_outcome bad_edition? turns_of
best_choice_three = refl

-- "12, an edition other than 1 or 2, directly after 1": after 1, before 8, and both tables stay
pub best_edition_0 : best_outcome word_aaaa 0 0 [] [] ≡ refused 12 0
unfolding best_outcome chosen_outcome bad_edition?
best_edition_0 = refl

pub best_edition_3 : best_outcome word_aaaa 3 3 [] [] ≡ refused 12 0
unfolding best_outcome chosen_outcome bad_edition?
best_edition_3 = refl

pub best_too_long_before_edition : best_outcome (replicate 70001 97) 3 1 [] [] ≡ refused 1 0
unfolding best_outcome chosen_outcome
best_too_long_before_edition = refl

pub best_edition_3_ends : best_ends_table word_aa 3 1 (7 ∷ []) (replicate 12 9) ≡ 7 ∷ []
unfolding best_ends_table chosen_ends bad_edition?
best_edition_3_ends = refl

pub best_edition_3_work : best_work word_aa 3 1 (replicate 12 9) ≡ replicate 12 9
unfolding best_work chosen_work bad_edition?
best_edition_3_work = refl

-- "9: a working table under 4×(n+1) places"
pub best_table_a_place_short : best_outcome word_aa 1 1 (7 ∷ []) (replicate 11 9) ≡ refused 9 0
unfolding best_outcome chosen_outcome bad_edition? turns_of
best_table_a_place_short = refl

-- no split comes before too few places
pub best_no_split_first : best_outcome word_ab 1 1 [] (replicate 12 9) ≡ refused 2 0
unfolding best_outcome chosen_outcome cell repetition? smallest_period bad_edition? turns_of
best_no_split_first = refl

-- "7: fewer output places than the answer needs"; the ends' table stays, the working table does not
pub best_a_place_short : best_outcome word_aaaa 1 2 (7 ∷ []) (replicate 20 9) ≡ refused 7 0
unfolding best_outcome chosen_outcome cell repetition? smallest_period bad_edition? turns_of
best_a_place_short = refl

pub best_a_place_short_ends : best_ends_table word_aaaa 1 2 (7 ∷ []) (replicate 20 9) ≡ 7 ∷ []
unfolding best_ends_table chosen_ends cell best_ends repetition? smallest_period bad_edition? turns_of
best_a_place_short_ends = refl

pub best_a_place_short_work : best_work word_aaaa 1 2 (replicate 20 9) ≡ 0 ∷ none ∷ 1 ∷ 1 ∷ 2 ∷ replicate 15 0
unfolding best_work chosen_work sizes repetition? smallest_period bad_edition? turns_of
best_a_place_short_work = refl

-- "4,294,967,295 where none exists", then 3×(n+1) zeros: ab has no split, nor has a
pub best_none_is_the_number : best_work word_ab 1 1 (replicate 12 9) ≡ 0 ∷ 4294967295 ∷ 4294967295 ∷ replicate 9 0
unfolding best_work chosen_work cell sizes repetition? smallest_period bad_edition? turns_of
best_none_is_the_number = refl

-- ---- judged splits

-- "Judged on aabaabaa: 3,8 gives 4 at index 1; 2,2,8 gives 3 at index 2; 2,9 gives 3 at index 2; no ends gives 5."
pub judged_3_8 : split_outcome word_aabaabaa 1 (3 ∷ 8 ∷ []) ≡ refused 4 1
unfolding split_outcome verdict repetition? smallest_period bad_edition? turns_of
judged_3_8 = refl

pub judged_2_2_8 : split_outcome word_aabaabaa 1 (2 ∷ 2 ∷ 8 ∷ []) ≡ refused 3 2
unfolding split_outcome verdict repetition? smallest_period bad_edition? turns_of
judged_2_2_8 = refl

pub judged_2_9 : split_outcome word_aabaabaa 1 (2 ∷ 9 ∷ []) ≡ refused 3 2
unfolding split_outcome verdict repetition? smallest_period bad_edition? turns_of
judged_2_9 = refl

pub judged_no_ends : split_outcome word_aabaabaa 1 [] ≡ refused 5 0
unfolding split_outcome verdict bad_edition? turns_of
judged_no_ends = refl

pub judged_8 : split_outcome word_aabaabaa 1 (8 ∷ []) ≡ accepted (1 ∷ [])
unfolding split_outcome verdict repetition? smallest_period bad_edition? turns_of
judged_8 = refl

pub judged_2_8 : split_outcome word_aabaabaa 1 (2 ∷ 8 ∷ []) ≡ accepted (2 ∷ [])
unfolding split_outcome verdict repetition? smallest_period bad_edition? turns_of
judged_2_8 = refl

-- the end of the leading part is not that of the word
pub judged_2 : split_outcome word_aabaabaa 1 (2 ∷ []) ≡ refused 5 0
unfolding split_outcome verdict repetition? smallest_period bad_edition? turns_of
judged_2 = refl

-- "000 shows another largest split, of the same size 4"
pub judged_other_largest : split_outcome word_aabaabaacbbcbbcbb 1 (6 ∷ 8 ∷ 15 ∷ 17 ∷ []) ≡ accepted (4 ∷ [])
unfolding split_outcome verdict repetition? smallest_period bad_edition? turns_of
judged_other_largest = refl

-- edition 2: three turns of a are a block, two are none
pub judged_in_2 : split_outcome word_aaaaaa 2 (3 ∷ 6 ∷ []) ≡ accepted (2 ∷ [])
unfolding split_outcome verdict repetition? smallest_period bad_edition? turns_of
judged_in_2 = refl

pub judged_two_turns_in_2 : split_outcome word_aaaaaa 2 (2 ∷ 6 ∷ []) ≡ refused 4 1
unfolding split_outcome verdict repetition? smallest_period bad_edition? turns_of
judged_two_turns_in_2 = refl

-- one more b gives aabaabaa its third turn
pub judged_aabaabaab_in_2 : split_outcome (word_aabaabaa ++ (98 ∷ [])) 2 (9 ∷ []) ≡ accepted (1 ∷ [])
unfolding split_outcome verdict repetition? smallest_period bad_edition? turns_of
judged_aabaabaab_in_2 = refl

-- "12 ... directly after 1": before 3
pub judged_edition_0 : split_outcome word_aabaabaa 0 (0 ∷ []) ≡ refused 12 0
unfolding split_outcome bad_edition?
judged_edition_0 = refl

pub judged_edition_3 : split_outcome word_aabaabaa 3 [] ≡ refused 12 0
unfolding split_outcome bad_edition?
judged_edition_3 = refl

pub judged_empty : split_outcome [] 1 [] ≡ accepted (0 ∷ [])
unfolding split_outcome verdict bad_edition? turns_of
judged_empty = refl

-- ---- what unit memory holds

-- "One pass of code 1 and 256 of code 0, all wound twice, was a block of unit 257 in edition 1 and is one no longer"; with 255 of code 0 it is one
pub judged_unit_257 : split_outcome (power 2 (one_and 256)) 1 (514 ∷ []) ≡ refused 4 1
unfolding split_outcome verdict repetition? smallest_period bad_edition? turns_of
judged_unit_257 = refl

pub judged_unit_256 : split_outcome (power 2 (one_and 255)) 1 (512 ∷ []) ≡ accepted (1 ∷ [])
unfolding split_outcome verdict repetition? smallest_period bad_edition? turns_of
judged_unit_256 = refl

-- "in both editions"
pub judged_unit_257_in_2 : split_outcome (power 3 (one_and 256)) 2 (771 ∷ []) ≡ refused 4 1
unfolding split_outcome verdict repetition? smallest_period bad_edition? turns_of
judged_unit_257_in_2 = refl

pub judged_unit_256_in_2 : split_outcome (power 3 (one_and 255)) 2 (768 ∷ []) ≡ accepted (1 ∷ [])
unfolding split_outcome verdict repetition? smallest_period bad_edition? turns_of
judged_unit_256_in_2 = refl

-- it has no split at all: the first block would have a unit of at most 256, and so many symbols after its 1 another 1
pub unit_257_unsplittable : Unsplittable 2 (power 2 (one_and 256))
unit_257_unsplittable [] F = absurd (omega (arith, F))
unit_257_unsplittable (e ∷ es) F =
    let K = block_in held_period 2 (power 2 (one_and 256)) 0 e F.0 in
    let P = K.smallest.period in
    let low = leb→le K.period unit_memory K.permitted in
    omega (arith, P.same 0 (omega arith) (omega (arith, K.long, P.positive)), zeros_after K.period P.positive low)
  where
    zeros_after : (p : ℕ) → 1 ≤ p → p ≤ 256 → get_or (power 2 (one_and 256)) (0 + p) 0 ≡ 0
    zeros_after zero a b = absurd (omega arith)
    zeros_after (suc q) a b =
        ap (λ (x : ℕ). get_or (power 2 (one_and 256)) x 0) (zero-add (suc q)) ∙ get_or-append (one_and 256) (one_and 256) 0 (suc q) (omega arith) ∙ get_or-replicate 256 q 0 0 (omega arith)

-- ---- the tie rule

-- "the last block is longest": of the two splits of aabaabaa into two blocks 2,8 wins, with last blocks of 6 and of 2 passes
pub two_eight_wins : LongerFromEnd (2 ∷ 8 ∷ []) (6 ∷ 8 ∷ [])
two_eight_wins = inl (omega arith)

-- "then the one before it": with equal last blocks the one before decides
pub one_before_decides : LongerFromEnd (2 ∷ 8 ∷ 10 ∷ []) (4 ∷ 8 ∷ 10 ∷ [])
one_before_decides = inr (refl, inl (omega arith))

-- ---- splits that only look best

-- "Taking the longest block each time: abaabaababaabaabababa then starts with 19 passes and is called unsplittable": its longest block at the start has 19,
-- what is left is none, and there is a split (`fewest_of_001`)
pub longest_first_is_19 : block? held_period 2 word_abaabaababaabaabababa 0 19 ≡ true
unfolding repetition? smallest_period
longest_first_is_19 = refl

pub longest_first_not_20 : block? held_period 2 word_abaabaababaabaabababa 0 20 ≡ false
unfolding repetition? smallest_period
longest_first_not_20 = refl

pub longest_first_not_21 : block? held_period 2 word_abaabaababaabaabababa 0 21 ≡ false
unfolding repetition? smallest_period
longest_first_not_21 = refl

pub longest_first_fails : split_outcome word_abaabaababaabaabababa 1 (19 ∷ 21 ∷ []) ≡ refused 4 2
unfolding split_outcome verdict repetition? smallest_period bad_edition? turns_of
longest_first_fails = refl
