-- The documents' sequences in pairs, computed by the definitions that the contracts of this crate cite: each word winning, ties, words that cannot be split, the
-- empty word, both editions and each refusal, as tables with one claim each. Assumes nothing.
use mathlib.Core.Path.{◌≡◌, refl}
use mathlib.Core.Bool.{Bool, true, ◌&&◌}
use mathlib.Core.List.{List, [], ◌∷◌, ◌++◌}
use Prim.Native.Nat.{ℕ, ◌+◌, ◌*◌}
use lib.Dec.{T}
use lib.ListN.{length, replicate}
use Rattle.laws.proofs.Tests.{and_left, and_right}
use Rattle.answers.specs.Outcome.{Outcome, accepted, refused}
use Rattle.answers.proofs.Same.{same?, same_outcome?, same_means, same_outcome_means}
use Rattle.periods.specs.Period.{smallest_period, repetition?}
use Rattle.periods.specs.Edition.{bad_edition?, turns_of}
use Rattle.factors.specs.Factorization.{cell, best_ends}
use Rattle.comparison.specs.Calls.{longer, compared, which_outcome, which_work, first_which, first_length, first_block}
use Rattle.periods.proofs.Words.{word_a, word_aa, word_aaa, word_aaaa, word_aaaaaa, word_aabaabaa, word_aabaabaacbbcbbcbb, word_aabb, word_ab, word_abaabaababaabaabababa, word_ababa, word_baa, word_empty}

-- two sequences, an edition, and what is expected: the answer of which first, and the first block
pub record Case : Type 0 where
  pub a : List ℕ
  pub b : List ℕ
  pub edition : ℕ
  pub answer : Outcome
  pub block : List ℕ

abbrev case : ℕ → List ℕ → List ℕ → Outcome → List ℕ → Case
case edition a b answer block = record { a = a; b = b; edition = edition; answer = answer; block = block }

-- the table is lent with other numbers in it, with one place more than it needs
abbrev lent_work : List ℕ → List ℕ → List ℕ
lent_work a b = replicate (4 * (longer a b + 1)) 9 ++ (9 ∷ [])

-- zeros, and what follows as it was
abbrev work_left : List ℕ → List ℕ → List ℕ
work_left a b = replicate (4 * (longer a b + 1)) 0 ++ (9 ∷ [])

-- the three definitions give what is expected
abbrev pub Holds : Case → Type 0
Holds x =
    (which_outcome x.a x.b x.edition (length (lent_work x.a x.b)) ≡ x.answer)
    × (first_block x.a x.b x.edition (length (lent_work x.a x.b)) ≡ x.block)
    × (which_work x.a x.b x.edition (lent_work x.a x.b) ≡ work_left x.a x.b)

-- the same as a test
abbrev pub holds? : Case → Bool
holds? x =
    same_outcome? (which_outcome x.a x.b x.edition (length (lent_work x.a x.b))) x.answer
    && (same? (first_block x.a x.b x.edition (length (lent_work x.a x.b))) x.block
    && same? (which_work x.a x.b x.edition (lent_work x.a x.b)) (work_left x.a x.b))

abbrev pub all : List Case → Bool
all [] = true
all (x ∷ xs) = holds? x && all xs

-- a case that passes the test holds
pub holds_means : (x : Case) → T (holds? x) → Holds x
holds_means x h =
    let o = which_outcome x.a x.b x.edition (length (lent_work x.a x.b)) in
    let s = first_block x.a x.b x.edition (length (lent_work x.a x.b)) in
    let t = which_work x.a x.b x.edition (lent_work x.a x.b) in
    let block = same? s x.block in
    let work = same? t (work_left x.a x.b) in
    let rest = and_right (same_outcome? o x.answer) (block && work) h in (
      same_outcome_means o x.answer (and_left (same_outcome? o x.answer) (block && work) h),
      same_means s x.block (and_left block work rest),
      same_means t (work_left x.a x.b) (and_right block work rest),
    )

-- document 01's sequences in both orders, equal words, words of which one or none can be split, and the empty word
abbrev pub pairs : List Case
pairs =
    case 1 word_aabaabaa word_abaabaababaabaabababa (accepted (1 ∷ [])) word_aabaabaa
    ∷ case 1 word_abaabaababaabaabababa word_aabaabaa (accepted (2 ∷ [])) word_aabaabaa
    ∷ case 1 word_abaabaababaabaabababa word_aabaabaacbbcbbcbb (accepted (1 ∷ [])) (97 ∷ 98 ∷ 97 ∷ 97 ∷ 98 ∷ 97 ∷ 97 ∷ 98 ∷ 97 ∷ 98 ∷ 97 ∷ 97 ∷ 98 ∷ 97 ∷ 97 ∷ 98 ∷ [])
    ∷ case 1 word_aabaabaacbbcbbcbb word_abaabaababaabaabababa (accepted (1 ∷ [])) word_aabaabaa
    ∷ case 1 word_aabb word_aabaabaa (accepted (2 ∷ [])) word_aabaabaa
    ∷ case 1 word_aabaabaa word_aabb (accepted (1 ∷ [])) word_aabaabaa
    ∷ case 1 word_aabb word_aabb (accepted (1 ∷ [])) word_aa
    ∷ case 1 word_aaaa word_ababa (accepted (1 ∷ [])) word_aaaa
    ∷ case 1 word_ababa word_aaaa (accepted (1 ∷ [])) word_ababa
    ∷ case 1 word_ab word_aa (accepted (2 ∷ [])) word_aa
    ∷ case 1 word_aa word_ab (accepted (1 ∷ [])) word_aa
    ∷ case 1 word_baa word_aabaabaacbbcbbcbb (accepted (2 ∷ [])) word_aabaabaa
    ∷ case 1 word_aabaabaacbbcbbcbb word_baa (accepted (1 ∷ [])) word_aabaabaa
    ∷ case 1 word_ab word_baa (refused 2 0) word_empty
    ∷ case 1 word_baa word_ab (refused 2 0) word_empty
    ∷ case 1 word_empty word_empty (accepted (1 ∷ [])) word_empty
    ∷ case 1 word_empty word_aa (accepted (1 ∷ [])) word_empty
    ∷ case 1 word_aa word_empty (accepted (2 ∷ [])) word_empty
    ∷ case 1 word_empty word_a (accepted (1 ∷ [])) word_empty
    ∷ case 1 word_a word_empty (accepted (2 ∷ [])) word_empty
    ∷ []

-- CLAIM: the pairs in edition 1, answer, first block and working table
pub pairs_hold : T (all pairs)
unfolding compared which_work cell best_ends repetition? smallest_period bad_edition? turns_of
pairs_hold = tt

abbrev pub pairs_in_2 : List Case
pairs_in_2 =
    case 2 word_aabaabaa word_aaaaaa (accepted (2 ∷ [])) word_aaaaaa
    ∷ case 2 word_aaaaaa word_aabaabaa (accepted (1 ∷ [])) word_aaaaaa
    ∷ case 2 word_aaa word_aaaaaa (accepted (1 ∷ [])) word_aaa
    ∷ case 2 word_ababa word_aabb (refused 2 0) word_empty
    ∷ case 2 word_aabb word_ababa (refused 2 0) word_empty
    ∷ case 2 word_empty word_empty (accepted (1 ∷ [])) word_empty
    ∷ case 2 word_aa word_empty (accepted (2 ∷ [])) word_empty
    ∷ case 2 word_empty word_aa (accepted (1 ∷ [])) word_empty
    ∷ []

-- CLAIM: the same in edition 2
pub pairs_in_2_hold : T (all pairs_in_2)
unfolding compared which_work cell best_ends repetition? smallest_period bad_edition? turns_of
pairs_in_2_hold = tt

-- ---- the refusals in their order: "1 for either, then 12, 9 for the longer, and 2 if neither splits"

pub first_too_long : which_outcome (replicate 70001 97) word_ab 3 0 ≡ refused 1 0
unfolding compared
first_too_long = refl

pub second_too_long : which_outcome word_ab (replicate 70001 97) 3 0 ≡ refused 1 0
unfolding compared
second_too_long = refl

pub longest_taken : which_outcome (replicate 70000 97) word_ab 3 0 ≡ refused 12 0
unfolding compared bad_edition?
longest_taken = refl

pub edition_0 : which_outcome word_aa word_ab 0 0 ≡ refused 12 0
unfolding compared bad_edition?
edition_0 = refl

-- 36 places for the longer word, of 8 symbols; the 12 for the shorter are not enough, in either order
pub a_place_short : which_outcome word_aa word_aabaabaa 1 35 ≡ refused 9 0
unfolding compared bad_edition?
a_place_short = refl

pub places_of_the_shorter : which_outcome word_aabaabaa word_aa 1 12 ≡ refused 9 0
unfolding compared bad_edition?
places_of_the_shorter = refl

pub enough_places : which_outcome word_aa word_aabaabaa 1 36 ≡ accepted (1 ∷ [])
unfolding compared cell best_ends repetition? smallest_period bad_edition? turns_of
enough_places = refl

pub nine_before_two : which_outcome word_ab word_ab 1 11 ≡ refused 9 0
unfolding compared bad_edition?
nine_before_two = refl

-- after 1, 12 and 9 the table keeps its contents, and first block is empty
pub kept_after_9 : which_work word_aa word_aabaabaa 1 (replicate 35 9) ≡ replicate 35 9
unfolding which_work bad_edition?
kept_after_9 = refl

pub kept_after_12 : which_work word_aa word_aabaabaa 3 (replicate 36 9) ≡ replicate 36 9
unfolding which_work bad_edition?
kept_after_12 = refl

pub kept_after_1 : which_work word_aa (replicate 70001 97) 1 (replicate 36 9) ≡ replicate 36 9
unfolding which_work
kept_after_1 = refl

pub no_block_after_9 : first_block word_aa word_aabaabaa 1 35 ≡ []
unfolding compared bad_edition?
no_block_after_9 = refl

-- the word and the length that stand for the first block: 0 and 0 for none, 1 or 2 with 0 for an empty word
pub numbers_of_the_second : (first_which word_abaabaababaabaabababa word_aabaabaa 1 88 ≡ 2) × (first_length word_abaabaababaabaabababa word_aabaabaa 1 88 ≡ 8)
unfolding compared cell best_ends repetition? smallest_period bad_edition? turns_of
numbers_of_the_second = (refl, refl)

pub numbers_of_a_tie : (first_which word_abaabaababaabaabababa word_aabaabaacbbcbbcbb 1 88 ≡ 1) × (first_length word_abaabaababaabaabababa word_aabaabaacbbcbbcbb 1 88 ≡ 16)
unfolding compared cell best_ends repetition? smallest_period bad_edition? turns_of
numbers_of_a_tie = (refl, refl)

pub numbers_of_an_empty_word : (first_which word_aa word_empty 1 12 ≡ 2) × (first_length word_aa word_empty 1 12 ≡ 0)
unfolding compared cell best_ends repetition? smallest_period bad_edition? turns_of
numbers_of_an_empty_word = (refl, refl)

pub numbers_of-none : (first_which word_ab word_baa 1 16 ≡ 0) × (first_length word_ab word_baa 1 16 ≡ 0)
unfolding compared cell best_ends repetition? smallest_period bad_edition? turns_of
numbers_of-none = (refl, refl)
