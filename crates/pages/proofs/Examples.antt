-- The page of items 3 and 10 of document 02, computed: document 01's split 2,8 of aabaabaa byte for byte in both forms, other units and symbols, and each
-- refusal. Assumes nothing.
use mathlib.Core.Path.{◌≡◌, refl}
use mathlib.Core.List.{List, [], ◌∷◌, ◌++◌}
use Prim.Native.Nat.{ℕ}
use lib.ListN.{replicate}
use Rattle.answers.specs.Outcome.{accepted, refused}
use Rattle.decimals.specs.Decimal.{digits_in, digit_count}
use Rattle.periods.specs.Period.{smallest_period, repetition?}
use Rattle.periods.specs.Edition.{bad_edition?, turns_of}
use Rattle.periods.specs.Square.{power}
use Rattle.periods.proofs.Words.{one_and, word_aabaabaa}
use Rattle.runs.specs.Table.{run?, run_between, rows_at, rows_before, runs_of}
use Rattle.runs.specs.Number.{first_number, run_number}
use Rattle.factors.specs.Factorization.{text_of_blocks}
use Rattle.factors.specs.Verdict.{verdict}
use Rattle.repetitions.specs.Judge.{split_outcome}
use Rattle.page_lines.specs.Line.{columns, symbols, byte_form, code_form, line}
use Rattle.pages.specs.Page.{page_line, page, page_outcome, page_table}

-- "     1     1     2     1     2     0     161                "
abbrev line_1 : List ℕ
line_1 = 32 ∷ 32 ∷ 32 ∷ 32 ∷ 32 ∷ 49 ∷ 32 ∷ 32 ∷ 32 ∷ 32 ∷ 32 ∷ 49 ∷ 32 ∷ 32 ∷ 32 ∷ 32 ∷ 32 ∷ 50 ∷ 32 ∷ 32 ∷ 32 ∷ 32 ∷ 32 ∷ 49 ∷ 32 ∷ 32 ∷ 32 ∷ 32 ∷ 32 ∷ 50 ∷ 32 ∷ 32 ∷ 32 ∷ 32 ∷ 32 ∷ 48 ∷ 32 ∷ 32 ∷ 32 ∷ 32 ∷ 32 ∷ 49 ∷ 54 ∷ 49 ∷ 32 ∷ 32 ∷ 32 ∷ 32 ∷ 32 ∷ 32 ∷ 32 ∷ 32 ∷ 32 ∷ 32 ∷ 32 ∷ 32 ∷ 32 ∷ 32 ∷ 32 ∷ 32 ∷ 10 ∷ []

-- "     2     3     8     3     2     0     2626161            "
abbrev line_2 : List ℕ
line_2 = 32 ∷ 32 ∷ 32 ∷ 32 ∷ 32 ∷ 50 ∷ 32 ∷ 32 ∷ 32 ∷ 32 ∷ 32 ∷ 51 ∷ 32 ∷ 32 ∷ 32 ∷ 32 ∷ 32 ∷ 56 ∷ 32 ∷ 32 ∷ 32 ∷ 32 ∷ 32 ∷ 51 ∷ 32 ∷ 32 ∷ 32 ∷ 32 ∷ 32 ∷ 50 ∷ 32 ∷ 32 ∷ 32 ∷ 32 ∷ 32 ∷ 48 ∷ 32 ∷ 32 ∷ 32 ∷ 32 ∷ 32 ∷ 50 ∷ 54 ∷ 50 ∷ 54 ∷ 49 ∷ 54 ∷ 49 ∷ 32 ∷ 32 ∷ 32 ∷ 32 ∷ 32 ∷ 32 ∷ 32 ∷ 32 ∷ 32 ∷ 32 ∷ 32 ∷ 32 ∷ 10 ∷ []

-- the page of 2,8 of aabaabaa: the blocks aa and baabaa
pub page_of_2_8 : page byte_form word_aabaabaa (2 ∷ 8 ∷ []) ≡ line_1 ++ line_2
unfolding text_of_blocks page_line line columns symbols digits_in digit_count run_number first_number runs_of rows_before rows_at run_between run? repetition? smallest_period
page_of_2_8 = refl

pub bytes_of_2_8 : page_outcome byte_form word_aabaabaa 1 (2 ∷ 8 ∷ []) 122 ≡ accepted (122 ∷ [])
unfolding page_outcome split_outcome verdict bad_edition? turns_of text_of_blocks page_line line columns symbols digits_in digit_count run_number first_number runs_of rows_before rows_at run_between run? repetition? smallest_period
bytes_of_2_8 = refl

-- "An accepted answer changes only the first places that it needs": the byte after them stays
pub written_2_8 : page_table byte_form word_aabaabaa 1 (2 ∷ 8 ∷ []) (replicate 123 7) ≡ line_1 ++ (line_2 ++ (7 ∷ []))
unfolding page_table page_outcome split_outcome verdict bad_edition? turns_of text_of_blocks page_line line columns symbols digits_in digit_count run_number first_number runs_of rows_before rows_at run_between run? repetition? smallest_period
written_2_8 = refl

-- the same split as 16-bit codes, whose page alone differs
-- "     1     1     2     1     2     0     10061              "
abbrev code_line_1 : List ℕ
code_line_1 = 32 ∷ 32 ∷ 32 ∷ 32 ∷ 32 ∷ 49 ∷ 32 ∷ 32 ∷ 32 ∷ 32 ∷ 32 ∷ 49 ∷ 32 ∷ 32 ∷ 32 ∷ 32 ∷ 32 ∷ 50 ∷ 32 ∷ 32 ∷ 32 ∷ 32 ∷ 32 ∷ 49 ∷ 32 ∷ 32 ∷ 32 ∷ 32 ∷ 32 ∷ 50 ∷ 32 ∷ 32 ∷ 32 ∷ 32 ∷ 32 ∷ 48 ∷ 32 ∷ 32 ∷ 32 ∷ 32 ∷ 32 ∷ 49 ∷ 48 ∷ 48 ∷ 54 ∷ 49 ∷ 32 ∷ 32 ∷ 32 ∷ 32 ∷ 32 ∷ 32 ∷ 32 ∷ 32 ∷ 32 ∷ 32 ∷ 32 ∷ 32 ∷ 32 ∷ 32 ∷ 10 ∷ []

-- "     2     3     8     3     2     0     2006200610061      "
abbrev code_line_2 : List ℕ
code_line_2 = 32 ∷ 32 ∷ 32 ∷ 32 ∷ 32 ∷ 50 ∷ 32 ∷ 32 ∷ 32 ∷ 32 ∷ 32 ∷ 51 ∷ 32 ∷ 32 ∷ 32 ∷ 32 ∷ 32 ∷ 56 ∷ 32 ∷ 32 ∷ 32 ∷ 32 ∷ 32 ∷ 51 ∷ 32 ∷ 32 ∷ 32 ∷ 32 ∷ 32 ∷ 50 ∷ 32 ∷ 32 ∷ 32 ∷ 32 ∷ 32 ∷ 48 ∷ 32 ∷ 32 ∷ 32 ∷ 32 ∷ 32 ∷ 50 ∷ 48 ∷ 48 ∷ 54 ∷ 50 ∷ 48 ∷ 48 ∷ 54 ∷ 49 ∷ 48 ∷ 48 ∷ 54 ∷ 49 ∷ 32 ∷ 32 ∷ 32 ∷ 32 ∷ 32 ∷ 32 ∷ 10 ∷ []

pub codes_of_2_8 : page_table code_form word_aabaabaa 1 (2 ∷ 8 ∷ []) (replicate 123 7) ≡ code_line_1 ++ (code_line_2 ++ (7 ∷ []))
unfolding page_table page_outcome split_outcome verdict bad_edition? turns_of text_of_blocks page_line line columns symbols digits_in digit_count run_number first_number runs_of rows_before rows_at run_between run? repetition? smallest_period
codes_of_2_8 = refl

-- "4 now covers a unit above 256 in every call that gives it for blocks"
pub page_of_unit_257 : page_outcome byte_form (power 2 (one_and 256)) 1 (514 ∷ []) 61 ≡ refused 4 1
unfolding page_outcome split_outcome verdict bad_edition? turns_of repetition? smallest_period
page_of_unit_257 = refl

-- a byte short, 7, and nothing is written
pub a_byte_short : page_outcome byte_form word_aabaabaa 1 (2 ∷ 8 ∷ []) 121 ≡ refused 7 0
unfolding page_outcome split_outcome verdict bad_edition? turns_of text_of_blocks page_line line columns symbols digits_in digit_count run_number first_number runs_of rows_before rows_at run_between run? repetition? smallest_period
a_byte_short = refl

pub kept_a_byte_short : page_table byte_form word_aabaabaa 1 (2 ∷ 8 ∷ []) (replicate 121 7) ≡ replicate 121 7
unfolding page_table page_outcome split_outcome verdict bad_edition? turns_of text_of_blocks page_line line columns symbols digits_in digit_count run_number first_number runs_of rows_before rows_at run_between run? repetition? smallest_period
kept_a_byte_short = refl

-- "judge's order, then 7": with no byte lent, the refusals of the judge
pub page_too_long : page_outcome byte_form (replicate 70001 97) 3 [] 0 ≡ refused 1 0
unfolding page_outcome split_outcome
page_too_long = refl

pub page_edition_3 : page_outcome byte_form word_aabaabaa 3 (2 ∷ 2 ∷ 8 ∷ []) 0 ≡ refused 12 0
unfolding page_outcome split_outcome verdict repetition? smallest_period bad_edition? turns_of
page_edition_3 = refl

pub page_of_2_2_8 : page_outcome byte_form word_aabaabaa 1 (2 ∷ 2 ∷ 8 ∷ []) 0 ≡ refused 3 2
unfolding page_outcome split_outcome verdict repetition? smallest_period bad_edition? turns_of
page_of_2_2_8 = refl

pub page_of_3_8 : page_outcome byte_form word_aabaabaa 1 (3 ∷ 8 ∷ []) 0 ≡ refused 4 1
unfolding page_outcome split_outcome verdict repetition? smallest_period bad_edition? turns_of
page_of_3_8 = refl

pub page_of_2 : page_outcome byte_form word_aabaabaa 1 (2 ∷ []) 0 ≡ refused 5 0
unfolding page_outcome split_outcome verdict repetition? smallest_period bad_edition? turns_of
page_of_2 = refl

-- a split of no blocks has the empty page
pub empty_page : page_outcome byte_form [] 1 [] 0 ≡ accepted (0 ∷ [])
unfolding page_outcome split_outcome verdict text_of_blocks bad_edition?
empty_page = refl

-- a unit of ten symbols, 0, 9, 10, 255 among them: nine are shown
abbrev word_of_ten : List ℕ
word_of_ten = 0 ∷ 9 ∷ 10 ∷ 255 ∷ 1 ∷ 2 ∷ 3 ∷ 4 ∷ 5 ∷ 6 ∷ 0 ∷ 9 ∷ 10 ∷ 255 ∷ 1 ∷ 2 ∷ 3 ∷ 4 ∷ 5 ∷ 6 ∷ []

pub page_of_ten_twice : page byte_form word_of_ten (20 ∷ []) ≡ 32 ∷ 32 ∷ 32 ∷ 32 ∷ 32 ∷ 49 ∷ 32 ∷ 32 ∷ 32 ∷ 32 ∷ 32 ∷ 49 ∷ 32 ∷ 32 ∷ 32 ∷ 32 ∷ 50 ∷ 48 ∷ 32 ∷ 32 ∷ 32 ∷ 32 ∷ 49 ∷ 48 ∷ 32 ∷ 32 ∷ 32 ∷ 32 ∷ 32 ∷ 50 ∷ 32 ∷ 32 ∷ 32 ∷ 32 ∷ 32 ∷ 48 ∷ 32 ∷ 32 ∷ 32 ∷ 32 ∷ 32 ∷ 49 ∷ 48 ∷ 48 ∷ 48 ∷ 57 ∷ 48 ∷ 97 ∷ 102 ∷ 102 ∷ 48 ∷ 49 ∷ 48 ∷ 50 ∷ 48 ∷ 51 ∷ 48 ∷ 52 ∷ 48 ∷ 53 ∷ 10 ∷ []
unfolding text_of_blocks page_line line columns symbols digits_in digit_count run_number first_number runs_of rows_before rows_at run_between run? repetition? smallest_period
page_of_ten_twice = refl

-- a unit of five codes, 255, 256, 257, 65,535 among them: four are shown
-- "     1     1    10     5     2     0     100ff01000101ffff  "
abbrev word_of_codes : List ℕ
word_of_codes = 255 ∷ 256 ∷ 257 ∷ 65535 ∷ 43981 ∷ 255 ∷ 256 ∷ 257 ∷ 65535 ∷ 43981 ∷ []

pub page_of_five_codes_twice : page code_form word_of_codes (10 ∷ []) ≡ 32 ∷ 32 ∷ 32 ∷ 32 ∷ 32 ∷ 49 ∷ 32 ∷ 32 ∷ 32 ∷ 32 ∷ 32 ∷ 49 ∷ 32 ∷ 32 ∷ 32 ∷ 32 ∷ 49 ∷ 48 ∷ 32 ∷ 32 ∷ 32 ∷ 32 ∷ 32 ∷ 53 ∷ 32 ∷ 32 ∷ 32 ∷ 32 ∷ 32 ∷ 50 ∷ 32 ∷ 32 ∷ 32 ∷ 32 ∷ 32 ∷ 48 ∷ 32 ∷ 32 ∷ 32 ∷ 32 ∷ 32 ∷ 49 ∷ 48 ∷ 48 ∷ 102 ∷ 102 ∷ 48 ∷ 49 ∷ 48 ∷ 48 ∷ 48 ∷ 49 ∷ 48 ∷ 49 ∷ 102 ∷ 102 ∷ 102 ∷ 102 ∷ 32 ∷ 32 ∷ 10 ∷ []
unfolding text_of_blocks page_line line columns symbols digits_in digit_count run_number first_number runs_of rows_before rows_at run_between run? repetition? smallest_period
page_of_five_codes_twice = refl

-- aaaaaa in edition 2, two blocks of one run
abbrev word_aaaaaa : List ℕ
word_aaaaaa = replicate 6 97

pub page_of_three_turns : page_table byte_form word_aaaaaa 2 (3 ∷ 6 ∷ []) (replicate 122 0)
    ≡ 32 ∷ 32 ∷ 32 ∷ 32 ∷ 32 ∷ 49 ∷ 32 ∷ 32 ∷ 32 ∷ 32 ∷ 32 ∷ 49 ∷ 32 ∷ 32 ∷ 32 ∷ 32 ∷ 32 ∷ 51 ∷ 32 ∷ 32 ∷ 32 ∷ 32 ∷ 32 ∷ 49 ∷ 32 ∷ 32 ∷ 32 ∷ 32 ∷ 32 ∷ 51 ∷ 32 ∷ 32 ∷ 32 ∷ 32 ∷ 32 ∷ 48 ∷ 32 ∷ 32 ∷ 32 ∷ 32 ∷ 32 ∷ 49 ∷ 54 ∷ 49 ∷ 32 ∷ 32 ∷ 32 ∷ 32 ∷ 32 ∷ 32 ∷ 32 ∷ 32 ∷ 32 ∷ 32 ∷ 32 ∷ 32 ∷ 32 ∷ 32 ∷ 32 ∷ 32 ∷ 10 ∷ 32 ∷ 32 ∷ 32 ∷ 32 ∷ 32 ∷ 50 ∷ 32 ∷ 32 ∷ 32 ∷ 32 ∷ 32 ∷ 52 ∷ 32 ∷ 32 ∷ 32 ∷ 32 ∷ 32 ∷ 54 ∷ 32 ∷ 32 ∷ 32 ∷ 32 ∷ 32 ∷ 49 ∷ 32 ∷ 32 ∷ 32 ∷ 32 ∷ 32 ∷ 51 ∷ 32 ∷ 32 ∷ 32 ∷ 32 ∷ 32 ∷ 48 ∷ 32 ∷ 32 ∷ 32 ∷ 32 ∷ 32 ∷ 49 ∷ 54 ∷ 49 ∷ 32 ∷ 32 ∷ 32 ∷ 32 ∷ 32 ∷ 32 ∷ 32 ∷ 32 ∷ 32 ∷ 32 ∷ 32 ∷ 32 ∷ 32 ∷ 32 ∷ 32 ∷ 32 ∷ 10 ∷ []
unfolding page_table page_outcome split_outcome verdict bad_edition? turns_of text_of_blocks page_line line columns symbols digits_in digit_count run_number first_number runs_of rows_before rows_at run_between run? repetition? smallest_period
page_of_three_turns = refl

pub two_turns_in_edition_2 : page_outcome byte_form word_aaaaaa 2 (2 ∷ 6 ∷ []) 122 ≡ refused 4 1
unfolding page_outcome split_outcome verdict repetition? smallest_period bad_edition? turns_of
two_turns_in_edition_2 = refl
