-- Document 01's printout, byte for byte, with document 02's root at the end of each run's line, and the texts of the shortest words and of a word that is too long, computed from the definitions. Assumes nothing.
use mathlib.Core.Path.{◌≡◌, refl, ap, ◌∙◌}
use mathlib.Core.List.{List, [], ◌∷◌, ◌++◌}
use Prim.Native.Nat.{ℕ}
use native.Mathlib.Omega.{arith}
use lib.ListN.{length, replicate}
use lib.Seq.{sets}
use Rattle.periods.specs.Period.{smallest_period, repetition?}
use Rattle.periods.specs.Edition.{turns_of}
use Rattle.runs.specs.Table.{run?, least_start, root_of, run_between, rows_at, rows_before, runs_of}
use Rattle.factors.specs.Factorization.{cell, best_ends, text_of_blocks}
use Rattle.decimals.specs.Decimal.{digits_in, digit_count, fields_after}
use Rattle.runs.specs.Number.{first_number, run_number}
use Rattle.report.specs.Text.{run_lines, block_line, split_text, text, fewest_name, most_name, passes_name}
use Rattle.report.specs.Records.{longest_text}
use Rattle.writers.specs.Line.{line}
use Rattle.periods.proofs.Words.{word_aabaabaa}
use Rattle.report.proofs.Splits.{text_is}
use Rattle.report.proofs.Reports.{text_refused}

-- the ten lines, one to a line here
abbrev ten_lines : List ℕ
ten_lines =
    112 ∷ 97 ∷ 115 ∷ 115 ∷ 101 ∷ 115 ∷ 44 ∷ 56 ∷ 10 ∷
    114 ∷ 117 ∷ 110 ∷ 44 ∷ 49 ∷ 44 ∷ 49 ∷ 44 ∷ 50 ∷ 44 ∷ 49 ∷ 44 ∷ 49 ∷ 10 ∷
    114 ∷ 117 ∷ 110 ∷ 44 ∷ 50 ∷ 44 ∷ 49 ∷ 44 ∷ 56 ∷ 44 ∷ 51 ∷ 44 ∷ 49 ∷ 10 ∷
    114 ∷ 117 ∷ 110 ∷ 44 ∷ 51 ∷ 44 ∷ 52 ∷ 44 ∷ 53 ∷ 44 ∷ 49 ∷ 44 ∷ 52 ∷ 10 ∷
    114 ∷ 117 ∷ 110 ∷ 44 ∷ 52 ∷ 44 ∷ 55 ∷ 44 ∷ 56 ∷ 44 ∷ 49 ∷ 44 ∷ 55 ∷ 10 ∷
    102 ∷ 101 ∷ 119 ∷ 101 ∷ 115 ∷ 116 ∷ 44 ∷ 49 ∷ 10 ∷
    98 ∷ 108 ∷ 111 ∷ 99 ∷ 107 ∷ 44 ∷ 49 ∷ 44 ∷ 49 ∷ 44 ∷ 56 ∷ 44 ∷ 51 ∷ 44 ∷ 50 ∷ 44 ∷ 50 ∷ 44 ∷ 50 ∷ 10 ∷
    109 ∷ 111 ∷ 115 ∷ 116 ∷ 44 ∷ 50 ∷ 10 ∷
    98 ∷ 108 ∷ 111 ∷ 99 ∷ 107 ∷ 44 ∷ 49 ∷ 44 ∷ 49 ∷ 44 ∷ 50 ∷ 44 ∷ 49 ∷ 44 ∷ 50 ∷ 44 ∷ 48 ∷ 44 ∷ 49 ∷ 10 ∷
    98 ∷ 108 ∷ 111 ∷ 99 ∷ 107 ∷ 44 ∷ 50 ∷ 44 ∷ 51 ∷ 44 ∷ 56 ∷ 44 ∷ 51 ∷ 44 ∷ 50 ∷ 44 ∷ 48 ∷ 44 ∷ 50 ∷ 10 ∷ []

pub text_of_aabaabaa : text word_aabaabaa ≡ ten_lines
unfolding text line fields_after run_lines block_line text_of_blocks split_text digits_in digit_count runs_of rows_before rows_at run_between run? root_of least_start repetition? smallest_period turns_of cell best_ends run_number first_number
text_of_aabaabaa = refl

-- passes,0 and fewest,0 and most,0
pub text_of_empty : text [] ≡
    112 ∷ 97 ∷ 115 ∷ 115 ∷ 101 ∷ 115 ∷ 44 ∷ 48 ∷ 10 ∷
    102 ∷ 101 ∷ 119 ∷ 101 ∷ 115 ∷ 116 ∷ 44 ∷ 48 ∷ 10 ∷
    109 ∷ 111 ∷ 115 ∷ 116 ∷ 44 ∷ 48 ∷ 10 ∷ []
unfolding text line fields_after run_lines block_line text_of_blocks split_text digits_in digit_count runs_of rows_before rows_at run_between run? root_of least_start repetition? smallest_period turns_of cell best_ends run_number first_number
text_of_empty = refl

-- passes,1 and fewest,none and most,none
pub text_of_a : text (97 ∷ []) ≡
    112 ∷ 97 ∷ 115 ∷ 115 ∷ 101 ∷ 115 ∷ 44 ∷ 49 ∷ 10 ∷
    102 ∷ 101 ∷ 119 ∷ 101 ∷ 115 ∷ 116 ∷ 44 ∷ 110 ∷ 111 ∷ 110 ∷ 101 ∷ 10 ∷
    109 ∷ 111 ∷ 115 ∷ 116 ∷ 44 ∷ 110 ∷ 111 ∷ 110 ∷ 101 ∷ 10 ∷ []
unfolding text line fields_after run_lines block_line text_of_blocks split_text digits_in digit_count runs_of rows_before rows_at run_between run? root_of least_start repetition? smallest_period turns_of cell best_ends run_number first_number
text_of_a = refl

-- "The program holds 1,024 passes; a longer line prints refused,1 alone": r e f u s e d , 1 and byte 10 for every word of 1,025 symbols, all lines for every
-- word of 1,024
pub refused_at_1025 : (w : List ℕ) → length w ≡ 1025 → text w ≡ 114 ∷ 101 ∷ 102 ∷ 117 ∷ 115 ∷ 101 ∷ 100 ∷ 44 ∷ 49 ∷ 10 ∷ []
refused_at_1025 w e = text_refused w (omega arith)

pub taken_at_1024 : (w : List ℕ) → length w ≡ 1024
    → text w ≡ line passes_name (1024 ∷ []) ++ (run_lines 0 (runs_of w) ++ (split_text w 1 fewest_name ++ split_text w 2 most_name))
taken_at_1024 w e =
    text_is w (omega arith) ∙ ap (λ (n : ℕ). line passes_name (n ∷ []) ++ (run_lines 0 (runs_of w) ++ (split_text w 1 fewest_name ++ split_text w 2 most_name))) e

-- aabaabaa's ten lines have 141 bytes; in a table with two places more, only the first change
pub report_of_aabaabaa : length (text word_aabaabaa) ≡ 141
report_of_aabaabaa = ap length text_of_aabaabaa

pub report_of_aabaabaa_into : sets (replicate 143 7) 0 (text word_aabaabaa) ≡ ten_lines ++ (7 ∷ 7 ∷ [])
report_of_aabaabaa_into = ap (sets (replicate 143 7) 0) text_of_aabaabaa

-- of the empty word's 25 bytes as many are stored as there are places
pub report_of_empty_into : sets (7 ∷ 7 ∷ []) 0 (text []) ≡ 112 ∷ 97 ∷ []
report_of_empty_into = ap (sets (7 ∷ 7 ∷ []) 0) text_of_empty

-- the most bytes that a report has
pub longest_is_145462 : longest_text ≡ 145462
longest_is_145462 = refl
