-- The printed text of the bench program: "The lines are passes with n, each run in order, fewest with its size and then its blocks, and most in the same way.
-- Each line ends with byte 10, and its numbers have no leading zeros."
use Rattle.std.specs.Prelude.{cond, List, [], ◌∷◌, ◌++◌, ℕ, suc, ltb, length}
use Rattle.periods.specs.Period.{held_period}
use Rattle.periods.specs.Edition.{turns_of}
use Rattle.runs.specs.declared.Record.{Record}
use Rattle.runs.specs.Table.{runs_of, numbers_of}
use Rattle.factors.specs.Factorization.{fewest, most, choice_of, Cell, unreachable, reached, best_ends, text_of_blocks}
use Rattle.writers.specs.Line.{line}
use Rattle.repetitions.specs.Block.{block?}
use Rattle.repetitions.specs.BestSplit.{last_cell}
use Rattle.runs.specs.Number.{block_numbers}

-- "The program holds 1,024 passes"
abbrev pub program_limit : ℕ
program_limit = 1024

-- "The bench program prints edition 1."
abbrev pub printed_edition : ℕ
printed_edition = 1

-- the whole turns that the blocks have at least which it prints
abbrev pub printed_turns : ℕ
printed_turns = turns_of printed_edition

-- p a s s e s
abbrev pub passes_name : List ℕ
passes_name = 112 ∷ 97 ∷ 115 ∷ 115 ∷ 101 ∷ 115 ∷ []

-- r u n
abbrev pub run_name : List ℕ
run_name = 114 ∷ 117 ∷ 110 ∷ []

-- f e w e s t
abbrev pub fewest_name : List ℕ
fewest_name = 102 ∷ 101 ∷ 119 ∷ 101 ∷ 115 ∷ 116 ∷ []

-- m o s t
abbrev pub most_name : List ℕ
most_name = 109 ∷ 111 ∷ 115 ∷ 116 ∷ []

-- b l o c k
abbrev pub block_name : List ℕ
block_name = 98 ∷ 108 ∷ 111 ∷ 99 ∷ 107 ∷ []

-- , n o n e and byte 10
abbrev pub none_text : List ℕ
none_text = 44 ∷ 110 ∷ 111 ∷ 110 ∷ 101 ∷ 10 ∷ []

-- r e f u s e d , 1 and byte 10
abbrev pub refused_text : List ℕ
refused_text = 114 ∷ 101 ∷ 102 ∷ 117 ∷ 115 ∷ 101 ∷ 100 ∷ 44 ∷ 49 ∷ 10 ∷ []

-- "Run: number, first, last, unit", and "the program's run line ends with the root as a fifth field". The lines of the runs from number i + 1 on
unfoldable pub run_lines : ℕ → List Record → List ℕ
run_lines i [] = []
run_lines i (r ∷ rs) = line run_name (suc i ∷ numbers_of r) ++ run_lines (suc i) rs

-- "Block: number, first, last, unit, turns, rest, run number." The block between boundaries i and j
unfoldable pub block_line : List ℕ → ℕ → ℕ → ℕ → List ℕ
block_line w number i j = line block_name (block_numbers w number i j)

-- those of the blocks after boundary i, from number k + 1 on
abbrev pub block_lines : List ℕ → ℕ → ℕ → List ℕ → List ℕ
block_lines w k i es = text_of_blocks (block_line w) k i es

-- a best split: its size and its blocks; "With no split it prints fewest,none and most,none."
abbrev pub split_lines : List ℕ → List ℕ → Cell → List ℕ → List ℕ
split_lines w name unreachable ends = name ++ none_text
split_lines w name (reached s p) ends = line name (s ∷ []) ++ block_lines w 0 0 ends

unfoldable pub split_text : List ℕ → ℕ → List ℕ → List ℕ
split_text w choice name = split_lines w name (last_cell printed_turns w choice) (best_ends (choice_of choice) (block? held_period printed_turns w) (length w))

-- "a longer line prints refused,1 alone"
unfoldable pub text : List ℕ → List ℕ
text w =
    cond (ltb program_limit (length w)) refused_text
    (line passes_name (length w ∷ []) ++ (run_lines 0 (runs_of w) ++ (split_text w fewest fewest_name ++ split_text w most most_name)))
