-- What is read off the filled table of one word, and how two words compare by it.
use Rattle.std.specs.Prelude.{cond, List, ℕ, ltb, eqb, length, get_or, Result, Ok, Err}
use Rattle.answers.specs.declared.Refusal.{Refusal}
use Rattle.answers.specs.declared.Refusal.TheVariants.{NoFactorization}
use Rattle.periods.specs.Period.{held_period}
use Rattle.factors.specs.Factorization.{fewest, smallest, best_ends}
use Rattle.factors.specs.Table.{none, size_in, ends_back}
use Rattle.factors.specs.Verdict.{end_of}
use Rattle.repetitions.specs.Block.{block?}
use Rattle.repetitions.specs.BestSplit.{last_cell}
use Rattle.factorizer.specs.Fill.{row_one}
use Rattle.comparison.specs.declared.Chosen.{Chosen}
use Rattle.comparison.specs.declared.Chosen.TheVariants.{First, Second}

-- the size of a word's fewest split, 4,294,967,295 where it has none; k is the turn number
abbrev pub fewest_size : ℕ → List ℕ → ℕ
fewest_size k w = size_in (last_cell k w fewest)

-- the end of the first block of that split, "the one that document 01's tie rule picks"; 0 where there is no block
abbrev pub first_end : ℕ → List ℕ → ℕ
first_end k w = end_of (best_ends smallest (block? held_period k w) (length w)) 1

-- the same in a filled table
abbrev pub end_in : ℕ → List ℕ → ℕ
end_in n t = cond (eqb (get_or t n 0) none) 0 (end_of (ends_back (row_one n t) (get_or t n 0) n) 1)

-- the word with the smaller size, s of the first or t of the second, with the end of its first block, i or j; none is the greatest size
abbrev pub chosen_by : ℕ → ℕ → ℕ → ℕ → Result Chosen Refusal
chosen_by s i t j = cond (ltb t s) (Ok (Second j)) (cond (eqb s none) (Err NoFactorization) (Ok (First i)))
