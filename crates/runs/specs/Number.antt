-- The number of the run that encloses a block, and the numbers of a block.
use Rattle.std.specs.Prelude.{Bool, cond, ◌&&◌, List, [], ◌∷◌, ℕ, suc, ◌+◌, ◌/◌, ◌%◌, leb, eqb, length}
use Rattle.periods.specs.Period.{part, smallest_period}
use Rattle.runs.specs.declared.Record.{Record}
use Rattle.runs.specs.Table.{runs_of}

-- the run's bounds enclose the piece between boundaries i and j, and its period is p
abbrev pub encloses? : ℕ → ℕ → ℕ → Record → Bool
encloses? i j p r = leb r.first (i + 1) && (leb j r.last && eqb r.period p)

-- the number from 1 of the first record that passes a test, 0 where none does
unfoldable pub first_number : (Record → Bool) → List Record → ℕ
first_number t [] = 0
first_number t (r ∷ rs) = cond (t r) 1 (let i = first_number t rs in cond (eqb i 0) 0 (suc i))

-- the number of the run that encloses a block and has its unit
unfoldable pub run_number : List ℕ → ℕ → ℕ → ℕ
run_number w i j = first_number (encloses? i j (smallest_period (part w i j))) (runs_of w)

-- "number, first, last, unit, turns, rest and run", of the block with a number between boundaries i and j
abbrev pub block_numbers : List ℕ → ℕ → ℕ → ℕ → List ℕ
block_numbers w number i j =
    let s = part w i j in
    number ∷ suc i ∷ j ∷ smallest_period s ∷ length s / smallest_period s ∷ length s % smallest_period s ∷ run_number w i j ∷ []
