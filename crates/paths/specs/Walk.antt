-- What the inner functions of path of a split go by.
use Rattle.std.specs.Prelude.{List, ℕ, ◌≤◌, length}
use Rattle.answers.specs.Outcome.{limit}
use Rattle.periods.specs.Period.{held_period}
use Rattle.factors.specs.Factorization.{Factorization}
use Rattle.repetitions.specs.Block.{Block}

-- the word is within the limit, and the ends are those of a factorization of it. Two turns are enough for a block to have a run, and in any edition it has them.
abbrev pub Factored : List ℕ → List ℕ → Type 0
Factored w ends = (length w ≤ limit) × Factorization (Block held_period 2 w) (length w) ends
