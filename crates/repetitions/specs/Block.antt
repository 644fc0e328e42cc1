-- The pieces of a word that are repetitions (blocks), as a relation between its boundaries (joints).
use Rattle.std.specs.Prelude.{Bool, List, ℕ}
use Rattle.periods.specs.Period.{Repetition, repetition?}
use Rattle.factorizer.specs.Piece.{Piece, piece?}

-- the piece after boundary i, up to boundary j, is a block
abbrev pub Block : (ℕ → Bool) → ℕ → List ℕ → ℕ → ℕ → Type 0
Block allowed k w i j = Piece (Repetition allowed k) w i j

-- the same, computed
abbrev pub block? : (ℕ → Bool) → ℕ → List ℕ → ℕ → ℕ → Bool
block? allowed k w i j = piece? (repetition? allowed k) w i j
