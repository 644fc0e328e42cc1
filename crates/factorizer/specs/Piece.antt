-- The pieces of a word that have a property, as a relation between its boundaries (joints). Which property makes a piece a block is not said here.
use Rattle.std.specs.Prelude.{Bool, ◌&&◌, List, ℕ, ◌≤◌, ◌<◌, T, leb, length}
use Rattle.periods.specs.Period.{part}

-- the piece after boundary i, up to boundary j, has the property
abbrev pub Piece : (List ℕ → Type 0) → List ℕ → ℕ → ℕ → Type 0
Piece P w i j = (j ≤ length w) × P (part w i j)

-- the same, computed by a test
abbrev pub piece? : (List ℕ → Bool) → List ℕ → ℕ → ℕ → Bool
piece? p w i j = leb j (length w) && p (part w i j)

-- the test decides the property, which no empty word has
pub record Decides (P : List ℕ → Type 0) (p : List ℕ → Bool) : Type 0 where
  pub sound : (s : List ℕ) → T (p s) → P s
  pub complete : (s : List ℕ) → P s → T (p s)
  pub some : (s : List ℕ) → P s → 0 < length s
