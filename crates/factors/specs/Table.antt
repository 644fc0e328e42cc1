-- The working table of a factorizer: four rows of n + 1 places. Row 0 has the best size of each prefix length 0 to n, row 1 the previous boundary that it came
-- from.
use Rattle.std.specs.Prelude.{◌≡◌, Bool, cond, ◌||◌, List, [], ◌∷◌, ◌++◌, map, ℕ, zero, suc, ◌+◌, ◌*◌, ◌<◌, eqb, length, get_or, set, drop, replicate}
use Rattle.factors.specs.Factorization.{Choice, better, Cell, unreachable, reached, cells}

-- "4,294,967,295 where none exists"
abbrev pub none : ℕ
none = 4294967295

-- "a working table under 4×(n+1) places"
abbrev pub rows : ℕ
rows = 4

-- what stands in row 0 for a boundary
abbrev pub size_in : Cell → ℕ
size_in unreachable = none
size_in (reached s p) = s

-- what stands in row 1: the previous boundary, 0 where there is none
abbrev pub previous_in : Cell → ℕ
previous_in unreachable = 0
previous_in (reached s p) = p

-- a boundary whose size stands at place `at` and whose previous boundary at `back`; the size of one that is reached is not the number for none
pub record Holds (t : List ℕ) (at back : ℕ) (v : Cell) : Type 0 where
  pub size : get_or t at 0 ≡ size_in v
  pub previous : get_or t back 0 ≡ previous_in v
  pub bound : (s p : ℕ) → v ≡ reached s p → s < none

-- the two rows for the boundaries 0 to n
unfoldable pub sizes : Choice → (ℕ → ℕ → Bool) → ℕ → List ℕ
sizes c b n = map size_in (cells c b n)

unfoldable pub previous : Choice → (ℕ → ℕ → Bool) → ℕ → List ℕ
previous c b n = map previous_in (cells c b n)

-- row 0 before any block is offered: the empty prefix has size 0, the others have none yet
unfoldable pub started : ℕ → List ℕ → List ℕ
started n t = 0 ∷ replicate n none ++ drop (suc n) t

-- whether a size is taken in the place of one that is known
abbrev pub taken : Choice → ℕ → ℕ → Bool
taken c s known = eqb known none || better c s known

-- the table after the size s, reached from boundary j, was offered to the boundary whose size stands at place `at` and whose previous boundary at `back`
unfoldable pub offered : Choice → ℕ → ℕ → ℕ → ℕ → List ℕ → List ℕ
offered c at back s j t = cond (taken c s (get_or t at 0)) (set (set t at s) back j) t

-- the table after the size s was offered from boundary j to those of the next d boundaries that a test passes: boundary j + i + 1 by the test of i
unfoldable pub spread : Choice → ℕ → ℕ → ℕ → (ℕ → Bool) → ℕ → List ℕ → List ℕ
spread c n j s ends zero t = t
spread c n j s ends (suc d) t =
    cond (ends d) (offered c (j + (d + 1)) (n + 1 + (j + (d + 1))) s j (spread c n j s ends d t)) (spread c n j s ends d t)

-- a filled table: rows 0 and 1 for the boundaries 0 to n, rows 2 and 3 cleared, and what follows them as it was
abbrev pub filled : Choice → (ℕ → ℕ → Bool) → ℕ → List ℕ → List ℕ
filled c b n t = sizes c b n ++ (previous c b n ++ (replicate (2 * (n + 1)) 0 ++ drop (rows * (n + 1)) t))

-- the ends of `count` blocks up to boundary j, by the previous boundaries
unfoldable pub ends_back : List ℕ → ℕ → ℕ → List ℕ
ends_back prev zero j = []
ends_back prev (suc count) j = ends_back prev count (get_or prev j 0) ++ (j ∷ [])

-- the previous boundaries lead from j back to 0 in `count` steps, each to a lower one
abbrev pub Linked : List ℕ → ℕ → ℕ → Type 0
Linked prev zero j = j ≡ 0
Linked prev (suc count) j = (0 < j) × (j < length prev) × (get_or prev j 0 < j) × Linked prev count (get_or prev j 0)
