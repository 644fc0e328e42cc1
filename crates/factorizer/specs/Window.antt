-- Filling the working table by windows: from a boundary only so many symbols are read as the turns of the longest unit have. A longer block goes on, from the
-- window's end to the next boundary, with any period of the window that memory holds.
use Rattle.std.specs.Prelude.{◌≡◌, ◌⊎◌, Bool, false, cond, List, ℕ, ◌+◌, ◌-◌, ◌*◌, ◌≤◌, ◌<◌, leb, eqb, length, get_or, set, drop}
use Rattle.periods.specs.Period.{part, Period, unit_memory}
use Rattle.factors.specs.Factorization.{Choice, unreachable, scan, cell}
use Rattle.factors.specs.Table.{rows, Holds}

-- how many symbols after a boundary are read at most, where a block has k turns or more
abbrev pub window_of : ℕ → ℕ
window_of k = k * unit_memory

-- Between two steps. Boundary j is at hand, and those below `before` have offered: the places of the boundaries up to j hold their cells, those up to the end of
-- the window after j the best over the boundaries below `before`, and those above nothing. Where symbols follow the window, u is a period of it that memory
-- holds, or no block from a boundary below `before` ends where it ends. b tells the blocks.
pub record Windowed (c : Choice) (b : ℕ → ℕ → Bool) (w : List ℕ) (window before j u : ℕ) (t : List ℕ) : Type 0 where
  pub upto : (m : ℕ) → m ≤ length w → m ≤ j → Holds t m (length w + 1 + m) (cell c b m)
  pub near : (m : ℕ) → m ≤ length w → j < m → m ≤ j + window → Holds t m (length w + 1 + m) (scan c b (cell c b) m before)
  pub far : (m : ℕ) → m ≤ length w → j + window < m → Holds t m (length w + 1 + m) unreachable
  pub fits : u ≤ window
  pub known : j + window < length w → ((u ≤ unit_memory) × Period (part w j (j + window)) u) ⊎ ((i : ℕ) → i < before → (cell c b i ≡ unreachable → ⊥) → b i (j + window) ≡ false)

-- the table x has the length of t, and what follows the four rows of a word of n symbols is the same
abbrev pub RestKept : ℕ → List ℕ → List ℕ → Type 0
RestKept n t x = (length x ≡ length t) × (drop (rows * (n + 1)) x ≡ drop (rows * (n + 1)) t)

-- ---- one step, computed

-- whether a period goes on to the symbol after boundary m
abbrev pub goes_on : List ℕ → ℕ → ℕ → Bool
goes_on w m u = eqb (get_or w m 0) (get_or w (m - u) 0)

-- size and previous boundary of m also at m + 1
abbrev pub passed_on : ℕ → ℕ → List ℕ → List ℕ
passed_on n m t = set (set t (m + 1) (get_or t m 0)) (n + 1 + (m + 1)) (get_or t (n + 1 + m) 0)

-- the table after the blocks that end at boundary m, where a window with the period u ends, were passed on to the next boundary
unfoldable pub lengthened : List ℕ → ℕ → ℕ → List ℕ → List ℕ
lengthened w m u t = cond (leb (length w) m) t (cond (goes_on w m u) (passed_on (length w) m t) t)
