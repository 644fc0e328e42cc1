-- Common prefixes of what stands at two places of a sequence of len symbols `g : ℕ → ℕ`, and the table of them. Definitions only.
use Rattle.std.specs.Prelude.{◌≡◌, ◌≢◌, Bool, true, false, List, ℕ, ◌+◌, ◌-◌, ◌≤◌, ◌<◌, length, get_or}

-- the symbols of a part, or of its mirror
abbrev pub view : Bool → List ℕ → ℕ → ℕ
view false v i = get_or v i 0
view true v i = get_or v (length v - 1 - i) 0

-- the k symbols from i on are those from mid on
pub record Agree (g : ℕ → ℕ) (len mid i k : ℕ) : Type 0 where
  pub fits : i + k ≤ len
  pub fits_mid : mid + k ≤ len
  pub same : (j : ℕ) → j < k → g (i + j) ≡ g (mid + j)

-- and no more than k are: k is the length of the longest common prefix of what stands from i on and from mid on
pub record Match (g : ℕ → ℕ) (len mid i k : ℕ) : Type 0 where
  pub agree : Agree g len mid i k
  pub stops : i + k < len → mid + k < len → g (i + k) ≢ g (mid + k)

-- each place from 0 to len has the length of its longest common prefix with mid
pub record Matched (g : ℕ → ℕ) (len mid : ℕ) (t : List ℕ) : Type 0 where
  pub at : (j : ℕ) → j ≤ len → Match g len mid j (get_or t j 0)
