-- Ends that a function gives one by one.
use Rattle.std.specs.Prelude.{◌≡◌, List, ℕ, ◌<◌, length, get_or}

-- so many ends, of which `gives k x` says that x is given for number k + 1
abbrev pub GivesEnds : (ℕ → ℕ → Type 0) → ℕ → List ℕ → Type 0
GivesEnds gives count ends = (length ends ≡ count) × ((k x : ℕ) → k < count → gives k x → x ≡ get_or ends k 0)
