-- The table of common prefixes while it is filled.
use Rattle.std.specs.Prelude.{◌⊎◌, Bool, List, ℕ, ◌+◌, ◌-◌, ◌^◌, ◌≤◌, ◌<◌, min, length, get_or}
use Rattle.prefixes.specs.Match.{view, Match}

-- the places that are right when those from `from` to i were filled: these, and those after mid where `from` is not after it
abbrev pub Sure : ℕ → ℕ → ℕ → ℕ → ℕ → Type 0
Sure len mid from i j = ((from ≤ j) × (j < i)) ⊎ ((from ≤ mid) × (mid < j) × (j ≤ len))

pub record Filled (g : ℕ → ℕ) (len mid from i : ℕ) (t : List ℕ) : Type 0 where
  pub at : (j : ℕ) → Sure len mid from i j → Match g len mid j (get_or t j 0)

-- before the places from `from` to `to` are filled: they are all on one side of mid, and where they are before it those after it are right
abbrev pub Fillable : Bool → List ℕ → ℕ → ℕ → ℕ → List ℕ → Type 0
Fillable mirrored v mid from to t =
    (mid ≤ length v) × (from ≤ mid + 1) × (from ≤ to) × (to ≤ length v + 1) × (from ≤ mid → to ≤ mid) × (length v < length t) × (length v < 2 ^ 32)
    × Filled (view mirrored v) (length v) mid from from t

-- the head start at i out of the box [l, r), whose symbols are those from mid on: what the table has for the place that answers to i, as far as the box reaches
abbrev pub head_of : List ℕ → ℕ → ℕ → ℕ → ℕ → ℕ
head_of t mid i l r = min (r - i) (get_or t (mid + (i - l)) 0)
