-- Which runs the finder has found: ends has, for each boundary, the greatest end of a run that was found after it. Definitions only.
use Rattle.std.specs.Prelude.{◌≡◌, ◌⊎◌, true, false, List, ℕ, ◌+◌, ◌-◌, ◌≤◌, ◌<◌, T, length, get_or}
use Rattle.periods.specs.Period.{part, smallest_period}
use Rattle.prefixes.specs.Match.{view, Matched}
use Rattle.runs.specs.Table.{run?}

-- p is a period of the part between the boundaries a and b
pub record Periodic (w : List ℕ) (a b p : ℕ) : Type 0 where
  pub positive : 1 ≤ p
  pub fits : a + p ≤ b
  pub within : b ≤ length w
  pub same : (i : ℕ) → a ≤ i → i + p < b → get_or w i 0 ≡ get_or w (i + p) 0

-- the tables of the part between lo and hi: common prefixes with what follows boundary m, and common suffixes with what precedes it
pub record Tables (w : List ℕ) (lo m hi : ℕ) (prefixes suffixes : List ℕ) : Type 0 where
  pub forth : Matched (view false (part w lo hi)) (length (part w lo hi)) (m - lo) prefixes
  pub back : Matched (view true (part w lo hi)) (length (part w lo hi)) (hi - m) suffixes

-- every run after boundary a that ends at b at the latest and has a smaller period than p was found
pub record Ready (w : List ℕ) (a b p : ℕ) (ends : List ℕ) : Type 0 where
  pub found : (e : ℕ) → T (run? w a e) → e ≤ b → smallest_period (part w a e) < p → e ≤ get_or ends a 0

-- the part between a and b is a run with period p, and ends later than all that were found after a; no run after a ends in between
pub record New (w : List ℕ) (a b p : ℕ) (ends : List ℕ) : Type 0 where
  pub within : b ≤ length w
  pub test : T (run? w a b)
  pub unit : p ≡ smallest_period (part w a b)
  pub later : get_or ends a 0 < b
  pub none : (e : ℕ) → get_or ends a 0 < e → e < b → T (run? w a e) → ⊥

-- if the part between a and b is a run with period p, it was found
pub record Tried (w : List ℕ) (a b p : ℕ) (ends : List ℕ) : Type 0 where
  pub found : T (run? w a b) → smallest_period (part w a b) ≡ p → b ≤ get_or ends a 0

-- every run with period p between lo and hi that has p symbols before boundary d, and d within it, was found
pub record Met (w : List ℕ) (lo hi d p : ℕ) (ends : List ℕ) : Type 0 where
  pub found : (a b : ℕ) → T (run? w a b) → smallest_period (part w a b) ≡ p → lo ≤ a → b ≤ hi → a + p ≤ d → d ≤ b → b ≤ get_or ends a 0

-- every run between lo and hi was found that does not cross m or has a smaller period than p
pub record Done (w : List ℕ) (lo m hi p : ℕ) (ends : List ℕ) : Type 0 where
  pub found : (a b : ℕ) → T (run? w a b) → lo ≤ a → b ≤ hi → (b ≤ m) ⊎ ((m ≤ a) ⊎ (smallest_period (part w a b) < p)) → b ≤ get_or ends a 0

-- every run between lo and hi with a smaller period than p was found
pub record Below (w : List ℕ) (lo hi p : ℕ) (ends : List ℕ) : Type 0 where
  pub found : (a b : ℕ) → T (run? w a b) → lo ≤ a → b ≤ hi → smallest_period (part w a b) < p → b ≤ get_or ends a 0

-- every run between lo and hi was found
pub record Solved (w : List ℕ) (lo hi : ℕ) (ends : List ℕ) : Type 0 where
  pub found : (a b : ℕ) → T (run? w a b) → lo ≤ a → b ≤ hi → b ≤ get_or ends a 0
