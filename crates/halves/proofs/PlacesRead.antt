-- The two places of the scratch that are read for a period give the longest stretch of that period beside the middle. By the laws of the tables and of the rows.
-- Assumes nothing.
use mathlib.Core.Path.{◌≡◌, ap, ◌∙◌}
use mathlib.Core.List.{List}
use Prim.Native.Nat.{ℕ, ◌+◌, ◌-◌, ◌≤◌}
use native.Mathlib.Omega.{arith}
use lib.ListN.{length, get_or}
use Rattle.halves.specs.Scratch.{prefix_row, suffix_row}
use Rattle.halves.specs.Found.{Tables}
use Rattle.halves.proofs.ScratchRows.{row_read}
use Rattle.halves.proofs.Stretches.{Stretch, above_at, below_at}

module _ (w s : List ℕ) (lo m hi : ℕ) (l : lo ≤ m) (k : m ≤ hi) (h : hi ≤ length w) (X : Tables w lo m hi (prefix_row w s) (suffix_row w s)) where
  prefix_read : (a : ℕ) → a ≤ length w → get_or (prefix_row w s) a 0 ≡ get_or s a 0
  prefix_read a z = let e : 0 + a ≡ a = omega arith in row_read (length w) s 0 a z ∙ ap (λ (i : ℕ). get_or s i 0) e

  suffix_read : (a : ℕ) → a ≤ length w → get_or (suffix_row w s) a 0 ≡ get_or s (length w + 1 + a) 0
  suffix_read a z = row_read (length w) s (length w + 1) a z

  pub above_read : (p : ℕ) → 1 ≤ p → p ≤ hi - m
      → (get_or s (length w + 1 + (hi - m - p)) 0 ≤ m) × Stretch w lo hi m p (m - get_or s (length w + 1 + (hi - m - p)) 0) (m + p + get_or s (m - lo + p) 0)
  above_read p pos z =
      rw (suffix_read (hi - m - p) (omega arith), prefix_read (m - lo + p) (omega arith)) at (above_at w lo m hi (prefix_row w s) (suffix_row w s) l k h X p pos z)

  pub below_read : (p : ℕ) → 1 ≤ p → p ≤ m - lo
      → (get_or s (length w + 1 + (hi - m + p)) 0 ≤ m - p) × Stretch w lo hi (m - p) p (m - p - get_or s (length w + 1 + (hi - m + p)) 0) (m - p + p + get_or s (m - lo - p) 0)
  below_read p pos z =
      rw (suffix_read (hi - m + p) (omega arith), prefix_read (m - lo - p) (omega arith)) at (below_at w lo m hi (prefix_row w s) (suffix_row w s) l k h X p pos z)
