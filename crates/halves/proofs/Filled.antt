-- The scratch after both of its tables were filled: they stand in their rows, and the others stay. By the laws of a row that was lent. Assumes nothing.
use mathlib.Core.Path.{◌≡◌, sym, ◌∙◌, subst}
use mathlib.Core.Bool.{true, false}
use mathlib.Core.List.{List}
use Prim.Native.Nat.{ℕ, ◌+◌, ◌-◌, ◌*◌, ◌≤◌}
use native.Mathlib.Omega.{arith}
use lib.ListN.{length, take, drop, length-drop}
use lib.Seq.{length-take-le}
use Rattle.periods.specs.Period.{part}
use Rattle.prefixes.specs.Match.{view, Matched}
use Rattle.factors.proofs.Lent.{lent}
use Rattle.halves.specs.Scratch.{row_from, prefix_row, suffix_row, ends_row, next_row}
use Rattle.halves.specs.Found.{Tables, Solved}
use Rattle.halves.specs.Kept.{Room, SamePrefixes, SameRecords}
use Rattle.halves.proofs.ScratchRows.{row_lent, row_lent_before, row_lent_behind, row_lent_long}

module _ (w s x y : List ℕ) (lo m hi : ℕ) (F : 4 * (length w + 1) ≤ length s) where
  abbrev one : ℕ
  one = length w + 1

  abbrev first : List ℕ
  first = lent s 0 (length w + 1) x

  abbrev both : List ℕ
  both = lent first (length w + 1) (length w + 1 + (length w + 1)) y

  module _ (lx : length x ≡ length (take (length w + 1 - 0) s)) (ly : length y ≡ length (take (length w + 1 + (length w + 1) - (length w + 1)) (drop (length w + 1) first))) where
    x_long : length x ≡ length w + 1
    x_long = omega (arith, lx, length-take-le (length w + 1 - 0) s (omega arith))

    first_long : length first ≡ length s
    first_long = row_lent_long (length w) s 0 (length w + 1) x (omega arith) (omega arith) x_long

    y_long : length y ≡ length w + 1
    y_long =
        omega (arith, ly, length-take-le (length w + 1 + (length w + 1) - (length w + 1)) (drop (length w + 1) first) (omega (arith, first_long, length-drop (length w + 1) first)))

    prefixes_are : prefix_row w both ≡ x
    prefixes_are =
        row_lent_before (length w) first (length w + 1) (length w + 1 + (length w + 1)) y (omega arith) (omega (arith, first_long)) y_long 0 (omega arith)
        ∙ row_lent (length w) s 0 (length w + 1) x (omega arith) (omega arith) x_long

    suffixes_are : suffix_row w both ≡ y
    suffixes_are = row_lent (length w) first (length w + 1) (length w + 1 + (length w + 1)) y (omega arith) (omega (arith, first_long)) y_long

    behind : (k : ℕ) → 2 * (length w + 1) ≤ k → row_from (length w) k both ≡ row_from (length w) k s
    behind k h =
        row_lent_behind (length w) first (length w + 1) (length w + 1 + (length w + 1)) y (omega arith) (omega (arith, first_long)) y_long k (omega arith)
        ∙ row_lent_behind (length w) s 0 (length w + 1) x (omega arith) (omega arith) x_long k (omega arith)

    pub tables_filled : Matched (view false (part w lo hi)) (length (part w lo hi)) (m - lo) x → Matched (view true (part w lo hi)) (length (part w lo hi)) (hi - m) y
        → Tables w lo m hi (prefix_row w both) (suffix_row w both) × SameRecords w s both
    tables_filled X Y = (
      record {
        forth = subst (λ (t : List ℕ). Matched (view false (part w lo hi)) (length (part w lo hi)) (m - lo) t) (sym prefixes_are) X;
        back = subst (λ (t : List ℕ). Matched (view true (part w lo hi)) (length (part w lo hi)) (hi - m) t) (sym suffixes_are) Y;
      },
      record { ends = behind (2 * (length w + 1)) (omega arith); next = behind (3 * (length w + 1)) (omega arith) },
    )

-- ---- steps over the scratch

pub tables_kept : (w s s' : List ℕ) (lo m hi : ℕ) → SamePrefixes w s s' → Tables w lo m hi (prefix_row w s) (suffix_row w s) → Tables w lo m hi (prefix_row w s') (suffix_row w s')
tables_kept w s s' lo m hi S X = rw (S.prefixes, S.suffixes) X

pub room_kept : (w s s' : List ℕ) → SameRecords w s s' → Room w (ends_row w s) (next_row w s) → Room w (ends_row w s') (next_row w s')
room_kept w s s' S R = rw (S.ends, S.next) R

pub solved_kept : (w s s' : List ℕ) (lo hi : ℕ) → SameRecords w s s' → Solved w lo hi (ends_row w s) → Solved w lo hi (ends_row w s')
solved_kept w s s' lo hi S R = rw S.ends R
