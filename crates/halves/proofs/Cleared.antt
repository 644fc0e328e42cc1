-- The scratch when its rows were cleared, and what the finder leaves in it then: the counts of the runs after each boundary, and the numbers of the first of them.
-- By the laws of a row that was lent, and of the sums. Assumes nothing.
use mathlib.Core.Path.{◌≡◌, sym, ap, ◌∙◌, subst}
use mathlib.Core.List.{List}
use Prim.Native.Nat.{ℕ, ◌+◌, ◌-◌, ◌*◌, ◌≤◌, ◌<◌}
use native.Mathlib.Omega.{arith}
use native.Mathlib.Decide.{dec_lt}
use lib.ListN.{length, get_or, get_or-eq_default, take, drop, replicate, length-replicate, length-drop}
use lib.Seq.{sets, length-take-le, get_or-take, get_or-drop}
use Rattle.factors.proofs.Lent.{lent, lent_length, lent_within}
use Rattle.runs.specs.declared.Listing.{Listing}
use Rattle.runs.specs.Table.{runs_of}
use Rattle.runs.specs.Listing.{stride_of, flat_by}
use Rattle.runs.proofs.Few.{table_at_most}
use Rattle.halves.specs.Scratch.{Scratch, row_from, ends_row, next_row}
use Rattle.halves.specs.Found.{Solved}
use Rattle.halves.specs.Kept.{Starts, Roomy, Advances, sum_to, Summed}
use Rattle.halves.proofs.ScratchRows.{row_long, row_read, row_lent_behind, row_lent_long}
use Rattle.halves.proofs.Sums.{Zeros, zeros_cleared, Counts, counts_are, sum_all, starts_are, room_zeros, room_starts, table_is}

-- rows in a part that was cleared
module _ (w s : List ℕ) (a b : ℕ) (low : a ≤ b) (high : b ≤ length s) (new : List ℕ) (z : new ≡ replicate (length (take (b - a) (drop a s))) 0) where
  pub cleared_long : length new ≡ b - a
  cleared_long =
      ap length z ∙ length-replicate {A = ℕ} (length (take (b - a) (drop a s))) 0 ∙ length-take-le (b - a) (drop a s) (omega (arith, length-drop a s))

  pub cleared_zeros : (k : ℕ) → a ≤ k → k + (length w + 1) ≤ b → Zeros (row_from (length w) k (lent s a b new))
  cleared_zeros k l h = record { at = λ i. go i (dec_lt (length w) i) }
    where
      long : length (row_from (length w) k (lent s a b new)) ≡ length w + 1
      long = row_long (length w) (lent s a b new) k (omega (arith, lent_length s a b new low high cleared_long))

      go : (i : ℕ) → Dec (length w < i) → get_or (row_from (length w) k (lent s a b new)) i 0 ≡ 0
      go i (yes g) = get_or-eq_default (row_from (length w) k (lent s a b new)) 0 (omega (arith, long))
      go i (no g) =
          row_read (length w) (lent s a b new) k i (omega arith) ∙ lent_within s a b new low high cleared_long (k + i) (omega arith) (omega arith)
          ∙ (zeros_cleared new (length (take (b - a) (drop a s))) z).at (k + i - a)

module _ (w s : List ℕ) (F : Scratch w s) where
  -- ---- the turn that writes: nothing was found

  module _ (x : List ℕ) (zx : x ≡ replicate (length (take (3 * (length w + 1) - 2 * (length w + 1)) (drop (2 * (length w + 1)) s))) 0) (S : Starts w (next_row w s)) where
    abbrev none : List ℕ
    none = lent s (2 * (length w + 1)) (3 * (length w + 1)) x

    x_long : length x ≡ length w + 1
    x_long = omega (arith, cleared_long w s (2 * (length w + 1)) (3 * (length w + 1)) (omega arith) (omega arith) x zx)

    none_found : Zeros (ends_row w none)
    none_found = cleared_zeros w s (2 * (length w + 1)) (3 * (length w + 1)) (omega arith) (omega arith) x zx (2 * (length w + 1)) (omega arith) (omega arith)

    starts_stay : Starts w (next_row w none)
    starts_stay =
        subst (Starts w) (sym (row_lent_behind (length w) s (2 * (length w + 1)) (3 * (length w + 1)) x (omega arith) (omega arith) x_long (3 * (length w + 1)) (omega arith))) S

    pub place_roomy : Roomy w none
    place_roomy = (
      (F.0, omega (arith, row_lent_long (length w) s (2 * (length w + 1)) (3 * (length w + 1)) x (omega arith) (omega arith) x_long, F.1)),
      room_starts w (ends_row w none) (next_row w none) F.0 starts_stay,
    )

    pub place_is : (f : Listing) (t s' t' : List ℕ) → stride_of f * length (runs_of w) ≤ length t → Advances f w none t s' t' → Solved w 0 (length w) (ends_row w s') → t' ≡ sets t 0 (flat_by f (runs_of w))
    place_is f t s' t' room K D = table_is f w (ends_row w none) (next_row w none) t (ends_row w s') (next_row w s') t' none_found starts_stay room K D

  -- ---- the turn that counts: nothing was found, and every number is 0

  module _ (y : List ℕ) (zy : y ≡ replicate (length (take (4 * (length w + 1) - 2 * (length w + 1)) (drop (2 * (length w + 1)) s))) 0) where
    abbrev clean : List ℕ
    clean = lent s (2 * (length w + 1)) (4 * (length w + 1)) y

    clean_long : length clean ≡ length s
    clean_long =
        lent_length s (2 * (length w + 1)) (4 * (length w + 1)) y (omega arith) (omega (arith, F.1))
        (cleared_long w s (2 * (length w + 1)) (4 * (length w + 1)) (omega arith) (omega (arith, F.1)) y zy)

    clean_row : (k : ℕ) → 2 * (length w + 1) ≤ k → k ≤ 3 * (length w + 1) → Zeros (row_from (length w) k clean)
    clean_row k l h = cleared_zeros w s (2 * (length w + 1)) (4 * (length w + 1)) (omega arith) (omega (arith, F.1)) y zy k l (omega arith)

    clean_next : Zeros (next_row w clean)
    clean_next = clean_row (3 * (length w + 1)) (omega arith) (omega arith)

    clean_ends : Zeros (ends_row w clean)
    clean_ends = clean_row (2 * (length w + 1)) (omega arith) (omega arith)

    pub count_roomy : Roomy w clean
    count_roomy = ((F.0, omega (arith, clean_long, F.1)), room_zeros w (ends_row w clean) (next_row w clean) F.0 clean_next)

    module _ (f : Listing) (t s' t' : List ℕ) (K : Advances f w clean t s' t') (D : Solved w 0 (length w) (ends_row w s')) (kept : length s' ≡ length clean) where
      -- the numbers of the boundaries before the word's end
      abbrev counts : List ℕ
      counts = take (3 * (length w + 1) + length w - 3 * (length w + 1)) (drop (3 * (length w + 1)) s')

      counts_long : length counts ≡ length w
      counts_long =
          length-take-le (3 * (length w + 1) + length w - 3 * (length w + 1)) (drop (3 * (length w + 1)) s')
          (omega (arith, kept, clean_long, F.1, length-drop (3 * (length w + 1)) s'))
          ∙ omega arith

      counts_read : (a : ℕ) → a < length w → get_or counts a 0 ≡ get_or (next_row w s') a 0
      counts_read a h =
          get_or-take (3 * (length w + 1) + length w - 3 * (length w + 1)) (drop (3 * (length w + 1)) s') a 0 (omega arith)
          ∙ get_or-drop (3 * (length w + 1)) s' a 0 ∙ sym (row_read (length w) s' (3 * (length w + 1)) a (omega arith))

      counted : Counts w counts
      counted =
          record { at = λ a h. counts_read a h ∙ (counts_are f w (ends_row w clean) (next_row w clean) t (ends_row w s') (next_row w s') t' clean_ends clean_next K D).at a h }

      pub count_is : sum_to counts (length counts) ≡ length (runs_of w)
      count_is = ap (sum_to counts) counts_long ∙ sum_all w counts counted

      pub sums_asked : sum_to counts (length counts) < 4294967296
      sums_asked = omega (arith, count_is, table_at_most w, F.0)

      pub starts_left : (r : List ℕ) → length r ≡ length counts → Summed counts r (length counts)
          → Starts w (next_row w (lent s' (3 * (length w + 1)) (3 * (length w + 1) + length w) r))
      starts_left r l R = record {
        at = λ a h.
            row_read (length w) (lent s' (3 * (length w + 1)) (3 * (length w + 1) + length w) r) (3 * (length w + 1)) a (omega arith)
            ∙ lent_within s' (3 * (length w + 1)) (3 * (length w + 1) + length w) r (omega arith) (omega (arith, kept, clean_long, F.1)) (omega (arith, l, counts_long))
            (3 * (length w + 1) + a) (omega arith) (omega arith)
            ∙ ap (λ (i : ℕ). get_or r i 0) (omega arith)
            ∙ (starts_are w counts r counted (subst (Summed counts r) counts_long R)).at a h;
      }
