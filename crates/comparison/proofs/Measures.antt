-- What is read off a filled table is the size of the smallest factorization and the end of its first block (given_size, given_end), and of two sizes read as
-- numbers the smaller is that of the word to wind first, since none is the greatest (chosen_by-sizes). By cases on what is known of the words' last
-- boundaries. And what follows the places of the longer word is left alone (both_cleared). Assumes nothing.
use mathlib.Core.Path.{◌≡◌, refl, sym, ap, ◌∙◌}
use mathlib.Core.Bool.{Bool, cond}
use mathlib.Core.List.{List, ◌++◌}
use Prim.Native.Nat.{ℕ, ◌+◌, ◌*◌, ◌≤◌, ◌<◌}
use native.Mathlib.Nat.{le-max_left, le-max_right}
use native.Mathlib.Omega.{arith}
use borrow.Author.Tests.{lt-ltb, le-ltb, ne_eqb}
use lib.Dec.{eqb}
use lib.ListN.{length, get_or, take, drop, replicate, length-take}
use Rattle.periods.specs.Period.{held_period}
use Rattle.factors.specs.Factorization.{fewest, smallest, Cell, unreachable, reached, cell, best_ends}
use Rattle.factors.specs.Table.{none, rows, size_in, previous, filled, ends_back}
use Rattle.factors.specs.Verdict.{end_of}
use Rattle.factors.proofs.Optimal.{size_bound, no_ends}
use Rattle.factors.proofs.TableLaws.{length-previous, previous-agrees, ends_back_lem}
use Rattle.repetitions.specs.Block.{block?}
use Rattle.repetitions.specs.BestSplit.{last_cell}
use Rattle.factorizer.proofs.Filled.{filled-size, filled_row, filled_long, filled_past}
use Rattle.comparison.specs.declared.Chosen.{Chosen}
use Rattle.std.specs.Prelude.{Result}
use Rattle.answers.specs.declared.Refusal.{Refusal}
use Rattle.comparison.specs.Measure.{fewest_size, first_end, end_in, chosen_by}
use Rattle.comparison.specs.Calls.{longer, chosen}

-- a table r that is filled for a word
module _ (k : ℕ) (w t r : List ℕ) (is : r ≡ filled smallest (block? held_period k w) (length w) t) (h : length w < none) where
  pub given_size : get_or r (length w) 0 ≡ fewest_size k w
  given_size = rw is (filled-size smallest (block? held_period k w) (length w) t (length w) (omega arith))

  pub given_end : end_in (length w) r ≡ first_end k w
  given_end = rw (is, filled_row smallest b n t, filled-size smallest b n t n (omega arith)) (go (cell smallest b n) refl)
    where
      b : ℕ → ℕ → Bool
      b = block? held_period k w

      n : ℕ
      n = length w

      go : (v : Cell) → cell smallest b n ≡ v → cond (eqb (size_in v) none) 0 (end_of (ends_back (previous smallest b n) (size_in v) n) 1) ≡ end_of (best_ends smallest b n) 1
      go unreachable e = sym (ap (λ (es : List ℕ). end_of es 1) (no_ends smallest b n e))
      go (reached s p) e =
          rw (ne_eqb s none (λ x. omega (arith, size_bound smallest b n s p e)), ends_back_lem smallest b (previous smallest b n) n (omega (arith, length-previous smallest b n)) (previous-agrees smallest b n) s p e) refl

-- the size of what is reached is below none
abbrev pub Small : Cell → Type 0
Small v = (s p : ℕ) → v ≡ reached s p → s < none

pub chosen_by-sizes : (u v : Cell) (i j : ℕ) → Small u → Small v → chosen_by (size_in u) i (size_in v) j ≡ chosen u v i j
chosen_by-sizes unreachable unreachable i j a b = refl
chosen_by-sizes unreachable (reached t q) i j a b = rw (lt-ltb t none (b t q refl)) refl
chosen_by-sizes (reached s p) unreachable i j a b =
    rw (le-ltb none s (omega (arith, a s p refl)), ne_eqb s none (λ x. omega (arith, a s p refl))) refl
chosen_by-sizes (reached s p) (reached t q) i j a b = rw (ne_eqb s none (λ x. omega (arith, a s p refl))) refl

-- what the sizes and ends that were measured choose
pub measured_chosen : (k : ℕ) (a b : List ℕ) → length a < none → length b < none → (r : Result Chosen Refusal) (s i t j : ℕ) → r ≡ chosen_by s i t j
    → (s ≡ fewest_size k a) × (i ≡ first_end k a) → (t ≡ fewest_size k b) × (j ≡ first_end k b)
    → r ≡ chosen (last_cell k a fewest) (last_cell k b fewest) (first_end k a) (first_end k b)
measured_chosen k a b h l r s i t j e A B =
    e ∙ rw (A.0, A.1, B.0, B.1) (chosen_by-sizes (last_cell k a fewest) (last_cell k b fewest) (first_end k a) (first_end k b) (small a h) (small b l))
  where
    small : (w : List ℕ) → length w < none → Small (last_cell k w fewest)
    small w h s p e = omega (arith, size_bound smallest (block? held_period k w) (length w) s p e)

-- the table after both fills, u for the first word and v for the second: its length, and what follows the places of the longer word, are as they were
module _ (k : ℕ) (a b t u : List ℕ) (room : rows * (longer a b + 1) ≤ length t) (first : u ≡ filled smallest (block? held_period k a) (length a) t) where
  left : length a ≤ longer a b
  left = le-max_left (length a) (length b)

  right : length b ≤ longer a b
  right = le-max_right (length a) (length b)

  pub first_long : length u ≡ length t
  first_long = ap length first ∙ filled_long smallest (block? held_period k a) (length a) t (omega (arith, left))

  module _ (v : List ℕ) (second : v ≡ filled smallest (block? held_period k b) (length b) u) where
    both_long : length v ≡ length t
    both_long = ap length second ∙ filled_long smallest (block? held_period k b) (length b) u (omega (arith, right, first_long)) ∙ first_long

    both_kept : drop (rows * (longer a b + 1)) v ≡ drop (rows * (longer a b + 1)) t
    both_kept =
        ap (drop (rows * (longer a b + 1))) second
        ∙ filled_past smallest (block? held_period k b) (length b) u (rows * (longer a b + 1)) (omega (arith, right))
        ∙ ap (drop (rows * (longer a b + 1))) first
        ∙ filled_past smallest (block? held_period k a) (length a) t (rows * (longer a b + 1)) (omega (arith, left))

    -- those places cleared to z
    pub both_cleared : (places : ℕ) (z : List ℕ) → places ≡ rows * (longer a b + 1) → z ≡ replicate (length (take places v)) 0
        → z ++ drop places v ≡ replicate (rows * (longer a b + 1)) 0 ++ drop (rows * (longer a b + 1)) t
    both_cleared places z e f =
        let l : length (take (rows * (longer a b + 1)) v) ≡ rows * (longer a b + 1) = length-take (rows * (longer a b + 1)) v ∙ omega (arith, both_long) in
        rw (f, e, l) (ap (λ (x : List ℕ). replicate (rows * (longer a b + 1)) 0 ++ x) both_kept)
