-- What the loops of path of a split go by: the test of a piece by its unit; what the loops over the blocks have written, and what is there still. By the laws of
-- lists. Assumes nothing.
use mathlib.Core.Path.{◌≡◌, refl, ap, ap₂, ◌∙◌}
use mathlib.Core.Bool.{Bool, ◌&&◌}
use mathlib.Core.List.{List, ◌++◌}
use Prim.Native.Nat.{ℕ, suc, ◌+◌, ◌-◌, ◌*◌, ◌≤◌, ◌<◌}
use native.Mathlib.Omega.{arith}
use native.Mathlib.Nat.{zero-add}
use native.Mathlib.Numerals.{add-one}
use borrow.Author.Tests.{le-leb}
use lib.Dec.{leb}
use lib.ListN.{length, get_or, set, take, drop, length-append, length-take, length-drop}
use lib.Seq.{take_all, length-take-le, drop-cons, get_or_at, paste-suc}
use Rattle.periods.specs.Period.{part, smallest_period}
use Rattle.periods.proofs.InPlace.{placed_part}
use Rattle.periods.proofs.Claims.{repetition_by_unit}
use Rattle.repetitions.specs.Block.{block?}

-- ---- the test of a piece, by its unit u

pub piece_by_unit : (allowed : ℕ → Bool) (k : ℕ) (w : List ℕ) (i j u : ℕ) → i < j → j ≤ length w → u ≡ smallest_period (part w i j)
    → block? allowed k w i j ≡ (leb (k * u) (j - i) && allowed u)
piece_by_unit allowed k w i j u up within is =
    let n = (placed_part w i j within).long in
    rw (le-leb j (length w) within) (repetition_by_unit allowed k (part w i j) (omega (arith, n)) ∙ rw (n, is) refl)

-- ---- the table

-- the first k of the numbers stand in the table u, which was t
module _ (t ns : List ℕ) (enough : length ns ≤ length t) (k : ℕ) (u : List ℕ) (W : u ≡ take k ns ++ drop k t) where
  pub written_long : k ≤ length ns → length u ≡ length t
  written_long h = omega (arith, ap length W, length-append (take k ns) (drop k t), length-take k ns, length-drop k t)

  -- what stood at the next place is there still
  pub written_next : k < length ns → get_or u k 0 ≡ get_or t k 0
  written_next h =
      ap (λ (x : List ℕ). get_or x k 0) (W ∙ ap (λ (x : List ℕ). take k ns ++ x) (drop-cons t k 0 (omega arith)))
      ∙ get_or_at (take k ns) (get_or t k 0) (drop (suc k) t) 0 k (length-take-le k ns (omega arith))

  pub written_more : (v : ℕ) → k < length ns → v ≡ get_or ns k 0 → set u k v ≡ take (k + 1) ns ++ drop (k + 1) t
  written_more v h e =
      ap₂ (λ (x : List ℕ) (y : ℕ). set x k y) W e
      ∙ rw (add-one k) (rw (zero-add k, zero-add (suc k)) at (paste-suc t 0 ns k 0 (omega arith) h))

  pub written_all : length ns ≤ k → k ≤ length ns → u ≡ ns ++ drop (length ns) t
  written_all h l =
      let e : k ≡ length ns = omega arith in
      rw e at W ∙ ap (λ (x : List ℕ). x ++ drop (length ns) t) (take_all (length ns) ns (omega arith))
