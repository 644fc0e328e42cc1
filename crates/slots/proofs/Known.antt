-- Rows 0 and 1 while boundary e is taken: what is known of the boundaries below e is their cells, and nothing is known of e. So starts below e are compared by their
-- cells. Assumes nothing.
use mathlib.Core.Path.{◌≡◌, refl, ap, ◌∙◌}
use mathlib.Core.List.{List}
use Prim.Native.Nat.{ℕ, ◌+◌, ◌≤◌, ◌<◌}
use native.Mathlib.Omega.{arith}
use borrow.Author.Tests.{lt-ltb, le-ltb}
use lib.ListN.{length, set}
use lib.Seq.{get_or-set_other}
use Rattle.factors.specs.Factorization.{Choice, Cell, unreachable}
use Rattle.factors.specs.Table.{size_in}
use Rattle.factors.proofs.TableLaws.{holds_same}
use Rattle.slots.specs.Starts.{rank, rank_in}
use Rattle.slots.specs.Ready.{square_cell, known_cell}
use Rattle.slots.proofs.Turn.{Knows, known_rank, final_rank}

module _ (c : Choice) (w : List ℕ) (e : ℕ) where
  pub known_below : (j : ℕ) → j < e → known_cell c w e j ≡ square_cell c w j
  known_below j h = rw (lt-ltb j e h) refl

  pub known_here : known_cell c w e e ≡ unreachable
  known_here = rw (le-ltb e e (omega arith)) refl

  pub known_final : (j : ℕ) → j < e → known_rank c w e j ≡ final_rank c w j
  known_final j h = ap (λ (v : Cell). rank c (size_in v)) (known_below j h)

  pub in_table : (u : List ℕ) → Knows c w e u → (j : ℕ) → j ≤ length w → rank_in c u j ≡ known_rank c w e j
  in_table u K j h = ap (rank c) (K.known j h).size

  pub in_table_final : e ≤ length w → (u : List ℕ) → Knows c w e u → (j : ℕ) → j < e → rank_in c u j ≡ final_rank c w j
  in_table_final inside u K j h = in_table u K j (omega arith) ∙ known_final j h

  -- what is written behind the two rows leaves them
  pub knows_else : (u : List ℕ) (y v : ℕ) → length w + 1 + (length w + 1) ≤ y → Knows c w e u → Knows c w e (set u y v)
  knows_else u y v h K = record {
    known = λ m l. holds_same u m (length w + 1 + m) (set u y v) (known_cell c w e m) (get_or-set_other u y m v 0 (omega arith)) (get_or-set_other u y (length w + 1 + m) v 0 (omega arith)) (K.known m l);
  }
