-- What the steps of filling by windows go by: a window whose unit memory does not hold is no block. And what holds before the first step. Assumes nothing.
use mathlib.Core.Path.{◌≡◌}
use mathlib.Core.Logic.{inr}
use mathlib.Core.Bool.{Bool, false}
use mathlib.Core.List.{List}
use Prim.Native.Nat.{ℕ, zero, suc, ◌+◌, ◌*◌, ◌≤◌, ◌<◌}
use native.Mathlib.Omega.{arith}
use lib.ListN.{length}
use Rattle.laws.proofs.Tests.{test_fails}
use Rattle.periods.specs.Period.{repetition?, unit_memory, held_period}
use Rattle.periods.proofs.InPlace.{PeriodIn, symbol}
use Rattle.factors.specs.Factorization.{Choice, unreachable, cell}
use Rattle.factors.specs.Table.{rows, Holds}
use Rattle.factors.proofs.Filling.{start_first, start_others}
use Rattle.factorizer.specs.Piece.{piece?}
use Rattle.factorizer.specs.Window.{window_of, Windowed}
use Rattle.factorizer.proofs.LongBlocks.{block_periodic}
use Rattle.factorizer.proofs.FillLaws.{begun, begun_front, begun_zeros}

-- a window with a unit that memory does not hold is no block
pub window_no_block : (k : ℕ) (w : List ℕ) (j : ℕ) → ((p : ℕ) → PeriodIn (symbol w) j (j + window_of k) p → unit_memory < p)
    → piece? (repetition? held_period k) w j (j + window_of k) ≡ false
window_no_block k w j above =
    test_fails (piece? (repetition? held_period k) w j (j + window_of k))
    (λ t. let P = (block_periodic unit_memory k w j (j + window_of k) t).1 in omega (arith, P.low, above P.period P.holds))

-- before the first boundary is taken
pub windowed_starts : (c : Choice) (b : ℕ → ℕ → Bool) (w t : List ℕ) (window : ℕ) → rows * (length w + 1) ≤ length t → Windowed c b w window 0 0 0 (begun w t)
windowed_starts c b w t window room = record {
  upto = upto;
  near = λ m h l x. others m h l;
  far = λ m h l. others m h (omega arith);
  fits = omega arith;
  known = λ h. inr (λ i l r. absurd (omega arith));
}
  where
    others : (m : ℕ) → m ≤ length w → 0 < m → Holds (begun w t) m (length w + 1 + m) unreachable
    others = start_others c b (length w) t (begun w t) (begun_front w t room) (begun_zeros w t room)

    upto : (m : ℕ) → m ≤ length w → m ≤ 0 → Holds (begun w t) m (length w + 1 + m) (cell c b m)
    upto zero h l = start_first c b (length w) t (begun w t) (begun_front w t room) (begun_zeros w t room)
    upto (suc m) h l = absurd (omega arith)
