-- The cell of a boundary is given by the best of all starts of blocks that end there, in whatever order they are looked at (`top_reached`, `top_unreachable`). By
-- the equation of the cells (factors/proofs/Optimal.antt). Assumes nothing.
use mathlib.Core.Path.{◌≡◌, refl, sym, ap, ◌∙◌}
use mathlib.Core.Bool.{Bool}
use Prim.Native.Nat.{ℕ, suc, ◌-◌, ◌≤◌, ◌<◌}
use native.Mathlib.Omega.{arith}
use native.Mathlib.Decide.{dec_lt}
use borrow.Author.Tests.{ne_eqb}
use lib.Dec.{T}
use Rattle.factors.specs.Factorization.{Choice, smallest, largest, AsGood, Cell, unreachable, reached, cell}
use Rattle.factors.specs.Table.{none, size_in}
use Rattle.factors.proofs.Optimal.{unreachable_reached, Says, cells_bellman, size_bound}
use Rattle.slots.specs.Starts.{rank}

-- ---- ranks

pub rank-none : (c : Choice) → rank c none ≡ none
rank-none smallest = refl
rank-none largest = refl

rank_reached : (c : Choice) (s : ℕ) → s < none → rank c s < none
rank_reached smallest s h = h
rank_reached largest s h = rw (ne_eqb s none (λ e. omega arith)) (omega arith)

rank_good : (c : Choice) (s t : ℕ) → s < none → t < none → rank c s ≤ rank c t → AsGood c s t
rank_good smallest s t a b h = h
rank_good largest s t a b h = go (rw (ne_eqb s none (λ e. omega arith), ne_eqb t none (λ e. omega arith)) at h)
  where
    go : none - 1 - s ≤ none - 1 - t → t ≤ s
    go k = omega arith

good_rank : (c : Choice) (s t : ℕ) → s < none → t < none → AsGood c (suc s) (suc t) → rank c s ≤ rank c t
good_rank smallest s t a b h = omega arith
good_rank largest s t a b h = rw (ne_eqb s none (λ e. omega arith), ne_eqb t none (λ e. omega arith)) (omega arith)

rank_equal : (c : Choice) (s t : ℕ) → s < none → t < none → rank c s ≤ rank c t → AsGood c (suc t) (suc s) → s ≡ t
rank_equal smallest s t a b h k = omega arith
rank_equal largest s t a b h k = go (rank_good largest s t a b h)
  where
    go : t ≤ s → s ≡ t
    go l = omega arith

-- the rank of none stands for a boundary that is not reached
pub rank_worst : (c : Choice) (v : Cell) → ((s p : ℕ) → v ≡ reached s p → s < none) → none ≤ rank c (size_in v) → v ≡ unreachable
rank_worst c unreachable bound h = refl
rank_worst c (reached s p) bound h = absurd (omega (arith, rank_reached c s (bound s p refl)))

-- ---- the cell of boundary m

module _ (c : Choice) (b : ℕ → ℕ → Bool) (m : ℕ) (some : 0 < m) (small : m < none) where
  bounded : (j s p : ℕ) → j < m → cell c b j ≡ reached s p → s < none
  bounded j s p h e = omega (arith, size_bound c b j s p e)

  -- where no start is reached
  pub top_unreachable : ((j : ℕ) → j < m → T (b j m) → cell c b j ≡ unreachable) → cell c b m ≡ unreachable
  top_unreachable h = go (cell c b m) refl ((cells_bellman c b).says m some)
    where
      go : (v : Cell) → cell c b m ≡ v → Says c b (cell c b) m m v → v ≡ unreachable
      go unreachable e S = refl
      go (reached s p) e S = absurd (unreachable_reached (cell c b p) S.before S.back (h p S.below S.block) S.from)

  -- CLAIM: the best start gives the cell, if it is reached
  pub top_reached : (i s q : ℕ) → i < m → T (b i m) → cell c b i ≡ reached s q
      → ((j : ℕ) → j < m → T (b j m) → rank c s ≤ rank c (size_in (cell c b j)))
      → ((j : ℕ) → j < m → T (b j m) → rank c (size_in (cell c b j)) ≤ rank c s → i ≤ j)
      → cell c b m ≡ reached (suc s) i
  top_reached i s q l B e least lowest = go (cell c b m) refl ((cells_bellman c b).says m some)
    where
      go : (v : Cell) → cell c b m ≡ v → Says c b (cell c b) m m v → v ≡ reached (suc s) i
      go unreachable f S = absurd (unreachable_reached (cell c b i) s q (S i l B) e)
      go (reached t p) f S =
          let here : rank c (size_in (cell c b p)) ≡ rank c S.before = ap (λ (v : Cell). rank c (size_in v)) S.from in
          let x : s < none = bounded i s q l e in
          let y : S.before < none = bounded p S.before S.back S.below S.from in
          let good : AsGood c (suc S.before) (suc s) = rw S.grown at (S.good i s q l B e) in
          let same : s ≡ S.before = rank_equal c s S.before x y (omega (arith, here, least p S.below S.block)) good in
          let low : i ≤ p = lowest p S.below S.block (omega (arith, here, ap (rank c) same)) in
          let at : p ≡ i = pick (dec_lt i p) low same in
          ap (λ (z : ℕ). reached z p) (S.grown ∙ ap suc (sym same)) ∙ ap (reached (suc s)) at
        where
          pick : Dec (i < p) → i ≤ p → s ≡ S.before → p ≡ i
          pick (no u) k z = omega arith
          pick (yes u) k z = absurd (S.first i s q u B e (S.grown ∙ ap suc (sym z)))
