-- What a factorizer that takes the boundaries in rising order goes by. A place after the offers from one boundary: what it held, with one more candidate counted
-- in. The best over the candidates for two boundaries that the same blocks reach, and for one that none reaches. And when all places hold their cells,
-- rows 0 and 1 are those of a filled table. Assumes nothing.
use mathlib.Core.Path.{◌≡◌, refl, sym, ap, ap₂, ◌∙◌, subst}
use mathlib.Core.Logic.{◌≢◌}
use mathlib.Core.Bool.{Bool, true, false, cond}
use mathlib.Core.List.{List, ◌++◌}
use Prim.Native.Nat.{ℕ, zero, suc, ◌+◌, ◌≤◌, ◌<◌}
use native.Mathlib.Omega.{arith}
use native.Mathlib.Numerals.{add-one}
use native.Mathlib.Decide.{ℕ_discrete}
use lib.ListN.{length, get_or, set, take, drop, length-take, length-drop}
use lib.Seq.{get_or-take, get_or-drop, drop-set-lt, take-add}
use Rattle.factors.specs.Factorization.{Choice, Cell, unreachable, reached, offer, scan, cell}
use Rattle.factors.specs.Table.{none, size_in, previous_in, Holds, sizes, previous, started, offered, taken, spread}
use Rattle.factors.proofs.Optimal.{unreachable_reached, cell-zero, size_bound, scan_no_block, scan_unreachable}
use Rattle.factors.proofs.TableLaws.{started-zero, started_within, offered-cell, offered_others, offered_other, length-offered, sizes_are, previous_are}

-- ---- what a spread keeps

module _ (c : Choice) (n j s : ℕ) (ends : ℕ → Bool) (t : List ℕ) where
  pub spread_none : t ≡ spread c n j s ends 0 t
  unfolding spread
  spread_none = refl

  pub spread_takes : (d : ℕ) → ends d ≡ true → offered c (j + (d + 1)) (n + 1 + (j + (d + 1))) s j (spread c n j s ends d t) ≡ spread c n j s ends (d + 1) t
  unfolding spread
  spread_takes d e = stepped ∙ ap (λ (x : ℕ). spread c n j s ends x t) (sym (add-one d))
    where
      stepped : offered c (j + (d + 1)) (n + 1 + (j + (d + 1))) s j (spread c n j s ends d t) ≡ spread c n j s ends (suc d) t
      stepped = rw e refl

  pub spread_passes : (d : ℕ) → ends d ≡ false → spread c n j s ends d t ≡ spread c n j s ends (d + 1) t
  unfolding spread
  spread_passes d e = rw (add-one d) (rw e refl)

  -- where no later test passes, no later boundary is offered anything
  pub spread_rest : (d e : ℕ) → ((i : ℕ) → d ≤ i → i < d + e → ends i ≡ false) → spread c n j s ends d t ≡ spread c n j s ends (d + e) t
  spread_rest d zero h = ap (λ (x : ℕ). spread c n j s ends x t) (omega arith)
  spread_rest d (suc e) h =
      let f : d + e + 1 ≡ d + suc e = omega arith in
      spread_rest d e (λ i a b. h i a (omega arith)) ∙ spread_passes (d + e) (h (d + e) (omega arith) (omega arith))
      ∙ ap (λ (x : ℕ). spread c n j s ends x t) f

  pub length-spread : (d : ℕ) → length (spread c n j s ends d t) ≡ length t
  unfolding spread
  length-spread zero = refl
  length-spread (suc d) = go (ends d) (length-spread d)
    where
      go : (u : Bool) → length (spread c n j s ends d t) ≡ length t
          → length (cond u (offered c (j + (d + 1)) (n + 1 + (j + (d + 1))) s j (spread c n j s ends d t)) (spread c n j s ends d t)) ≡ length t
      go true e = length-offered c (j + (d + 1)) (n + 1 + (j + (d + 1))) s j (spread c n j s ends d t) ∙ e
      go false e = e

  -- only rows 0 and 1 change
  pub spread_past : (d i : ℕ) → j + d ≤ n → n + 1 + (n + 1) ≤ i → get_or (spread c n j s ends d t) i 0 ≡ get_or t i 0
  unfolding spread
  spread_past zero i h k = refl
  spread_past (suc d) i h k = go (ends d) (spread_past d i (omega arith) k)
    where
      go : (u : Bool) → get_or (spread c n j s ends d t) i 0 ≡ get_or t i 0
          → get_or (cond u (offered c (j + (d + 1)) (n + 1 + (j + (d + 1))) s j (spread c n j s ends d t)) (spread c n j s ends d t)) i 0 ≡ get_or t i 0
      go true e = offered_other c (j + (d + 1)) (n + 1 + (j + (d + 1))) s j (spread c n j s ends d t) i (omega arith) (omega arith) ∙ e
      go false e = e

  pub spread-drop : (d k : ℕ) → j + d ≤ n → n + 1 + (n + 1) ≤ k → drop k (spread c n j s ends d t) ≡ drop k t
  unfolding spread offered
  spread-drop zero k h l = refl
  spread-drop (suc d) k h l = go (ends d) (spread-drop d k (omega arith) l)
    where
      u : List ℕ
      u = spread c n j s ends d t

      at : ℕ
      at = j + (d + 1)

      kept : (v : Bool) → drop k u ≡ drop k t → drop k (cond v (set (set u at s) (n + 1 + at) j) u) ≡ drop k t
      kept true e = drop-set-lt k (set u at s) (n + 1 + at) j (omega arith) ∙ drop-set-lt k u at s (omega arith) ∙ e
      kept false e = e

      go : (v : Bool) → drop k u ≡ drop k t → drop k (cond v (offered c at (n + 1 + at) s j u) u) ≡ drop k t
      go true e = kept (taken c s (get_or u at 0)) e
      go false e = e

-- ---- a place after a spread

module _ (c : Choice) (n j s q : ℕ) (ends : ℕ → Bool) (t : List ℕ) (room : n + 1 + (n + 1) ≤ length t) (small : suc s < none) where
  -- one that is not offered anything
  pub spread_outside : (d m : ℕ) (v : Cell) → j + d ≤ n → m ≤ n → ((i : ℕ) → i < d → m ≢ j + (i + 1)) → Holds t m (n + 1 + m) v
      → Holds (spread c n j (suc s) ends d t) m (n + 1 + m) v
  unfolding spread
  spread_outside zero m v a h o H = H
  spread_outside (suc d) m v a h o H = go (ends d) (o d (omega arith)) (spread_outside d m v (omega arith) h (λ i l. o i (omega arith)) H)
    where
      u : List ℕ
      u = spread c n j (suc s) ends d t

      go : (x : Bool) → m ≢ j + (d + 1) → Holds u m (n + 1 + m) v → Holds (cond x (offered c (j + (d + 1)) (n + 1 + (j + (d + 1))) (suc s) j u) u) m (n + 1 + m) v
      go true ne K = offered_others c (j + (d + 1)) (n + 1 + (j + (d + 1))) (suc s) j u m (n + 1 + m) v ne (omega arith) (omega arith) (omega arith) K
      go false ne K = K

  -- one within reach
  pub spread_inside : (d i : ℕ) (v : Cell) → j + d ≤ n → i < d → Holds t (j + (i + 1)) (n + 1 + (j + (i + 1))) v
      → Holds (spread c n j (suc s) ends d t) (j + (i + 1)) (n + 1 + (j + (i + 1))) (offer c j v (ends i) (reached s q))
  unfolding spread
  spread_inside zero i v a h H = absurd (omega arith)
  spread_inside (suc d) i v a h H = by (ℕ_discrete i d) (λ l. spread_inside d i v (omega arith) l H)
    where
      u : List ℕ
      u = spread c n j (suc s) ends d t

      here : (x : Bool) → Holds u (j + (d + 1)) (n + 1 + (j + (d + 1))) v
          → Holds (cond x (offered c (j + (d + 1)) (n + 1 + (j + (d + 1))) (suc s) j u) u) (j + (d + 1)) (n + 1 + (j + (d + 1))) (offer c j v x (reached s q))
      here true K =
          offered-cell c (j + (d + 1)) (n + 1 + (j + (d + 1))) s j u q v (omega arith) (omega (arith, length-spread c n j (suc s) ends t d))
          (omega (arith, length-spread c n j (suc s) ends t d)) small K
      here false K = K

      later : (x : Bool) → i ≢ d → Holds u (j + (i + 1)) (n + 1 + (j + (i + 1))) (offer c j v (ends i) (reached s q))
          → Holds (cond x (offered c (j + (d + 1)) (n + 1 + (j + (d + 1))) (suc s) j u) u) (j + (i + 1)) (n + 1 + (j + (i + 1))) (offer c j v (ends i) (reached s q))
      later true ne K =
          offered_others c (j + (d + 1)) (n + 1 + (j + (d + 1))) (suc s) j u (j + (i + 1)) (n + 1 + (j + (i + 1))) (offer c j v (ends i) (reached s q))
          (omega arith) (omega arith) (omega arith) (omega arith) K
      later false ne K = K

      by : Dec (i ≡ d) → (i < d → Holds u (j + (i + 1)) (n + 1 + (j + (i + 1))) (offer c j v (ends i) (reached s q)))
          → Holds (cond (ends d) (offered c (j + (d + 1)) (n + 1 + (j + (d + 1))) (suc s) j u) u) (j + (i + 1)) (n + 1 + (j + (i + 1))) (offer c j v (ends i) (reached s q))
      by (yes e) ih =
          subst (λ (x : ℕ). Holds (cond (ends d) (offered c (j + (d + 1)) (n + 1 + (j + (d + 1))) (suc s) j u) u) (j + (x + 1)) (n + 1 + (j + (x + 1))) (offer c j v (ends x) (reached s q))) (sym e)
          (here (ends d) (spread_outside d (j + (d + 1)) v (omega arith) (omega arith) (λ x l. omega arith)
          (subst (λ (x : ℕ). Holds t (j + (x + 1)) (n + 1 + (j + (x + 1))) v) e H)))
      by (no ne) ih = later (ends d) ne (ih (omega arith))

-- ---- scans

module _ (c : Choice) (b : ℕ → ℕ → Bool) (table : ℕ → Cell) where
  -- two boundaries that the same blocks reach
  pub scan_same : (m x k : ℕ) → ((i : ℕ) → i < k → b i m ≡ b i x) → scan c b table m k ≡ scan c b table x k
  scan_same m x zero h = refl
  scan_same m x (suc k) h =
      ap₂ (λ (v : Cell) (y : Bool). offer c k v y (table k)) (scan_same m x k (λ i l. h i (omega arith))) (h k (omega arith))

  -- one that no block from a reached boundary reaches
  pub scan_nothing : (m k : ℕ) → ((i : ℕ) → i < k → (table i ≡ unreachable → ⊥) → b i m ≡ false) → scan c b table m k ≡ unreachable
  scan_nothing m zero h = refl
  scan_nothing m (suc k) h = go (scan_nothing m k (λ i l. h i (omega arith))) (table k) refl
    where
      go : scan c b table m k ≡ unreachable → (v : Cell) → table k ≡ v → scan c b table m (suc k) ≡ unreachable
      go ih unreachable e = scan_unreachable c b table m k e ∙ ih
      go ih (reached s q) e = scan_no_block c b table m k (h k (omega arith) (λ z. unreachable_reached (table k) s q z e)) ∙ ih

-- ---- the rows

module _ (c : Choice) (b : ℕ → ℕ → Bool) (n : ℕ) where
  -- a table that agrees with the started one in row 0 and has zeros in row 1
  module _ (t u : List ℕ) (front : (i : ℕ) → i ≤ n → get_or u i 0 ≡ get_or (started n t) i 0) (zeros : (i : ℕ) → n < i → i < n + 1 + (n + 1) → get_or u i 0 ≡ 0) where
    pub start_first : Holds u 0 (n + 1 + 0) (cell c b 0)
    start_first = record {
      size = front 0 (omega arith) ∙ started-zero n t ∙ sym (ap size_in (cell-zero c b));
      previous = zeros (n + 1 + 0) (omega arith) (omega arith) ∙ sym (ap previous_in (cell-zero c b));
      bound = λ s p e. omega (arith, size_bound c b 0 s p e);
    }

    pub start_others : (m : ℕ) → m ≤ n → 0 < m → Holds u m (n + 1 + m) unreachable
    start_others m h k = record {
      size = front m h ∙ started_within n t m k h;
      previous = zeros (n + 1 + m) (omega arith) (omega arith);
      bound = λ s p e. absurd (unreachable_reached unreachable s p refl e);
    }

  -- where all places hold their cells the two rows are those of the cells
  pub rows_of_cells : (t : List ℕ) → n + 1 + (n + 1) ≤ length t → ((m : ℕ) → m ≤ n → Holds t m (n + 1 + m) (cell c b m)) → take (n + 1 + (n + 1)) t ≡ sizes c b n ++ previous c b n
  rows_of_cells t h H = take-add (n + 1) (n + 1) t ∙ rows
    where
      first : take (n + 1) t ≡ sizes c b n
      first = sizes_are c b n (take (n + 1) t) (length-take (n + 1) t ∙ omega arith) (λ k l. get_or-take (n + 1) t k 0 (omega arith) ∙ (H k l).size)

      second : take (n + 1) (drop (n + 1) t) ≡ previous c b n
      second =
          previous_are c b n (take (n + 1) (drop (n + 1) t)) (length-take (n + 1) (drop (n + 1) t) ∙ omega (arith, length-drop (n + 1) t))
          (λ k l. get_or-take (n + 1) (drop (n + 1) t) k 0 (omega arith) ∙ get_or-drop (n + 1) t k 0 ∙ (H k l).previous)

      rows : take (n + 1) t ++ take (n + 1) (drop (n + 1) t) ≡ sizes c b n ++ previous c b n
      rows = rw (first, second) refl
