-- The rows of the scratch: what a store in one of them changes, and a row that was lent. Assumes nothing.
use mathlib.Core.Path.{◌≡◌, sym, ap, ◌∙◌}
use mathlib.Core.List.{List}
use Prim.Native.Nat.{ℕ, ◌+◌, ◌-◌, ◌≤◌, ◌<◌}
use native.Mathlib.Omega.{arith}
use lib.ListN.{length, get_or, set, take, drop, length-drop}
use lib.Seq.{length-take-le, get_or-take, get_or-drop, drop-set-lt, drop-set-add, take-set-le, take-set-lt, ext_get_or}
use Rattle.factors.proofs.Lent.{lent, lent_length, lent_below, lent_within, lent_rest}
use Rattle.halves.specs.Scratch.{row_from}

module _ (n : ℕ) (s : List ℕ) where
  pub row_long : (k : ℕ) → k + (n + 1) ≤ length s → length (row_from n k s) ≡ n + 1
  unfolding row_from
  row_long k h = length-take-le (n + 1) (drop k s) (omega (arith, length-drop k s))

  pub row_read : (k a : ℕ) → a ≤ n → get_or (row_from n k s) a 0 ≡ get_or s (k + a) 0
  unfolding row_from
  row_read k a h = get_or-take (n + 1) (drop k s) a 0 (omega arith) ∙ get_or-drop k s a 0

  -- a store in the row
  pub row_set : (k a v : ℕ) → a ≤ n → row_from n k (set s (k + a) v) ≡ set (row_from n k s) a v
  unfolding row_from
  row_set k a v h = ap (take (n + 1)) (drop-set-add k s a v) ∙ take-set-lt (n + 1) (drop k s) a v (omega arith)

  -- and before it, or behind it
  pub row_set_before : (k i v : ℕ) → i < k → row_from n k (set s i v) ≡ row_from n k s
  unfolding row_from
  row_set_before k i v h = ap (take (n + 1)) (drop-set-lt k s i v h)

  pub row_set_behind : (k i v : ℕ) → k + n < i → row_from n k (set s i v) ≡ row_from n k s
  unfolding row_from
  row_set_behind k i v h =
      let e : k + (i - k) ≡ i = omega arith in
      ap (λ (j : ℕ). take (n + 1) (drop k (set s j v))) (sym e) ∙ ap (take (n + 1)) (drop-set-add k s (i - k) v) ∙ take-set-le (n + 1) (drop k s) (i - k) v (omega arith)

-- ---- a row that was lent and came back with other contents

module _ (n : ℕ) (s : List ℕ) (a b : ℕ) (new : List ℕ) (is : b ≡ a + (n + 1)) (high : b ≤ length s) (fits : length new ≡ n + 1) where
  long : length (lent s a b new) ≡ length s
  long = lent_length s a b new (omega arith) high (omega arith)

  pub row_lent : row_from n a (lent s a b new) ≡ new
  row_lent =
      ext_get_or 0 (row_from n a (lent s a b new)) new (row_long n (lent s a b new) a (omega (arith, long)) ∙ sym fits)
      (λ i h.
      row_read n (lent s a b new) a i (omega (arith, row_long n (lent s a b new) a (omega (arith, long))))
      ∙ lent_within s a b new (omega arith) high (omega arith) (a + i) (omega arith) (omega (arith, row_long n (lent s a b new) a (omega (arith, long))))
      ∙ ap (λ (k : ℕ). get_or new k 0) (omega arith))

  -- the rows before it, and behind it
  pub row_lent_before : (k : ℕ) → k + (n + 1) ≤ a → row_from n k (lent s a b new) ≡ row_from n k s
  row_lent_before k h =
      ext_get_or 0 (row_from n k (lent s a b new)) (row_from n k s) (there ∙ sym (row_long n s k (omega arith)))
      (λ i l.
      row_read n (lent s a b new) k i (omega (arith, there)) ∙ lent_below s a b new (omega arith) high (omega arith) (k + i) (omega (arith, there))
      ∙ sym (row_read n s k i (omega (arith, there))))
    where
      there : length (row_from n k (lent s a b new)) ≡ n + 1
      there = row_long n (lent s a b new) k (omega (arith, long))

  pub row_lent_behind : (k : ℕ) → b ≤ k → row_from n k (lent s a b new) ≡ row_from n k s
  unfolding row_from
  row_lent_behind k h = ap (take (n + 1)) (lent_rest s a b new (omega arith) high (omega arith) k h)

  pub row_lent_long : length (lent s a b new) ≡ length s
  row_lent_long = long
