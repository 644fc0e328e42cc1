-- How many digits a number has, numbers that are at most so large, and fields one after another: how long they are, and the first of those from a place on. By the definitions and by induction on
-- the lists. Assumes nothing.
use mathlib.Core.Path.{◌≡◌, refl, sym, subst}
use mathlib.Core.Bool.{Bool, true, false, cond}
use mathlib.Core.List.{List, [], ◌∷◌, ◌++◌}
use Prim.Native.Nat.{ℕ, zero, suc, ◌+◌, ◌*◌, ◌/◌, ◌^◌, ◌≤◌, ◌<◌}
use native.Mathlib.Omega.{arith}
use native.Mathlib.Numerals.{add-one}
use lib.Dec.{ltb}
use lib.ListN.{length, get_or, drop, length-append, drop_of_length-le}
use lib.Seq.{drop-cons}
use Rattle.decimals.specs.Decimal.{most_digits, digit_count, plain, fields_after, AtMost}
use Rattle.decimals.proofs.Claims.{digits-length, plain_fits}

pub count_most : (most x : ℕ) → digit_count most x ≤ suc most
unfolding digit_count
count_most zero x = omega arith
count_most (suc most) x = go (ltb x 10) (count_most most (x / 10))
  where
    go : (b : Bool) → digit_count most (x / 10) ≤ suc most → cond b 1 (suc (digit_count most (x / 10))) ≤ suc (suc most)
    go true h = omega arith
    go false h = omega arith

-- as many digits as were counted can be written, and the number has no more
pub counted_fits : (x k : ℕ) → x < 2 ^ 32 → k ≡ digit_count 9 x → (k ≤ most_digits) × (x < 10 ^ k)
counted_fits x k h e = (omega (arith, count_most 9 x), subst (λ (j : ℕ). x < 10 ^ j) (sym e) (plain_fits x (omega arith)))

pub at_most_at : (m : ℕ) (xs : List ℕ) (k : ℕ) → AtMost m xs → k < length xs → get_or xs k 0 ≤ m
at_most_at m [] k S h = absurd (omega arith)
at_most_at m (x ∷ xs) zero S h = S.0
at_most_at m (x ∷ xs) (suc k) S h = at_most_at m xs k S.1 (omega arith)

pub plain_long : (x : ℕ) → length (plain x) ≤ 10
plain_long x = omega (arith, digits-length (digit_count 9 x) x, count_most 9 x)

module _ (b : ℕ) where
  pub fields_more : (xs : List ℕ) (i : ℕ) → i < length xs → fields_after b (drop i xs) ≡ (b ∷ plain (get_or xs i 0)) ++ fields_after b (drop (i + 1) xs)
  unfolding fields_after
  fields_more xs i h = rw (drop-cons xs i 0 h, add-one i) refl

  pub fields_done : (xs : List ℕ) (i : ℕ) → length xs ≤ i → fields_after b (drop i xs) ≡ []
  unfolding fields_after
  fields_done xs i h = rw (drop_of_length-le xs {i = i} h) refl

  pub fields_long : (xs : List ℕ) → length (fields_after b xs) ≤ 11 * length xs
  unfolding fields_after
  fields_long [] = omega arith
  fields_long (x ∷ xs) = omega (arith, plain_long x, fields_long xs, length-append (plain x) (fields_after b xs))
