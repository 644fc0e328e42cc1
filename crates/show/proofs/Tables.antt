-- Texts read from a place on: the first place of a byte, the number that digits spell, and the numbers after commas, one byte after another; and the rows, one after another. By the
-- definitions, and by induction on the lists. Assumes nothing.
use mathlib.Core.Path.{◌≡◌, refl, ap, ◌∙◌}
use mathlib.Core.Bool.{Bool, true, false, cond}
use mathlib.Core.List.{List, [], ◌∷◌}
use Prim.Native.Nat.{ℕ, zero, suc, ◌+◌, ◌-◌, ◌*◌, ◌%◌, ◌≤◌, ◌<◌}
use native.Mathlib.Omega.{arith}
use native.Mathlib.Numerals.{add-one}
use borrow.Author.Tests.{lt-ltb, le-ltb, eq-eqb, ne_eqb}
use lib.ListN.{length, get_or, set, take, drop, length-set, length-drop, drop_of_length-le}
use lib.Dec.{eqb}
use lib.Seq.{sets, set_out, drop-cons, drop-drop}
use Rattle.decimals.specs.Decimal.{zero_byte, comma}
use Rattle.show.specs.Cases.{from_byte, place_of, bar, longer, rows_in, value_from, values_in}

module _ (s : List ℕ) (i : ℕ) (h : i < length s) where
  -- the first place of a byte
  pub byte_here : (b : ℕ) → get_or s i 0 ≡ b → from_byte b (drop i s) ≡ drop i s
  unfolding from_byte
  byte_here b e = rw (drop-cons s i 0 h) (simp (eq-eqb (get_or s i 0) b e))

  pub byte_later : (b : ℕ) → (get_or s i 0 ≡ b → ⊥) → from_byte b (drop i s) ≡ from_byte b (drop (i + 1) s)
  unfolding from_byte
  byte_later b e = rw (drop-cons s i 0 h, add-one i) (simp (ne_eqb (get_or s i 0) b e))

  -- the number that digits spell
  pub value_low : (x : ℕ) → get_or s i 0 < zero_byte → value_from x (drop i s) ≡ x
  unfolding value_from
  value_low x l = rw (drop-cons s i 0 h) (simp (lt-ltb (get_or s i 0) zero_byte l))

  pub value_high : (x : ℕ) → zero_byte + 9 < get_or s i 0 → value_from x (drop i s) ≡ x
  unfolding value_from
  value_high x l = rw (drop-cons s i 0 h) (simp (le-ltb (get_or s i 0) zero_byte (omega arith), lt-ltb (zero_byte + 9) (get_or s i 0) l))

  pub value_more : (x : ℕ) → zero_byte ≤ get_or s i 0 → get_or s i 0 ≤ zero_byte + 9 → value_from x (drop i s) ≡ value_from ((x * 10 + (get_or s i 0 - zero_byte)) % 4294967296) (drop (i + 1) s)
  unfolding value_from
  value_more x l m = rw (drop-cons s i 0 h, add-one i) (simp (le-ltb (get_or s i 0) zero_byte l, le-ltb (zero_byte + 9) (get_or s i 0) m))

  -- the numbers after commas
  pub values_here : get_or s i 0 ≡ comma → values_in (drop i s) ≡ value_from 0 (drop (i + 1) s) ∷ values_in (drop (i + 1) s)
  unfolding values_in
  values_here e = rw (drop-cons s i 0 h, add-one i) (simp (eq-eqb (get_or s i 0) comma e))

  pub values_later : (get_or s i 0 ≡ comma → ⊥) → values_in (drop i s) ≡ values_in (drop (i + 1) s)
  unfolding values_in
  values_later e = rw (drop-cons s i 0 h, add-one i) (simp (ne_eqb (get_or s i 0) comma e))

module _ (s : List ℕ) (i : ℕ) (h : length s ≤ i) where
  pub byte_none : (b : ℕ) → from_byte b (drop i s) ≡ []
  unfolding from_byte
  byte_none b = rw (drop_of_length-le s {i = i} h)

  pub value_done : (x : ℕ) → value_from x (drop i s) ≡ x
  unfolding value_from
  value_done x = rw (drop_of_length-le s {i = i} h)

  pub values_none : values_in (drop i s) ≡ []
  unfolding values_in
  values_none = rw (drop_of_length-le s {i = i} h)

-- nothing is stored past the end
pub sets_out : (t : List ℕ) (k : ℕ) (vs : List ℕ) → length t ≤ k → sets t k vs ≡ t
sets_out t k [] h = refl
sets_out t k (v ∷ vs) h = sets_out (set t k v) (suc k) vs (omega (arith, length-set t k v)) ∙ set_out t k v h

-- ---- rows

from-byte_long : (b : ℕ) (s : List ℕ) → length (from_byte b s) ≤ length s
unfolding from_byte
from-byte_long b [] = omega arith
from-byte_long b (x ∷ xs) = go (eqb x b) (from-byte_long b xs)
  where
    go : (t : Bool) → length (from_byte b xs) ≤ length xs → length (cond t (x ∷ xs) (from_byte b xs)) ≤ suc (length xs)
    go true h = omega arith
    go false h = omega arith

-- the first row ends at the first bar, and the others stand behind it
first_row : (s : List ℕ) (p : ℕ) → 0 < length s → p + length (from_byte bar s) ≡ length s → rows_in s ≡ take p s ∷ rows_in (drop (suc p) s)
unfolding rows_in from_byte
first_row [] p h e = absurd (omega arith)
first_row (b ∷ bs) p h e = go (eqb b bar) p e (first_row bs)
  where
    more : (xs : List ℕ) (q : ℕ) → (0 < length xs → rows_in xs ≡ take q xs ∷ rows_in (drop (suc q) xs)) → q + length (from_byte bar xs) ≡ length xs
        → longer b (rows_in xs) ≡ (b ∷ take q xs) ∷ rows_in (drop (suc q) xs)
    more [] zero ih f = refl
    more [] (suc q) ih f = absurd (omega arith)
    more (x ∷ xs) q ih f = ap (longer b) (ih (omega arith))

    go : (t : Bool) (q : ℕ) → q + length (cond t (b ∷ bs) (from_byte bar bs)) ≡ suc (length bs)
        → ((r : ℕ) → 0 < length bs → r + length (from_byte bar bs) ≡ length bs → rows_in bs ≡ take r bs ∷ rows_in (drop (suc r) bs))
        → cond t ([] ∷ rows_in bs) (longer b (rows_in bs)) ≡ take q (b ∷ bs) ∷ rows_in (drop (suc q) (b ∷ bs))
    go true zero f ih = refl
    go true (suc q) f ih = absurd (omega arith)
    go false zero f ih = absurd (omega (arith, from-byte_long bar bs))
    go false (suc q) f ih = let k : q + length (from_byte bar bs) ≡ length bs = omega arith in more bs q (λ l. ih q l k) k

-- the rows from a place on, where the first of them ends
pub rows_more : (s : List ℕ) (i end : ℕ) → i < length s → end ≡ place_of s i bar → rows_in (drop i s) ≡ take (end - i) (drop i s) ∷ rows_in (drop (end + 1) s)
rows_more s i end h e =
    let n : length (drop i s) ≡ length s - i = length-drop i s in
    let k : length (from_byte bar (drop i s)) ≤ length (drop i s) = from-byte_long bar (drop i s) in
    first_row (drop i s) (end - i) (omega arith) (omega arith) ∙ ap (λ (t : List ℕ). take (end - i) (drop i s) ∷ rows_in t)
    (drop-drop (suc (end - i)) i s ∙ ap (λ (j : ℕ). drop j s) (omega arith))

pub rows_done : (s : List ℕ) (i : ℕ) → length s ≤ i → rows_in (drop i s) ≡ []
unfolding rows_in
rows_done s i h = rw (drop_of_length-le s {i = i} h)
