-- The lengths of the texts that are printed in a loop, one element after another, and what bounds them. By the definitions and by induction on the lists.
-- Assumes nothing.
use mathlib.Core.Path.{◌≡◌, refl, ap, ◌∙◌}
use mathlib.Core.Bool.{Bool, true, false, cond, ◌&&◌}
use mathlib.Core.List.{List, [], ◌∷◌}
use Rattle.std.specs.Prelude.{◌⊎◌}
use Rattle.std.proofs.Common.{inl, inr}
use Prim.Native.Nat.{ℕ, suc, ◌+◌, ◌-◌, ◌*◌, ◌≤◌, ◌<◌}
use native.Mathlib.Omega.{arith}
use native.Mathlib.Numerals.{add-one}
use borrow.Author.Tests.{ltb-false, le-leb, lt-leb}
use lib.Dec.{eqb, ltb, leb}
use lib.ListN.{length, get_or, take, drop, length-append, drop_of_length-le}
use lib.Seq.{drop-cons}
use Rattle.decimals.specs.Decimal.{line_end, fields_after}
use Rattle.decimals.proofs.Fields.{fields_more, fields_long}
use Rattle.show.specs.Text.{most, byte_number, numbers_shown, line_text, part_text, visible_byte, visible_bytes}

-- numbers, the byte before each
pub numbers_more : (b : ℕ) (xs : List ℕ) (i : ℕ) → i < length xs → length (fields_after b (drop i xs)) ≡ length (byte_number b (get_or xs i 0)) + length (fields_after b (drop (i + 1) xs))
numbers_more b xs i h = ap length (fields_more b xs i h) ∙ length-append (byte_number b (get_or xs i 0)) (fields_after b (drop (i + 1) xs))

-- bytes, each as it is shown
pub visible_more : (s : List ℕ) (i : ℕ) → i < length s → length (visible_bytes (drop i s)) ≡ length (visible_byte (get_or s i 0)) + length (visible_bytes (drop (i + 1) s))
unfolding visible_bytes
visible_more s i h = rw (drop-cons s i 0 h, add-one i) (length-append (visible_byte (get_or s i 0)) (visible_bytes (drop (suc i) s)))

pub visible_done : (s : List ℕ) (i : ℕ) → length s ≤ i → length (visible_bytes (drop i s)) ≡ 0
unfolding visible_bytes
visible_done s i h = rw (drop_of_length-le s {i = i} h)

byte_long : (b : ℕ) → length (visible_byte b) ≤ 2
byte_long b = go (eqb b line_end)
  where
    go : (t : Bool) → length (cond t (92 ∷ 110 ∷ []) (b ∷ [])) ≤ 2
    go true = omega arith
    go false = omega arith

pub visible_long : (s : List ℕ) → length (visible_bytes s) ≤ 2 * length s
unfolding visible_bytes
visible_long [] = omega arith
visible_long (b ∷ bs) = omega (arith, byte_long b, visible_long bs, length-append (visible_byte b) (visible_bytes bs))

-- numbers that are printed, and a list of them
pub shown_long : (b : ℕ) (xs : List ℕ) → length (numbers_shown b xs) ≤ 720896
unfolding numbers_shown
shown_long b xs = go (ltb most (length xs)) refl
  where
    go : (t : Bool) → ltb most (length xs) ≡ t → length (cond t [] (fields_after b xs)) ≤ 720896
    go true e = omega arith
    go false e = omega (arith, fields_long b xs, ltb-false most (length xs) e)

-- a line of some of the numbers, where the list has them, and where it does not
module _ (name xs : List ℕ) (from to : ℕ) where
  pub part_some : from ≤ to → to ≤ length xs → part_text name xs from to ≡ line_text name (take (to - from) (drop from xs))
  unfolding part_text
  part_some h k = simp (le-leb from to h, le-leb to (length xs) k)

  pub part_none : (to < from) ⊎ (length xs < to) → part_text name xs from to ≡ []
  unfolding part_text
  part_none (inl h) = simp (lt-leb from to h)
  part_none (inr h) = go (leb from to) (leb to (length xs)) _ (lt-leb to (length xs) h)
    where
      go : (t u : Bool) (ys : List ℕ) → u ≡ false → cond (t && u) ys [] ≡ []
      go true u ys e = simp e
      go false u ys e = refl
