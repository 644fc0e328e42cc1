-- The length of a line, byte after byte, and in a buffer that is filled piece after piece. By one step of the definition, and by induction on the bytes.
-- Assumes nothing.
use mathlib.Core.Path.{◌≡◌, refl, sym, ap, ◌∙◌}
use mathlib.Core.Logic.{◌≢◌}
use mathlib.Core.Bool.{Bool, true, false, cond}
use mathlib.Core.List.{List, [], ◌∷◌, ◌++◌}
use Prim.Native.Nat.{ℕ, suc, ◌+◌, ◌-◌, ◌≤◌, ◌<◌}
use native.Mathlib.Omega.{arith}
use native.Mathlib.Nat.{zero-add}
use native.Mathlib.Numerals.{add-one}
use borrow.Author.Tests.{eq-eqb, ne_eqb}
use lib.Dec.{eqb}
use lib.ListN.{length, get_or, take, drop, length-append, length-take, length-drop, drop_of_length-le, take-append-drop}
use lib.Seq.{drop-cons, take-add}
use Rattle.decimals.specs.Decimal.{line_end}
use Rattle.bench.specs.Line.{line_length}

module _ (s : List ℕ) (i : ℕ) where
  -- byte 10 stands here
  pub line_here : i < length s → get_or s i 0 ≡ line_end → line_length (drop i s) ≡ 0
  unfolding line_length
  line_here h e = ap line_length (drop-cons s i 0 h) ∙ rw (eq-eqb (get_or s i 0) line_end e) refl

  -- another byte stands here
  pub line_more : i < length s → get_or s i 0 ≢ line_end → line_length (drop i s) ≡ suc (line_length (drop (i + 1) s))
  unfolding line_length
  line_more h e = ap line_length (drop-cons s i 0 h) ∙ rw (ne_eqb (get_or s i 0) line_end e, add-one i) refl

  -- no byte is left
  pub line_over : length s ≤ i → line_length (drop i s) ≡ 0
  unfolding line_length
  line_over h = rw (drop_of_length-le s {i = i} h) refl

-- bytes with another part between a and b are as many
pub part_read : (t new : List ℕ) (a b : ℕ) → a ≤ b → b ≤ length t → length new ≡ length (take (b - a) (drop a t)) → length (take a t ++ (new ++ drop (b - a) (drop a t))) ≡ length t
part_read t new a b h k e =
    omega (
      arith,
      length-append (take a t) (new ++ drop (b - a) (drop a t)),
      length-append new (drop (b - a) (drop a t)),
      length-take a t,
      length-take (b - a) (drop a t),
      length-drop (b - a) (drop a t),
      length-drop a t,
    )

-- ---- the line in a buffer

line_at_most : (s : List ℕ) → line_length s ≤ length s
unfolding line_length
line_at_most [] = omega arith
line_at_most (b ∷ bs) = go (eqb b line_end) (line_at_most bs)
  where
    go : (u : Bool) → line_length bs ≤ length bs → cond u 0 (suc (line_length bs)) ≤ suc (length bs)
    go true h = omega arith
    go false h = omega arith

-- bytes without byte 10, and what follows them
line-append : (s t : List ℕ) → line_length s ≡ length s → line_length (s ++ t) ≡ length s + line_length t
unfolding line_length
line-append [] t e = sym (zero-add (line_length t))
line-append (b ∷ bs) t e = go (eqb b line_end) e (line-append bs t)
  where
    go : (u : Bool) → cond u 0 (suc (line_length bs)) ≡ suc (length bs) → (line_length bs ≡ length bs → line_length (bs ++ t) ≡ length bs + line_length t)
        → cond u 0 (suc (line_length (bs ++ t))) ≡ suc (length bs) + line_length t
    go true f ih = absurd (omega arith)
    go false f ih = omega (arith, ih (omega arith))

-- byte 10 stands in the first bytes
line-front : (s t : List ℕ) → line_length s < length s → line_length (s ++ t) ≡ line_length s
unfolding line_length
line-front [] t h = absurd (omega arith)
line-front (b ∷ bs) t h = go (eqb b line_end) h (line-front bs t)
  where
    go : (u : Bool) → cond u 0 (suc (line_length bs)) < suc (length bs) → (line_length bs < length bs → line_length (bs ++ t) ≡ line_length bs)
        → cond u 0 (suc (line_length (bs ++ t))) ≡ cond u 0 (suc (line_length bs))
    go true f ih = refl
    go false f ih = ap suc (ih (omega arith))

-- no byte 10 stands in the first a bytes of b, and x is the length of the line in those from a to e
module _ (b : List ℕ) (a e x : ℕ) (low : a ≤ e) (high : e ≤ length b) (clear : line_length (take a b) ≡ a) (is : x ≡ line_length (take (e - a) (drop a b))) where
  piece_long : length (take (e - a) (drop a b)) ≡ e - a
  piece_long = omega (arith, length-take (e - a) (drop a b), length-drop a b)

  front_long : length (take a b) ≡ a
  front_long = omega (arith, length-take a b)

  from_front : (t : List ℕ) → line_length (take a b ++ t) ≡ a + line_length t
  from_front t = line-append (take a b) t (clear ∙ sym front_long) ∙ ap (λ (k : ℕ). k + line_length t) front_long

  -- byte 10 stands in the piece
  pub line_ended : a + x < e → line_length b ≡ a + x
  line_ended h =
      ap line_length (sym (take-append-drop a b)) ∙ from_front (drop a b)
      ∙ ap (λ (k : ℕ). a + k)
      (ap line_length (sym (take-append-drop (e - a) (drop a b))) ∙ line-front (take (e - a) (drop a b)) (drop (e - a) (drop a b)) (omega (arith, piece_long)) ∙ sym is)

  -- it does not
  pub line-goes_on : e ≤ a + x → line_length (take e b) ≡ e
  line-goes_on h =
      let k : a + (e - a) ≡ e = omega arith in
      ap (λ (n : ℕ). line_length (take n b)) (sym k) ∙ ap line_length (take-add a (e - a) b) ∙ from_front (take (e - a) (drop a b))
      ∙ omega (arith, line_at_most (take (e - a) (drop a b)), piece_long)
