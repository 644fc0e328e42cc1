-- A part of a table that was lent and came back with other contents: what stands at each place. The form `take a t ++ (new ++ drop (b - a) (drop a t))` is the
-- one that a lent `&mut t[a..b]` leaves. Assumes nothing.
use mathlib.Core.Path.{◌≡◌, ap, ◌∙◌}
use mathlib.Core.List.{List, ◌++◌}
use Prim.Native.Nat.{ℕ, ◌+◌, ◌-◌, ◌≤◌, ◌<◌}
use native.Mathlib.Omega.{arith}
use lib.ListN.{length, get_or, take, drop, length-append, length-take, length-drop, get_or-append}
use lib.Seq.{get_or-append-add, get_or-take, get_or-drop, drop-drop, drop-append-add, take_at}

-- t, with the part between a and b replaced
abbrev pub lent : List ℕ → ℕ → ℕ → List ℕ → List ℕ
lent t a b new = take a t ++ (new ++ drop (b - a) (drop a t))

module _ (t : List ℕ) (a b : ℕ) (new : List ℕ) (low : a ≤ b) (high : b ≤ length t) (fits : length new ≡ b - a) where
  front : length (take a t) ≡ a
  front = length-take a t ∙ omega arith

  pub lent_length : length (lent t a b new) ≡ length t
  lent_length =
      omega (arith, length-append (take a t) (new ++ drop (b - a) (drop a t)), front, length-append new (drop (b - a) (drop a t)), length-drop (b - a) (drop a t), length-drop a t)

  pub lent_below : (i : ℕ) → i < a → get_or (lent t a b new) i 0 ≡ get_or t i 0
  lent_below i h = get_or-append (take a t) (new ++ drop (b - a) (drop a t)) 0 i (omega (arith, front)) ∙ get_or-take a t i 0 h

  -- past the front
  past : (i : ℕ) → a ≤ i → get_or (lent t a b new) i 0 ≡ get_or (new ++ drop (b - a) (drop a t)) (i - a) 0
  past i h =
      let e : i ≡ length (take a t) + (i - a) = omega (arith, front) in
      ap (λ (k : ℕ). get_or (lent t a b new) k 0) e ∙ get_or-append-add (take a t) (new ++ drop (b - a) (drop a t)) (i - a) 0

  pub lent_within : (i : ℕ) → a ≤ i → i < b → get_or (lent t a b new) i 0 ≡ get_or new (i - a) 0
  lent_within i h k = past i h ∙ get_or-append new (drop (b - a) (drop a t)) 0 (i - a) (omega (arith, fits))

  pub lent_above : (i : ℕ) → b ≤ i → get_or (lent t a b new) i 0 ≡ get_or t i 0
  lent_above i h =
      let e : i - a ≡ length new + (i - b) = omega (arith, fits) in
      past i (omega arith)
      ∙ ap (λ (k : ℕ). get_or (new ++ drop (b - a) (drop a t)) k 0) e
      ∙ get_or-append-add new (drop (b - a) (drop a t)) (i - b) 0
      ∙ get_or-drop (b - a) (drop a t) (i - b) 0
      ∙ get_or-drop a t (b - a + (i - b)) 0
      ∙ ap (λ (k : ℕ). get_or t k 0) (omega arith)

  pub lent_take : take a (lent t a b new) ≡ take a t
  lent_take = take_at (take a t) (new ++ drop (b - a) (drop a t)) a front

  -- what follows the part stays
  pub lent_rest : (k : ℕ) → b ≤ k → drop k (lent t a b new) ≡ drop k t
  lent_rest k h =
      let e : k ≡ length (take a t) + (length new + (k - b)) = omega (arith, front, fits) in
      let f : b - a + (k - b) ≡ k - a = omega arith in
      let g : a + (k - a) ≡ k = omega arith in
      ap (λ (x : ℕ). drop x (lent t a b new)) e
      ∙ drop-append-add (take a t) (new ++ drop (b - a) (drop a t)) (length new + (k - b))
      ∙ drop-append-add new (drop (b - a) (drop a t)) (k - b)
      ∙ drop-drop (k - b) (b - a) (drop a t)
      ∙ ap (λ (x : ℕ). drop x (drop a t)) f
      ∙ drop-drop (k - a) a t
      ∙ ap (λ (x : ℕ). drop x t) g
