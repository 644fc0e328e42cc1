-- What the test of two symbols says of their numbers, where it decides whether these are equal. By cases on the test. Assumes nothing.
use mathlib.Core.Path.{◌≡◌, sym, ◌∙◌}
use mathlib.Core.Bool.{Bool, true, false, not, true≢false}
use Prim.Native.Nat.{ℕ}
use borrow.Author.Tests.{eqb-true, eqb-false}
use lib.Dec.{eqb}

module _ (t : Bool) (a b : ℕ) (e : t ≡ eqb a b) where
  pub pair_same : true ≡ t → a ≡ b
  pair_same h = eqb-true a b (sym (h ∙ e))

  pub pair_differs : false ≡ t → a ≡ b → ⊥
  pair_differs h = eqb-false a b (sym (h ∙ e))

-- the same where the code asks whether they differ
pub pair_not_unequal : (t : Bool) (a b : ℕ) → t ≡ eqb a b → false ≡ not t → a ≡ b
pair_not_unequal true a b e h = eqb-true a b (sym e)
pair_not_unequal false a b e h = absurd (true≢false (sym h))

pub pair_unequal : (t : Bool) (a b : ℕ) → t ≡ eqb a b → true ≡ not t → a ≡ b → ⊥
pair_unequal true a b e h = absurd (true≢false h)
pair_unequal false a b e h = eqb-false a b (sym e)
