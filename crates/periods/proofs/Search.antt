-- The bounded search `seek` and the bounded test `all` do what their names say. By induction on the number of tries. Assumes nothing.
use mathlib.Core.Path.{◌≡◌, refl, sym, subst}
use mathlib.Core.Bool.{Bool, true, false}
use Prim.Native.Nat.{ℕ, zero, suc, ◌+◌, ◌≤◌, ◌<◌}
use native.Mathlib.Omega.{arith}
use native.Mathlib.Decide.{ℕ_discrete}
use lib.Dec.{T}
use Rattle.laws.proofs.Tests.{and_intro, and_left, and_right}
use Rattle.periods.specs.Period.{all, seek}

pub all_sound : (t : ℕ → Bool) (i d : ℕ) → T (all t i d) → (j : ℕ) → i ≤ j → j < i + d → T (t j)
all_sound t i zero h j x y = absurd (omega arith)
all_sound t i (suc d) h j x y = go (all_sound t (suc i) d (and_right (t i) (all t (suc i) d) h)) (ℕ_discrete i j)
  where
    go : ((j : ℕ) → suc i ≤ j → j < suc i + d → T (t j)) → Dec (i ≡ j) → T (t j)
    go ih (yes z) = subst (λ (n : ℕ). T (t n)) z (and_left (t i) (all t (suc i) d) h)
    go ih (no z) = ih j (omega arith) (omega arith)

pub all_complete : (t : ℕ → Bool) (i d : ℕ) → ((j : ℕ) → i ≤ j → j < i + d → T (t j)) → T (all t i d)
all_complete t i zero h = tt
all_complete t i (suc d) h =
    and_intro (t i) (all t (suc i) d) (h i (omega arith) (omega arith)) (all_complete t (suc i) d (λ j x y. h j (omega arith) (omega arith)))

-- r is what the search for the first of the d numbers from p on gives
pub record Sought (t : ℕ → Bool) (d p r : ℕ) : Type 0 where
  pub from : p ≤ r
  pub to : r ≤ p + d
  pub missed : (q : ℕ) → p ≤ q → q < r → T (t q) → ⊥
  pub found : r < p + d → T (t r)

pub seek_sought : (t : ℕ → Bool) (d p : ℕ) → Sought t d p (seek t d p)
seek_sought t zero p = record { from = omega arith; to = omega arith; missed = λ q x y. absurd (omega arith); found = λ x. absurd (omega arith) }
seek_sought t (suc d) p = go (seek_sought t d (suc p)) (t p) refl
  where
    go : Sought t d (suc p) (seek t d (suc p)) → (u : Bool) → t p ≡ u → Sought t (suc d) p (elim u [ true ↦ p | false ↦ seek t d (suc p) ])
    go S true e = record { from = omega arith; to = omega arith; missed = λ q x y. absurd (omega arith); found = λ x. subst T (sym e) tt }
    go S false e =
        record { from = omega (arith, S.from); to = omega (arith, S.to); missed = λ q x y. missed q x y (ℕ_discrete p q); found = λ x. S.found (omega arith) }
      where
        missed : (q : ℕ) → p ≤ q → q < seek t d (suc p) → Dec (p ≡ q) → T (t q) → ⊥
        missed q x y (yes z) k = subst T e (subst (λ (n : ℕ). T (t n)) (sym z) k)
        missed q x y (no z) k = S.missed q (omega arith) y k

-- the search gives one number only
pub sought_unique : (t : ℕ → Bool) (d p r s : ℕ) → Sought t d p r → Sought t d p s → r ≡ s
sought_unique t d p r s R S = go (ℕ_discrete r s)
  where
    below : (x y : ℕ) → Sought t d p x → Sought t d p y → x < y → ⊥
    below x y X Y l = Y.missed x X.from l (X.found (omega (arith, Y.to)))

    go : Dec (r ≡ s) → r ≡ s
    go (yes e) = e
    go (no e) = go₂ (native.Mathlib.Decide.dec_lt r s)
      where
        go₂ : Dec (r < s) → r ≡ s
        go₂ (yes l) = absurd (below r s R S l)
        go₂ (no l) = absurd (below s r S R (omega arith))
