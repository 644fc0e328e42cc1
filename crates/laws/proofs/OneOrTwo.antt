-- A number that is 1 or 2, as choices and editions are: its bounds, and the test that finds any other. By cases on the number. Assumes nothing.
use mathlib.Core.Path.{◌≡◌, refl, sym, ◌∙◌}
use mathlib.Core.Logic.{◌⊎◌, inl, inr}
use mathlib.Core.Bool.{true, false, ◌||◌, or-true, true≢false}
use Prim.Native.Nat.{ℕ, ◌≤◌, ◌<◌}
use native.Mathlib.Omega.{arith}
use native.Mathlib.Decide.{dec_lt, ℕ_discrete}
use borrow.Author.Tests.{lt-ltb, le-ltb}
use lib.Dec.{ltb}

abbrev pub OneOrTwo : ℕ → Type 0
OneOrTwo n = (n ≡ 1) ⊎ (n ≡ 2)

module _ (n : ℕ) where
  pub one_or_two_bounds : OneOrTwo n → (1 ≤ n) × (n ≤ 2)
  one_or_two_bounds (inl h) = (omega arith, omega arith)
  one_or_two_bounds (inr h) = (omega arith, omega arith)

  pub one_or_two : 1 ≤ n → n ≤ 2 → OneOrTwo n
  one_or_two a b = go (ℕ_discrete n 1)
    where
      go : Dec (n ≡ 1) → OneOrTwo n
      go (yes h) = inl h
      go (no h) = inr (omega arith)

  pub one_or_two? : Dec (OneOrTwo n)
  one_or_two? = go (dec_lt n 1) (dec_lt 2 n)
    where
      go : Dec (n < 1) → Dec (2 < n) → Dec (OneOrTwo n)
      go (yes x) y = no (λ h. omega (arith, one_or_two_bounds h))
      go (no x) (yes y) = no (λ h. omega (arith, one_or_two_bounds h))
      go (no x) (no y) = yes (one_or_two (omega arith) (omega arith))

  -- the test
  pub test_of_one_or_two : OneOrTwo n → (ltb n 1 || ltb 2 n) ≡ false
  test_of_one_or_two h = simp (le-ltb n 1 (one_or_two_bounds h).0, le-ltb 2 n (one_or_two_bounds h).1)

  pub test_of_other : (OneOrTwo n → ⊥) → (ltb n 1 || ltb 2 n) ≡ true
  test_of_other h = go (dec_lt n 1) (dec_lt 2 n)
    where
      go : Dec (n < 1) → Dec (2 < n) → (ltb n 1 || ltb 2 n) ≡ true
      go (yes x) y = rw (lt-ltb n 1 x) refl
      go (no x) (yes y) = rw (lt-ltb 2 n y) (or-true (ltb n 1))
      go (no x) (no y) = absurd (h (one_or_two (omega arith) (omega arith)))

  -- and so a test that was made says which it is
  pub one_or_two_by_test : (ltb n 1 || ltb 2 n) ≡ false → OneOrTwo n
  one_or_two_by_test h = go one_or_two?
    where
      go : Dec (OneOrTwo n) → OneOrTwo n
      go (yes x) = x
      go (no x) = absurd (true≢false (sym (test_of_other x) ∙ h))

  pub other_by_test : (ltb n 1 || ltb 2 n) ≡ true → OneOrTwo n → ⊥
  other_by_test h x = true≢false (sym h ∙ test_of_one_or_two x)
