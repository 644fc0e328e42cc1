-- The pigeonhole principle: m things with different numbers below n are at most n. By induction on m: the thing that has the number n - 1, if there is one,
-- takes the last thing's instead, and the things but the last have different numbers below n - 1. Assumes nothing.
use mathlib.Core.Path.{◌≡◌, sym, ◌∙◌}
use mathlib.Core.Logic.{◌≢◌}
use Prim.Native.Nat.{ℕ, zero, suc, ◌≤◌, ◌<◌}
use native.Mathlib.Omega.{arith}
use native.Mathlib.Decide.{ℕ_discrete}

module _ (n last : ℕ) where
  -- x, but the last thing's number where x is n
  abbrev taken : (x : ℕ) → Dec (x ≡ n) → ℕ
  taken x (yes e) = last
  taken x (no e) = x

  taken_low : (x : ℕ) (d : Dec (x ≡ n)) → x < suc n → last < suc n → x ≢ last → taken x d < n
  taken_low x (yes e) l u h = omega arith
  taken_low x (no e) l u h = omega arith

  taken_differ : (x y : ℕ) (d : Dec (x ≡ n)) (d' : Dec (y ≡ n)) → x ≢ y → x ≢ last → y ≢ last → taken x d ≢ taken y d'
  taken_differ x y (yes e) (yes e') h a b z = h (e ∙ sym e')
  taken_differ x y (yes e) (no e') h a b z = b (sym z)
  taken_differ x y (no e) (yes e') h a b z = a z
  taken_differ x y (no e) (no e') h a b z = h z

pub pigeon : (m n : ℕ) (number : (i : ℕ) → i < m → ℕ) → ((i : ℕ) (l : i < m) → number i l < n)
    → ((i j : ℕ) (l : i < m) (u : j < m) → i < j → number i l ≢ number j u) → m ≤ n
pigeon zero n number low differ = omega arith
pigeon (suc m) zero number low differ = absurd (omega (arith, low m (omega arith)))
pigeon (suc m) (suc n) number low differ =
    omega (
      arith,
      pigeon m n (λ i l. taken n last (old i l) (ℕ_discrete (old i l) n))
          (λ i l. taken_low n last (old i l) (ℕ_discrete (old i l) n) (low i (up i l)) (low m top) (not_last i l))
          (λ i j l u x. taken_differ n last (old i l) (old j u) (ℕ_discrete (old i l) n) (ℕ_discrete (old j u) n)
          (differ i j (up i l) (up j u) x) (not_last i l) (not_last j u)),
    )
  where
    up : (i : ℕ) → i < m → i < suc m
    up i l = omega arith

    top : m < suc m
    top = omega arith

    old : (i : ℕ) → i < m → ℕ
    old i l = number i (up i l)

    last : ℕ
    last = number m top

    not_last : (i : ℕ) (l : i < m) → old i l ≢ last
    not_last i l = differ i m (up i l) top l
