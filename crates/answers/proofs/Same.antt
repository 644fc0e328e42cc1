-- Whether two lists of numbers are the same, and two outcomes, as tests that compute: what passes is the same. By cases. Assumes nothing.
use mathlib.Core.Path.{◌≡◌, refl, ap, ap₂}
use mathlib.Core.Bool.{Bool, true, false, ◌&&◌}
use mathlib.Core.List.{List, [], ◌∷◌}
use Prim.Native.Nat.{ℕ}
use Rattle.laws.proofs.Tests.{and_left, and_right}
use lib.Dec.{T, eqb, eqb→eq}
use Rattle.answers.specs.Outcome.{Outcome, accepted, refused}

abbrev pub same? : List ℕ → List ℕ → Bool
same? [] [] = true
same? [] (y ∷ ys) = false
same? (x ∷ xs) [] = false
same? (x ∷ xs) (y ∷ ys) = eqb x y && same? xs ys

abbrev pub same_outcome? : Outcome → Outcome → Bool
same_outcome? (accepted v) (accepted u) = same? v u
same_outcome? (accepted v) (refused x i) = false
same_outcome? (refused x i) (accepted u) = false
same_outcome? (refused x i) (refused y j) = eqb x y && eqb i j

pub same_means : (xs ys : List ℕ) → T (same? xs ys) → xs ≡ ys
same_means [] [] h = refl
same_means [] (y ∷ ys) h = absurd h
same_means (x ∷ xs) [] h = absurd h
same_means (x ∷ xs) (y ∷ ys) h =
    ap₂ (λ (z : ℕ) (zs : List ℕ). z ∷ zs) (eqb→eq x y (and_left (eqb x y) (same? xs ys) h)) (same_means xs ys (and_right (eqb x y) (same? xs ys) h))

pub same_outcome_means : (o q : Outcome) → T (same_outcome? o q) → o ≡ q
same_outcome_means (accepted v) (accepted u) h = ap accepted (same_means v u h)
same_outcome_means (accepted v) (refused x i) h = absurd h
same_outcome_means (refused x i) (accepted u) h = absurd h
same_outcome_means (refused x i) (refused y j) h = ap₂ refused (eqb→eq x y (and_left (eqb x y) (eqb i j) h)) (eqb→eq i j (and_right (eqb x y) (eqb i j) h))
