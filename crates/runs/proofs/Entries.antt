-- Entries of a list of records: in a part of it, and in a sorted list. By induction on the list. Assumes nothing.
use mathlib.Core.Path.{◌≡◌, refl, sym, ap, ◌∙◌, subst}
use mathlib.Core.Logic.{◌⊎◌, inl, inr}
use mathlib.Core.List.{List, [], ◌∷◌, ◌++◌}
use Prim.Native.Nat.{ℕ, zero, suc, ◌+◌, ◌≤◌}
use native.Mathlib.Omega.{arith}
use native.Mathlib.Nat.{zero-add}
use lib.ListN.{length}
use Rattle.runs.specs.declared.Record.{Record}
use Rattle.runs.specs.Run.{Entry, Before, Sorted}

pub no_entry : (i : ℕ) (r : Record) → Entry [] i r → ⊥
no_entry zero r h = h
no_entry (suc i) r h = h

pub entry_left : (xs ys : List Record) (i : ℕ) (r : Record) → Entry xs i r → Entry (xs ++ ys) i r
entry_left xs ys zero r h = absurd h
entry_left [] ys (suc i) r h = absurd h
entry_left (x ∷ xs) ys (suc zero) r h = h
entry_left (x ∷ xs) ys (suc (suc i)) r h = entry_left xs ys (suc i) r h

pub entry_right : (xs ys : List Record) (i : ℕ) (r : Record) → Entry ys i r → Entry (xs ++ ys) (length xs + i) r
entry_right xs ys zero r h = absurd h
entry_right [] ys (suc i) r h = rw (zero-add (suc i)) h
entry_right (x ∷ xs) ys (suc i) r h =
    let e : suc (length xs) + suc i ≡ suc (suc (length xs + i)) = omega arith in
    let f : length xs + suc i ≡ suc (length xs + i) = omega arith in
    rw e (rw f at (entry_right xs ys (suc i) r h))

-- an entry of a joined list stands in the first or, that many further on, in the second
pub entry_cases : (xs ys : List Record) (i : ℕ) (r : Record) → Entry (xs ++ ys) i r → Entry xs i r ⊎ ((j : ℕ) × (i ≡ length xs + j) × Entry ys j r)
entry_cases xs ys zero r h = absurd h
entry_cases [] ys (suc i) r h = inr (suc i, sym (zero-add (suc i)), h)
entry_cases (x ∷ xs) ys (suc zero) r h = inl h
entry_cases (x ∷ xs) ys (suc (suc i)) r h = go (entry_cases xs ys (suc i) r h)
  where
    go : Entry xs (suc i) r ⊎ ((j : ℕ) × (suc i ≡ length xs + j) × Entry ys j r)
        → Entry (x ∷ xs) (suc (suc i)) r ⊎ ((j : ℕ) × (suc (suc i) ≡ suc (length xs) + j) × Entry ys j r)
    go (inl k) = inl k
    go (inr (j, e, k)) = inr (j, omega arith, k)

pub entry_one_row : (xs : List Record) (i : ℕ) (r s : Record) → Entry xs i r → Entry xs i s → r ≡ s
entry_one_row xs zero r s h k = absurd h
entry_one_row [] (suc i) r s h k = absurd h
entry_one_row (x ∷ xs) (suc zero) r s h k = sym h ∙ k
entry_one_row (x ∷ xs) (suc (suc i)) r s h k = entry_one_row xs (suc i) r s h k

-- records with one first and one period are not in order
pub not_before : (r s : Record) → r.first ≡ s.first → r.period ≡ s.period → Before r s → ⊥
not_before r s e f (inl h) = omega arith
not_before r s e f (inr h) = omega arith

-- two entries of a sorted list with one first and one period are one
pub entry_same : (xs : List Record) → Sorted xs → (i j : ℕ) (r s : Record) → Entry xs i r → Entry xs j s → r.first ≡ s.first → r.period ≡ s.period → i ≡ j
entry_same xs S zero j r s h k e f = absurd h
entry_same xs S (suc i) zero r s h k e f = absurd k
entry_same [] S (suc i) (suc j) r s h k e f = absurd h
entry_same (x ∷ xs) S (suc zero) (suc zero) r s h k e f = refl
entry_same (x ∷ xs) S (suc zero) (suc (suc j)) r s h k e f = absurd (not_before r s e f (subst (λ (y : Record). Before y s) h (S.0 (suc j) s k)))
entry_same (x ∷ xs) S (suc (suc i)) (suc zero) r s h k e f = absurd (not_before s r (sym e) (sym f) (subst (λ (y : Record). Before y r) k (S.0 (suc i) r h)))
entry_same (x ∷ xs) S (suc (suc i)) (suc (suc j)) r s h k e f = ap suc (entry_same xs S.1 (suc i) (suc j) r s h k e f)

pub entry_one_number : (xs : List Record) → Sorted xs → (i j : ℕ) (r : Record) → Entry xs i r → Entry xs j r → i ≡ j
entry_one_number xs S i j r h k = entry_same xs S i j r r h k refl refl

-- the firsts of a sorted list never fall
before_first : (r s : Record) → Before r s → r.first ≤ s.first
before_first r s (inl h) = omega arith
before_first r s (inr h) = omega arith

pub sorted_first : (xs : List Record) → Sorted xs → (i j : ℕ) (r s : Record) → Entry xs i r → Entry xs j s → i ≤ j → r.first ≤ s.first
sorted_first xs S zero j r s h k l = absurd h
sorted_first xs S (suc i) zero r s h k l = absurd k
sorted_first [] S (suc i) (suc j) r s h k l = absurd h
sorted_first (x ∷ xs) S (suc zero) (suc zero) r s h k l = omega (arith, ap (λ (y : Record). y.first) h, ap (λ (y : Record). y.first) k)
sorted_first (x ∷ xs) S (suc zero) (suc (suc j)) r s h k l = before_first r s (subst (λ (y : Record). Before y s) h (S.0 (suc j) s k))
sorted_first (x ∷ xs) S (suc (suc i)) (suc zero) r s h k l = absurd (omega arith)
sorted_first (x ∷ xs) S (suc (suc i)) (suc (suc j)) r s h k l = sorted_first xs S.1 (suc i) (suc j) r s h k (omega arith)

-- an entry's number is from 1 to the length
pub entry_bounds : (xs : List Record) (i : ℕ) (r : Record) → Entry xs i r → (1 ≤ i) × (i ≤ length xs)
entry_bounds xs zero r h = absurd h
entry_bounds [] (suc i) r h = absurd h
entry_bounds (x ∷ xs) (suc zero) r h = (omega arith, omega arith)
entry_bounds (x ∷ xs) (suc (suc i)) r h = (omega arith, omega (arith, entry_bounds xs (suc i) r h))

pub sorted_append : (xs ys : List Record) → Sorted xs → Sorted ys → ((i j : ℕ) (r s : Record) → Entry xs i r → Entry ys j s → Before r s) → Sorted (xs ++ ys)
sorted_append [] ys S U h = U
sorted_append (x ∷ xs) ys S U h =
    (λ i r k. go i r (entry_cases xs ys i r k), sorted_append xs ys S.1 U (λ i j r s a b. later i j r s a b))
  where
    go : (i : ℕ) (r : Record) → Entry xs i r ⊎ ((j : ℕ) × (i ≡ length xs + j) × Entry ys j r) → Before x r
    go i r (inl k) = S.0 i r k
    go i r (inr (j, e, k)) = h 1 j x r refl k

    later : (i j : ℕ) (r s : Record) → Entry xs i r → Entry ys j s → Before r s
    later zero j r s a b = absurd a
    later (suc i) j r s a b = h (suc (suc i)) j r s a b
