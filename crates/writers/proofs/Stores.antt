-- Bytes stored one piece after another: what a writer has stored, and what is left to store. Storing past the end does nothing, so that the laws hold whether
-- there is room or not. And how long the pieces can be. By induction on the lists. Assumes nothing.
use mathlib.Core.Path.{◌≡◌, refl, sym, ap, ap₂, ◌∙◌, subst}
use mathlib.Core.List.{List, [], ◌∷◌, ◌++◌}
use Prim.Native.Nat.{ℕ, suc, ◌+◌, ◌*◌, ◌≤◌, ◌<◌}
use native.Mathlib.Omega.{arith}
use native.Mathlib.Numerals.{add-one}
use native.Mathlib.Nat.{add-zero}
use lib.ListN.{length, get_or, set, take, drop, length-append, drop_of_length-le}
use lib.Seq.{sets, length-sets, drop-cons, take_at}
use Rattle.laws.proofs.Stores.{sets-append, sets-front}
use Rattle.decimals.specs.Decimal.{comma, line_end, digits}
use Rattle.decimals.proofs.Claims.{digits-length}
use Rattle.decimals.proofs.Fields.{fields_long}
use Rattle.writers.specs.Line.{fields_of, line}

-- ---- stored, and left to store

-- t with the bytes xs from place a on is u, and the place after them is b
pub record Stored (t : List ℕ) (a : ℕ) (xs u : List ℕ) (b : ℕ) : Type 0 where
  pub place : b ≡ a + length xs
  pub bytes : u ≡ sets t a xs

-- to store xs in t from place a on, what is left is to store ys in u from place b on
pub record Left (t : List ℕ) (a : ℕ) (xs u : List ℕ) (b : ℕ) (ys : List ℕ) : Type 0 where
  pub place : b + length ys ≡ a + length xs
  pub bytes : sets u b ys ≡ sets t a xs

-- what a writer ensures
pub stored : (t : List ℕ) (a : ℕ) (xs u : List ℕ) (b : ℕ) → (b ≡ a + length xs) × (u ≡ sets t a xs) → Stored t a xs u b
stored t a xs u b e = record { place = e.0; bytes = e.1 }

pub ensured : {t : List ℕ} {a : ℕ} {xs u : List ℕ} {b : ℕ} → Stored t a xs u b → (b ≡ a + length xs) × (u ≡ sets t a xs)
ensured S = (S.place, S.bytes)

pub stored_length : {t : List ℕ} {a : ℕ} {xs u : List ℕ} {b : ℕ} → Stored t a xs u b → length u ≡ length t
stored_length {t} {a} {xs} S = ap length S.bytes ∙ length-sets t a xs

pub stored_as : {t : List ℕ} {a : ℕ} {xs u : List ℕ} {b : ℕ} (ys : List ℕ) → xs ≡ ys → Stored t a xs u b → Stored t a ys u b
stored_as {t} {a} {xs} {u} {b} ys e S = subst (λ (l : List ℕ). Stored t a l u b) e S

pub left_all : (t : List ℕ) (a : ℕ) (xs ys : List ℕ) → xs ≡ ys → Left t a xs t a ys
left_all t a xs ys e = record { place = ap (λ (l : List ℕ). a + length l) (sym e); bytes = ap (sets t a) (sym e) }

module _ {t : List ℕ} {a : ℕ} {xs u : List ℕ} {b : ℕ} where
  -- the same, written out otherwise
  pub left_as : {ys : List ℕ} (zs : List ℕ) → ys ≡ zs → Left t a xs u b ys → Left t a xs u b zs
  left_as {ys} zs e L = subst (Left t a xs u b) e L

  -- a piece is stored
  pub left_less : {ys v : List ℕ} {c : ℕ} (zs : List ℕ) → Left t a xs u b (ys ++ zs) → Stored u b ys v c → Left t a xs v c zs
  left_less {ys} {v} {c} zs L S = record {
    place = omega (arith, L.place, S.place, length-append ys zs);
    bytes = rw (S.place, S.bytes) (sym (sets-append u b ys zs)) ∙ L.bytes;
  }

  -- nothing is left
  pub left_none : Left t a xs u b [] → Stored t a xs u b
  left_none L = record { place = omega (arith, L.place); bytes = L.bytes }

  -- the last piece is stored
  pub left_last : {ys v : List ℕ} {c : ℕ} → Left t a xs u b ys → Stored u b ys v c → Stored t a xs v c
  left_last {ys} L S = record { place = omega (arith, L.place, S.place); bytes = S.bytes ∙ L.bytes }

pub stored_none : (t : List ℕ) (a : ℕ) → Stored t a [] t a
stored_none t a = record { place = sym (add-zero a); bytes = refl }

pub stored_more : {t : List ℕ} {a : ℕ} {xs u : List ℕ} {b : ℕ} {ys v : List ℕ} {c : ℕ} → Stored t a xs u b → Stored u b ys v c → Stored t a (xs ++ ys) v c
stored_more {t} {a} {xs} {u} {b} {ys} S R = left_last (left_less ys (left_all t a (xs ++ ys) (xs ++ ys) refl) S) R

-- ---- bytes

-- ---- numbers

-- the digits that were written at the front of a table
pub digits-front : (t d : List ℕ) (k x : ℕ) → k ≤ length t → d ≡ sets t 0 (digits k x) → take k d ≡ digits k x
digits-front t d k x h f =
    rw (f, sets-front t (digits k x) (omega (arith, digits-length k x))) (take_at (digits k x) (drop (length (digits k x)) t) k (digits-length k x))

pub line_is : (name xs : List ℕ) → line name xs ≡ name ++ (fields_of xs ++ (line_end ∷ []))
unfolding line
line_is name xs = refl

pub line_long : (name xs : List ℕ) → length (line name xs) ≤ length name + 11 * length xs + 1
line_long name xs =
    omega (arith, ap length (line_is name xs), fields_long comma xs, length-append name (fields_of xs ++ (line_end ∷ [])), length-append (fields_of xs) (line_end ∷ []))
