-- The pieces of a word, for a property that a test decides: the test of a piece decides them, and a piece goes up. A prefix has the same pieces by itself as in
-- the whole word, since the parts are the same lists, hence the same factorizations. Assumes nothing.
use mathlib.Core.Path.{◌≡◌, sym, ◌∙◌, subst}
use mathlib.Core.Logic.{◌↔◌}
use mathlib.Core.Bool.{Bool}
use mathlib.Core.List.{List}
use Prim.Native.Nat.{ℕ, ◌+◌, ◌-◌, ◌≤◌, ◌<◌}
use native.Mathlib.Omega.{arith}
use lib.Dec.{T, leb, leb→le, le→leb}
use lib.ListN.{length, take, length-take}
use lib.Seq.{get_or-take, ext_get_or}
use Rattle.laws.proofs.Tests.{and_intro, and_left, and_right}
use Rattle.periods.specs.Period.{part}
use Rattle.periods.proofs.InPlace.{symbol, Placed, placed_part}
use Rattle.factors.specs.Factorization.{Factorization}
use Rattle.factors.proofs.Chains.{chain_map, chain_within}
use Rattle.factorizer.specs.Piece.{Piece, piece?, Decides}

-- a part of a prefix is that part of the word
pub prefix_part : (w : List ℕ) (m i j : ℕ) → m ≤ length w → j ≤ m → part (take m w) i j ≡ part w i j
prefix_part w m i j h l = ext_get_or 0 (part (take m w) i j) (part w i j) (P.long ∙ sym Q.long) (λ x u.
    P.symbols x (omega (arith, P.long)) ∙ get_or-take m w (i + x) 0 (omega (arith, P.long)) ∙ sym (Q.symbols x (omega (arith, P.long))))
  where
    P : Placed (symbol (take m w)) i (j - i) (part (take m w) i j)
    P = placed_part (take m w) i j (omega (arith, length-take m w))

    Q : Placed (symbol w) i (j - i) (part w i j)
    Q = placed_part w i j (omega arith)

-- CLAIM: the pieces of a prefix are those of the word that end in it
pub prefix_piece : (P : List ℕ → Type 0) (w : List ℕ) (m i j : ℕ) → m ≤ length w → j ≤ m → (Piece P (take m w) i j ↔ Piece P w i j)
prefix_piece P w m i j h l = (
  (λ K. (omega arith, subst P (prefix_part w m i j h l) K.1)),
  (λ K. (omega (arith, length-take m w), subst P (sym (prefix_part w m i j h l)) K.1)),
)

module _ (P : List ℕ → Type 0) (p : List ℕ → Bool) (D : Decides P p) (w : List ℕ) where
  -- CLAIM: the test decides whether a piece has the property
  pub piece_sound : (i j : ℕ) → T (piece? p w i j) → Piece P w i j
  piece_sound i j h = (
    leb→le j (length w) (and_left (leb j (length w)) (p (part w i j)) h),
    D.sound (part w i j) (and_right (leb j (length w)) (p (part w i j)) h),
  )

  pub piece_complete : (i j : ℕ) → Piece P w i j → T (piece? p w i j)
  piece_complete i j K = and_intro (leb j (length w)) (p (part w i j)) (le→leb j (length w) K.0) (D.complete (part w i j) K.1)

  -- a piece goes up
  pub piece_up : (i j : ℕ) → Piece P w i j → i < j
  piece_up i j K = omega (arith, (placed_part w i j K.0).long, D.some (part w i j) K.1)

  pub piece_test_up : (i j : ℕ) → T (piece? p w i j) → i < j
  piece_test_up i j h = piece_up i j (piece_sound i j h)

-- CLAIM: the factorizations of a prefix in its place are those of the prefix as a word of its own
pub prefix_factorizations : (P : List ℕ → Type 0) (p : List ℕ → Bool) → Decides P p → (w : List ℕ) (m : ℕ) (es : List ℕ) → m ≤ length w
    → (Factorization (Piece P (take m w)) m es ↔ Factorization (Piece P w) m es)
prefix_factorizations P p D w m es h = (
  chain_map (Piece P (take m w)) (Piece P w) (λ i j K. (prefix_piece P w m i j h (omega (arith, length-take m w, K.0))).0 K) 0 es m,
  (λ c. chain_map (λ i j. (i < j) × (j ≤ m) × Piece P w i j) (Piece P (take m w)) (λ i j K. (prefix_piece P w m i j h K.1).1 K.2) 0 es m
      (chain_within (Piece P w) (piece_up P p D w) 0 es m c)),
)
