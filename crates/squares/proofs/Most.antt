-- "every split of most squares uses only squares whose half is primitive": where a half is x^k with k ≥ 2, the square is k squares x x, one after the other,
-- which make a larger factorization. Assumes nothing.
use mathlib.Core.Path.{◌≡◌, sym, ap, ◌∙◌, subst}
use mathlib.Core.List.{List, [], ◌∷◌, ◌++◌}
use Prim.Native.Nat.{ℕ, zero, suc, ◌+◌, ◌-◌, ◌≤◌, ◌<◌}
use native.Mathlib.Omega.{arith}
use lib.ListN.{length, length-append}
use Rattle.periods.specs.Period.{part}
use Rattle.periods.specs.Square.{power, Primitive, Square, PrimitiveSquare}
use Rattle.periods.proofs.InPlace.{placed_part, part_cut}
use Rattle.periods.proofs.Squares.{square_filled, power_empty, power-twice}
use Rattle.factors.specs.Factorization.{Chain, Factorization, size, most, largest, Best}
use Rattle.answers.specs.Outcome.{accepted, refused}
use Rattle.answers.proofs.Claims.{refused_accepted}
use Rattle.factorizer.specs.Piece.{Piece}
use Rattle.factorizer.specs.Best.{Reported, unsplittable, best, Answered, no_split, too_few, written, bad_choice, short_table, settled}
use Rattle.squares.specs.BestSquares.{squares_outcome, SquaresMeaning, too_long, chosen}
use Rattle.squares.proofs.CallClaims.{squares_means}

-- the ends of k pieces of length l, the last of which ends at e, before the ends es
abbrev pieces : ℕ → ℕ → ℕ → List ℕ → List ℕ
pieces l zero e es = es
pieces l (suc k) e es = pieces l k (e - l) (e ∷ es)

pieces_length : (l k e : ℕ) (es : List ℕ) → length (pieces l k e es) ≡ k + length es
pieces_length l zero e es = omega arith
pieces_length l (suc k) e es = pieces_length l k (e - l) (e ∷ es) ∙ omega arith

-- a part that is a power of x x is so many squares; from its last one back
module _ (w x : List ℕ) (filled : 0 < length x) (i m : ℕ) where
  power_squares : (k e : ℕ) (es : List ℕ) → i ≤ e → e ≤ length w → part w i e ≡ power k (x ++ x) → Chain (Piece Square w) e es m
      → Chain (Piece Square w) i (pieces (length (x ++ x)) k e es) m
  power_squares zero e es h b p c =
      let z : e ≡ i = omega (arith, (placed_part w i e b).long, ap length p) in
      subst (λ (y : ℕ). Chain (Piece Square w) y es m) z c
  power_squares (suc k) e es h b p c =
      let y = x ++ x in
      let long : length (power k y) + length y ≡ e - i = omega (arith, length-append (power k y) y, ap length p, (placed_part w i e b).long) in
      let q = part_cut w (power k y) y i (e - length y) e (omega arith) (omega arith) b (omega arith) p in
      power_squares k (e - length y) (e ∷ es) (omega arith) (omega arith) q.0 ((b, record { half = x; filled = filled; twice_over = q.1 }), c)

-- from any boundary
refined : (w : List ℕ) (i : ℕ) (es : List ℕ) (m : ℕ) → Chain (Piece Square w) i es m → ((fs : List ℕ) → Chain (Piece Square w) i fs m → length fs ≤ length es)
    → Chain (Piece PrimitiveSquare w) i es m
refined w i [] m c None-more = c
refined w i (e ∷ es) m c None-more = (
  (c.0.0, record { square = c.0.1; primitive = primitive }),
  refined w e es m c.1 (λ fs d. omega (arith, None-more (e ∷ fs) (c.0, d))),
)
  where
    up : i ≤ e
    up = omega (arith, (placed_part w i e c.0.0).long, square_filled (part w i e) c.0.1)

    primitive : Primitive c.0.1.half
    primitive [] k two p = omega (arith, c.0.1.filled, ap length (p ∙ power_empty k))
    primitive (y ∷ ys) k two p =
        let x = y ∷ ys in
        let l = length (x ++ x) in
        let q = c.0.1.twice_over ∙ ap (λ (z : List ℕ). z ++ z) p ∙ power-twice k x in
        omega (arith, None-more (pieces l k e es) (power_squares w x (omega arith) i m k e es up c.0.0 q c.1), pieces_length l k e es)

-- CLAIM: a factorization into squares that no other exceeds in size has only squares with a primitive half
pub most_primitive : (w : List ℕ) (m : ℕ) (es : List ℕ) → Factorization (Piece Square w) m es
    → ((fs : List ℕ) → Factorization (Piece Square w) m fs → size fs ≤ size es) → Factorization (Piece PrimitiveSquare w) m es
most_primitive w m es c None-more = refined w 0 es m c None-more

-- CLAIM: so has every split of the largest size, the winner of the tie and the others
pub largest_primitive : (w : List ℕ) (m s : ℕ) (es : List ℕ) → Best largest (Piece Square w) m s es → (fs : List ℕ) → Factorization (Piece Square w) m fs → size fs ≡ s
    → Factorization (Piece PrimitiveSquare w) m fs
largest_primitive w m s es B fs c e = most_primitive w m fs c (λ gs d. omega (arith, B.best gs d))

-- CLAIM: of every leading part, taken as a word of its own: each split of as many squares as the working table reports for most
pub reported_primitive : (u : List ℕ) (v : ℕ) → Reported Square largest u v → (fs : List ℕ) → Factorization (Piece Square u) (length u) fs → size fs ≡ v
    → Factorization (Piece PrimitiveSquare u) (length u) fs
reported_primitive u v (unsplittable e n) fs c f = absurd (n fs c)
reported_primitive u v (best es E s l g) fs c f = most_primitive u (length u) fs c (λ gs d. omega (arith, g gs d))

-- CLAIM: and of the whole, where best squares answers most: each split of that size
pub answered_primitive : (w e t : List ℕ) (s : ℕ) → squares_outcome w most e t ≡ accepted (s ∷ []) → (fs : List ℕ) → Factorization (Piece Square w) (length w) fs → size fs ≡ s
    → Factorization (Piece PrimitiveSquare w) (length w) fs
answered_primitive w e t s is fs c f = go (squares_means w most e t)
  where
    clash : {A : Type 0} (x i : ℕ) → squares_outcome w most e t ≡ refused x i → A
    clash x i g = absurd (refused_accepted (squares_outcome w most e t) x i (s ∷ []) g is)

    by : (v : ℕ) (x : List ℕ) → Answered Square largest w e v (squares_outcome w most e t) x → Factorization (Piece PrimitiveSquare w) (length w) fs
    by v x (no_split n g k) = clash 2 0 g
    by v x (too_few es B l g k) = clash 7 0 g
    by v x (written es B l g k) =
        let q : accepted (s ∷ []) ≡ accepted (v ∷ []) = sym is ∙ g in
        let z : s ≡ v = cc in
        largest_primitive w (length w) v es B fs c (f ∙ z)

    go : {x y : List ℕ} → SquaresMeaning w most e t (squares_outcome w most e t) x y → Factorization (Piece PrimitiveSquare w) (length w) fs
    go (too_long h g k l) = clash 1 0 g
    go (chosen h (bad_choice n g k l)) = clash 8 0 g
    go (chosen h (short_table n d g k l)) = clash 9 0 g
    go (chosen h (settled n d S)) = by _ _ S.answered
