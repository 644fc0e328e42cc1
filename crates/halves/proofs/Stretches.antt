-- The mathematics of one node [lo, hi) with middle m. The two tables give, for each period p, the longest stretch of period p around [m, m + p) and around
-- [m - p, m); a run with period p that crosses the middle has its p symbols after it or before it, so it is one of these stretches. Assumes nothing.
use mathlib.Core.Path.{◌≡◌, sym, ap, ◌∙◌, subst}
use mathlib.Core.Logic.{◌⊎◌, inl, inr, ◌≢◌}
use mathlib.Core.Bool.{true, false}
use mathlib.Core.List.{List}
use Prim.Native.Nat.{ℕ, suc, ◌+◌, ◌-◌, ◌*◌, ◌≤◌, ◌<◌}
use native.Mathlib.Omega.{arith}
use native.Mathlib.Decide.{dec_lt}
use lib.Dec.{T}
use lib.ListN.{length, get_or}
use Rattle.periods.specs.Period.{part, smallest_period}
use Rattle.periods.proofs.InPlace.{symbol, placed_part}
use Rattle.runs.specs.Table.{run?}
use Rattle.runs.proofs.InPlace.{RunIn}
use Rattle.runs.proofs.Listed.{run_sound}
use Rattle.prefixes.specs.Match.{view, Match, Matched}
use Rattle.halves.specs.Found.{Periodic, Tables, Ready, Tried, Met, Done, Solved}

-- [a, b) is the longest stretch of period p around [c, c + p) between lo and hi
pub record Stretch (w : List ℕ) (lo hi c p a b : ℕ) : Type 0 where
  pub periodic : Periodic w a b p
  pub low : lo ≤ a
  pub before : a ≤ c
  pub after : c + p ≤ b
  pub high : b ≤ hi
  pub stops_left : (i : ℕ) → suc i ≡ a → lo ≤ i → get_or w i 0 ≢ get_or w (i + p) 0
  pub stops_right : b < hi → get_or w b 0 ≢ get_or w (b - p) 0

-- what is common before c and c + p, and after them
stretch_of : (w : List ℕ) (lo hi c p L R : ℕ) → 1 ≤ p → hi ≤ length w → lo + L ≤ c → c + p + R ≤ hi
    → ((j : ℕ) → j < R → get_or w (c + p + j) 0 ≡ get_or w (c + j) 0) → ((j : ℕ) → j < L → get_or w (c + p - 1 - j) 0 ≡ get_or w (c - 1 - j) 0)
    → (c + p + R < hi → get_or w (c + p + R) 0 ≢ get_or w (c + R) 0) → (lo + L < c → get_or w (c + p - 1 - L) 0 ≢ get_or w (c - 1 - L) 0)
    → Stretch w lo hi c p (c - L) (c + p + R)
stretch_of w lo hi c p L R pos n l h right left r-stops l-stops = record {
  periodic = record { positive = pos; fits = omega arith; within = omega arith; same = λ i x y. go i x y (dec_lt i c) };
  low = omega arith;
  before = omega arith;
  after = omega arith;
  high = h;
  stops_left = λ i e x y. l-stops (omega arith) (ap (symbol w) (omega arith) ∙ sym y ∙ ap (symbol w) (omega arith));
  stops_right = λ x y. r-stops x (y ∙ ap (symbol w) (omega arith));
}
  where
    go : (i : ℕ) → c - L ≤ i → i + p < c + p + R → Dec (i < c) → get_or w i 0 ≡ get_or w (i + p) 0
    go i x y (yes z) = ap (symbol w) (omega arith) ∙ sym (left (c - 1 - i) (omega arith)) ∙ ap (symbol w) (omega arith)
    go i x y (no z) = ap (symbol w) (omega arith) ∙ sym (right (i - c) (omega arith)) ∙ ap (symbol w) (omega arith)

-- ---- the two tables

module _ (w : List ℕ) (lo hi mid : ℕ) (t u : List ℕ) (l : lo ≤ hi) (h : hi ≤ length w) (m : mid ≤ hi - lo)
    (M : Matched (view false (part w lo hi)) (length (part w lo hi)) mid t) (N : Matched (view true (part w lo hi)) (length (part w lo hi)) (length (part w lo hi) - mid) u)
  where
    long : length (part w lo hi) ≡ hi - lo
    long = (placed_part w lo hi h).long

    forth : (i x : ℕ) → i < hi - lo → lo + i ≡ x → view false (part w lo hi) i ≡ get_or w x 0
    forth i x z e = (placed_part w lo hi h).symbols i z ∙ ap (symbol w) e

    back : (i x : ℕ) → i < hi - lo → suc (x + i) ≡ hi → view true (part w lo hi) i ≡ get_or w x 0
    back i x z e = (placed_part w lo hi h).symbols (length (part w lo hi) - 1 - i) (omega (arith, long)) ∙ ap (symbol w) (omega (arith, long))

    -- after the middle
    pub above_stretch : (p : ℕ) → 1 ≤ p → p ≤ hi - lo - mid
        → (get_or u (hi - lo - mid - p) 0 ≤ lo + mid) × Stretch w lo hi (lo + mid) p (lo + mid - get_or u (hi - lo - mid - p) 0) (lo + mid + p + get_or t (mid + p) 0)
    above_stretch p pos z = (
      omega (arith, long, Y.agree.fits_mid),
      stretch_of w lo hi (lo + mid) p L R pos h (omega (arith, long, Y.agree.fits_mid)) (omega (arith, long, X.agree.fits)) right left
          (λ x y. X.stops (omega (arith, long)) (omega (arith, long)) (forth (mid + p + R) (lo + mid + p + R) (omega arith) (omega arith) ∙ y ∙ sym (forth (mid + R) (lo + mid + R) (omega arith) (omega arith))))
          (λ x y. Y.stops (omega (arith, long)) (omega (arith, long)) (back (hi - lo - mid - p + L) (lo + mid + p - 1 - L) (omega arith) (omega arith) ∙ y ∙ sym (back (length (part w lo hi) - mid + L) (lo + mid - 1 - L) (omega (arith, long)) (omega (arith, long))))),
    )
      where
        R : ℕ
        R = get_or t (mid + p) 0

        L : ℕ
        L = get_or u (hi - lo - mid - p) 0

        X : Match (view false (part w lo hi)) (length (part w lo hi)) mid (mid + p) R
        X = M.at (mid + p) (omega (arith, long))

        Y : Match (view true (part w lo hi)) (length (part w lo hi)) (length (part w lo hi) - mid) (hi - lo - mid - p) L
        Y = N.at (hi - lo - mid - p) (omega (arith, long))

        right : (j : ℕ) → j < R → get_or w (lo + mid + p + j) 0 ≡ get_or w (lo + mid + j) 0
        right j x =
            sym (forth (mid + p + j) (lo + mid + p + j) (omega (arith, long, X.agree.fits)) (omega arith)) ∙ X.agree.same j x
            ∙ forth (mid + j) (lo + mid + j) (omega (arith, long, X.agree.fits)) (omega arith)

        left : (j : ℕ) → j < L → get_or w (lo + mid + p - 1 - j) 0 ≡ get_or w (lo + mid - 1 - j) 0
        left j x =
            sym (back (hi - lo - mid - p + j) (lo + mid + p - 1 - j) (omega (arith, long, Y.agree.fits_mid)) (omega (arith, long, Y.agree.fits_mid))) ∙ Y.agree.same j x
            ∙ back (length (part w lo hi) - mid + j) (lo + mid - 1 - j) (omega (arith, long, Y.agree.fits_mid)) (omega (arith, long, Y.agree.fits_mid))

    -- before it
    pub below_stretch : (p : ℕ) → 1 ≤ p → p ≤ mid
        → (get_or u (hi - lo - mid + p) 0 ≤ lo + mid - p) × Stretch w lo hi (lo + mid - p) p (lo + mid - p - get_or u (hi - lo - mid + p) 0) (lo + mid - p + p + get_or t (mid - p) 0)
    below_stretch p pos z = (
      omega (arith, long, Y.agree.fits),
      stretch_of w lo hi (lo + mid - p) p L R pos h (omega (arith, long, Y.agree.fits)) (omega (arith, long, X.agree.fits_mid)) right left
          (λ x y. X.stops (omega (arith, long)) (omega (arith, long)) (forth (mid - p + R) (lo + mid - p + R) (omega arith) (omega arith) ∙ sym y ∙ sym (forth (mid + R) (lo + mid - p + p + R) (omega arith) (omega arith))))
          (λ x y. Y.stops (omega (arith, long)) (omega (arith, long)) (back (hi - lo - mid + p + L) (lo + mid - p - 1 - L) (omega arith) (omega arith) ∙ sym y ∙ sym (back (length (part w lo hi) - mid + L) (lo + mid - p + p - 1 - L) (omega (arith, long)) (omega (arith, long))))),
    )
      where
        R : ℕ
        R = get_or t (mid - p) 0

        L : ℕ
        L = get_or u (hi - lo - mid + p) 0

        X : Match (view false (part w lo hi)) (length (part w lo hi)) mid (mid - p) R
        X = M.at (mid - p) (omega (arith, long))

        Y : Match (view true (part w lo hi)) (length (part w lo hi)) (length (part w lo hi) - mid) (hi - lo - mid + p) L
        Y = N.at (hi - lo - mid + p) (omega (arith, long))

        right : (j : ℕ) → j < R → get_or w (lo + mid - p + p + j) 0 ≡ get_or w (lo + mid - p + j) 0
        right j x =
            sym (forth (mid + j) (lo + mid - p + p + j) (omega (arith, long, X.agree.fits_mid)) (omega arith)) ∙ sym (X.agree.same j x)
            ∙ forth (mid - p + j) (lo + mid - p + j) (omega (arith, long, X.agree.fits_mid)) (omega arith)

        left : (j : ℕ) → j < L → get_or w (lo + mid - p + p - 1 - j) 0 ≡ get_or w (lo + mid - p - 1 - j) 0
        left j x =
            sym (back (length (part w lo hi) - mid + j) (lo + mid - p + p - 1 - j) (omega (arith, long, Y.agree.fits)) (omega (arith, long, Y.agree.fits))) ∙ sym (Y.agree.same j x)
            ∙ back (hi - lo - mid + p + j) (lo + mid - p - 1 - j) (omega (arith, long, Y.agree.fits)) (omega (arith, long, Y.agree.fits))

module _ (w : List ℕ) (lo m hi : ℕ) (t u : List ℕ) (l : lo ≤ m) (k : m ≤ hi) (h : hi ≤ length w) (X : Tables w lo m hi t u) where
  mirror : Matched (view true (part w lo hi)) (length (part w lo hi)) (length (part w lo hi) - (m - lo)) u
  mirror = subst (λ (z : ℕ). Matched (view true (part w lo hi)) (length (part w lo hi)) z u) (omega (arith, (placed_part w lo hi h).long)) X.back

  pub above_at : (p : ℕ) → 1 ≤ p → p ≤ hi - m → (get_or u (hi - m - p) 0 ≤ m) × Stretch w lo hi m p (m - get_or u (hi - m - p) 0) (m + p + get_or t (m - lo + p) 0)
  above_at p pos z =
      let e : lo + (m - lo) ≡ m = omega arith in
      let f : hi - lo - (m - lo) - p ≡ hi - m - p = omega arith in
      rw (e, f) at (above_stretch w lo hi (m - lo) t u (omega arith) h (omega arith) X.forth mirror p pos (omega arith))

  pub below_at : (p : ℕ) → 1 ≤ p → p ≤ m - lo → (get_or u (hi - m + p) 0 ≤ m - p) × Stretch w lo hi (m - p) p (m - p - get_or u (hi - m + p) 0) (m - p + p + get_or t (m - lo - p) 0)
  below_at p pos z =
      let e : lo + (m - lo) ≡ m = omega arith in
      let f : hi - lo - (m - lo) + p ≡ hi - m + p = omega arith in
      rw (e, f) at (below_stretch w lo hi (m - lo) t u (omega arith) h (omega arith) X.forth mirror p pos (omega arith))

-- ---- a run around [c, c + p) is the stretch

pub stretch_run : (w : List ℕ) (lo hi c p a b A B : ℕ) → Stretch w lo hi c p a b → hi ≤ length w → T (run? w A B) → smallest_period (part w A B) ≡ p
    → lo ≤ A → B ≤ hi → A ≤ c → c + p ≤ B → (A ≡ a) × (B ≡ b)
stretch_run w lo hi c p a b A B S h t q l u x y = (omega (arith, one (dec_lt a A), two (dec_lt A a)), omega (arith, three (dec_lt b B), four (dec_lt B b)))
  where
    R : RunIn (symbol w) (length w) A B p
    R = subst (λ (z : ℕ). RunIn (symbol w) (length w) A B z) q (run_sound w A B (omega arith) t)

    one : Dec (a < A) → A ≤ a
    one (no z) = omega arith
    one (yes z) = absurd (R.left (A - 1) (omega arith) (S.periodic.same (A - 1) (omega arith) (omega (arith, S.after))))

    two : Dec (A < a) → a ≤ A
    two (no z) = omega arith
    two (yes z) = absurd (S.stops_left (a - 1) (omega arith) (omega arith) (R.smallest.period.same (a - 1) (omega arith) (omega (arith, S.before))))

    three : Dec (b < B) → B ≤ b
    three (no z) = omega arith
    three (yes z) = absurd (S.stops_right (omega arith) (ap (symbol w) (omega (arith, S.after)) ∙ sym (R.smallest.period.same (b - p) (omega (arith, S.after)) (omega (arith, S.after)))))

    four : Dec (B < b) → b ≤ B
    four (no z) = omega arith
    four (yes z) = absurd (R.right (omega (arith, S.high)) (ap (symbol w) (omega arith) ∙ sym (S.periodic.same (B - p) (omega (arith, S.before)) (omega arith))))

-- ---- what was found

-- what a candidate of a node asks
pub stretch_ready : (w : List ℕ) (lo m hi c p a b : ℕ) (ends : List ℕ) → Stretch w lo hi c p a b → Done w lo m hi p ends → Ready w a b p ends
stretch_ready w lo m hi c p a b ends S D = record { found = λ e t l s. D.found a e t S.low (omega (arith, S.high)) (inr (inr s)) }

pub stretch_met : (w : List ℕ) (lo hi c p a b : ℕ) (ends : List ℕ) → Stretch w lo hi c p a b → hi ≤ length w → Tried w a b p ends → Met w lo hi (c + p) p ends
stretch_met w lo hi c p a b ends S h D = record { found = go }
  where
    go : (A B : ℕ) → T (run? w A B) → smallest_period (part w A B) ≡ p → lo ≤ A → B ≤ hi → A + p ≤ c + p → c + p ≤ B → B ≤ get_or ends A 0
    go A B t q l u x y =
        let e = stretch_run w lo hi c p a b A B S h t q l u (omega arith) y in
        subst (λ (z : ℕ). B ≤ get_or ends z 0) (sym e.0) (subst (λ (z : ℕ). z ≤ get_or ends a 0) (sym e.1) (D.found (subst (λ (z : ℕ). T (run? w a z)) e.1 (subst (λ (z : ℕ). T (run? w z B)) e.0 t)) (subst (λ (z : ℕ). smallest_period (part w a z) ≡ p) e.1 (subst (λ (z : ℕ). smallest_period (part w z B) ≡ p) e.0 q))))

module _ (w : List ℕ) (lo m hi : ℕ) (h : hi ≤ length w) where
  twice : (A B : ℕ) → T (run? w A B) → B ≤ hi → (A + 2 * smallest_period (part w A B) ≤ B) × (1 ≤ smallest_period (part w A B))
  twice A B t u = let R = run_sound w A B (omega arith) t in (R.twice, R.smallest.period.positive)

  pub done_start : (ends : List ℕ) → Solved w lo m ends → Solved w m hi ends → Done w lo m hi 1 ends
  done_start ends L R = record { found = λ A B t l u s. go A B t l u s }
    where
      go : (A B : ℕ) → T (run? w A B) → lo ≤ A → B ≤ hi → (B ≤ m) ⊎ ((m ≤ A) ⊎ (smallest_period (part w A B) < 1)) → B ≤ get_or ends A 0
      go A B t l u (inl x) = L.found A B t l x
      go A B t l u (inr (inl x)) = R.found A B t x u
      go A B t l u (inr (inr x)) = absurd (omega (arith, twice A B t u))

  pub done_more : (p : ℕ) (e f g : List ℕ) → Done w lo m hi p e → ((a : ℕ) → get_or e a 0 ≤ get_or f a 0) → ((a : ℕ) → get_or f a 0 ≤ get_or g a 0)
      → Met w lo hi (m + p) p f → Met w lo hi m p g → Done w lo m hi (p + 1) g
  done_more p e f g D x y U Z = record { found = λ A B t l u s. go A B t l u s (dec_lt (smallest_period (part w A B)) p) }
    where
      old : (A B : ℕ) → B ≤ get_or e A 0 → B ≤ get_or g A 0
      old A B z = omega (arith, x A, y A)

      cross : (A B : ℕ) → T (run? w A B) → lo ≤ A → B ≤ hi → smallest_period (part w A B) ≡ p → Dec (m < B) → Dec (A < m) → Dec (B < m + p) → B ≤ get_or g A 0
      cross A B t l u q (no i) j k = old A B (D.found A B t l u (inl (omega arith)))
      cross A B t l u q (yes i) (no j) k = old A B (D.found A B t l u (inr (inl (omega arith))))
      cross A B t l u q (yes i) (yes j) (no k) = omega (arith, U.found A B t q l u (omega arith) (omega arith), y A)
      cross A B t l u q (yes i) (yes j) (yes k) = Z.found A B t q l u (omega (arith, twice A B t u)) (omega arith)

      go : (A B : ℕ) → T (run? w A B) → lo ≤ A → B ≤ hi → (B ≤ m) ⊎ ((m ≤ A) ⊎ (smallest_period (part w A B) < p + 1)) → Dec (smallest_period (part w A B) < p) → B ≤ get_or g A 0
      go A B t l u s (yes z) = old A B (D.found A B t l u (inr (inr z)))
      go A B t l u (inl s) (no z) = old A B (D.found A B t l u (inl s))
      go A B t l u (inr (inl s)) (no z) = old A B (D.found A B t l u (inr (inl s)))
      go A B t l u (inr (inr s)) (no z) = cross A B t l u (omega arith) (dec_lt m B) (dec_lt A m) (dec_lt B (m + p))

  pub done_all : (p : ℕ) (ends : List ℕ) → hi < lo + 2 * p → Done w lo m hi p ends → Solved w lo hi ends
  done_all p ends z D = record { found = λ A B t l u. D.found A B t l u (inr (inr (omega (arith, twice A B t u)))) }

pub done_grow : (w : List ℕ) (lo m hi p : ℕ) (e f : List ℕ) → ((a : ℕ) → get_or e a 0 ≤ get_or f a 0) → Done w lo m hi p e → Done w lo m hi p f
done_grow w lo m hi p e f x D = record { found = λ A B t l u s. omega (arith, D.found A B t l u s, x A) }
