-- The computed smallest period is a period, and no smaller number is one; the test for a repetition decides it; the smallest periods of prefixes never fall.
-- By what the search says of the number that it finds. Assumes nothing.
use mathlib.Core.Path.{◌≡◌, refl, sym, ap, ◌∙◌, subst}
use mathlib.Core.Bool.{Bool, ◌&&◌}
use mathlib.Core.List.{List, [], ◌∷◌, ◌++◌}
use Prim.Native.Nat.{ℕ, zero, suc, ◌+◌, ◌-◌, ◌*◌, ◌≤◌, ◌<◌}
use native.Mathlib.Omega.{arith}
use native.Mathlib.Decide.{dec_lt, dec_le}
use borrow.Author.Tests.{lt-ltb}
use lib.Dec.{T, eqb, leb, ltb, eqb→eq, eqb_refl, leb→le, le→leb, ltb→lt, lt→ltb}
use lib.ListN.{length, get_or, take, drop, length-take, length-append, get_or-append}
use lib.Seq.{get_or_at, take-take}
use Rattle.laws.proofs.Tests.{and_intro, and_left, and_right}
use Rattle.periods.specs.Period.{part, Period, SmallestPeriod, Repetition, seek, agrees, smallest_period, repetition?, prefix_periods}
use Rattle.periods.proofs.Search.{Sought, seek_sought, all_sound, all_complete}
use Rattle.periods.proofs.InPlace.{SmallestIn, symbol, placed_part, placed_prefix, smallest_in, smallest_out, part_smallest_in, part_smallest_out, period_piece}

-- no pair of symbols p apart differs, exactly where p is a period or too long for a pair
pub agrees_sound : (s : List ℕ) (p : ℕ) → T (agrees s p) → (i : ℕ) → i + p < length s → get_or s i 0 ≡ get_or s (i + p) 0
agrees_sound s p h i l =
    eqb→eq (get_or s i 0) (get_or s (i + p) 0) (all_sound (λ i. eqb (get_or s i 0) (get_or s (i + p) 0)) 0 (length s - p) h i (omega arith) (omega arith))

pub agrees_complete : (s : List ℕ) (p : ℕ) → ((i : ℕ) → i + p < length s → get_or s i 0 ≡ get_or s (i + p) 0) → T (agrees s p)
agrees_complete s p h =
    all_complete (λ i. eqb (get_or s i 0) (get_or s (i + p) 0)) 0 (length s - p)
    (λ i x y. subst (λ (v : ℕ). T (eqb (get_or s i 0) v)) (h i (omega arith)) (eqb_refl (get_or s i 0)))

-- CLAIM: the computed unit is a period and no smaller number is one
pub smallest_period_is : (s : List ℕ) → 0 < length s → SmallestPeriod s (smallest_period s)
unfolding smallest_period
smallest_period_is [] l = absurd (omega arith)
smallest_period_is (x ∷ xs) l = go (seek (agrees (x ∷ xs)) (length xs) 1) (seek_sought (agrees (x ∷ xs)) (length xs) 1)
  where
    go : (r : ℕ) → Sought (agrees (x ∷ xs)) (length xs) 1 r → SmallestPeriod (x ∷ xs) r
    go r S = record {
      period = record { positive = S.from; fits = omega (arith, S.to); same = λ i u. same i u (dec_lt r (1 + length xs)) };
      least = λ q Q. least q Q (dec_lt q r);
    }
      where
        same : (i : ℕ) → i + r < length (x ∷ xs) → Dec (r < 1 + length xs) → get_or (x ∷ xs) i 0 ≡ get_or (x ∷ xs) (i + r) 0
        same i u (yes z) = agrees_sound (x ∷ xs) r (S.found z) i u
        same i u (no z) = absurd (omega arith)

        least : (q : ℕ) → Period (x ∷ xs) q → Dec (q < r) → r ≤ q
        least q Q (no z) = omega arith
        least q Q (yes z) = absurd (S.missed q Q.positive z (agrees_complete (x ∷ xs) q Q.same))

-- and there is only one such number
pub smallest_period_unique : (s : List ℕ) (p : ℕ) → SmallestPeriod s p → smallest_period s ≡ p
smallest_period_unique s p S =
    let C = smallest_period_is s (omega (arith, S.period.positive, S.period.fits)) in
    omega (arith, C.least p S.period, S.least (smallest_period s) C.period)

pub smallest_period_empty : (s : List ℕ) → length s ≡ 0 → smallest_period s ≡ 0
unfolding smallest_period
smallest_period_empty [] e = refl
smallest_period_empty (x ∷ xs) e = absurd (omega arith)

module _ (allowed : ℕ → Bool) (k : ℕ) (s : List ℕ) where
  -- CLAIM: the test decides whether a word is a repetition
  pub repetition_sound : T (repetition? allowed k s) → Repetition allowed k s
  unfolding repetition?
  repetition_sound h =
      let u = smallest_period s in
      let t = and_right (ltb 0 (length s)) (leb (k * u) (length s) && allowed u) h in
      record {
        period = u;
        smallest = smallest_period_is s (ltb→lt 0 (length s) (and_left (ltb 0 (length s)) (leb (k * u) (length s) && allowed u) h));
        long = leb→le (k * u) (length s) (and_left (leb (k * u) (length s)) (allowed u) t);
        permitted = and_right (leb (k * u) (length s)) (allowed u) t;
      }

  pub repetition_complete : Repetition allowed k s → T (repetition? allowed k s)
  unfolding repetition?
  repetition_complete R =
      let e : R.period ≡ smallest_period s = sym (smallest_period_unique s R.period R.smallest) in
      and_intro (ltb 0 (length s)) (leb (k * smallest_period s) (length s) && allowed (smallest_period s))
      (lt→ltb 0 (length s) (omega (arith, R.smallest.period.positive, R.smallest.period.fits)))
      (and_intro (leb (k * smallest_period s) (length s)) (allowed (smallest_period s))
      (le→leb (k * smallest_period s) (length s) (subst (λ (u : ℕ). k * u ≤ length s) e R.long))
      (subst (λ (u : ℕ). T (allowed u)) e R.permitted))

  -- the length and the unit decide it
  pub repetition_by_unit : 0 < length s → repetition? allowed k s ≡ (leb (k * smallest_period s) (length s) && allowed (smallest_period s))
  unfolding repetition?
  repetition_by_unit h = rw (lt-ltb 0 (length s) h) refl

-- the smallest period of a part, in its place
module _ (w : List ℕ) (a b : ℕ) (l : b ≤ length w) where
  pub part_smallest : a < b → SmallestIn (symbol w) a b (smallest_period (part w a b))
  part_smallest h = part_smallest_in w a b (smallest_period (part w a b)) l (smallest_period_is (part w a b) (omega (arith, (placed_part w a b l).long)))

  pub part_smallest_unique : (p : ℕ) → SmallestIn (symbol w) a b p → smallest_period (part w a b) ≡ p
  part_smallest_unique p S = smallest_period_unique (part w a b) p (part_smallest_out w a b p l S)

-- the smallest period of a prefix, in its place
pub prefix_smallest : (s : List ℕ) (m : ℕ) → 1 ≤ m → m ≤ length s → SmallestIn (symbol s) 0 m (smallest_period (take m s))
prefix_smallest s m a b =
    subst (λ (e : ℕ). SmallestIn (symbol s) 0 e (smallest_period (take m s))) (omega arith)
    (smallest_in (symbol s) 0 m (take m s) (placed_prefix s m b) (smallest_period (take m s)) (smallest_period_is (take m s) (omega (arith, length-take m s))))

pub prefix_smallest_unique : (s : List ℕ) (m p : ℕ) → m ≤ length s → SmallestIn (symbol s) 0 m p → smallest_period (take m s) ≡ p
prefix_smallest_unique s m p b S =
    smallest_period_unique (take m s) p
    (smallest_out (symbol s) 0 m (take m s) (placed_prefix s m b) p (subst (λ (e : ℕ). SmallestIn (symbol s) 0 e p) (omega arith) S))

-- CLAIM: the units of prefixes never fall as the prefix grows
pub prefix_periods_rise : (s : List ℕ) (m n : ℕ) → 1 ≤ m → m ≤ n → n ≤ length s → smallest_period (take m s) ≤ smallest_period (take n s)
prefix_periods_rise s m n a b c = go (dec_le (smallest_period (take n s)) m)
  where
    M : SmallestIn (symbol s) 0 m (smallest_period (take m s))
    M = prefix_smallest s m a (omega arith)

    N : SmallestIn (symbol s) 0 n (smallest_period (take n s))
    N = prefix_smallest s n (omega arith) c

    go : Dec (smallest_period (take n s) ≤ m) → smallest_period (take m s) ≤ smallest_period (take n s)
    go (yes l) = M.least (smallest_period (take n s)) (period_piece (symbol s) N.period (omega arith) b (omega arith))
    go (no l) = omega (arith, M.period.fits)

-- a part is a prefix of every longer one after its first boundary
pub part_prefix : (w : List ℕ) (a b c : ℕ) → b ≤ c → take (b - a) (part w a c) ≡ part w a b
part_prefix w a b c h = take-take (b - a) (c - a) (drop a w) (omega arith)

-- so the units of the parts after a boundary never fall as the part grows
pub part_periods_rise : (w : List ℕ) (a b c : ℕ) → a < b → b ≤ c → c ≤ length w → smallest_period (part w a b) ≤ smallest_period (part w a c)
part_periods_rise w a b c h k l =
    omega (
      arith,
      ap smallest_period (part_prefix w a b c k),
      ap smallest_period (part_prefix w a c c (omega arith)),
      prefix_periods_rise (part w a c) (b - a) (c - a) (omega arith) (omega arith) (omega (arith, (placed_part w a c l).long)),
    )

-- ---- the table of the smallest periods of prefixes

pub prefix_periods-length : (s : List ℕ) (m : ℕ) → length (prefix_periods s m) ≡ m
unfolding prefix_periods
prefix_periods-length s zero = refl
prefix_periods-length s (suc m) = length-append (prefix_periods s m) _ ∙ omega (arith, prefix_periods-length s m)

pub prefix_periods_at : (s : List ℕ) (m i : ℕ) → i < m → get_or (prefix_periods s m) i 0 ≡ smallest_period (take (suc i) s)
unfolding prefix_periods
prefix_periods_at s zero i l = absurd (omega arith)
prefix_periods_at s (suc m) i l = go (prefix_periods_at s m i) (dec_lt i m)
  where
    go : (i < m → get_or (prefix_periods s m) i 0 ≡ smallest_period (take (suc i) s)) → Dec (i < m)
        → get_or (prefix_periods s m ++ (smallest_period (take (suc m) s) ∷ [])) i 0 ≡ smallest_period (take (suc i) s)
    go ih (yes h) = get_or-append (prefix_periods s m) (smallest_period (take (suc m) s) ∷ []) 0 i (omega (arith, prefix_periods-length s m)) ∙ ih h
    go ih (no h) =
        let e : i ≡ m = omega arith in
        rw e (get_or_at (prefix_periods s m) (smallest_period (take (suc m) s)) [] 0 m (prefix_periods-length s m))
