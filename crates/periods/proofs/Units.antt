-- What the loops of `symbols::units` keep, and that each of their three steps keeps it. p is a period of the first m symbols, and no smaller number is one of
-- the first m + 1. Where the next pair p apart agrees, p is their smallest period; else the next period of the first m symbols is p plus the smallest one of
-- the first m - p, which stands in the table; where there is none, only the whole length is left. Assumes nothing.
use mathlib.Core.Path.{◌≡◌, refl, sym, ap, ◌∙◌, subst}
use mathlib.Core.List.{List, [], ◌∷◌, ◌++◌, append_assoc}
use Prim.Native.Nat.{ℕ, suc, ◌+◌, ◌-◌, ◌≤◌, ◌<◌}
use native.Mathlib.Omega.{arith}
use native.Mathlib.Numerals.{add-one}
use native.Mathlib.Decide.{dec_lt, ℕ_discrete}
use lib.ListN.{length, get_or, set, take, drop, length-set, get_or-append}
use lib.Seq.{take_all, drop-cons, set_at, drop-set-lt}
use Rattle.periods.specs.Period.{smallest_period, prefix_periods, units_table}
use Rattle.periods.proofs.InPlace.{PeriodIn, SmallestIn, symbol, period_piece, period_whole, period_longer, period_ends, period_above, period_plus}
use Rattle.periods.proofs.Claims.{prefix_smallest, prefix_smallest_unique, prefix_periods-length, prefix_periods_at}

-- s the part, t₀ the table at the start of the loop, t the table now
pub record Upto (s t₀ t : List ℕ) (m p : ℕ) : Type 0 where
  pub low : 1 ≤ p
  pub high : p ≤ m
  pub within : m ≤ length s
  pub room : length s ≤ length t₀
  pub long : length t ≡ length t₀
  pub table : t ≡ prefix_periods s m ++ drop m t₀
  pub period : PeriodIn (symbol s) 0 m p
  pub none : (q : ℕ) → q < p → PeriodIn (symbol s) 0 (suc m) q → ⊥
  pub whole : length s ≤ m → p ≡ smallest_period s

-- one more place of the table
store : (s t₀ t : List ℕ) (m u : ℕ) → m < length t₀ → t ≡ prefix_periods s m ++ drop m t₀ → smallest_period (take (suc m) s) ≡ u → set t m u ≡ prefix_periods s (suc m) ++ drop (suc m) t₀
unfolding prefix_periods
store s t₀ t m u l e f =
    ap (λ (x : List ℕ). set x m u) (e ∙ ap (λ (x : List ℕ). prefix_periods s m ++ x) (drop-cons t₀ m 0 l))
    ∙ set_at (prefix_periods s m) (get_or t₀ m 0) (drop (suc m) t₀) u m (prefix_periods-length s m)
    ∙ rw f (sym (append_assoc (prefix_periods s m) (u ∷ []) (drop (suc m) t₀)))

module _ (s t₀ t : List ℕ) (m p : ℕ) (U : Upto s t₀ t m p) (l : m < length s) where
  -- a smallest period of the first m + 1 symbols is stored, and is the next p
  stored : (u : ℕ) → SmallestIn (symbol s) 0 (suc m) u → Upto s t₀ (set t m u) (m + 1) u
  stored u S = rw (add-one m) record {
    low = S.period.positive;
    high = omega (arith, S.period.fits);
    within = omega arith;
    room = U.room;
    long = length-set t m u ∙ U.long;
    table = store s t₀ t m u (omega (arith, U.room)) U.table (prefix_smallest_unique s (suc m) u l S);
    period = S.period;
    none = λ q h Q. omega (arith, S.least q (period_piece (symbol s) Q (omega arith) (omega arith) (omega (arith, S.period.fits))));
    whole = λ h. sym (prefix_smallest_unique s (suc m) u l S) ∙ ap smallest_period (take_all (suc m) s h);
  }

  -- the next pair agrees
  pub units_agree : get_or s (m - p) 0 ≡ get_or s m 0 → Upto s t₀ (set t m p) (m + 1) p
  units_agree e = stored p record { period = period_longer (symbol s) 0 m p U.period (sym e); least = λ q Q. least q Q (dec_lt q p) }
    where
      least : (q : ℕ) → PeriodIn (symbol s) 0 (suc m) q → Dec (q < p) → p ≤ q
      least q Q (yes h) = absurd (U.none q h Q)
      least q Q (no h) = omega arith

  -- it differs, so p is no period of the first m + 1 symbols
  fails : (get_or s (m - p) 0 ≡ get_or s m 0 → ⊥) → (q : ℕ) → q < suc p → PeriodIn (symbol s) 0 (suc m) q → ⊥
  fails ne q h Q = go (ℕ_discrete q p)
    where
      go : Dec (q ≡ p) → ⊥
      go (yes e) = period_ends (symbol s) 0 m p (omega (arith, U.high)) (λ f. ne (sym f)) (subst (λ (x : ℕ). PeriodIn (symbol s) 0 (suc m) x) e Q)
      go (no e) = U.none q (omega arith) Q

  -- the place that is read
  pub units_known : p < m → get_or t (m - p - 1) 0 ≡ smallest_period (take (m - p) s)
  units_known h =
      let e : suc (m - p - 1) ≡ m - p = omega arith in
      ap (λ (x : List ℕ). get_or x (m - p - 1) 0) U.table
      ∙ get_or-append (prefix_periods s m) (drop m t₀) 0 (m - p - 1) (omega (arith, prefix_periods-length s m))
      ∙ prefix_periods_at s m (m - p - 1) (omega (arith, U.low))
      ∙ ap (λ (x : ℕ). smallest_period (take x s)) e

  next_smallest : p < m → SmallestIn (symbol s) 0 (m - p) (get_or t (m - p - 1) 0)
  next_smallest h = rw (units_known h) (prefix_smallest s (m - p) (omega arith) (omega arith))

  pub units_next_low : p < m → 1 ≤ get_or t (m - p - 1) 0
  units_next_low h = (next_smallest h).period.positive

  pub units_next_high : p < m → get_or t (m - p - 1) 0 ≤ m - p
  units_next_high h = omega (arith, (next_smallest h).period.fits)

  pub units_next : (get_or s (m - p) 0 ≡ get_or s m 0 → ⊥) → p < m → Upto s t₀ t m (p + get_or t (m - p - 1) 0)
  units_next ne h = record {
    low = omega (arith, U.low);
    high = omega (arith, units_next_high h);
    within = U.within;
    room = U.room;
    long = U.long;
    table = U.table;
    period = period_plus (symbol s) m p e U.period (next_smallest h).period;
    none = λ q l Q. none q l Q (dec_lt q (suc p));
    whole = λ h. absurd (omega arith);
  }
    where
      e : ℕ
      e = get_or t (m - p - 1) 0

      none : (q : ℕ) → q < p + get_or t (m - p - 1) 0 → PeriodIn (symbol s) 0 (suc m) q → Dec (q < suc p) → ⊥
      none q k Q (yes z) = fails ne q z Q
      none q k Q (no z) =
          omega (
            arith,
            (next_smallest h).least (q - p)
                (period_above (symbol s) m p q U.period (period_piece (symbol s) Q (omega arith) (omega arith) (omega (arith, units_next_high h))) (omega arith)),
          )

  -- no period of the first m symbols is left
  pub units_whole : (get_or s (m - p) 0 ≡ get_or s m 0 → ⊥) → m ≤ p → Upto s t₀ (set t m (m + 1)) (m + 1) (m + 1)
  units_whole ne h =
      stored (m + 1) record { period = subst (λ (x : ℕ). PeriodIn (symbol s) 0 (suc m) x) (omega arith) (period_whole (symbol s) 0 (suc m) (omega arith)); least = λ q Q. least q Q (dec_lt q (suc p)) }
    where
      least : (q : ℕ) → PeriodIn (symbol s) 0 (suc m) q → Dec (q < suc p) → m + 1 ≤ q
      least q Q (yes z) = absurd (fails ne q z Q)
      least q Q (no z) = omega arith

-- the first place
pub units_start : (s t : List ℕ) → 0 < length s → length s ≤ length t → Upto s (set t 0 1) (set t 0 1) 1 1
unfolding prefix_periods
units_start s t h k = record {
  low = omega arith;
  high = omega arith;
  within = omega arith;
  room = omega (arith, length-set t 0 1);
  long = refl;
  table = first t (omega arith);
  period = record { positive = omega arith; fits = omega arith; same = λ i x y. absurd (omega arith) };
  none = λ q l Q. omega (arith, Q.positive);
  whole = λ l. sym one ∙ ap smallest_period (take_all 1 s l);
}
  where
    one : smallest_period (take 1 s) ≡ 1
    one =
        prefix_smallest_unique s 1 1 (omega arith)
        record { period = record { positive = omega arith; fits = omega arith; same = λ i x y. absurd (omega arith) }; least = λ q Q. Q.positive }

    first : (t : List ℕ) → 0 < length t → set t 0 1 ≡ (smallest_period (take 1 s) ∷ []) ++ drop 1 (set t 0 1)
    first [] z = absurd (omega arith)
    first (x ∷ xs) z = rw one refl

-- all places
pub units_done : (s t r : List ℕ) (m p : ℕ) → 0 < length s → length s ≤ m → Upto s (set t 0 1) r m p → (p ≡ smallest_period s) × (r ≡ units_table s t)
unfolding units_table
units_done s t r m p h k U =
    let e : m ≡ length s = omega (arith, U.within) in
    (U.whole k, U.table ∙ rw e (ap (λ (x : List ℕ). prefix_periods s (length s) ++ x) (drop-set-lt (length s) t 0 1 h)))
