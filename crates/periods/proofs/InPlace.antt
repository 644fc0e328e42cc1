-- Periods of a part in its place: between the boundaries a and b of a sequence of symbols `f : ℕ → ℕ`, counted from 0. A word handed on by itself has
-- the periods that it has in its place (`period_in`, `period_out`), so that laws about slices and prefixes are laws about places; so has a part of a word
-- (`part_smallest_in`, `part_smallest_out`). And a part that is cut in two (`part_cut`). Assumes nothing.
use mathlib.Core.Path.{◌≡◌, refl, sym, ap, ◌∙◌, subst}
use mathlib.Core.List.{List, ◌++◌}
use Prim.Native.Nat.{ℕ, suc, ◌+◌, ◌-◌, ◌≤◌, ◌<◌}
use native.Mathlib.Omega.{arith}
use native.Mathlib.Decide.{dec_lt}
use native.Mathlib.Nat.{zero-add}
use lib.ListN.{length, get_or, take, drop, length-take, length-drop}
use lib.Seq.{get_or-take, get_or-drop, take-add, drop-drop, take_at, drop_at}
use Rattle.periods.specs.Period.{part, Period, SmallestPeriod}

pub record PeriodIn (f : ℕ → ℕ) (a b p : ℕ) : Type 0 where
  pub positive : 1 ≤ p
  pub fits : a + p ≤ b
  pub same : (i : ℕ) → a ≤ i → i + p < b → f i ≡ f (i + p)

pub record SmallestIn (f : ℕ → ℕ) (a b p : ℕ) : Type 0 where
  pub period : PeriodIn f a b p
  pub least : (q : ℕ) → PeriodIn f a b q → p ≤ q

-- the symbols of a word, as a sequence
abbrev pub symbol : List ℕ → ℕ → ℕ
symbol w i = get_or w i 0

-- s is the part of f between a and a + n
pub record Placed (f : ℕ → ℕ) (a n : ℕ) (s : List ℕ) : Type 0 where
  pub long : length s ≡ n
  pub symbols : (i : ℕ) → i < n → get_or s i 0 ≡ f (a + i)

module _ (f : ℕ → ℕ) (a n : ℕ) (s : List ℕ) (P : Placed f a n s) where
  pub period_in : (p : ℕ) → Period s p → PeriodIn f a (a + n) p
  period_in p Q = record { positive = Q.positive; fits = omega (arith, Q.fits, P.long); same = same }
    where
      same : (i : ℕ) → a ≤ i → i + p < a + n → f i ≡ f (i + p)
      same i x y =
          ap f (omega arith) ∙ sym (P.symbols (i - a) (omega (arith, Q.positive))) ∙ Q.same (i - a) (omega (arith, P.long))
          ∙ P.symbols (i - a + p) (omega arith) ∙ ap f (omega arith)

  pub period_out : (p : ℕ) → PeriodIn f a (a + n) p → Period s p
  period_out p Q = record { positive = Q.positive; fits = omega (arith, Q.fits, P.long); same = same }
    where
      same : (i : ℕ) → i + p < length s → get_or s i 0 ≡ get_or s (i + p) 0
      same i x =
          P.symbols i (omega (arith, Q.positive, P.long)) ∙ Q.same (a + i) (omega arith) (omega (arith, P.long)) ∙ ap f (omega arith)
          ∙ sym (P.symbols (i + p) (omega (arith, P.long)))

  pub smallest_in : (p : ℕ) → SmallestPeriod s p → SmallestIn f a (a + n) p
  smallest_in p S = record { period = period_in p S.period; least = λ q Q. S.least q (period_out q Q) }

  pub smallest_out : (p : ℕ) → SmallestIn f a (a + n) p → SmallestPeriod s p
  smallest_out p S = record { period = period_out p S.period; least = λ q Q. S.least q (period_in q Q) }

-- a word stands in its own sequence
pub placed_whole : (s : List ℕ) → Placed (symbol s) 0 (length s) s
placed_whole s = record { long = refl; symbols = λ i l. ap (symbol s) (sym (zero-add i)) }

-- a part of a word
pub placed_part : (w : List ℕ) (a b : ℕ) → b ≤ length w → Placed (symbol w) a (b - a) (part w a b)
placed_part w a b h = record {
  long = length-take (b - a) (drop a w) ∙ omega (arith, length-drop a w);
  symbols = λ i l. get_or-take (b - a) (drop a w) i 0 l ∙ get_or-drop a w i 0;
}

-- two parts that meet at a boundary make one
part-append : (w : List ℕ) (a c b : ℕ) → a ≤ c → c ≤ b → part w a b ≡ part w a c ++ part w c b
part-append w a c b h k =
    let e : b - a ≡ c - a + (b - c) = omega arith in
    let f : a + (c - a) ≡ c = omega arith in
    ap (λ (n : ℕ). take n (drop a w)) e ∙ take-add (c - a) (b - c) (drop a w)
    ∙ ap (λ (x : List ℕ). take (c - a) (drop a w) ++ take (b - c) x) (drop-drop (c - a) a w ∙ ap (λ (n : ℕ). drop n w) f)

-- and where a part is two words, one after the other, they are its parts on either side of the boundary between them
pub part_cut : (w u v : List ℕ) (a c b : ℕ) → a ≤ c → c ≤ b → b ≤ length w → length u ≡ c - a → part w a b ≡ u ++ v → (part w a c ≡ u) × (part w c b ≡ v)
part_cut w u v a c b h k l long e =
    let n = (placed_part w a c (omega arith)).long in
    let q = sym (part-append w a c b h k) ∙ e in (
      sym (take_at (part w a c) (part w c b) (c - a) n) ∙ ap (take (c - a)) q ∙ take_at u v (c - a) long,
      sym (drop_at (part w a c) (part w c b) (c - a) n) ∙ ap (drop (c - a)) q ∙ drop_at u v (c - a) long,
    )

pub part_period_in : (w : List ℕ) (a b p : ℕ) → b ≤ length w → Period (part w a b) p → PeriodIn (symbol w) a b p
part_period_in w a b p h Q =
    let P = placed_part w a b h in
    subst (λ (e : ℕ). PeriodIn (symbol w) a e p) (omega (arith, P.long, Q.positive, Q.fits)) (period_in (symbol w) a (b - a) (part w a b) P p Q)

pub part_period_out : (w : List ℕ) (a b p : ℕ) → b ≤ length w → PeriodIn (symbol w) a b p → Period (part w a b) p
part_period_out w a b p h Q =
    period_out (symbol w) a (b - a) (part w a b) (placed_part w a b h) p (subst (λ (e : ℕ). PeriodIn (symbol w) a e p) (omega (arith, Q.positive, Q.fits)) Q)

pub part_smallest_in : (w : List ℕ) (a b p : ℕ) → b ≤ length w → SmallestPeriod (part w a b) p → SmallestIn (symbol w) a b p
part_smallest_in w a b p h S =
    let P = placed_part w a b h in
    subst (λ (e : ℕ). SmallestIn (symbol w) a e p) (omega (arith, P.long, S.period.positive, S.period.fits))
    (smallest_in (symbol w) a (b - a) (part w a b) P p S)

pub part_smallest_out : (w : List ℕ) (a b p : ℕ) → b ≤ length w → SmallestIn (symbol w) a b p → SmallestPeriod (part w a b) p
part_smallest_out w a b p h S =
    smallest_out (symbol w) a (b - a) (part w a b) (placed_part w a b h) p
    (subst (λ (e : ℕ). SmallestIn (symbol w) a e p) (omega (arith, S.period.positive, S.period.fits)) S)

-- a prefix
pub placed_prefix : (w : List ℕ) (m : ℕ) → m ≤ length w → Placed (symbol w) 0 m (take m w)
placed_prefix w m h = record { long = length-take m w ∙ omega arith; symbols = λ i l. get_or-take m w i 0 l ∙ ap (symbol w) (sym (zero-add i)) }

module _ (f : ℕ → ℕ) where
  -- a period of a part is one of each piece that it fits in
  pub period_piece : {A B a b p : ℕ} → PeriodIn f A B p → A ≤ a → b ≤ B → a + p ≤ b → PeriodIn f a b p
  period_piece P l u h = record { positive = P.positive; fits = h; same = λ i x y. P.same i (omega arith) (omega arith) }

  -- the length is a period
  pub period_whole : (a b : ℕ) → a < b → PeriodIn f a b (b - a)
  period_whole a b l = record { positive = omega arith; fits = omega arith; same = λ i x y. absurd (omega arith) }

  -- a period holds on where the next pair of symbols agrees, and fails where it differs
  pub period_longer : (a b p : ℕ) → PeriodIn f a b p → f b ≡ f (b - p) → PeriodIn f a (suc b) p
  period_longer a b p P e =
      record { positive = P.positive; fits = omega (arith, P.fits); same = λ i x y. go i x y (dec_lt (i + p) b) }
    where
      go : (i : ℕ) → a ≤ i → i + p < suc b → Dec (i + p < b) → f i ≡ f (i + p)
      go i x y (yes l) = P.same i x l
      go i x y (no l) = ap f (omega (arith, P.fits)) ∙ sym e ∙ ap f (omega arith)

  pub period_ends : (a b p : ℕ) → a + p ≤ b → (f b ≡ f (b - p) → ⊥) → PeriodIn f a (suc b) p → ⊥
  period_ends a b p h ne P = ne (ap f (omega arith) ∙ sym (P.same (b - p) (omega arith) (omega (arith, P.positive))))

  -- the periods above a period d of the first m symbols are d plus the periods of the first m - d symbols
  pub period_above : (m d q : ℕ) → PeriodIn f 0 m d → PeriodIn f 0 m q → d < q → PeriodIn f 0 (m - d) (q - d)
  period_above m d q D Q l = record { positive = omega arith; fits = omega (arith, Q.fits); same = same }
    where
      same : (i : ℕ) → 0 ≤ i → i + (q - d) < m - d → f i ≡ f (i + (q - d))
      same i x y =
          Q.same i (omega arith) (omega arith) ∙ ap f (omega arith) ∙ sym (D.same (i + (q - d)) (omega arith) (omega arith))

  pub period_plus : (m d e : ℕ) → PeriodIn f 0 m d → PeriodIn f 0 (m - d) e → PeriodIn f 0 m (d + e)
  period_plus m d e D E = record { positive = omega (arith, D.positive); fits = omega (arith, D.fits, E.fits, E.positive); same = same }
    where
      same : (i : ℕ) → 0 ≤ i → i + (d + e) < m → f i ≡ f (i + (d + e))
      same i x y = E.same i (omega arith) (omega arith) ∙ D.same (i + e) (omega arith) (omega arith) ∙ ap f (omega arith)

  pub smallest_unique : (a b p q : ℕ) → SmallestIn f a b p → SmallestIn f a b q → p ≡ q
  smallest_unique a b p q P Q = omega (arith, P.least q Q.period, Q.least p P.period)
