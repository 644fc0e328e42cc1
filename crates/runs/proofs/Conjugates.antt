-- What a root tells: two runs of one period have the same symbols from their roots on exactly where they wind one unit, each from some start, so that their
-- units are conjugates (`roots_conjugate`). Where two starts have the same p symbols, each start of the one window has those of a start of the other, turned by as
-- much; so what comes first among the ones comes first among the others. In a sequence of symbols `f : ℕ → ℕ` counted from 0. Assumes nothing.
use mathlib.Core.Path.{◌≡◌, sym, ap, ◌∙◌, subst}
use mathlib.Core.Logic.{◌⊎◌, ◌↔◌, inl, inr}
use mathlib.Core.Bool.{true}
use mathlib.Core.List.{List}
use Prim.Native.Nat.{ℕ, ◌+◌, ◌-◌, ◌*◌, ◌≤◌, ◌<◌}
use native.Mathlib.Omega.{arith}
use native.Mathlib.Decide.{dec_lt, ℕ_discrete}
use Rattle.periods.proofs.InPlace.{PeriodIn, symbol}
use Rattle.runs.specs.Run.{symbol_at, Run, Root}
use Rattle.runs.proofs.InPlace.{run_in}
use Rattle.runs.proofs.Roots.{Agree, LeastStart, ahead_asym, ahead_agree}
use Rattle.runs.proofs.RootClaims.{root_least}

-- y is d after x, or one period before that
abbrev Turned : ℕ → ℕ → ℕ → ℕ → Type 0
Turned p x d y = (y ≡ x + d) ⊎ (y + p ≡ x + d)

-- of any start there is one turned by d
turn : (p s x d : ℕ) → s ≤ x → x < s + p → d < p → (y : ℕ) × (s ≤ y) × (y < s + p) × Turned p x d y
turn p s x d l u h = go (dec_lt (x + d) (s + p))
  where
    go : Dec (x + d < s + p) → (y : ℕ) × (s ≤ y) × (y < s + p) × Turned p x d y
    go (yes v) = (x + d, omega arith, v, inl (omega arith))
    go (no v) = (x + d - p, omega arith, omega arith, inr (omega arith))

-- and any start is another one turned
turned_by : (p s x y : ℕ) → s ≤ x → x < s + p → s ≤ y → y < s + p → (d : ℕ) × (d < p) × Turned p x d y
turned_by p s x y l u k v = go (dec_lt y x)
  where
    go : Dec (y < x) → (d : ℕ) × (d < p) × Turned p x d y
    go (no z) = (y - x, omega arith, inl (omega arith))
    go (yes z) = (y + p - x, omega arith, inr (omega arith))

module _ (f : ℕ → ℕ) where
  -- the symbol i after a start is that of the start it was turned from, at a place that is turned too
  turned_symbol : (s p x y d i m : ℕ) → PeriodIn f s (s + 2 * p) p → s ≤ x → x < s + p → s ≤ y → y < s + p → i < p → m < p → Turned p x d y → Turned p d i m
      → f (y + i) ≡ f (x + m)
  turned_symbol s p x y d i m P l u k v h g (inl a) (inl b) = ap f (omega arith)
  turned_symbol s p x y d i m P l u k v h g (inr a) (inr b) = ap f (omega arith)
  turned_symbol s p x y d i m P l u k v h g (inl a) (inr b) = ap f (omega arith) ∙ sym (P.same (x + m) (omega arith) (omega arith))
  turned_symbol s p x y d i m P l u k v h g (inr a) (inl b) = P.same (y + i) (omega arith) (omega arith) ∙ ap f (omega arith)

  module _ (p s s' : ℕ) (P : PeriodIn f s (s + 2 * p) p) (P' : PeriodIn f s' (s' + 2 * p) p) where
    -- where a start of the one window has the symbols of a start of the other, some start has those of any other
    pub agree_turned : (x x' y' : ℕ) → s ≤ x → x < s + p → s' ≤ x' → x' < s' + p → s' ≤ y' → y' < s' + p → Agree f p x x'
        → (y : ℕ) × (s ≤ y) × (y < s + p) × Agree f p y y'
    agree_turned x x' y' l u l' u' k' v' h = go (turned_by p s' x' y' l' u' k' v')
      where
        go : (d : ℕ) × (d < p) × Turned p x' d y' → (y : ℕ) × (s ≤ y) × (y < s + p) × Agree f p y y'
        go (d, e, t') = by (turn p s x d l u e)
          where
            by : (y : ℕ) × (s ≤ y) × (y < s + p) × Turned p x d y → (y : ℕ) × (s ≤ y) × (y < s + p) × Agree f p y y'
            by (y, k, v, t) = (y, k, v, λ i g. same i g (turn p 0 d i (omega arith) (omega arith) g))
              where
                same : (i : ℕ) → i < p → (m : ℕ) × (0 ≤ m) × (m < 0 + p) × Turned p d i m → f (y + i) ≡ f (y' + i)
                same i g (m, a, b, c) =
                    turned_symbol s p x y d i m P l u k v g (omega arith) t c ∙ h m (omega arith)
                    ∙ sym (turned_symbol s' p x' y' d i m P' l' u' k' v' g (omega arith) t' c)

module _ (f : ℕ → ℕ) (p s s' q q' : ℕ) (P : PeriodIn f s (s + 2 * p) p) (P' : PeriodIn f s' (s' + 2 * p) p) (L : LeastStart true f s p p q) (L' : LeastStart true f s' p p q') where
  -- one of these, and the least starts have the same symbols
  least_agree : (c : ℕ) → s ≤ c → c < s + p → Agree f p c s' → Agree f p q q'
  least_agree c l u h =
      go (agree_turned f p s s' P P' c s' q' l u (omega arith) (omega arith) L'.from L'.to h)
      (agree_turned f p s' s P' P s' c q (omega arith) (omega arith) l u L.from L.to (λ i k. sym (h i k)))
    where
      -- the symbols from y are those from q', and the symbols from y' are those from q
      go : (y : ℕ) × (s ≤ y) × (y < s + p) × Agree f p y q' → (y' : ℕ) × (s' ≤ y') × (y' < s' + p) × Agree f p y' q → Agree f p q q'
      go (y, yl, yu, a) (y', yl', yu', a') = by (ℕ_discrete y q) (ℕ_discrete y' q')
        where
          by : Dec (y ≡ q) → Dec (y' ≡ q') → Agree f p q q'
          by (yes e) d = subst (λ (z : ℕ). Agree f p z q') e a
          by (no e) (yes e') = λ i k. sym (subst (λ (z : ℕ). Agree f p z q) e' a' i k)
          by (no e) (no e') = absurd (ahead_asym f (ahead_agree f (L.least y yl yu e) a) (ahead_agree f (L'.least y' yl' yu' e') a'))

  -- the same symbols from the least starts on, and the first start of the one window has those of a start of the other
  agree_least : Agree f p q q' → (c : ℕ) × (s ≤ c) × (c < s + p) × Agree f p c s'
  agree_least h = agree_turned f p s s' P P' q q' s' L.from L.to L'.from L'.to (omega arith) (omega arith) h

-- ---- in a word, whose positions count from 1

-- the first run winds the unit of the second: from some position of its first turn it has the second one's first p symbols
abbrev pub Winds : List ℕ → ℕ → ℕ → ℕ → Type 0
Winds w p first first' = (c : ℕ) × (first ≤ c) × (c ≤ first + p - 1) × Agree (symbol_at w) p c first'

module _ (w : List ℕ) (first last p q first' last' q' : ℕ) (R : Run w first last p) (R' : Run w first' last' p) (X : Root w first p q) (X' : Root w first' p q') where
  -- CLAIM: the symbols from the roots of two runs of one period on are the same exactly where the two wind one unit
  pub roots_conjugate : Agree (symbol_at w) p q q' ↔ Winds w p first first'
  roots_conjugate = (to, from)
    where
      turns : (first last : ℕ) → Run w first last p → PeriodIn (symbol_at w) first (first + 2 * p) p
      turns first last R =
          let I = run_in w first last p R in
          record {
            positive = I.smallest.period.positive;
            fits = omega arith;
            same = λ i l u. I.smallest.period.same (i - 1) (omega arith) (omega (arith, I.twice, R.starts)) ∙ ap (symbol w) (omega (arith, R.starts));
          }

      L : LeastStart true (symbol_at w) first p p q
      L = root_least w first p q R.starts X

      L' : LeastStart true (symbol_at w) first' p p q'
      L' = root_least w first' p q' R'.starts X'

      to : Agree (symbol_at w) p q q' → Winds w p first first'
      to h = let z = agree_least (symbol_at w) p first first' q q' (turns first last R) (turns first' last' R') L L' h in (z.0, z.1, omega (arith, z.2), z.3)

      from : Winds w p first first' → Agree (symbol_at w) p q q'
      from (c, l, u, h) =
          least_agree (symbol_at w) p first first' q q' (turns first last R) (turns first' last' R') L L' c l (omega (arith, R.starts)) h
