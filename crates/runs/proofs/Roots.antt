-- The least start of a window: of the p starts of a window in a part with smallest period p there is one, and one only, whose p symbols come before those of
-- every other (`least_start_exists`, `least_start_unique`), and these symbols are a Lyndon word (`least_start_lyndon`). In a sequence of symbols `f : ℕ → ℕ`
-- counted from 0, for the order of symbols and for its reverse. Two starts differ within p symbols, since otherwise their distance would be a smaller period. Where
-- the symbols from one place come before those from another, no start up to the first difference after the other is the least (`overtaken`): the start as far on
-- after the one comes before it. So the least start's symbols differ from each of their suffixes within it, and so a search can leap. Assumes nothing.
use mathlib.Core.Path.{◌≡◌, refl, sym, ap, ◌∙◌, subst, subst₂}
use mathlib.Core.Logic.{◌⊎◌, inl, inr, ◌≢◌}
use mathlib.Core.Bool.{Bool, true, false}
use Prim.Native.Nat.{ℕ, zero, suc, ◌+◌, ◌-◌, ◌*◌, ◌≤◌, ◌<◌}
use native.Mathlib.Omega.{arith}
use native.Mathlib.Decide.{dec_lt, ℕ_discrete}
use Rattle.periods.proofs.InPlace.{PeriodIn, SmallestIn}
use Rattle.runs.proofs.InPlace.{period_extend}

-- x comes before y: true is the order of symbols, false its reverse
abbrev pub Below : Bool → ℕ → ℕ → Type 0
Below true x y = x < y
Below false x y = y < x

-- the m symbols from a are those from b
abbrev pub Agree : (ℕ → ℕ) → ℕ → ℕ → ℕ → Type 0
Agree f m a b = (i : ℕ) → i < m → f (a + i) ≡ f (b + i)

-- the m symbols from a come before the m symbols from b: the first pair that differs decides
pub record Ahead (o : Bool) (f : ℕ → ℕ) (m a b : ℕ) : Type 0 where
  pub common : ℕ
  pub short : common < m
  pub same : Agree f common a b
  pub less : Below o (f (a + common)) (f (b + common))

-- of the d starts from s on, q is the one whose m symbols come before those of every other
pub record LeastStart (o : Bool) (f : ℕ → ℕ) (s d m q : ℕ) : Type 0 where
  pub from : s ≤ q
  pub to : q < s + d
  pub least : (c : ℕ) → s ≤ c → c < s + d → c ≢ q → Ahead o f m q c

-- the p symbols from q are a Lyndon word: they come before each of their proper suffixes
abbrev pub Lyndon : Bool → (ℕ → ℕ) → ℕ → ℕ → Type 0
Lyndon o f p q = (y : ℕ) → q < y → y < q + p → Ahead o f (q + p - y) q y

-- ---- the two orders of symbols

pub below_not : (o : Bool) (x y : ℕ) → Below o x y → x ≢ y
below_not true x y h e = omega arith
below_not false x y h e = omega arith

pub below_asym : (o : Bool) (x y : ℕ) → Below o x y → Below o y x → ⊥
below_asym true x y h k = omega arith
below_asym false x y h k = omega arith

below_trans : (o : Bool) (x y z : ℕ) → Below o x y → Below o y z → Below o x z
below_trans true x y z h k = omega arith
below_trans false x y z h k = omega arith

below_total : (o : Bool) (x y : ℕ) → x ≢ y → Below o x y ⊎ Below o y x
below_total o x y h = go o (dec_lt x y)
  where
    go : (o : Bool) → Dec (x < y) → Below o x y ⊎ Below o y x
    go true (yes v) = inl v
    go true (no v) = inr (omega arith)
    go false (yes v) = inr v
    go false (no v) = inl (omega arith)

below_order : (o o' : Bool) (x y : ℕ) → Below o x y → Below o' x y → o ≡ o'
below_order true true x y h k = refl
below_order true false x y h k = absurd (omega arith)
below_order false true x y h k = absurd (omega arith)
below_order false false x y h k = refl

module _ (f : ℕ → ℕ) where
  -- ---- the order of m symbols

  -- the first difference of two places is at one distance
  one_difference : (a b k k' : ℕ) → Agree f k a b → f (a + k) ≢ f (b + k) → Agree f k' a b → f (a + k') ≢ f (b + k') → k ≡ k'
  one_difference a b k k' h x h' x' = go (dec_lt k k') (dec_lt k' k)
    where
      go : Dec (k < k') → Dec (k' < k) → k ≡ k'
      go (yes v) d = absurd (x (h' k v))
      go (no v) (yes u) = absurd (x' (h k' u))
      go (no v) (no u) = omega arith

  pub ahead_differs : {o : Bool} {m a b : ℕ} (X : Ahead o f m a b) → f (a + X.common) ≢ f (b + X.common)
  ahead_differs {o} {m} {a} {b} X = below_not o (f (a + X.common)) (f (b + X.common)) X.less

  -- one place is not before another in both orders
  pub ahead_order : {o o' : Bool} {m m' a b : ℕ} → Ahead o f m a b → Ahead o' f m' a b → o ≡ o'
  ahead_order {o} {o'} {m} {m'} {a} {b} X Y =
      below_order o o' (f (a + X.common)) (f (b + X.common)) X.less
      (subst (λ (k : ℕ). Below o' (f (a + k)) (f (b + k)))
      (one_difference a b Y.common X.common Y.same (ahead_differs Y) X.same (ahead_differs X)) Y.less)

  pub ahead_asym : {o : Bool} {m m' a b : ℕ} → Ahead o f m a b → Ahead o f m' b a → ⊥
  ahead_asym {o} {m} {m'} {a} {b} X Y =
      below_asym o (f (a + X.common)) (f (b + X.common)) X.less
      (subst (λ (k : ℕ). Below o (f (b + k)) (f (a + k)))
      (one_difference b a Y.common X.common Y.same (ahead_differs Y) (λ i l. sym (X.same i l)) (λ e. ahead_differs X (sym e))) Y.less)

  pub ahead_trans : {o : Bool} {m a b c : ℕ} → Ahead o f m a b → Ahead o f m b c → Ahead o f m a c
  ahead_trans {o} {m} {a} {b} {c} X Y = go (dec_lt X.common Y.common) (dec_lt Y.common X.common)
    where
      go : Dec (X.common < Y.common) → Dec (Y.common < X.common) → Ahead o f m a c
      go (yes v) d = record {
        common = X.common;
        short = X.short;
        same = λ i h. X.same i h ∙ Y.same i (omega arith);
        less = subst (λ (x : ℕ). Below o (f (a + X.common)) x) (Y.same X.common v) X.less;
      }
      go (no v) (yes u) = record {
        common = Y.common;
        short = Y.short;
        same = λ i h. X.same i (omega arith) ∙ Y.same i h;
        less = subst (λ (x : ℕ). Below o x (f (c + Y.common))) (sym (X.same Y.common u)) Y.less;
      }
      go (no v) (no u) = record {
        common = X.common;
        short = X.short;
        same = λ i h. X.same i h ∙ Y.same i (omega arith);
        less =
            let e : Y.common ≡ X.common = omega arith in
            below_trans o (f (a + X.common)) (f (b + X.common)) (f (c + X.common)) X.less (subst (λ (k : ℕ). Below o (f (b + k)) (f (c + k))) e Y.less);
      }

  -- what comes before a place comes before one with the same symbols
  pub ahead_agree : {o : Bool} {m a b c : ℕ} → Ahead o f m a b → Agree f m b c → Ahead o f m a c
  ahead_agree {o} {m} {a} {b} {c} X h = record {
    common = X.common;
    short = X.short;
    same = λ i l. X.same i l ∙ h i (omega arith);
    less = subst (λ (x : ℕ). Below o (f (a + X.common)) x) (h X.common X.short) X.less;
  }

  pub agree_none : (a b : ℕ) → Agree f 0 a b
  agree_none a b i l = absurd (omega arith)

  -- one symbol more
  pub agree_more : (m a b : ℕ) → Agree f m a b → f (a + m) ≡ f (b + m) → Agree f (suc m) a b
  agree_more m a b h e i l = go (dec_lt i m)
    where
      go : Dec (i < m) → f (a + i) ≡ f (b + i)
      go (yes v) = h i v
      go (no v) = let z : i ≡ m = omega arith in rw z e

  -- the m symbols from a and from b are the same, or the ones come before the others
  ahead_total : (o : Bool) (m a b : ℕ) → Agree f m a b ⊎ (Ahead o f m a b ⊎ Ahead o f m b a)
  ahead_total o zero a b = inl (agree_none a b)
  ahead_total o (suc m) a b = go (ahead_total o m a b) (ℕ_discrete (f (a + m)) (f (b + m)))
    where
      longer : (a b : ℕ) → Ahead o f m a b → Ahead o f (suc m) a b
      longer a b X = record { common = X.common; short = omega arith; same = X.same; less = X.less }

      decided : Agree f m a b → Below o (f (a + m)) (f (b + m)) ⊎ Below o (f (b + m)) (f (a + m)) → Ahead o f (suc m) a b ⊎ Ahead o f (suc m) b a
      decided h (inl l) = inl (record { common = m; short = omega arith; same = h; less = l })
      decided h (inr l) = inr (record { common = m; short = omega arith; same = λ i k. sym (h i k); less = l })

      go : Agree f m a b ⊎ (Ahead o f m a b ⊎ Ahead o f m b a) → Dec (f (a + m) ≡ f (b + m)) → Agree f (suc m) a b ⊎ (Ahead o f (suc m) a b ⊎ Ahead o f (suc m) b a)
      go (inr (inl X)) d = inr (inl (longer a b X))
      go (inr (inr X)) d = inr (inr (longer b a X))
      go (inl h) (yes e) = inl (agree_more m a b h e)
      go (inl h) (no e) = inr (decided h (below_total o (f (a + m)) (f (b + m)) e))

  -- ---- the least start

  pub least_one : {o : Bool} {m : ℕ} (s : ℕ) → LeastStart o f s 1 m s
  least_one s = record { from = omega arith; to = omega arith; least = λ c x y z. absurd (z (omega arith)) }

  -- one start more, which comes after the least so far, or before it
  pub least_kept : {o : Bool} {m s d q : ℕ} → LeastStart o f s (suc d) m q → Ahead o f m q (s + suc d) → LeastStart o f s (suc (suc d)) m q
  least_kept {o} {m} {s} {d} {q} L X = record { from = L.from; to = omega arith; least = λ c x y z. old c x y z (ℕ_discrete c (s + suc d)) }
    where
      old : (c : ℕ) → s ≤ c → c < s + suc (suc d) → c ≢ q → Dec (c ≡ s + suc d) → Ahead o f m q c
      old c x y z (yes e) = subst (λ (c : ℕ). Ahead o f m q c) (sym e) X
      old c x y z (no e) = L.least c x (omega arith) z

  pub least_moved : {o : Bool} {m s d q : ℕ} → LeastStart o f s (suc d) m q → Ahead o f m (s + suc d) q → LeastStart o f s (suc (suc d)) m (s + suc d)
  least_moved {o} {m} {s} {d} {q} L X = record { from = omega arith; to = omega arith; least = λ c x y z. new c x (omega arith) (ℕ_discrete c q) }
    where
      new : (c : ℕ) → s ≤ c → c < s + suc d → Dec (c ≡ q) → Ahead o f m (s + suc d) c
      new c x y (yes e) = subst (λ (c : ℕ). Ahead o f m (s + suc d) c) (sym e) X
      new c x y (no e) = ahead_trans X (L.least c x y e)

  -- of d + 1 starts, any two of which differ within m symbols, one comes first
  least_of : (o : Bool) (m s d : ℕ) → ((a b : ℕ) → s ≤ a → a < b → b < s + suc d → Ahead o f m a b ⊎ Ahead o f m b a) → (q : ℕ) × LeastStart o f s (suc d) m q
  least_of o m s zero h = (s, least_one s)
  least_of o m s (suc d) h = go (least_of o m s d (λ a b x y z. h a b x y (omega arith)))
    where
      go : (q : ℕ) × LeastStart o f s (suc d) m q → (q : ℕ) × LeastStart o f s (suc (suc d)) m q
      go (q, L) = by (h q (s + suc d) L.from L.to (omega arith))
        where
          by : Ahead o f m q (s + suc d) ⊎ Ahead o f m (s + suc d) q → (q : ℕ) × LeastStart o f s (suc (suc d)) m q
          by (inl X) = (q, least_kept L X)
          by (inr X) = (s + suc d, least_moved L X)

  pub least_start_unique : {o : Bool} {s d m q q' : ℕ} → LeastStart o f s d m q → LeastStart o f s d m q' → q ≡ q'
  least_start_unique {o} {s} {d} {m} {q} {q'} X Y = go (ℕ_discrete q q')
    where
      go : Dec (q ≡ q') → q ≡ q'
      go (yes e) = e
      go (no e) = absurd (ahead_asym (X.least q' Y.from Y.to (λ z. e (sym z))) (Y.least q X.from X.to e))

  -- ---- a window in a part with smallest period p: the p starts from s on, with p symbols each
  module _ (A B p : ℕ) (U : SmallestIn f A B p) (s : ℕ) (left : A ≤ s) (room : s + 2 * p ≤ suc B) (o : Bool) where
    -- two starts differ within p symbols
    pub window_differs : (a b : ℕ) → s ≤ a → a < b → b < s + p → Agree f p a b → ⊥
    window_differs a b l x u h =
        omega (arith, U.least (b - a) (period_extend f A B a (b + p) p (b - a) U.period (omega arith) (omega arith) distance (omega arith)))
      where
        distance : PeriodIn f a (b + p) (b - a)
        distance = record {
          positive = omega arith;
          fits = omega arith;
          same = λ i y z. ap f (omega arith) ∙ h (i - a) (omega arith) ∙ ap f (omega arith);
        }

    pub window_total : (a b : ℕ) → s ≤ a → a < b → b < s + p → Ahead o f p a b ⊎ Ahead o f p b a
    window_total a b l x u = go (ahead_total o p a b)
      where
        go : Agree f p a b ⊎ (Ahead o f p a b ⊎ Ahead o f p b a) → Ahead o f p a b ⊎ Ahead o f p b a
        go (inr r) = r
        go (inl h) = absurd (window_differs a b l x u h)

    pub least_start_exists : (q : ℕ) × LeastStart o f s p p q
    least_start_exists =
        subst (λ (d : ℕ). (q : ℕ) × LeastStart o f s d p q) (omega arith)
        (least_of o p s (p - 1) (λ a b x y z. window_total a b x y (omega arith)))

    -- a step of nothing or of the period
    abbrev Step : ℕ → Type 0
    Step t = (t ≡ 0) ⊎ (t ≡ p)

    step_same : (t : ℕ) → Step t → (x y : ℕ) → x + t ≡ y → A ≤ x → y < B → f x ≡ f y
    step_same t (inl z) x y e l u = ap f (omega arith)
    step_same t (inr z) x y e l u = U.period.same x l (omega arith) ∙ ap f (omega arith)

    step_not : (t : ℕ) → Step t → (q c y : ℕ) → c + t ≡ y → q < y → y < q + p → c ≢ q
    step_not t (inl z) q c y e l u v = omega arith
    step_not t (inr z) q c y e l u v = omega arith

    module _ (q : ℕ) (X : LeastStart o f s p p q) where
      -- the symbols from x and y agree k times, and then y's come before x's: the least start, or the place one period on (r), is not among x and the k places after it
      pub overtaken : (x y k r : ℕ) → Step r → Agree f k x y → Below o (f (y + k)) (f (x + k)) → x < s + p → s ≤ y → y < s + p → k < p → x ≤ q + r → q + r ≤ x + k → ⊥
      overtaken x y k r R h l xu yl yu kp lo hi = go (dec_lt (y + m) (s + p))
        where
          -- it is m places after x
          m : ℕ
          m = q + r - x

          back : (i : ℕ) → i ≤ k - m → f (x + (m + i)) ≡ f (q + i)
          back i v = sym (step_same r R (q + i) (x + (m + i)) (omega arith) (omega arith) (omega arith))

          -- the start that is m places after y, or one period before that (t), would come before the least
          before : (t : ℕ) → Step t → (z : ℕ) → s ≤ z → z < s + p → z + t ≡ y + m → ⊥
          before t T z zl zu ze = by (ℕ_discrete z q)
            where
              on : (i : ℕ) → i ≤ k - m → f (z + i) ≡ f (y + (m + i))
              on i v = step_same t T (z + i) (y + (m + i)) (omega arith) (omega arith) (omega arith)

              ahead : Ahead o f p z q
              ahead = record {
                common = k - m;
                short = omega arith;
                same = λ i v. on i (omega arith) ∙ sym (h (m + i) (omega arith)) ∙ back i (omega arith);
                less = subst₂ (Below o) (ap f (omega arith) ∙ sym (on (k - m) (omega arith))) (ap f (omega arith) ∙ back (k - m) (omega arith)) l;
              }

              by : Dec (z ≡ q) → ⊥
              by (yes e) = ahead_differs ahead (ap (λ (c : ℕ). f (c + (k - m))) e)
              by (no e) = ahead_asym (X.least z zl zu e) ahead

          go : Dec (y + m < s + p) → ⊥
          go (yes v) = before 0 (inl refl) (y + m) (omega arith) v (omega arith)
          go (no v) = before p (inr refl) (y + m - p) (omega arith) (omega arith) (omega arith)

      -- y is the start c of the window or one period on (t), and t' is the other step; m is what is left from y on of the p symbols from q
      lyndon_at : (t t' : ℕ) → Step t → Step t' → t + t' ≡ p → (c y m : ℕ) → s ≤ c → c < s + p → c + t ≡ y → q < y → y < q + p → y + m ≡ q + p → Ahead o f m q y
      lyndon_at t t' T T' tt' c y m l u e x h ym = go (X.least c l u (step_not t T q c y e x h))
        where
          go : Ahead o f p q c → Ahead o f m q y
          go Y = by (dec_lt Y.common m)
            where
              inside : (i : ℕ) → i < m → f (c + i) ≡ f (y + i)
              inside i k = step_same t T (c + i) (y + i) (omega arith) (omega arith) (omega arith)

              by : Dec (Y.common < m) → Ahead o f m q y
              by (yes v) = record {
                common = Y.common;
                short = v;
                same = λ i k. Y.same i k ∙ inside i (omega arith);
                less = subst (λ (r : ℕ). Below o (f (q + Y.common)) r) (inside Y.common v) Y.less;
              }
              -- else the least start is overtaken
              by (no v) =
                  absurd (overtaken c q Y.common t' T' (λ i k. sym (Y.same i k)) Y.less u X.from X.to Y.short (omega arith) (omega arith))

      pub least_start_lyndon : Lyndon o f p q
      least_start_lyndon y l u = go (dec_lt y (s + p))
        where
          go : Dec (y < s + p) → Ahead o f (q + p - y) q y
          go (yes v) = lyndon_at 0 p (inl refl) (inr refl) (omega arith) y y (q + p - y) (omega arith) v (omega arith) l u (omega arith)
          go (no v) = lyndon_at p 0 (inr refl) (inl refl) (omega arith) (y - p) y (q + p - y) (omega arith) (omega arith) (omega arith) l u (omega arith)
