-- Runs in their place: between the boundaries A and B of a sequence of n symbols `f : ℕ → ℕ`, counted from 0. A piece of a run that is twice its period or
-- longer has that period as its smallest; a run is determined by a piece of it and its period; every part twice its smallest period or longer lies in a run
-- with that period, and in one only (`one_run`). One law does the work: a period q of a piece of p + q symbols of a part with period p is a period of the whole
-- part. Assumes nothing.
use mathlib.Core.Path.{◌≡◌, refl, sym, ap, ◌∙◌}
use mathlib.Core.Logic.{◌⊎◌, inl, inr, ◌≢◌}
use mathlib.Core.List.{List}
use Prim.Native.Nat.{ℕ, zero, suc, ◌+◌, ◌-◌, ◌*◌, ◌≤◌, ◌<◌}
use native.Mathlib.Omega.{arith}
use native.Mathlib.Nat.{le_antisymm}
use native.Mathlib.Decide.{dec_lt, ℕ_discrete}
use lib.ListN.{length}
use Rattle.periods.specs.Period.{part, SmallestPeriod}
use Rattle.periods.proofs.InPlace.{PeriodIn, SmallestIn, symbol, Placed, placed_part, period_piece, part_smallest_in, part_smallest_out}
use Rattle.runs.specs.Run.{symbol_at, Run}

-- the boundaries A and B are first - 1 and last
pub record RunIn (f : ℕ → ℕ) (n A B p : ℕ) : Type 0 where
  pub smallest : SmallestIn f A B p
  pub twice : A + 2 * p ≤ B
  pub within : B ≤ n
  pub left : (i : ℕ) → suc i ≡ A → f i ≢ f (i + p)
  pub right : B < n → f B ≢ f (B - p)

module _ (f : ℕ → ℕ) where
  -- a period q of a piece of a p-periodic part, with p + q passes or more, is one of the whole part
  pub period_extend : (A B a b p q : ℕ) → PeriodIn f A B p → A ≤ a → b ≤ B → PeriodIn f a b q → a + p + q ≤ b → PeriodIn f A B q
  period_extend A B a b p q P l u Q h = record { positive = Q.positive; fits = omega arith; same = λ i x y. down a i (omega arith) x y }
    where
      upc : (d i : ℕ) → i ≤ suc d → a ≤ i → i + q < B → ((j : ℕ) → j ≤ d → a ≤ j → j + q < B → f j ≡ f (j + q)) → Dec (i + q < b) → f i ≡ f (i + q)
      upc d i x y z ih (yes v) = Q.same i y v
      upc d i x y z ih (no v) =
          ap f (omega arith) ∙ sym (P.same (i - p) (omega arith) (omega arith))
          ∙ ih (i - p) (omega (arith, P.positive)) (omega arith) (omega arith)
          ∙ P.same (i - p + q) (omega arith) (omega arith) ∙ ap f (omega arith)

      up : (d i : ℕ) → i ≤ d → a ≤ i → i + q < B → f i ≡ f (i + q)
      up zero i x y z = Q.same i y (omega (arith, P.positive, Q.positive))
      up (suc d) i x y z = upc d i x y z (λ j. up d j) (dec_lt (i + q) b)

      downc : (d i : ℕ) → a ≤ i + suc d → A ≤ i → i + q < B → ((j : ℕ) → a ≤ j + d → A ≤ j → j + q < B → f j ≡ f (j + q)) → Dec (i < a) → f i ≡ f (i + q)
      downc d i x y z ih (no v) = up i i (omega arith) (omega arith) z
      downc d i x y z ih (yes v) =
          P.same i y (omega arith)
          ∙ ih (i + p) (omega (arith, P.positive)) (omega arith) (omega arith)
          ∙ ap f (omega arith) ∙ sym (P.same (i + q) (omega arith) (omega arith))

      down : (d i : ℕ) → a ≤ i + d → A ≤ i → i + q < B → f i ≡ f (i + q)
      down zero i x y z = up i i (omega arith) (omega arith) z
      down (suc d) i x y z = downc d i x y z (λ j. down d j) (dec_lt i a)

  -- a piece of a run, twice its unit or longer, has the run's unit
  pub piece_smallest : (n A B a b p : ℕ) → RunIn f n A B p → A ≤ a → b ≤ B → a + 2 * p ≤ b → SmallestIn f a b p
  piece_smallest n A B a b p R l u h =
      record { period = period_piece f R.smallest.period l u (omega arith); least = λ q Q. pick q Q (dec_lt q p) }
    where
      pick : (q : ℕ) → PeriodIn f a b q → Dec (q < p) → p ≤ q
      pick q Q (no v) = omega arith
      pick q Q (yes v) = R.smallest.least q (period_extend A B a b p q R.smallest.period l u Q (omega arith))

  run_left : (n A B A' B' a b p : ℕ) → RunIn f n A B p → RunIn f n A' B' p → A' ≤ a → b ≤ B → a + p ≤ b → A' ≤ A
  run_left n A B A' B' a b p R S l u h = pick (dec_lt A A')
    where
      pick : Dec (A < A') → A' ≤ A
      pick (no v) = omega arith
      pick (yes v) = absurd (S.left (A' - 1) (omega arith) (R.smallest.period.same (A' - 1) (omega arith) (omega arith)))

  run_right : (n A B A' B' a b p : ℕ) → RunIn f n A B p → RunIn f n A' B' p → A' ≤ a → b ≤ B → a + p ≤ b → B' ≤ B
  run_right n A B A' B' a b p R S l u h = pick (dec_lt B B')
    where
      pick : Dec (B < B') → B' ≤ B
      pick (no v) = omega arith
      pick (yes v) =
          absurd (R.right (omega (arith, S.within)) (ap f (omega arith) ∙ sym (S.smallest.period.same (B - p) (omega arith) (omega arith))))

  -- a run is determined by a piece of it, as long as its unit or longer, and the unit
  pub run_unique : (n A B A' B' a b p : ℕ) → RunIn f n A B p → RunIn f n A' B' p → A ≤ a → b ≤ B → A' ≤ a → b ≤ B' → a + p ≤ b → (A ≡ A') × (B ≡ B')
  run_unique n A B A' B' a b p R S l u l' u' h = (
    le_antisymm (run_left n A' B' A B a b p S R l u' h) (run_left n A B A' B' a b p R S l' u h),
    le_antisymm (run_right n A' B' A B a b p S R l u' h) (run_right n A B A' B' a b p R S l' u h),
  )

  -- as far left, and as far right, as the step p goes
  left_most : (p a : ℕ) → (A : ℕ) × (A ≤ a) × ((i : ℕ) → A ≤ i → i < a → f i ≡ f (i + p)) × ((i : ℕ) → suc i ≡ A → f i ≢ f (i + p))
  left_most p zero = (zero, omega arith, λ i x y. omega arith, λ i e. absurd (omega arith))
  left_most p (suc a) = pick (left_most p a) (ℕ_discrete (f a) (f (a + p)))
    where
      pick : (A : ℕ) × (A ≤ a) × ((i : ℕ) → A ≤ i → i < a → f i ≡ f (i + p)) × ((i : ℕ) → suc i ≡ A → f i ≢ f (i + p)) → Dec (f a ≡ f (a + p))
          → (A : ℕ) × (A ≤ suc a) × ((i : ℕ) → A ≤ i → i < suc a → f i ≡ f (i + p)) × ((i : ℕ) → suc i ≡ A → f i ≢ f (i + p))
      pick ih (yes e) = (ih.0, omega arith, λ i x y. at_a i x y (dec_lt i a), ih.3)
        where
          at_a : (i : ℕ) → ih.0 ≤ i → i < suc a → Dec (i < a) → f i ≡ f (i + p)
          at_a i x y (yes v) = ih.2 i x v
          at_a i x y (no v) = let z : i ≡ a = omega arith in rw z e
      pick ih (no e) = (suc a, omega arith, λ i x y. absurd (omega arith), λ i z. let y : i ≡ a = omega arith in rw y e)

  right_most : (p b d : ℕ) → (B : ℕ) × (b ≤ B) × (B ≤ b + d) × ((i : ℕ) → b ≤ i → i < B → f i ≡ f (i - p)) × (B < b + d → f B ≢ f (B - p))
  right_most p b zero = (b, omega arith, omega arith, λ i x y. absurd (omega arith), λ h. absurd (omega arith))
  right_most p b (suc d) = pick (right_most p (suc b) d) (ℕ_discrete (f b) (f (b - p)))
    where
      pick : (B : ℕ) × (suc b ≤ B) × (B ≤ suc b + d) × ((i : ℕ) → suc b ≤ i → i < B → f i ≡ f (i - p)) × (B < suc b + d → f B ≢ f (B - p))
          → Dec (f b ≡ f (b - p))
          → (B : ℕ) × (b ≤ B) × (B ≤ b + suc d) × ((i : ℕ) → b ≤ i → i < B → f i ≡ f (i - p)) × (B < b + suc d → f B ≢ f (B - p))
      pick ih (no e) = (b, omega arith, omega arith, λ i x y. absurd (omega arith), λ h. e)
      pick ih (yes e) = (ih.0, omega arith, omega arith, λ i x y. at_b i x y (dec_lt b i), λ h. ih.4 (omega arith))
        where
          at_b : (i : ℕ) → b ≤ i → i < ih.0 → Dec (b < i) → f i ≡ f (i - p)
          at_b i x y (yes v) = ih.3 i v y
          at_b i x y (no v) = let z : i ≡ b = omega arith in rw z e

  -- every part twice its unit or longer lies in a run with its unit
  pub run_exists : (n a b p : ℕ) → SmallestIn f a b p → a + 2 * p ≤ b → b ≤ n → (A : ℕ) × (B : ℕ) × RunIn f n A B p × (A ≤ a) × (b ≤ B)
  run_exists n a b p U h w = go (left_most p a) (right_most p b (n - b))
    where
      go : (A : ℕ) × (A ≤ a) × ((i : ℕ) → A ≤ i → i < a → f i ≡ f (i + p)) × ((i : ℕ) → suc i ≡ A → f i ≢ f (i + p))
          → (B : ℕ) × (b ≤ B) × (B ≤ b + (n - b)) × ((i : ℕ) → b ≤ i → i < B → f i ≡ f (i - p)) × (B < b + (n - b) → f B ≢ f (B - p))
          → (A : ℕ) × (B : ℕ) × RunIn f n A B p × (A ≤ a) × (b ≤ B)
      go L R = (
        L.0,
        R.0,
        record {
          smallest = record { period = whole; least = least };
          twice = omega arith;
          within = omega arith;
          left = L.3;
          right = λ v. R.4 (omega arith);
        },
        L.1,
        R.1,
      )
        where
          same : (i : ℕ) → L.0 ≤ i → i + p < R.0 → Dec (i < a) → Dec (i + p < b) → f i ≡ f (i + p)
          same i x y (yes v) d = L.2 i x v
          same i x y (no v) (yes z) = U.period.same i (omega arith) z
          same i x y (no v) (no z) = ap f (omega arith) ∙ sym (R.3 (i + p) (omega arith) y)

          whole : PeriodIn f L.0 R.0 p
          whole = record { positive = U.period.positive; fits = omega arith; same = λ i x y. same i x y (dec_lt i a) (dec_lt (i + p) b) }

          least : (q : ℕ) → PeriodIn f L.0 R.0 q → p ≤ q
          least q Q = pick (dec_lt q p)
            where
              pick : Dec (q < p) → p ≤ q
              pick (no v) = omega arith
              pick (yes v) = U.least q (period_piece f Q L.1 R.1 (omega arith))

-- ---- a run of a word is one in its place

pub run_in : (w : List ℕ) (first last p : ℕ) → Run w first last p → RunIn (symbol w) (length w) (first - 1) last p
run_in w first last p R = record {
  smallest = part_smallest_in w (first - 1) last p R.ends R.smallest;
  twice = omega (arith, P.long, R.twice, R.smallest.period.positive);
  within = R.ends;
  left = λ i e. left i e R.left;
  right = λ l. right l R.right;
}
  where
    P : Placed (symbol w) (first - 1) (last - (first - 1)) (part w (first - 1) last)
    P = placed_part w (first - 1) last R.ends

    left : (i : ℕ) → suc i ≡ first - 1 → (first ≡ 1) ⊎ (symbol_at w (first - 1) ≢ symbol_at w (first + p - 1)) → symbol w i ≢ symbol w (i + p)
    left i e (inl x) = absurd (omega arith)
    left i e (inr x) = λ y. x (ap (symbol w) (omega arith) ∙ y ∙ ap (symbol w) (omega (arith, R.smallest.period.positive)))

    right : last < length w → (last ≡ length w) ⊎ (symbol_at w (last + 1) ≢ symbol_at w (last - p + 1)) → symbol w last ≢ symbol w (last - p)
    right l (inl x) = absurd (omega arith)
    right l (inr x) = λ y. x (ap (symbol w) (omega arith) ∙ y ∙ ap (symbol w) (omega arith))

pub run_out : (w : List ℕ) (A B p : ℕ) → RunIn (symbol w) (length w) A B p → Run w (suc A) B p
run_out w A B p R = record {
  starts = omega arith;
  ends = R.within;
  smallest = rw e (part_smallest_out w A B p R.within R.smallest);
  twice = rw e (omega (arith, P.long, R.twice));
  left = left A R.left;
  right = right (dec_lt B (length w));
}
  where
    e : suc A - 1 ≡ A
    e = omega arith

    P : Placed (symbol w) A (B - A) (part w A B)
    P = placed_part w A B R.within

    left : (A : ℕ) → ((i : ℕ) → suc i ≡ A → symbol w i ≢ symbol w (i + p)) → (suc A ≡ 1) ⊎ (symbol_at w (suc A - 1) ≢ symbol_at w (suc A + p - 1))
    left zero h = inl refl
    left (suc A) h = inr (λ y. h A refl (ap (symbol w) (omega arith) ∙ y ∙ ap (symbol w) (omega arith)))

    right : Dec (B < length w) → (B ≡ length w) ⊎ (symbol_at w (B + 1) ≢ symbol_at w (B - p + 1))
    right (yes l) = inr (λ y. R.right l (ap (symbol w) (omega arith) ∙ y ∙ ap (symbol w) (omega arith)))
    right (no l) = inl (omega (arith, R.within))

-- ---- "There is only one run that encloses a block and has its unit."

-- the run with period p around the part between boundaries i and j
pub record OneRun (w : List ℕ) (i j p : ℕ) : Type 0 where
  pub first : ℕ
  pub last : ℕ
  pub run : Run w first last p
  pub starts : first ≤ i + 1
  pub ends : j ≤ last
  pub only : (f l : ℕ) → Run w f l p → f ≤ i + 1 → j ≤ l → (f ≡ first) × (l ≡ last)

-- CLAIM: a part twice its unit or longer lies in a run with its unit, and in one only
pub one_run : (w : List ℕ) (i j p : ℕ) → j ≤ length w → SmallestPeriod (part w i j) p → 2 * p ≤ length (part w i j) → OneRun w i j p
one_run w i j p h S t = go (run_exists (symbol w) (length w) i j p U twice h)
  where
    U : SmallestIn (symbol w) i j p
    U = part_smallest_in w i j p h S

    twice : i + 2 * p ≤ j
    twice = omega (arith, (placed_part w i j h).long, U.period.positive, U.period.fits)

    go : (A : ℕ) × (B : ℕ) × RunIn (symbol w) (length w) A B p × (A ≤ i) × (j ≤ B) → OneRun w i j p
    go (A, B, R, a, b) = record { first = suc A; last = B; run = run_out w A B p R; starts = omega arith; ends = b; only = only }
      where
        only : (f l : ℕ) → Run w f l p → f ≤ i + 1 → j ≤ l → (f ≡ suc A) × (l ≡ B)
        only f l Q x y =
            let e = run_unique (symbol w) (length w) (f - 1) l A B i j p (run_in w f l p Q) R (omega (arith, Q.starts)) y a b U.period.fits in
            (omega (arith, e.0, Q.starts), e.1)
