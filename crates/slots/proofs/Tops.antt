-- The best of some starts, and how it is found in steps: the better of the best of two sets is the best of both (`top_both`). The starts of the squares that end
-- at e in a run are those of `two` earlier and one more (`lead_next`), or only one (`lead_one`). Assumes nothing.
use mathlib.Core.Path.{◌≡◌, refl, sym, ap, ◌∙◌}
use mathlib.Core.Logic.{◌⊎◌, inl, inr}
use Prim.Native.Nat.{ℕ, min, ◌+◌, ◌-◌, ◌%◌, ◌≤◌, ◌<◌}
use native.Mathlib.Omega.{arith}
use native.Mathlib.Decide.{dec_lt, ℕ_discrete}
use native.Mathlib.Nat.{mod-eq-sub-mod, mod-eq_of_lt}
use borrow.Author.Tests.{lt-ltb, le-ltb}
use Rattle.slots.specs.Starts.{preferred, Top, Start}

-- a multiple that is not 0 is not less
pub multiple_least : (x s : ℕ) → 0 < x → x % s ≡ 0 → s ≤ x
multiple_least x s h e = go (dec_lt x s)
  where
    go : Dec (x < s) → s ≤ x
    go (no v) = omega arith
    go (yes v) = absurd (omega (arith, mod-eq_of_lt v))

-- ---- the best of some starts

-- keys that agree on the two starts prefer the same one
pub preferred_same : (key other : ℕ → ℕ) (i k : ℕ) → key i ≡ other i → key k ≡ other k → preferred key i k ≡ preferred other i k
preferred_same key other i k e f = rw (e, f) refl

-- as the numbers a and b of the two tell
module _ (key : ℕ → ℕ) (i k a b : ℕ) (is : a ≡ key i) (other : b ≡ key k) where
  pub preferred_first : a < b → i ≡ preferred key i k
  preferred_first h = rw (lt-ltb (key i) (key k) (omega arith)) refl

  pub preferred_second : b ≤ a → b < a → k ≡ preferred key i k
  preferred_second g h = rw (le-ltb (key i) (key k) (omega arith), lt-ltb (key k) (key i) (omega arith)) refl

  pub preferred_lower : b ≤ a → a ≤ b → (x : ℕ) → x ≡ min i k → x ≡ preferred key i k
  preferred_lower g h x e = rw (le-ltb (key i) (key k) (omega arith), le-ltb (key k) (key i) (omega arith)) e

pub top_one : (key : ℕ → ℕ) (i : ℕ) → Top key (λ j. j ≡ i) i
top_one key i = record { member = refl; least = λ j e. let f : key j ≡ key i = ap key e in omega arith; lowest = λ j e h. omega arith }

pub top_same : (key : ℕ → ℕ) (D E : ℕ → Type 0) (i : ℕ) → ((j : ℕ) → D j → E j) → ((j : ℕ) → E j → D j) → Top key D i → Top key E i
top_same key D E i to of P = record { member = to i P.member; least = λ j e. P.least j (of j e); lowest = λ j e. P.lowest j (of j e) }

-- by keys that agree on all of the starts
pub top_agree : (key other : ℕ → ℕ) (D : ℕ → Type 0) (i : ℕ) → ((j : ℕ) → D j → key j ≡ other j) → Top key D i → Top other D i
top_agree key other D i same P = record {
  member = P.member;
  least = λ j d. omega (arith, P.least j d, same i P.member, same j d);
  lowest = λ j d h. P.lowest j d (omega (arith, same i P.member, same j d));
}

-- CLAIM: of two sets of starts together
pub top_both : (key : ℕ → ℕ) (D E : ℕ → Type 0) (i k : ℕ) → Top key D i → Top key E k → Top key (λ j. D j ⊎ E j) (preferred key i k)
top_both key D E i k P Q = go (dec_lt (key i) (key k)) (dec_lt (key k) (key i))
  where
    first : (key i < key k) ⊎ ((key i ≡ key k) × (i ≤ k)) → Top key (λ j. D j ⊎ E j) i
    first h = record { member = inl P.member; least = λ j d. least j d h; lowest = λ j d l. lowest j d l h }
      where
        least : (j : ℕ) → D j ⊎ E j → (key i < key k) ⊎ ((key i ≡ key k) × (i ≤ k)) → key i ≤ key j
        least j (inl d) h = P.least j d
        least j (inr d) (inl h) = omega (arith, Q.least j d)
        least j (inr d) (inr h) = omega (arith, Q.least j d, h.0)

        lowest : (j : ℕ) → D j ⊎ E j → key j ≤ key i → (key i < key k) ⊎ ((key i ≡ key k) × (i ≤ k)) → i ≤ j
        lowest j (inl d) l h = P.lowest j d l
        lowest j (inr d) l (inl h) = absurd (omega (arith, Q.least j d))
        lowest j (inr d) l (inr h) = omega (arith, Q.lowest j d (omega (arith, h.0)), h.1)

    second : (key k < key i) ⊎ ((key i ≡ key k) × (k ≤ i)) → Top key (λ j. D j ⊎ E j) k
    second h = record { member = inr Q.member; least = λ j d. least j d h; lowest = λ j d l. lowest j d l h }
      where
        least : (j : ℕ) → D j ⊎ E j → (key k < key i) ⊎ ((key i ≡ key k) × (k ≤ i)) → key k ≤ key j
        least j (inr d) h = Q.least j d
        least j (inl d) (inl h) = omega (arith, P.least j d)
        least j (inl d) (inr h) = omega (arith, P.least j d, h.0)

        lowest : (j : ℕ) → D j ⊎ E j → key j ≤ key k → (key k < key i) ⊎ ((key i ≡ key k) × (k ≤ i)) → k ≤ j
        lowest j (inr d) l h = Q.lowest j d l
        lowest j (inl d) l (inl h) = absurd (omega (arith, P.least j d))
        lowest j (inl d) l (inr h) = omega (arith, P.lowest j d (omega (arith, h.0)), h.1)

    go : Dec (key i < key k) → Dec (key k < key i) → Top key (λ j. D j ⊎ E j) (preferred key i k)
    go (yes a) b = rw (lt-ltb (key i) (key k) a) (first (inl a))
    go (no a) (yes b) = rw (le-ltb (key i) (key k) (omega arith), lt-ltb (key k) (key i) b) (second (inl b))
    go (no a) (no b) = rw (le-ltb (key i) (key k) (omega arith), le-ltb (key k) (key i) (omega arith)) (lower (dec_lt i k))
      where
        lower : Dec (i < k) → Top key (λ j. D j ⊎ E j) (min i k)
        lower (yes l) = let e : min i k ≡ i = omega arith in rw e (first (inr (omega arith, omega arith)))
        lower (no l) = let e : min i k ≡ k = omega arith in rw e (second (inr (omega arith, omega arith)))

-- ---- the starts of the squares that end at e, in a run that starts after boundary a and has twice the unit `two`

module _ (key : ℕ → ℕ) (a two : ℕ) (positive : 1 ≤ two) where
  -- a multiple of `two` still is one with `two` less
  step_down : (x : ℕ) → two ≤ x → (x - two) % two ≡ x % two
  step_down x h = sym (mod-eq-sub-mod {n = x} {m = two} h)

  last_start : (e : ℕ) → a + two ≤ e → Start a two e (e - two)
  last_start e h = record {
    from = omega arith;
    below = omega arith;
    multiple =
        let x : e - (e - two) ≡ two = omega arith in
        let y : two - two ≡ 0 = omega arith in
        ap (λ (z : ℕ). z % two) x ∙ sym (step_down two (omega arith)) ∙ ap (λ (z : ℕ). z % two) y ∙ mod-eq_of_lt positive;
  }

  -- a start is `two` before e, or one for the boundary `two` before e
  start_cases : (e j : ℕ) → Start a two e j → Start a two (e - two) j ⊎ (j ≡ e - two)
  start_cases e j S = go (ℕ_discrete j (e - two))
    where
      far : two ≤ e - j
      far = multiple_least (e - j) two (omega (arith, S.below)) S.multiple

      go : Dec (j ≡ e - two) → Start a two (e - two) j ⊎ (j ≡ e - two)
      go (yes x) = inr x
      go (no x) = inl record {
        from = S.from;
        below = omega (arith, far);
        multiple = let y : e - two - j ≡ e - j - two = omega arith in ap (λ (z : ℕ). z % two) y ∙ step_down (e - j) far ∙ S.multiple;
      }

  start_later : (e j : ℕ) → a + two ≤ e → Start a two (e - two) j → Start a two e j
  start_later e j h S = record {
    from = S.from;
    below = omega (arith, S.below);
    multiple =
        let x : e - j - two ≡ e - two - j = omega arith in
        sym (step_down (e - j) (omega (arith, S.below))) ∙ ap (λ (z : ℕ). z % two) x ∙ S.multiple;
  }

  -- CLAIM: below two squares of two units there is one start
  pub lead_one : (e : ℕ) → a + two ≤ e → e < a + (two + two) → Top key (Start a two e) (e - two)
  lead_one e h l = top_same key (λ j. j ≡ e - two) (Start a two e) (e - two) to (λ j S. only j S (start_cases e j S)) (top_one key (e - two))
    where
      to : (j : ℕ) → j ≡ e - two → Start a two e j
      to j x = rw x (last_start e h)

      only : (j : ℕ) → Start a two e j → Start a two (e - two) j ⊎ (j ≡ e - two) → j ≡ e - two
      only j S (inr x) = x
      only j S (inl T) = absurd (omega (arith, T.from, multiple_least (e - two - j) two (omega (arith, T.below)) T.multiple))

  -- CLAIM: from there on, the best start is that of `two` earlier or the one `two` before e
  pub lead_next : (e old : ℕ) → a + two ≤ e → Top key (Start a two (e - two)) old → Top key (Start a two e) (preferred key old (e - two))
  lead_next e old h P =
      top_same key (λ j. Start a two (e - two) j ⊎ (j ≡ e - two)) (Start a two e) (preferred key old (e - two)) to (start_cases e)
      (top_both key (Start a two (e - two)) (λ j. j ≡ e - two) old (e - two) P (top_one key (e - two)))
    where
      to : (j : ℕ) → Start a two (e - two) j ⊎ (j ≡ e - two) → Start a two e j
      to j (inl S) = start_later e j h S
      to j (inr x) = rw x (last_start e h)

  -- and one that was found already stays
  pub lead_again : (e old : ℕ) → a + two ≤ e → Top key (Start a two e) old → Top key (Start a two e) (preferred key old (e - two))
  lead_again e old h P =
      top_same key (λ j. Start a two e j ⊎ (j ≡ e - two)) (Start a two e) (preferred key old (e - two)) to (λ j S. inl S)
      (top_both key (Start a two e) (λ j. j ≡ e - two) old (e - two) P (top_one key (e - two)))
    where
      to : (j : ℕ) → Start a two e j ⊎ (j ≡ e - two) → Start a two e j
      to j (inl S) = S
      to j (inr x) = rw x (last_start e h)
