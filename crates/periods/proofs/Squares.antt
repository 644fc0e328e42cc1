-- A word of even length is a square exactly where its unit divides half its length, and the test decides squares. A half is a period; the remainder of its
-- division by the unit would be a smaller period, and a multiple of the unit is a period. And powers: a power twice over is that power of the word twice over;
-- a half that is the unit is primitive, since a word of which it were a power would be a shorter period. Assumes nothing.
use mathlib.Core.Path.{◌≡◌, refl, sym, ap, ◌∙◌, subst}
use mathlib.Core.Logic.{◌↔◌}
use mathlib.Core.Bool.{Bool, true, false, ◌&&◌}
use mathlib.Core.List.{List, [], ◌∷◌, ◌++◌, append-nil, append_assoc}
use Prim.Native.Nat.{ℕ, zero, suc, ◌+◌, ◌-◌, ◌*◌, ◌/◌, ◌%◌, ◌≤◌, ◌<◌}
use native.Mathlib.Omega.{arith}
use native.Mathlib.Decide.{dec_lt}
use native.Mathlib.Nat.{suc-mul, mul_left_comm, div-add-mod', mod-lt, mul-mod_left}
use lib.Dec.{T, eqb, ltb, eqb→eq, eqb_refl, ltb→lt, lt→ltb}
use lib.ListN.{length, get_or, take, drop, length-take, length-drop, length-append, take-append-drop, get_or-append}
use lib.Seq.{get_or-take, get_or-drop, get_or-append-add, ext_get_or}
use Rattle.laws.proofs.Tests.{and_intro, and_left, and_right}
use Rattle.periods.specs.Period.{Period, SmallestPeriod, Repetition, any_period, agrees, smallest_period}
use Rattle.periods.specs.Square.{twice, power, Primitive, Square, square?}
use Rattle.periods.proofs.InPlace.{symbol}
use Rattle.periods.proofs.Claims.{agrees_sound, agrees_complete, smallest_period_is}

-- ---- multiples of a period

module _ (s : List ℕ) (p : ℕ) (P : Period s p) where
  -- symbols that are a multiple of a period apart are equal
  times : (k i : ℕ) → i + k * p < length s → get_or s i 0 ≡ get_or s (i + k * p) 0
  times zero i h = ap (symbol s) (omega arith)
  times (suc k) i h = times k i (omega (arith, suc-mul k p)) ∙ P.same (i + k * p) (omega (arith, suc-mul k p)) ∙ ap (symbol s) (omega (arith, suc-mul k p))

  -- so a multiple of a period is a period where it fits
  multiple_period : (k : ℕ) → 1 ≤ k * p → k * p ≤ length s → Period s (k * p)
  multiple_period k a b = record { positive = a; fits = b; same = λ i h. times k i h }

  -- what is left of a half after multiples of a period is a period, if it is not 0: on by the half and back by the multiples, or the other way round
  remainder_period : (q k r : ℕ) → Period s q → length s ≡ 2 * q → k * p + r ≡ q → 1 ≤ r → Period s r
  remainder_period q k r Q two e a = record { positive = a; fits = omega arith; same = λ i h. same i h (dec_lt i q) }
    where
      same : (i : ℕ) → i + r < length s → Dec (i < q) → get_or s i 0 ≡ get_or s (i + r) 0
      same i h (yes l) = Q.same i (omega arith) ∙ ap (symbol s) (omega arith) ∙ sym (times k (i + r) (omega arith))
      same i h (no l) =
          ap (symbol s) (omega arith) ∙ sym (times k (i - k * p) (omega arith)) ∙ Q.same (i - k * p) (omega arith) ∙ ap (symbol s) (omega arith)

-- a word in front of and behind the same other word
commuting_period : (s x t : List ℕ) → s ≡ x ++ t → s ≡ t ++ x → 0 < length x → Period s (length x)
commuting_period s x t front behind filled = record { positive = filled; fits = omega (arith, long); same = same }
  where
    long : length s ≡ length x + length t
    long = ap length front ∙ length-append x t

    same : (i : ℕ) → i + length x < length s → get_or s i 0 ≡ get_or s (i + length x) 0
    same i h =
        ap (λ (z : List ℕ). get_or z i 0) behind ∙ get_or-append t x 0 i (omega (arith, long))
        ∙ sym (get_or-append-add x t i 0) ∙ ap (λ (z : List ℕ). get_or z (length x + i) 0) (sym front) ∙ ap (symbol s) (omega arith)

-- ---- the half

module _ (s : List ℕ) where
  pub square_even : (S : Square s) → length s ≡ 2 * length S.half
  square_even S = ap length S.twice_over ∙ length-append S.half S.half ∙ omega arith

  pub square_filled : Square s → 0 < length s
  square_filled S = omega (arith, square_even S, S.filled)

  -- half the length of a square is a period
  pub half_period : (q : ℕ) → Square s → length s ≡ 2 * q → Period s q
  half_period q S two =
      subst (Period s) (omega (arith, square_even S)) (commuting_period s S.half S.half S.twice_over S.twice_over S.filled)

  -- and a word with such a period is a square
  pub period_half : (q : ℕ) → Period s q → length s ≡ 2 * q → Square s
  period_half q Q two = record {
    half = take q s;
    filled = omega (arith, length-take q s, Q.positive);
    twice_over = sym (take-append-drop q s) ∙ ap (λ (x : List ℕ). take q s ++ x) same;
  }
    where
      same : drop q s ≡ take q s
      same = ext_get_or 0 (drop q s) (take q s) (omega (arith, length-drop q s, length-take q s)) (λ i h.
          get_or-drop q s i 0 ∙ ap (symbol s) (omega arith) ∙ sym (Q.same i (omega (arith, length-drop q s)))
          ∙ sym (get_or-take q s i 0 (omega (arith, length-drop q s))))

  -- ---- the unit

  -- CLAIM: a word of even length is a square exactly where its unit divides half its length
  pub unit_divides : (u q : ℕ) → SmallestPeriod s u → length s ≡ 2 * q → (Square s ↔ (q % u ≡ 0))
  unit_divides u q U two = ((λ S. divides (half_period q S two) (dec_lt 0 (q % u))), halves)
    where
      divides : Period s q → Dec (0 < q % u) → q % u ≡ 0
      divides Q (no h) = omega arith
      divides Q (yes h) =
          absurd (omega (arith, mod-lt q U.period.positive, U.least (q % u) (remainder_period s u U.period q (q / u) (q % u) Q two (div-add-mod' q u) h)))

      halves : q % u ≡ 0 → Square s
      halves z =
          let e : q / u * u ≡ q = omega (arith, div-add-mod' q u) in
          period_half (q / u * u) (multiple_period s u U.period (q / u) (omega (arith, U.period.positive, U.period.fits)) (omega arith)) (omega arith)

  -- so, of any word, exactly where two of its units divide its length
  pub unit_square : (u : ℕ) → SmallestPeriod s u → length s % (2 * u) ≡ 0 → Square s
  unit_square u U z =
      let c = length s / (2 * u) in
      (unit_divides u (c * u) U (omega (arith, div-add-mod' (length s) (2 * u), mul_left_comm c 2 u))).1 (mul-mod_left c u)

  pub square_unit : (u : ℕ) → SmallestPeriod s u → Square s → length s % (2 * u) ≡ 0
  square_unit u U S =
      let q = length S.half in
      let z : q % u ≡ 0 = (unit_divides u q U (square_even S)).0 S in
      let e : length s ≡ q / u * (2 * u) = omega (arith, square_even S, div-add-mod' q u, mul_left_comm (q / u) 2 u) in
      ap (λ (n : ℕ). n % (2 * u)) e ∙ mul-mod_left (q / u) (2 * u)

  -- ---- the test

  -- CLAIM: the test decides whether a word is a square
  pub square_sound : T (square? s) → Square s
  unfolding square?
  square_sound h =
      let q = length s / twice in
      let filled = ltb→lt 0 (length s) (and_left (ltb 0 (length s)) (eqb (length s % twice) 0 && agrees s q) h) in
      let t = and_right (ltb 0 (length s)) (eqb (length s % twice) 0 && agrees s q) h in
      let even = eqb→eq (length s % twice) 0 (and_left (eqb (length s % twice) 0) (agrees s q) t) in
      period_half q (record { positive = omega arith; fits = omega arith; same = agrees_sound s q (and_right (eqb (length s % twice) 0) (agrees s q) t) }) (omega arith)

  pub square_complete : Square s → T (square? s)
  unfolding square?
  square_complete S =
      let q = length s / twice in
      let even : length s ≡ 2 * q = omega (arith, square_even S) in
      let none : length s % twice ≡ 0 = omega arith in
      and_intro (ltb 0 (length s)) (eqb (length s % twice) 0 && agrees s q) (lt→ltb 0 (length s) (square_filled S))
      (and_intro (eqb (length s % twice) 0) (agrees s q) (subst (λ (x : ℕ). T (eqb x 0)) (sym none) (eqb_refl 0))
      (agrees_complete s q (half_period q S even).same))

  -- what the test says of a word that is no square
  pub not_square : (Square s → ⊥) → false ≡ square? s
  not_square none = go (square? s) refl
    where
      go : (t : Bool) → square? s ≡ t → false ≡ t
      go true e = absurd (none (square_sound (subst T (sym e) tt)))
      go false e = refl

-- a square has two turns of its unit or more
pub square_repeats : (s : List ℕ) → Square s → Repetition any_period twice s
square_repeats s S =
    let U = smallest_period_is s (square_filled s S) in
    record {
      period = smallest_period s;
      smallest = U;
      long = omega (arith, U.least (length S.half) (half_period s (length S.half) S (square_even s S)), square_even s S);
      permitted = tt;
    }

-- ---- powers

pub power_empty : (k : ℕ) → power k [] ≡ []
power_empty zero = refl
power_empty (suc k) = append-nil (power k []) ∙ power_empty k

power_commutes : (k : ℕ) (x : List ℕ) → x ++ power k x ≡ power k x ++ x
power_commutes zero x = append-nil x
power_commutes (suc k) x = sym (append_assoc x (power k x) x) ∙ ap (λ (z : List ℕ). z ++ x) (power_commutes k x)

-- a power twice over is that power of the word twice over
pub power-twice : (k : ℕ) (x : List ℕ) → power k x ++ power k x ≡ power k (x ++ x)
power-twice zero x = refl
power-twice (suc k) x =
    let p = power k x in
    append_assoc p x (p ++ x)
    ∙ ap (λ (z : List ℕ). p ++ z) (sym (append_assoc x p x) ∙ ap (λ (z : List ℕ). z ++ x) (power_commutes k x) ∙ append_assoc p x x)
    ∙ sym (append_assoc p p (x ++ x)) ∙ ap (λ (z : List ℕ). z ++ (x ++ x)) (power-twice k x)

-- CLAIM: a square's half that is its unit is primitive
pub unit_half_primitive : (s : List ℕ) (S : Square s) → SmallestPeriod s (length S.half) → Primitive S.half
unit_half_primitive s S U x zero two e = omega arith
unit_half_primitive s S U x (suc zero) two e = omega arith
unit_half_primitive s S U [] (suc (suc k)) two e = omega (arith, S.filled, ap length (e ∙ power_empty (suc (suc k))))
unit_half_primitive s S U (y ∷ ys) (suc (suc k)) two e =
    omega (arith, U.least (length x) (commuting_period s x (t ++ u) front behind (omega arith)), ap length e, length-append t x, length-append (power k x) x)
  where
    x : List ℕ
    x = y ∷ ys

    u : List ℕ
    u = S.half

    -- the half is t and x
    t : List ℕ
    t = power (suc k) x

    front : s ≡ x ++ (t ++ u)
    front =
        S.twice_over ∙ ap (λ (z : List ℕ). z ++ u) (e ∙ sym (power_commutes (suc k) x)) ∙ append_assoc x t u

    behind : s ≡ (t ++ u) ++ x
    behind =
        S.twice_over ∙ ap (λ (z : List ℕ). z ++ u) e ∙ append_assoc t x u
        ∙ ap (λ (z : List ℕ). t ++ z) (ap (λ (z : List ℕ). x ++ z) e ∙ power_commutes (suc (suc k)) x ∙ ap (λ (z : List ℕ). z ++ x) (sym e))
        ∙ sym (append_assoc t u x)
