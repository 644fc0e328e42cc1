-- Long blocks. Of a part of at least k × cap symbols, to be a block whose unit is at most cap is to have a period of at most cap. So a block that is longer than
-- a window goes on, or ends, with any period of the window at its end: the two periods together fit in the window. Assumes nothing.
use mathlib.Core.Path.{◌≡◌, sym, ap, ◌∙◌}
use mathlib.Core.Bool.{Bool, false}
use mathlib.Core.List.{List}
use Prim.Native.Nat.{ℕ, suc, ◌+◌, ◌-◌, ◌*◌, ◌≤◌, ◌<◌}
use native.Mathlib.Omega.{arith}
use native.Mathlib.Nat.{mul-le-mul_right, mul-le-mul_left}
use lib.Dec.{T, leb→le, le→leb}
use lib.ListN.{length}
use Rattle.laws.proofs.Tests.{same_tests, test_fails, T_false}
use Rattle.periods.specs.Period.{part, smallest_period, Repetition, repetition?, up_to}
use Rattle.periods.proofs.InPlace.{PeriodIn, symbol, placed_part, period_piece, period_longer, part_period_in, part_period_out}
use Rattle.periods.proofs.Claims.{smallest_period_is}
use Rattle.factorizer.specs.Piece.{piece?}
use Rattle.factorizer.proofs.Pieces.{piece_sound, piece_complete}
use Rattle.factorizer.proofs.Rules.{repetition_decides}

-- a part with a period of at most cap
pub record Periodic (cap : ℕ) (w : List ℕ) (a b : ℕ) : Type 0 where
  pub period : ℕ
  pub low : period ≤ cap
  pub holds : PeriodIn (symbol w) a b period

module _ (cap k : ℕ) (w : List ℕ) where
  -- the blocks
  abbrev held : ℕ → ℕ → Bool
  held = piece? (repetition? (up_to cap) k) w

  pub block_periodic : (i x : ℕ) → T (held i x) → (x ≤ length w) × Periodic cap w i x
  block_periodic i x h =
      let K = piece_sound (Repetition (up_to cap) k) (repetition? (up_to cap) k) (repetition_decides (up_to cap) k) w i x h in
      (K.0, record { period = K.1.period; low = leb→le K.1.period cap K.1.permitted; holds = part_period_in w i x K.1.period K.0 K.1.smallest.period })

  periodic_block : (i x : ℕ) → x ≤ length w → i + k * cap ≤ x → i < x → Periodic cap w i x → T (held i x)
  periodic_block i x h l z P =
      let long = (placed_part w i x h).long in
      let S = smallest_period_is (part w i x) (omega (arith, long)) in
      let q : smallest_period (part w i x) ≤ cap = omega (arith, S.least P.period (part_period_out w i x P.period h P.holds), P.low) in
      piece_complete (Repetition (up_to cap) k) (repetition? (up_to cap) k) (repetition_decides (up_to cap) k) w i x (
        h,
        record {
          period = smallest_period (part w i x);
          smallest = S;
          long = omega (arith, long, mul-le-mul_left k q);
          permitted = le→leb (smallest_period (part w i x)) cap q;
        },
      )

-- m is the end of a window with the period u; i is where a block starts that reaches as far
module _ (cap k : ℕ) (w : List ℕ) (two : 2 ≤ k) (j u : ℕ) (low : u ≤ cap) (U : PeriodIn (symbol w) j (j + k * cap) u) (i : ℕ) (before : i ≤ j) where
  abbrev m : ℕ
  m = j + k * cap

  fits : (p : ℕ) → p ≤ cap → u + p ≤ k * cap
  fits p h = omega (arith, mul-le-mul_right cap two)

  crossed : (p : ℕ) → p ≤ cap → PeriodIn (symbol w) i m p → symbol w (m - u) ≡ symbol w (m - p)
  crossed p h P =
      ap (symbol w) (omega (arith, fits p h, U.positive, P.positive))
      ∙ sym (P.same (m - (u + p)) (omega (arith, fits p h)) (omega (arith, fits p h, U.positive)))
      ∙ U.same (m - (u + p)) (omega (arith, fits p h)) (omega (arith, fits p h, P.positive))
      ∙ ap (symbol w) (omega (arith, fits p h, U.positive, P.positive))

  -- the part without its last symbol
  shorter : Periodic cap w i (suc m) → Periodic cap w i m
  shorter P = record {
    period = P.period;
    low = P.low;
    holds = period_piece (symbol w) P.holds (omega arith) (omega arith) (omega (arith, P.low, mul-le-mul_right cap two));
  }

  longer : symbol w m ≡ symbol w (m - u) → Periodic cap w i m → Periodic cap w i (suc m)
  longer e P = record {
    period = P.period;
    low = P.low;
    holds = period_longer (symbol w) i m P.period P.holds (e ∙ crossed P.period P.low P.holds);
  }

  agrees_there : Periodic cap w i (suc m) → symbol w m ≡ symbol w (m - u)
  unfolding shorter
  agrees_there P =
      let Q = shorter P in
      let l = mul-le-mul_right cap two in
      sym (crossed Q.period Q.low Q.holds ∙ P.holds.same (m - P.period) (omega (arith, P.low, l)) (omega (arith, P.low, l)) ∙ ap (symbol w) (omega (arith, P.low, l)))

  -- CLAIM: where the period goes on, so do the blocks
  pub block_goes_on : m < length w → symbol w m ≡ symbol w (m - u) → held cap k w i m ≡ held cap k w i (suc m)
  block_goes_on h e =
      let l = mul-le-mul_right cap two in
      same_tests (held cap k w i m) (held cap k w i (suc m))
      (λ t. periodic_block cap k w i (suc m) (omega arith) (omega arith) (omega arith) (longer e (block_periodic cap k w i m t).1))
      (λ t. periodic_block cap k w i m (omega arith) (omega arith) (omega (arith, low, U.positive, l)) (shorter (block_periodic cap k w i (suc m) t).1))

  -- CLAIM: where it ends, so do they
  pub block_ends : (symbol w m ≡ symbol w (m - u) → ⊥) → held cap k w i (suc m) ≡ false
  block_ends ne = test_fails (held cap k w i (suc m)) (λ t. ne (agrees_there (block_periodic cap k w i (suc m) t).1))

-- CLAIM: a block that is longer than a window is one without its last symbol
pub block_shorter : (cap k : ℕ) (w : List ℕ) → 2 ≤ k → 1 ≤ cap → (j i : ℕ) → i ≤ j → held cap k w i (j + k * cap) ≡ false → held cap k w i (suc (j + k * cap)) ≡ false
block_shorter cap k w two one j i h e =
    let l = mul-le-mul_right cap two in
    test_fails (held cap k w i (suc (j + k * cap))) (λ t. T_false (held cap k w i (j + k * cap)) e (go l (block_periodic cap k w i (suc (j + k * cap)) t)))
  where
    go : 2 * cap ≤ k * cap → (suc (j + k * cap) ≤ length w) × Periodic cap w i (suc (j + k * cap)) → T (held cap k w i (j + k * cap))
    go l (x, P) =
        periodic_block cap k w i (j + k * cap) (omega arith) (omega arith) (omega arith)
        record { period = P.period; low = P.low; holds = period_piece (symbol w) P.holds (omega arith) (omega arith) (omega (arith, P.low)) }
