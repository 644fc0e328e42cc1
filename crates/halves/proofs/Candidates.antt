-- The mathematics of one candidate: a part with period p, at least 2p long, that cannot be lengthened. Its interval is a run; a run with the same start and an end
-- that is not later has a period that is not greater. One law does the work, `period_extend` of the runs: a period of a long piece of a periodic part is one of the
-- whole part; no greatest common divisor is needed. Assumes nothing.
use mathlib.Core.Path.{◌≡◌, sym, ap, ◌∙◌, subst}
use mathlib.Core.Logic.{◌≢◌}
use mathlib.Core.List.{List}
use Prim.Native.Nat.{ℕ, suc, ◌+◌, ◌-◌, ◌*◌, ◌≤◌, ◌<◌}
use native.Mathlib.Omega.{arith}
use native.Mathlib.Decide.{dec_lt}
use lib.Dec.{T}
use lib.ListN.{length, get_or}
use Rattle.periods.specs.Period.{part, smallest_period}
use Rattle.periods.proofs.InPlace.{PeriodIn, SmallestIn, symbol, period_piece, period_longer}
use Rattle.periods.proofs.Claims.{part_smallest}
use Rattle.runs.specs.Table.{run?}
use Rattle.runs.proofs.InPlace.{RunIn, period_extend}
use Rattle.runs.proofs.Listed.{run_sound, run_complete}
use Rattle.halves.specs.Found.{Periodic, Ready, New}

pub periodic_in : (w : List ℕ) (a b p : ℕ) → Periodic w a b p → PeriodIn (symbol w) a b p
periodic_in w a b p P = record { positive = P.positive; fits = P.fits; same = P.same }

-- one symbol more before a part
period_earlier : (f : ℕ → ℕ) (i b p : ℕ) → PeriodIn f (suc i) b p → f i ≡ f (i + p) → PeriodIn f i b p
period_earlier f i b p P e = record { positive = P.positive; fits = omega (arith, P.fits); same = λ j x y. go j x y (dec_lt i j) }
  where
    go : (j : ℕ) → i ≤ j → j + p < b → Dec (i < j) → f j ≡ f (j + p)
    go j x y (yes h) = P.same j h y
    go j x y (no h) = let z : j ≡ i = omega arith in rw z e

-- a repetition that cannot be lengthened is a run, with a period that is not greater
pub stuck_run : (w : List ℕ) (a b p : ℕ) → Periodic w a b p → a + 2 * p ≤ b
    → ((i : ℕ) → suc i ≡ a → symbol w i ≢ symbol w (i + p)) → (b < length w → symbol w b ≢ symbol w (b - p))
    → T (run? w a b) × (smallest_period (part w a b) ≤ p)
stuck_run w a b p P h left right = ((run_complete w a b P.within u R).1, least)
  where
    u : ℕ
    u = smallest_period (part w a b)

    Q : PeriodIn (symbol w) a b p
    Q = periodic_in w a b p P

    S : SmallestIn (symbol w) a b u
    S = part_smallest w a b P.within (omega (arith, P.positive))

    least : u ≤ p
    least = S.least p Q

    R : RunIn (symbol w) (length w) a b u
    R = record {
      smallest = S;
      twice = omega (arith, least);
      within = P.within;
      left = λ i e x. left i e ((period_extend (symbol w) i b a b u p (earlier i e x) (omega arith) (omega arith) Q (omega (arith, least))).same i (omega arith) (omega (arith, P.positive)));
      right = λ l x. right l (
          ap (symbol w) (omega arith)
          ∙ sym ((period_extend (symbol w) a (suc b) a b u p (period_longer (symbol w) a b u S.period x) (omega arith) (omega arith) Q (omega (arith, least))).same (b - p) (omega arith) (omega (arith, P.positive)))
          );
    }
      where
        earlier : (i : ℕ) → suc i ≡ a → symbol w i ≡ symbol w (i + u) → PeriodIn (symbol w) i b u
        earlier i e x = period_earlier (symbol w) i b u (subst (λ (z : ℕ). PeriodIn (symbol w) z b u) (sym e) S.period) x

-- a run that starts where a periodic part does and does not end later has no greater period
pub run_below : (w : List ℕ) (a b e p : ℕ) → Periodic w a b p → T (run? w a e) → e ≤ b → smallest_period (part w a e) ≤ p
run_below w a b e p P t l = go (dec_lt p (smallest_period (part w a e)))
  where
    R : RunIn (symbol w) (length w) a e (smallest_period (part w a e))
    R = run_sound w a e (omega (arith, P.within)) t

    go : Dec (p < smallest_period (part w a e)) → smallest_period (part w a e) ≤ p
    go (no h) = omega arith
    go (yes h) = R.smallest.least p (period_piece (symbol w) (periodic_in w a b p P) (omega arith) l (omega (arith, R.twice)))

-- and if it has the same one, it ends there
pub run_ends : (w : List ℕ) (a b e p : ℕ) → Periodic w a b p → T (run? w a e) → e < b → smallest_period (part w a e) ≡ p → ⊥
run_ends w a b e p P t l q =
    R.right (omega (arith, P.within)) (ap (symbol w) (omega (arith, R.twice)) ∙ sym (P.same (e - p) (omega (arith, R.twice)) (omega (arith, R.twice))) ∙ ap (symbol w) (omega (arith)))
  where
    R : RunIn (symbol w) (length w) a e p
    R = subst (λ (z : ℕ). RunIn (symbol w) (length w) a e z) q (run_sound w a e (omega (arith, P.within)) t)

pub is_new : (w : List ℕ) (a b p : ℕ) (ends : List ℕ) → Periodic w a b p → a + 2 * p ≤ b
    → ((i : ℕ) → suc i ≡ a → symbol w i ≢ symbol w (i + p)) → (b < length w → symbol w b ≢ symbol w (b - p))
    → Ready w a b p ends → get_or ends a 0 < b → New w a b p ends
is_new w a b p ends P h left right D l = record { within = P.within; test = S.0; unit = unit (dec_lt (smallest_period (part w a b)) p); later = l; none = none }
  where
    S : T (run? w a b) × (smallest_period (part w a b) ≤ p)
    S = stuck_run w a b p P h left right

    unit : Dec (smallest_period (part w a b) < p) → p ≡ smallest_period (part w a b)
    unit (yes x) = absurd (omega (arith, D.found b S.0 (omega arith) x))
    unit (no x) = omega (arith, S.1)

    none : (e : ℕ) → get_or ends a 0 < e → e < b → T (run? w a e) → ⊥
    none e x y t = go (dec_lt (smallest_period (part w a e)) p)
      where
        go : Dec (smallest_period (part w a e) < p) → ⊥
        go (yes z) = omega (arith, D.found e t (omega arith) z)
        go (no z) = run_ends w a b e p P t y (omega (arith, run_below w a b e p P t (omega arith)))
