-- The mathematics of a part that is scanned. The symbols from start to `at` agree with those p later, and those at `at` do not, or the part ends: that is the
-- longest stretch of period p around each of its places, so a run with period p that starts in it is the stretch. Assumes nothing.
use mathlib.Core.Path.{◌≡◌, sym, ap, ◌∙◌}
use mathlib.Core.Logic.{◌≢◌}
use mathlib.Core.List.{List}
use Prim.Native.Nat.{ℕ, suc, ◌+◌, ◌-◌, ◌*◌, ◌≤◌, ◌<◌}
use native.Mathlib.Omega.{arith}
use native.Mathlib.Decide.{dec_lt, ℕ_discrete}
use lib.Dec.{T}
use lib.ListN.{length, get_or}
use Rattle.periods.specs.Period.{part, smallest_period}
use Rattle.periods.proofs.InPlace.{symbol}
use Rattle.runs.specs.Table.{run?}
use Rattle.runs.proofs.Listed.{run_sound}
use Rattle.halves.specs.Found.{Periodic, Tried, Below, Solved}
use Rattle.halves.proofs.Stretches.{Stretch, stretch_met}

-- what the scan keeps: where the stretch starts, the agreement so far, and that every run with period p that starts before it was found
pub record Scanned (w : List ℕ) (lo hi p start at : ℕ) (ends : List ℕ) : Type 0 where
  pub low : lo ≤ start
  pub forward : start ≤ at
  pub high : at + p ≤ hi
  pub same : (i : ℕ) → start ≤ i → i < at → get_or w i 0 ≡ get_or w (i + p) 0
  pub stops : (i : ℕ) → suc i ≡ start → lo ≤ i → get_or w i 0 ≢ get_or w (i + p) 0
  pub passed : (a b : ℕ) → T (run? w a b) → smallest_period (part w a b) ≡ p → lo ≤ a → b ≤ hi → a < start → b ≤ get_or ends a 0

module _ (w : List ℕ) (lo hi p : ℕ) (pos : 1 ≤ p) (within : hi ≤ length w) where
  module _ (start at : ℕ) (ends : List ℕ) (S : Scanned w lo hi p start at ends) where
    pub scanned_more : at + p < hi → get_or w at 0 ≡ get_or w (at + p) 0 → Scanned w lo hi p start (at + 1) ends
    scanned_more h e = record {
      low = S.low;
      forward = omega (arith, S.forward);
      high = omega arith;
      same = λ i x y. go i x y (ℕ_discrete i at);
      stops = S.stops;
      passed = S.passed;
    }
      where
        go : (i : ℕ) → start ≤ i → i < at + 1 → Dec (i ≡ at) → get_or w i 0 ≡ get_or w (i + p) 0
        go i x y (yes z) = rw z e
        go i x y (no z) = S.same i x (omega arith)

    -- the stretch as it is tried
    pub scanned_periodic : Periodic w (start - 0) (start + p + (at - start)) p
    scanned_periodic = record {
      positive = pos;
      fits = omega (arith, S.forward);
      within = omega (arith, S.forward, S.high);
      same = λ i x y. S.same i (omega arith) (omega (arith, S.forward));
    }

    -- around each of its places
    stretch : (at + p < hi → get_or w at 0 ≢ get_or w (at + p) 0) → (c : ℕ) → start ≤ c → c ≤ at → Stretch w lo hi c p (start - 0) (start + p + (at - start))
    stretch d c l u = record {
      periodic = scanned_periodic;
      low = omega (arith, S.low);
      before = omega arith;
      after = omega arith;
      high = omega (arith, S.forward, S.high);
      stops_left = λ i e x. S.stops i (omega arith) x;
      stops_right = λ x y. d (omega (arith, S.forward)) (sym (ap (symbol w) (omega (arith, S.forward)) ∙ y ∙ ap (symbol w) (omega (arith, S.forward))));
    }

    -- once it was tried, every run with period p that starts in it was found
    module _ (d : at + p < hi → get_or w at 0 ≢ get_or w (at + p) 0) (ends' : List ℕ) (grows : (a : ℕ) → get_or ends a 0 ≤ get_or ends' a 0)
        (X : Tried w (start - 0) (start + p + (at - start)) p ends')
      where
        tried_passed : (a b : ℕ) → T (run? w a b) → smallest_period (part w a b) ≡ p → lo ≤ a → b ≤ hi → a < at + 1 → b ≤ get_or ends' a 0
        tried_passed a b t q l u x = go (dec_lt a start)
          where
            go : Dec (a < start) → b ≤ get_or ends' a 0
            go (yes z) = omega (arith, S.passed a b t q l u z, grows a)
            go (no z) =
                let R = run_sound w a b (omega arith) t in
                (stretch_met w lo hi a p (start - 0) (start + p + (at - start)) ends' (stretch d a (omega arith) (omega arith)) within X).found a b t q l u (omega arith)
                (omega (arith, R.twice, q))

        pub scanned_next : at + p < hi → Scanned w lo hi p (at + 1) (at + 1) ends'
        scanned_next h = record {
          low = omega (arith, S.low, S.forward);
          forward = omega arith;
          high = omega arith;
          same = λ i y z. absurd (omega arith);
          stops = λ i e y. let z : i ≡ at = omega arith in rw z (d h);
          passed = tried_passed;
        }

        pub scanned_all : hi ≤ at + p → Below w lo hi p ends → Below w lo hi (p + 1) ends'
        scanned_all h B = record { found = λ a b t l u s. go a b t l u s (dec_lt (smallest_period (part w a b)) p) }
          where
            go : (a b : ℕ) → T (run? w a b) → lo ≤ a → b ≤ hi → smallest_period (part w a b) < p + 1 → Dec (smallest_period (part w a b) < p) → b ≤ get_or ends' a 0
            go a b t l u s (yes z) = omega (arith, B.found a b t l u z, grows a)
            go a b t l u s (no z) =
                let R = run_sound w a b (omega arith) t in
                tried_passed a b t (omega arith) l u (omega (arith, R.twice))

-- ---- over the periods

pub below_none : (w : List ℕ) (lo hi : ℕ) (ends : List ℕ) → hi ≤ length w → Below w lo hi 1 ends
below_none w lo hi ends h = record { found = λ a b t l u s. absurd (omega (arith, (run_sound w a b (omega arith) t).smallest.period.positive)) }

pub below_all : (w : List ℕ) (lo hi p : ℕ) (ends : List ℕ) → hi ≤ length w → hi < lo + 2 * p → Below w lo hi p ends → Solved w lo hi ends
below_all w lo hi p ends h z B = record { found = λ a b t l u. B.found a b t l u (omega (arith, (run_sound w a b (omega arith) t).twice)) }

pub below_grow : (w : List ℕ) (lo hi p : ℕ) (e f : List ℕ) → ((a : ℕ) → get_or e a 0 ≤ get_or f a 0) → Below w lo hi p e → Below w lo hi p f
below_grow w lo hi p e f x B = record { found = λ a b t l u s. omega (arith, B.found a b t l u s, x a) }
