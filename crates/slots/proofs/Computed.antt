-- The steps at a run, case by case as the code has them, and their bounds. Assumes nothing.
use mathlib.Core.Path.{◌≡◌, refl}
use mathlib.Core.List.{List}
use Prim.Native.Nat.{ℕ, ◌+◌, ◌-◌, ◌*◌, ◌≤◌, ◌<◌}
use native.Mathlib.Omega.{arith}
use native.Mathlib.Decide.{dec_lt}
use native.Mathlib.Nat.{div-add-mod'}
use borrow.Author.Tests.{lt-ltb, le-ltb}
use lib.ListN.{get_or, set}
use Rattle.std.proofs.lemmas.Bool.Decides.{nat_tests}
use Rattle.factors.specs.Factorization.{Choice}
use Rattle.slots.specs.Starts.{rank_in, preferred, slot_of, InRun, Readable, lead_of}
use Rattle.slots.specs.Ready.{kept_lead}

-- of two starts within a bound the better one is
preferred_bound : (key : ℕ → ℕ) (i k m : ℕ) → i ≤ m → k ≤ m → preferred key i k ≤ m
preferred_bound key i k m x y = grind (arith, nat_tests)

-- a slot is in row 2
pub slot_bound : (n a two e : ℕ) → a ≤ e → e ≤ n → slot_of n a two e < 3 * (n + 1)
slot_bound n a two e h l = omega (arith, div-add-mod' (e - a) two)

module _ (c : Choice) (n : ℕ) (t : List ℕ) (a two e : ℕ) where
  pub lead_bound : InRun n a two e → a + two ≤ e → Readable n t a two e → lead_of c n t a two e ≤ n
  unfolding lead_of
  lead_bound I h read = go (dec_lt (e - a) (two + two))
    where
      go : Dec (e - a < two + two) → lead_of c n t a two e ≤ n
      go (yes x) = rw (lt-ltb (e - a) (two + two) x) (omega arith)
      go (no x) =
          rw (le-ltb (e - a) (two + two) (omega arith))
          (preferred_bound (rank_in c t) (get_or t (slot_of n a two e) 0) (e - two) n (read (omega arith)) (omega arith))

  pub kept_short : e - a < two → t ≡ kept_lead c n t a two e
  unfolding kept_lead
  kept_short h = rw (lt-ltb (e - a) two h) refl

  pub kept_long : two ≤ e - a → set t (slot_of n a two e) (lead_of c n t a two e) ≡ kept_lead c n t a two e
  unfolding kept_lead
  kept_long h = rw (le-ltb (e - a) two h) refl
