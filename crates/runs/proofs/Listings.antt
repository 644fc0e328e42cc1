-- What a table may have of each run: the test for a white node one condition at a time, what is read from a key, and how long the numbers of some runs are. By
-- the definitions, and induction on the runs. Assumes nothing.
use mathlib.Core.Path.{◌≡◌, refl, sym, ap, ◌∙◌, subst}
use mathlib.Core.Bool.{Bool, true, false, cond, and-true}
use mathlib.Core.List.{List, [], ◌∷◌, ◌++◌, append_assoc}
use Prim.Native.Nat.{ℕ, zero, suc, ◌+◌, ◌*◌, ◌/◌, ◌%◌, ◌≤◌, ◌<◌}
use native.Mathlib.Omega.{arith}
use borrow.Author.Tests.{le-leb, lt-leb}
use lib.Dec.{T, leb, leb→le}
use lib.ListN.{length, get_or, length-append}
use Rattle.periods.specs.Period.{held_period, unit_memory}
use Rattle.runs.specs.declared.Record.{Record}
use Rattle.runs.specs.declared.Listing.{Listing}
use Rattle.runs.specs.declared.Listing.TheVariants.{Records, Keys, Marks}
use Rattle.runs.specs.Run.{Entry}
use Rattle.runs.specs.Table.{stride, numbers_of, flat}
use Rattle.runs.specs.Listing.{node?, key_step, key_of, entry_of, stride_of, flat_by}

-- ---- the test for a node, one condition at a time

module _ (allowed : ℕ → Bool) (k x : ℕ) (r : Record) where
  pub node_early : x + 1 < r.first + k * r.period → false ≡ node? allowed k x r
  node_early h = rw (lt-leb (r.first + k * r.period) (x + 1) h) refl

  pub node_reached : allowed r.period ≡ true → r.first + k * r.period ≤ x + 1 → leb x r.last ≡ node? allowed k x r
  node_reached t h = rw (le-leb (r.first + k * r.period) (x + 1) h, t) (sym (and-true (leb x r.last)))

-- ---- keys

-- a unit that unit memory holds, and 0 for one that it does not
pub held_or_none : (p : ℕ) → cond (held_period p) p 0 < key_step
held_or_none p = go (held_period p) refl
  where
    go : (b : Bool) → leb p unit_memory ≡ b → cond b p 0 < key_step
    go false e = omega arith
    go true e = omega (arith, leb→le p unit_memory (subst T (sym e) tt))

pub key_first : (first p : ℕ) → key_of first p / key_step ≡ first
key_first first p = omega (arith, held_or_none p)

pub key_unit : (first p : ℕ) → key_of first p % key_step ≡ cond (held_period p) p 0
key_unit first p = omega (arith, held_or_none p)

-- ---- the numbers of some runs

pub length_entry : (l : Listing) (r : Record) → length (entry_of l r) ≡ stride_of l
length_entry Records r = refl
length_entry Keys r = refl
length_entry (Marks k x) r = refl

pub stride_small : (l : Listing) → stride_of l ≤ stride
stride_small Records = omega arith
stride_small Keys = omega arith
stride_small (Marks k x) = omega arith

pub length-flat_by : (l : Listing) (rs : List Record) → length (flat_by l rs) ≡ stride_of l * length rs
length-flat_by l [] = omega arith
length-flat_by l (r ∷ rs) = omega (arith, length-append (entry_of l r) (flat_by l rs), length_entry l r, length-flat_by l rs)

pub flat_by-append : (l : Listing) (rs ss : List Record) → flat_by l (rs ++ ss) ≡ flat_by l rs ++ flat_by l ss
flat_by-append l [] ss = refl
flat_by-append l (r ∷ rs) ss = ap (λ (x : List ℕ). entry_of l r ++ x) (flat_by-append l rs ss) ∙ sym (append_assoc (entry_of l r) (flat_by l rs) (flat_by l ss))

-- the records are those of the runs call
pub flat_by-records : (rs : List Record) → flat_by Records rs ≡ flat rs
flat_by-records [] = refl
flat_by-records (r ∷ rs) = ap (λ (x : List ℕ). numbers_of r ++ x) (flat_by-records rs)

-- the key of an entry, by its number from 1
pub key_at : (rs : List Record) (i : ℕ) (r : Record) → Entry rs (suc i) r → get_or (flat_by Keys rs) i 0 ≡ key_of r.first r.period
key_at [] i r h = absurd h
key_at (s ∷ rs) zero r h = ap (λ (x : Record). key_of x.first x.period) h
key_at (s ∷ rs) (suc i) r h = key_at rs i r h
