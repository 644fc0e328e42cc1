-- The table with the records of all runs: as it was where it has too few places, and with all of them else; 4 × n places suffice for n symbols. By the test
-- of the definition, and that a word has fewer runs than symbols. Assumes nothing.
use mathlib.Core.Path.{◌≡◌, refl, sym}
use mathlib.Core.List.{List}
use Prim.Native.Nat.{ℕ, ◌*◌, ◌≤◌, ◌<◌}
use native.Mathlib.Omega.{arith}
use native.Mathlib.Nat.{mul-le-mul_left}
use borrow.Author.Tests.{lt-ltb, le-ltb}
use lib.ListN.{length}
use lib.Seq.{sets}
use Rattle.answers.specs.Outcome.{limit}
use Rattle.runs.specs.declared.Listing.{Listing}
use Rattle.runs.specs.declared.Listing.TheVariants.{Records}
use Rattle.runs.specs.Table.{runs_of, stride, records}
use Rattle.runs.specs.Listing.{stride_of, flat_by}
use Rattle.runs.proofs.Records.{records_stored}
use Rattle.runs.proofs.Listings.{flat_by-records}
use Rattle.runs.proofs.Few.{table_at_most}
use Rattle.halves.specs.Scratch.{listed}

-- the count of the runs stays small
pub runs_small : (w : List ℕ) → length w ≤ limit → length (runs_of w) ≤ limit
runs_small w h = omega (arith, table_at_most w)

module _ (f : Listing) (w t : List ℕ) where
  pub listed_few : length t < stride_of f * length (runs_of w) → t ≡ listed f w t
  unfolding listed
  listed_few h = rw (lt-ltb (length t) (stride_of f * length (runs_of w)) h) refl

  pub listed_all : stride_of f * length (runs_of w) ≤ length t → sets t 0 (flat_by f (runs_of w)) ≡ listed f w t
  unfolding listed
  listed_all h = rw (le-ltb (length t) (stride_of f * length (runs_of w)) h) refl

  -- so many places suffice
  enough : stride_of f * length w ≤ length t → stride_of f * length (runs_of w) ≤ length t
  enough h =
      let few : length (runs_of w) ≤ length w = omega (arith, table_at_most w) in
      omega (arith, mul-le-mul_left (stride_of f) few)

  pub listed_enough : stride_of f * length w ≤ length t → listed f w t ≡ sets t 0 (flat_by f (runs_of w))
  listed_enough h = sym (listed_all (enough h))

-- the first records are the runs, in a table with so many places
pub records_listed : (w t u : List ℕ) (count : ℕ) → stride * length w ≤ length t → count ≡ length (runs_of w) → u ≡ listed Records w t → records count u ≡ runs_of w
records_listed w t u count h e f = rw (e, f, listed_enough Records w t h, flat_by-records (runs_of w)) (records_stored (runs_of w) t (enough Records w t h))
