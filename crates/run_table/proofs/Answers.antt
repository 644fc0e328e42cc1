-- What the runs call answers and leaves once the runs are listed: one law for each outcome, by the test that leads to it. Assumes nothing.
use mathlib.Core.Path.{◌≡◌, refl, sym, ap, ◌∙◌}
use mathlib.Core.List.{List, [], ◌∷◌}
use Prim.Native.Nat.{ℕ, ◌*◌, ◌≤◌, ◌<◌}
use native.Mathlib.Omega.{arith}
use lib.ListN.{length}
use lib.Seq.{sets}
use Rattle.laws.proofs.Stores.{stored_front}
use Rattle.answers.specs.Outcome.{accepted, refused, limit}
use Rattle.runs.specs.declared.Listing.TheVariants.{Records}
use Rattle.runs.specs.Table.{runs_of, stride, flat}
use Rattle.runs.proofs.Rows.{length-flat}
use Rattle.runs.proofs.Listings.{flat_by-records}
use Rattle.runs.proofs.CallClaims.{RunsGive, runs_short, runs_all}
use Rattle.halves.specs.Scratch.{listed}
use Rattle.halves.proofs.Records.{listed_few, listed_all}

-- t is the table at entry, u the table that the finder left
module _ (w t u : List ℕ) (count : ℕ) (h : length w ≤ limit) (e : count ≡ length (runs_of w)) (f : u ≡ listed Records w t) where
  pub listed_too_few : length t < stride * count → RunsGive w t (refused 7 0) u
  listed_too_few k = let g = runs_short w t h (omega arith) in (g.0, f ∙ sym (listed_few Records w t (omega arith)) ∙ g.1)

  pub listed_written : stride * count ≤ length t → RunsGive w t (accepted (count ∷ [])) u
  listed_written k =
      let g = runs_all w t h (omega arith) in (
        ap (λ (n : ℕ). accepted (n ∷ [])) e ∙ g.0,
        stored_front t t u (flat (runs_of w)) (stride * length (runs_of w)) refl (f ∙ sym (listed_all Records w t (omega arith)) ∙ ap (λ (x : List ℕ). sets t 0 x) (flat_by-records (runs_of w))) (sym (length-flat (runs_of w))) (omega arith) ∙ g.1,
      )
