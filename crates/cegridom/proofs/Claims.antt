-- Nothing of an answer is lost at the interface: the result, the index and the values of a call determine its outcome. Assumes nothing.
use mathlib.Core.Path.{◌≡◌, refl, sym, ap, ap₂, ◌∙◌}
use Prim.Native.Nat.{ℕ, ◌≤◌, ◌<◌}
use native.Mathlib.Omega.{arith}
use lib.ListN.{length}
use lib.Seq.{ext_get_or}
use Rattle.std.specs.Prelude.{Result, Ok, Err}
use Rattle.answers.specs.declared.Refusal.{Refusal}
use Rattle.answers.specs.Outcome.{Outcome, accepted, refused, counted_view}
use Rattle.answers.proofs.Claims.{number_range, counted_injective}
use Rattle.periods.specs.declared.Description.{Description}
use Rattle.periods.specs.Part.{part_view}
use Rattle.periods.proofs.PartClaims.{part-view_injective}
use Rattle.plans.specs.declared.Plan.{Plan}
use Rattle.plans.specs.Calls.{plan_view}
use Rattle.plans.proofs.CallClaims.{plan_view_injective}
use Rattle.cegridom.specs.Export.{result_of, index_of, value_of}

-- accepted with so many values, or refused with a number from 1
abbrev pub HasValues : ℕ → Outcome → Type 0
HasValues k (accepted v) = length v ≡ k
HasValues k (refused n i) = 1 ≤ n

-- what the exported functions give determines the outcome of a call with k values
pub handed_over_determines :
    (k : ℕ) (x y : Outcome) → HasValues k x → HasValues k y → result_of x ≡ result_of y → index_of x ≡ index_of y
    → ((i : ℕ) → i < k → value_of i x ≡ value_of i y) → x ≡ y
handed_over_determines k (accepted u) (accepted v) a b r i h = ap accepted (ext_get_or 0 u v (a ∙ sym b) (λ j l. h j (omega (arith, a))))
handed_over_determines k (accepted u) (refused n j) a b r i h = absurd (omega (arith, r, b))
handed_over_determines k (refused n j) (accepted v) a b r i h = absurd (omega (arith, r, a))
handed_over_determines k (refused n j) (refused m l) a b r i h = ap₂ refused r i

-- ---- the calls' answers have the values that are handed over

pub counted_has : (a : Result ℕ Refusal) → HasValues 1 (counted_view a)
counted_has (Ok n) = refl
counted_has (Err r) = (number_range r).0

pub part_has : (a : Result Description Refusal) → HasValues 4 (part_view a)
part_has (Ok d) = refl
part_has (Err r) = (number_range r).0

pub plan_has : (a : Result Plan Refusal) → HasValues 2 (plan_view a)
plan_has (Ok p) = refl
plan_has (Err r) = (number_range r).0

-- so two answers that are handed over alike are the same
pub counted_handed_over :
    (a b : Result ℕ Refusal) → result_of (counted_view a) ≡ result_of (counted_view b) → index_of (counted_view a) ≡ index_of (counted_view b)
    → value_of 0 (counted_view a) ≡ value_of 0 (counted_view b) → a ≡ b
counted_handed_over a b r i h =
    counted_injective a b
    (handed_over_determines 1 (counted_view a) (counted_view b) (counted_has a) (counted_has b) r i (λ j l. let z : j ≡ 0 = omega arith in rw z h))

pub part-handed_over :
    (a b : Result Description Refusal) → result_of (part_view a) ≡ result_of (part_view b) → index_of (part_view a) ≡ index_of (part_view b)
    → ((j : ℕ) → j < 4 → value_of j (part_view a) ≡ value_of j (part_view b)) → a ≡ b
part-handed_over a b r i h = part-view_injective a b (handed_over_determines 4 (part_view a) (part_view b) (part_has a) (part_has b) r i h)

pub plan_handed_over :
    (a b : Result Plan Refusal) → result_of (plan_view a) ≡ result_of (plan_view b) → index_of (plan_view a) ≡ index_of (plan_view b)
    → ((j : ℕ) → j < 2 → value_of j (plan_view a) ≡ value_of j (plan_view b)) → a ≡ b
plan_handed_over a b r i h = plan_view_injective a b (handed_over_determines 2 (plan_view a) (plan_view b) (plan_has a) (plan_has b) r i h)
