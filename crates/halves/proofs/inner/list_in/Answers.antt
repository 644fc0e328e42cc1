-- `halves::inner::list_in` meets its contract: both ways out are the cases of `listed`. Assumes nothing.
use mathlib.Core.Path.{◌≡◌, ap, ◌∙◌}
use Prim.Native.Nat.{ℕ, ◌*◌, ◌≤◌}
use native.Mathlib.Omega.{arith}
use native.Mathlib.Nat.{mul-le-mul_right}
use lib.ListN.{length}
use Rattle.answers.specs.Outcome.{limit}
use Rattle.runs.specs.Table.{runs_of}
use Rattle.runs.specs.Listing.{stride_of}
use Rattle.runs.proofs.Listings.{stride_small}
use Rattle.halves.proofs.Records.{runs_small, listed_few, listed_all}
use Rattle.halves.proofs.inner.list_in.Goals as goal

pub overflow_mul-stride : goal.overflow_mul-stride
overflow_mul-stride c =
    let g = c.args in
    let k = c.count-total in
    let few : k.result ≤ limit = omega (arith, k.ensures.value, runs_small g.w.now (omega arith)) in
    omega (arith, few, mul-le-mul_right k.result (stride_small g.listing), ap (λ (x : ℕ). x * k.result) c.stride.ensures)

pub returns-then-table-stride-clause-table_after : goal.returns-then-table-stride-clause-table_after
returns-then-table-stride-clause-table_after c =
    let g = c.args in
    let k = c.count-total in
    let places : stride_of g.listing * k.result ≡ stride_of g.listing * length (runs_of g.w.now) = ap (λ (x : ℕ). stride_of g.listing * x) k.ensures.value in
    listed_few g.listing g.w.now g.table.now (omega (arith, places, ap (λ (x : ℕ). x * k.result) c.stride.ensures))

pub returns-clause-table_after : goal.returns-clause-table_after
returns-clause-table_after c =
    let g = c.args in
    let k = c.count-total in
    let places : stride_of g.listing * k.result ≡ stride_of g.listing * length (runs_of g.w.now) = ap (λ (x : ℕ). stride_of g.listing * x) k.ensures.value in
    c.place.ensures ∙ listed_all g.listing g.w.now g.table.now (omega (arith, places, ap (λ (x : ℕ). x * k.result) c.stride.ensures))
