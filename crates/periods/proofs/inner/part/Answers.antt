-- `periods::inner::part` meets its contract: each way out is the case of `part_outcome` that its tests lead to, and `part_means` says what that means. Assumes nothing.
use mathlib.Core.Path.{◌≡◌, sym, ap, ◌∙◌}
use mathlib.Core.List.{List}
use Prim.Native.Nat.{ℕ, ◌-◌, ◌≤◌, ◌<◌}
use native.Mathlib.Omega.{arith}
use lib.ListN.{length, length-take, length-drop}
use Rattle.std.proofs.lemmas.Result.{err_from_is_err_and}
use Rattle.answers.specs.Outcome.{accepted}
use Rattle.periods.specs.Period.{part, SmallestPeriod, smallest_period}
use Rattle.periods.specs.Edition.{turns_in}
use Rattle.periods.specs.Width.{symbols}
use Rattle.periods.specs.Part.{description, Within}
use Rattle.periods.proofs.Claims.{smallest_period_is}
use Rattle.periods.proofs.Editions.{edition_known, turns_known, edition_refused, refusal_known}
use Rattle.periods.proofs.PartClaims.{described_by, part_length, part_too_long, part_bad_edition, part_outside, part_too_few, part_described, part_answered}
use Rattle.periods.proofs.inner.part.Goals as goal

-- the unit of a word of n symbols is at least 1 and at most n
unit_bounds : (s : List ℕ) (n u : ℕ) → length s ≡ n → 0 < n → u ≡ smallest_period s → (1 ≤ u) × (u ≤ n)
unit_bounds s n u long h e =
    let S : SmallestPeriod s (smallest_period s) = smallest_period_is s (omega arith) in
    (omega (arith, S.period.positive), omega (arith, S.period.fits))

pub returns-then-n-gt-LIMIT : goal.returns-then-n-gt-LIMIT
returns-then-n-gt-LIMIT c =
    let g = c.args in
    let r = part_answered (symbols g.w) g.edition g.first g.last g.units.now _ _ (part_too_long (symbols g.w) g.edition g.first g.last g.units.now (omega arith)) in
    record { result_value = r.0; units_after = r.1.0; part_meaning = r.1.1 }

pub returns-in_err-edition : goal.returns-in_err-edition
returns-in_err-edition c =
    let g = c.args in
    let e = err_from_is_err_and c.from_residual.result c.from_residual.ensures.1 in
    let k = edition_refused g.edition _ c.in_err-edition.ensures in
    let r = part_answered (symbols g.w) g.edition g.first g.last g.units.now _ _ (part_bad_edition (symbols g.w) g.edition g.first g.last g.units.now (omega arith) k) in
    rw (e.1, e.2, refusal_known g.edition _ c.in_err-edition.ensures) record { result_value = r.0; units_after = r.1.0; part_meaning = r.1.1 }

pub returns-then-first-lt1 : goal.returns-then-first-lt1
returns-then-first-lt1 c =
    let g = c.args in
    let k = edition_known g.edition _ c.in_ok-edition.ensures in
    let r = part_answered (symbols g.w) g.edition g.first g.last g.units.now _ _ (part_outside (symbols g.w) g.edition g.first g.last g.units.now (omega arith) k (λ h. omega (arith, h, c.then-first-lt1.either))) in
    record { result_value = r.0; units_after = r.1.0; part_meaning = r.1.1 }

pub returns-then-units-len : goal.returns-then-units-len
returns-then-units-len c =
    let g = c.args in
    let k = edition_known g.edition _ c.in_ok-edition.ensures in
    let r = part_answered (symbols g.w) g.edition g.first g.last g.units.now _ _
    (part_too_few (symbols g.w) g.edition g.first g.last g.units.now (omega arith) k (omega arith, omega arith, omega arith) (omega arith)) in
    record { result_value = r.0; units_after = r.1.0; part_meaning = r.1.1 }

pub overflow_cast-result : goal.overflow_cast-result
overflow_cast-result c =
    let long = ap length c.part.ensures in
    omega (arith, length-take {A = ℕ}, length-drop {A = ℕ}, unit_bounds _ _ _ long (omega (arith, length-take {A = ℕ}, length-drop {A = ℕ})) c.units-unit.ensures.unit)

pub nonzero_div-result : goal.nonzero_div-result
nonzero_div-result c =
    let long = ap length c.part.ensures in
    (unit_bounds _ _ _ long (omega (arith, length-take {A = ℕ}, length-drop {A = ℕ})) c.units-unit.ensures.unit).0

pub nonzero_rem-result : goal.nonzero_rem-result
nonzero_rem-result c =
    let long = ap length c.part.ensures in
    (unit_bounds _ _ _ long (omega (arith, length-take {A = ℕ}, length-drop {A = ℕ})) c.units-unit.ensures.unit).0

pub returns : goal.returns
returns c =
    let g = c.args in
    let w : List ℕ = symbols g.w in
    let s : List ℕ = part w (g.first - 1) g.last in
    let n : ℕ = g.last - (g.first - 1) in
    let h : Within w g.first g.last = (omega arith, omega arith, omega arith) in
    let k = edition_known g.edition _ c.in_ok-edition.ensures in
    let answer = described_by (turns_in c.in_ok-edition.edition) s c.units-unit.result n c.is_block.result (omega arith) (sym (part_length w g.first g.last h))
    (rw c.part.ensures at c.units-unit.ensures.unit) c.is_block.ensures
    ∙ ap (λ (x : ℕ). description x s) (turns_known g.edition _ c.in_ok-edition.ensures) in
    let e = part_described w g.edition g.first g.last g.units.now (omega arith) k h (omega arith) in
    let r = part_answered w g.edition g.first g.last g.units.now _ _ (ap accepted answer ∙ e.0, rw c.part.ensures at c.units-unit.ensures.written ∙ e.1) in
    record { result_value = r.0; units_after = r.1.0; part_meaning = r.1.1 }
