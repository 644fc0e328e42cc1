-- `report::inner::block_line` meets its contract: what it computes of the block is what its line says, and the finder finds its run. Assumes nothing.
use Rattle.std.proofs.Common.{◌≡◌, List, ℕ, ◌+◌, ◌≤◌, ap, sym, ◌∙◌, arith}
use Rattle.periods.specs.Period.{part, smallest_period, held_period, block_unit}
use Rattle.periods.specs.Edition.{first_turns}
use Rattle.periods.proofs.Editions.{turns_of_edition_1}
use Rattle.periods.proofs.BlockUnit.{block_unit_of_block}
use Rattle.runs.proofs.Number.{block_numbers_are}
use Rattle.repetitions.specs.Block.{Block}
use Rattle.repetitions.proofs.Blocks.{block_up, block_unit_lem}
use Rattle.report.specs.Text.{printed_turns, block_name, block_line}
use Rattle.writers.specs.Line.{line}
use Rattle.writers.proofs.Stores.{stored, stored_as, ensured}
use Rattle.report.proofs.Lines.{block_line_is, found_is_run_number, found_most}
use Rattle.report.proofs.inner.block_line.Goals as goal

-- the unit of the block, which fits into it
unit_is : (w : List ℕ) (i j u : ℕ) → Block held_period printed_turns w i j → u ≡ block_unit first_turns (part w i j) → u ≡ smallest_period (part w i j)
unit_is w i j u K f = f ∙ ap (λ (k : ℕ). block_unit k (part w i j)) (sym turns_of_edition_1) ∙ block_unit_of_block printed_turns (part w i j) K.1

unit_bounds : (w : List ℕ) (i j u : ℕ) → Block held_period printed_turns w i j → u ≡ block_unit first_turns (part w i j) → (1 ≤ u) × (i + u ≤ j)
unit_bounds w i j u K f = block_unit_lem held_period printed_turns w i j K u (unit_is w i j u K f)

pub overflow_cast-unit : goal.overflow_cast-unit
overflow_cast-unit c =
    let g = c.args in
    omega (arith, unit_bounds g.w.now g.before g.end _ c.requires.at_bound.3 c.block_unit-unit.ensures)

pub overflow_add-run : goal.overflow_add-run
overflow_add-run c =
    let g = c.args in
    omega (arith, found_most g.runs.now (g.before + 1) g.end c.block_unit-unit.result c.find_run-run.result c.find_run-run.ensures)

pub overflow_cast-unit-2 : goal.overflow_cast-unit-2
overflow_cast-unit-2 c =
    let g = c.args in
    omega (arith, unit_bounds g.w.now g.before g.end _ c.requires.at_bound.3 c.block_unit-unit.ensures)

-- the record found is among those held
pub overflow_cast-run : goal.overflow_cast-run
overflow_cast-run c =
    let g = c.args in
    omega (arith, found_most g.runs.now (g.before + 1) g.end c.block_unit-unit.result c.find_run-run.result c.find_run-run.ensures)

pub block_numbers-numbers-requires : goal.block_numbers-numbers-requires
block_numbers-numbers-requires c =
    let g = c.args in
    let K = c.requires.at_bound.3 in
    let u = unit_bounds g.w.now g.before g.end _ K c.block_unit-unit.ensures in
    (c.requires.at_bound.2, block_up held_period printed_turns g.w.now g.before g.end K, omega (arith, u), u.0)

pub returns : goal.returns
returns c =
    let g = c.args in
    let K = c.requires.at_bound.3 in
    let unit = c.block_unit-unit in
    let found = c.find_run-run in
    let made = c.block_numbers-numbers in
    let e = c.put_line.ensures in
    let u = unit_is g.w.now g.before g.end _ K unit.ensures in
    let run = found_is_run_number g.w.now g.runs.now g.before g.end unit.result found.result K c.requires.runs_held.1 u found.ensures in
    let numbers = made.ensures ∙ block_numbers_are g.w.now g.k g.before g.end unit.result (found.result + 1) K.0 u run in
    let r = ensured
    (stored_as (block_line g.w.now (g.k + 1) g.before g.end) (ap (line block_name) numbers ∙ block_line_is g.w.now (g.k + 1) g.before g.end)
    (stored g.out.now g.at (line block_name made.result) _ _ (e.value, e.out_after))) in
    record { value = r.0; out_after = r.1 }
