-- `report::inner::write_text` meets its contract: the records that are held are those of the runs, and each call stores the next piece of the text. Assumes
-- nothing.
use mathlib.Core.Path.{◌≡◌, ap, ◌∙◌}
use mathlib.Core.List.{List, [], ◌∷◌, ◌++◌}
use Prim.Native.Nat.{ℕ, ◌*◌, ◌≤◌}
use native.Mathlib.Omega.{arith}
use native.Mathlib.Nat.{zero-add}
use lib.ListN.{length, take, length-take}
use Rattle.runs.specs.declared.Record.{Record}
use Rattle.runs.specs.Table.{runs_of, records}
use Rattle.runs.proofs.Records.{length-records}
use Rattle.finder.specs.Find.{record_limit}
use Rattle.report.specs.Text.{passes_name, fewest_name, most_name, run_lines, split_text, text}
use Rattle.report.specs.Records.{RunsHeld, RunsListed, run_bytes}
use Rattle.writers.specs.Line.{line}
use Rattle.writers.proofs.Stores.{stored, stored_as, left_all, left_less, left_last, line_long}
use Rattle.report.proofs.Lines.{run_lines_long}
use Rattle.report.proofs.Splits.{text_is, split_long}
use Rattle.report.proofs.Reports.{records_suffice}
use Rattle.report.proofs.inner.write_text.Goals as goal

-- the lines of the runs are no longer than those of so many records
lines_long : (w table : List ℕ) (count : ℕ) → RunsListed w table count → (runs : List Record) → runs ≡ records count table → length (run_lines 0 runs) ≤ run_bytes * record_limit
lines_long w table count L runs e = omega (arith, run_lines_long runs 0, ap length e, length-records table count, records_suffice w table count L)

-- what is held are the records of the runs
held_runs : (w table : List ℕ) (count : ℕ) → RunsListed w table count → (runs : List Record) → runs ≡ records count table → RunsHeld w runs
held_runs w table count L runs e = (omega (arith, ap length e, length-records table count, records_suffice w table count L), e ∙ L.2)

pub held-held-requires : goal.held-held-requires
held-held-requires c = (records_suffice c.args.w.now c.args.table.now c.args.count c.requires, c.requires.1)

pub slice_bounds-held-end : goal.slice_bounds-held-end
slice_bounds-held-end c =
    omega (arith, length-take c.args.count c.held-held.result, ap length c.held-held.ensures, length-records c.args.table.now c.args.count)

pub slice_bounds-runs-end : goal.slice_bounds-runs-end
slice_bounds-runs-end c = omega (arith, ap length c.held-held.ensures, length-records c.args.table.now c.args.count)

pub run_lines-fewest_from-requires : goal.run_lines-fewest_from-requires
run_lines-fewest_from-requires c =
    let g = c.args in
    let held = held_runs g.w.now g.table.now g.count c.requires _ c.held-held.ensures in
    (omega (arith, c.put_line-runs_from.ensures.value, line_long passes_name (length g.w.now ∷ [])), held.0)

pub split_lines-most_from-requires : goal.split_lines-most_from-requires
split_lines-most_from-requires c =
    let g = c.args in
    let L = lines_long g.w.now g.table.now g.count c.requires _ c.held-held.ensures in
    let A = line_long passes_name (length g.w.now ∷ []) in
    record {
      at_bound = (omega (arith, c.put_line-runs_from.ensures.value, A, c.run_lines-fewest_from.ensures.value, L), c.requires.0, omega arith, omega arith, omega arith);
      runs_held = held_runs g.w.now g.table.now g.count c.requires _ c.held-held.ensures;
    }

pub split_lines-requires : goal.split_lines-requires
split_lines-requires c =
    let g = c.args in
    let L = lines_long g.w.now g.table.now g.count c.requires _ c.held-held.ensures in
    let A = line_long passes_name (length g.w.now ∷ []) in
    let F = split_long g.w.now 1 fewest_name c.requires.0 (omega arith) in
    record {
      at_bound = (omega (arith, c.put_line-runs_from.ensures.value, A, c.run_lines-fewest_from.ensures.value, L, c.split_lines-most_from.ensures.value, F), c.requires.0, omega arith, omega arith, omega arith);
      runs_held = held_runs g.w.now g.table.now g.count c.requires _ c.held-held.ensures;
    }

pub returns : goal.returns
returns c =
    let g = c.args in
    let w = g.w.now in
    let a = c.put_line-runs_from in
    let r = c.run_lines-fewest_from in
    let f = c.split_lines-most_from in
    let m = c.split_lines in
    let M = split_text w 2 most_name in
    let F = split_text w 1 fewest_name in
    let R = run_lines 0 (runs_of w) in
    let A = line passes_name (length w ∷ []) in
    let one = left_less (R ++ (F ++ M)) (left_all g.out.now 0 (text w) (A ++ (R ++ (F ++ M))) (text_is w c.requires.0)) (stored g.out.now 0 A _ _ (a.ensures.value, a.ensures.out_after)) in
    let rows = stored a.new.out a.result (run_lines 0 (take g.count c.held-held.result)) r.new.out r.result (r.ensures.value, r.ensures.out_after) in
    let two = left_less (F ++ M) one (stored_as R (ap (run_lines 0) (c.held-held.ensures ∙ c.requires.2)) rows) in
    let three = left_less M two (stored r.new.out r.result F f.new.out f.result (f.ensures.value, f.ensures.out_after)) in
    let S = left_last three (stored f.new.out f.result M _ _ (m.ensures.value, m.ensures.out_after)) in
    record { value = S.place ∙ zero-add (length (text w)); out_after = S.bytes }
