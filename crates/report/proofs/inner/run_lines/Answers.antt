-- `report::inner::run_lines` meets its contract: its loop keeps what is left to store, the lines of the records from the one at hand on. Assumes nothing.
use Rattle.std.proofs.Common.{[], ◌∷◌, ◌+◌, ◌∙◌, arith, refl, drop}
use lib.ListN.{get_or}
use Rattle.runs.specs.declared.Record.{Record}
use Rattle.runs.specs.Table.{numbers_of}
use Rattle.report.specs.Text.{run_name, run_lines}
use Rattle.writers.specs.Line.{line}
use Rattle.writers.proofs.Stores.{stored, stored_length, ensured, left_as, left_all, left_less, left_none}
use Rattle.report.proofs.Lines.{run_lines_more, run_lines_done, run_lines_long}
use Rattle.report.proofs.inner.run_lines.Goals as goal

-- what stands past the records
abbrev none : Record
none = record { first = 0; last = 0; period = 0; root = 0 }

pub loop-i-init : goal.loop-i-init
loop-i-init c = (refl, left_all c.args.out.now c.args.at (run_lines 0 c.args.runs.now) (run_lines 0 c.args.runs.now) refl)

pub put_line-next-requires : goal.put_line-next-requires
put_line-next-requires c = (omega (arith, c.loop-i.invariant.1.place, run_lines_long c.args.runs.now 0), omega arith, omega arith)

pub loop-i-preserved : goal.loop-i-preserved
loop-i-preserved c =
    let l = c.loop-i in
    let e = c.put_line-next.ensures in
    let S = stored l.out l.next (line run_name ((l.i + 1) ∷ numbers_of (get_or c.args.runs.now l.i none))) _ _ (e.value, e.out_after) in
    (stored_length S ∙ l.invariant.0, left_less (run_lines (l.i + 1) (drop (l.i + 1) c.args.runs.now)) (left_as _ (run_lines_more c.args.runs.now l.i none (omega arith)) l.invariant.1) S)

pub returns : goal.returns
returns c =
    let g = c.args in
    let l = c.loop-i in
    let r = ensured (left_none (left_as [] (run_lines_done g.runs.now l.i (omega arith)) l.invariant.1)) in
    record { value = r.0; out_after = r.1 }
