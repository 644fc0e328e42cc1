-- `report::report` meets its contract: the text of a word that is too long, or that of the bytes handed on, and `report_means` says what that means. Assumes
-- nothing.
use mathlib.Core.Path.{◌∙◌}
use Rattle.widening.proofs.Widened.{widened}
use Rattle.report.proofs.Reports.{promised_long, report_answered}
use Rattle.report.proofs.report.Goals as goal

pub returns-then-w-gt-PROGRAM_LIMIT : goal.returns-then-w-gt-PROGRAM_LIMIT
returns-then-w-gt-PROGRAM_LIMIT c =
    let g = c.args in
    let P = promised_long g.w.now g.out.now c.if-w-gt-PROGRAM_LIMIT.true in
    let e = c.put_text.ensures in
    let r = report_answered g.w.now g.out.now _ _ (e.value ∙ P.0, e.out_after ∙ P.1) in
    record { answer = r.0; written = r.1.0; meaning = r.1.1 }

pub returns : goal.returns
returns c =
    let g = c.args in
    let e = c.write_all.ensures in
    let r = report_answered g.w.now g.out.now _ _ (rw (widened _ _ _ c.widen.ensures) at e.value, rw (widened _ _ _ c.widen.ensures) at e.out_after) in
    record { answer = r.0; written = r.1.0; meaning = r.1.1 }
