-- `paths::inner::path` meets its contract: each way out is the case of `path_outcome` that the split's verdict and the test lead to, and `path_means` says what
-- that means. Assumes nothing.
use mathlib.Core.Path.{ap, ◌∙◌}
use lib.ListN.{length}
use Rattle.std.proofs.lemmas.Result.{err_from_is_err_and}
use Rattle.answers.specs.Outcome.{accepted}
use Rattle.periods.specs.Width.{symbols}
use Rattle.repetitions.proofs.Blocks.{edition_two_turns}
use Rattle.repetitions.proofs.JudgeClaims.{accepted_split}
use Rattle.paths.proofs.PathClaims.{path_promised_refused, path_promised_few, path_promised_numbered, path_answered}
use Rattle.paths.proofs.inner.path.Goals as goal

pub returns-in_err-blocks : goal.returns-in_err-blocks
returns-in_err-blocks c =
    let g = c.args in
    let w = symbols g.w in
    let e = err_from_is_err_and c.from_residual.result c.from_residual.ensures.1 in
    let a = path_answered w g.edition g.ends.now g.table.now _ _ (path_promised_refused w g.edition g.ends.now g.table.now _ _ c.in_err-blocks.ensures.result_value) in
    rw (e.1, e.2) record { result_value = a.0; table_after = a.1.0; path_meaning = a.1.1 }

pub returns-then-table-ends : goal.returns-then-table-ends
returns-then-table-ends c =
    let g = c.args in
    let w = symbols g.w in
    let a = path_answered w g.edition g.ends.now g.table.now _ _ (path_promised_few w g.edition g.ends.now g.table.now _ c.in_ok-blocks.ensures.result_value c.if-table-ends.true) in
    record { result_value = a.0; table_after = a.1.0; path_meaning = a.1.1 }

pub numbers-requires : goal.numbers-requires
numbers-requires c =
    let g = c.args in
    let w = symbols g.w in
    let A = accepted_split w g.edition g.ends.now _ c.in_ok-blocks.ensures.result_value in
    ((A.0, edition_two_turns g.edition w (length w) g.ends.now A.3), c.if-table-ends.false)

pub returns : goal.returns
returns c =
    let g = c.args in
    let w = symbols g.w in
    let e = c.in_ok-blocks.ensures.result_value in
    let A = accepted_split w g.edition g.ends.now _ e in
    let P = path_promised_numbered w g.edition g.ends.now g.table.now _ e c.if-table-ends.false in
    let a = path_answered w g.edition g.ends.now g.table.now _ _ record { answer = ap accepted A.1 ∙ P.answer; table = c.numbers.ensures ∙ P.table } in
    record { result_value = a.0; table_after = a.1.0; path_meaning = a.1.1 }
