-- `comparison::which_first` meets its contract: it answers what is chosen, or its refusal. Assumes nothing.
use Rattle.std.proofs.Common.{ap}
use Rattle.std.proofs.lemmas.Result.{err_from_is_err_and}
use Rattle.comparison.specs.Calls.{which_view}
use Rattle.comparison.proofs.CallClaims.{which_answered}
use Rattle.comparison.proofs.which_first.Goals as goal

pub returns-in_err-chosen-clause-meaning : goal.returns-in_err-chosen-clause-meaning
returns-in_err-chosen-clause-meaning g c =
    let n = g.S.Symbol.numbers in
    let e = c.in_err-chosen.ensures in
    let r = err_from_is_err_and c.from_residual.result c.from_residual.ensures.1 in
    rw (r.1, r.2) (which_answered (n c.args.a.now) (n c.args.b.now) c.args.edition c.args.work.now _ _ (ap which_view e.answer) e.worked).1.1

pub returns-clause-meaning : goal.returns-clause-meaning
returns-clause-meaning g c =
    let n = g.S.Symbol.numbers in
    let e = c.in_ok-chosen.ensures in
    rw c.number.ensures (which_answered (n c.args.a.now) (n c.args.b.now) c.args.edition c.args.work.now _ _ (ap which_view e.answer) e.worked).1.1
