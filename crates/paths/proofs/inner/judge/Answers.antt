-- `paths::inner::judge` meets its contract: each way out is the case of `path_judged_outcome` that its tests lead to, and `path_judged_means` says what that
-- means. Assumes nothing.
use mathlib.Core.Path.{ap, ◌∙◌}
use Prim.Native.Nat.{ℕ, ◌≤◌, ◌<◌}
use native.Mathlib.Omega.{arith}
use lib.ListN.{length}
use Rattle.std.proofs.lemmas.Result.{err_from_is_err_and}
use Rattle.answers.specs.Outcome.{limit}
use Rattle.periods.specs.Period.{held_period}
use Rattle.periods.specs.Width.{symbols}
use Rattle.periods.proofs.Editions.{edition_known, turns_known, edition_refused, refusal_known}
use Rattle.factors.specs.Verdict.{verdict}
use Rattle.paths.specs.Graph.{ends_of_pairs}
use Rattle.paths.specs.Calls.{segment?}
use Rattle.paths.proofs.PathJudgeClaims.{path_too_long, path_bad_edition, path_odd, path_judged, path_judged_answered}
use Rattle.paths.proofs.inner.judge.Goals as goal

pub returns-then-len-gt-LIMIT : goal.returns-then-len-gt-LIMIT
returns-then-len-gt-LIMIT c =
    let g = c.args in
    let w = symbols g.w in
    let long : limit < length w = omega arith in
    let a = path_judged_answered w g.edition g.numbers.now _ (path_too_long w g.edition g.numbers.now long) in
    record { result_value = a.0; path_judged_meaning = a.1 }

pub returns-in_err-edition : goal.returns-in_err-edition
returns-in_err-edition c =
    let g = c.args in
    let w = symbols g.w in
    let fits : length w ≤ limit = omega arith in
    let f = c.in_err-edition.ensures in
    let e = err_from_is_err_and c.from_residual.result c.from_residual.ensures.1 in
    let a = path_judged_answered w g.edition g.numbers.now _ (path_bad_edition w g.edition g.numbers.now fits (edition_refused g.edition _ f)) in
    rw (e.1, e.2, refusal_known g.edition _ f) record { result_value = a.0; path_judged_meaning = a.1 }

pub returns-then-numbers-eq1 : goal.returns-then-numbers-eq1
returns-then-numbers-eq1 c =
    let g = c.args in
    let w = symbols g.w in
    let fits : length w ≤ limit = omega arith in
    let known = edition_known g.edition _ c.in_ok-edition.ensures in
    let a = path_judged_answered w g.edition g.numbers.now _ (path_odd w g.edition g.numbers.now fits known c.if-numbers-eq1.true) in
    record { result_value = a.0; path_judged_meaning = a.1 }

pub returns : goal.returns
returns c =
    let g = c.args in
    let w = symbols g.w in
    let fits : length w ≤ limit = omega arith in
    let f = c.in_ok-edition.ensures in
    let judged =
    c.follow.ensures ∙ ap (λ (k : ℕ). verdict (segment? held_period k w g.numbers.now) (length w) (ends_of_pairs g.numbers.now)) (turns_known g.edition _ f)
    ∙ path_judged w g.edition g.numbers.now fits (edition_known g.edition _ f) c.if-numbers-eq1.false in
    let a = path_judged_answered w g.edition g.numbers.now _ judged in
    record { result_value = a.0; path_judged_meaning = a.1 }
