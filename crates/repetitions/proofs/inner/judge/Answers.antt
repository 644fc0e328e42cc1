-- `repetitions::inner::judge` meets its contract: each way out is the case of the definition that its tests lead to, and `split_means` says what that means.
-- Assumes nothing.
use mathlib.Core.Path.{ap, ◌∙◌}
use Prim.Native.Nat.{ℕ}
use native.Mathlib.Omega.{arith}
use Rattle.std.proofs.lemmas.Result.{err_from_is_err_and}
use Rattle.periods.specs.Period.{repetition?, held_period}
use Rattle.periods.specs.Width.{symbols}
use Rattle.periods.proofs.Editions.{edition_known, turns_known, edition_refused, refusal_known}
use Rattle.factorizer.specs.Judge.{piece_verdict}
use Rattle.repetitions.proofs.JudgeClaims.{split_too_long, split_bad_edition, split_judged, split_answered}
use Rattle.repetitions.proofs.inner.judge.Goals as goal

pub returns-then-len-gt-LIMIT : goal.returns-then-len-gt-LIMIT
returns-then-len-gt-LIMIT c =
    let g = c.args in
    let w = symbols g.w in
    let r = split_answered w g.edition g.ends.now _ (split_too_long w g.edition g.ends.now (omega arith)) in
    record { result_value = r.0; split_meaning = r.1 }

pub returns-in_err-edition : goal.returns-in_err-edition
returns-in_err-edition c =
    let g = c.args in
    let w = symbols g.w in
    let e = err_from_is_err_and c.from_residual.result c.from_residual.ensures.1 in
    let r = split_answered w g.edition g.ends.now _ (split_bad_edition w g.edition g.ends.now (omega arith) (edition_refused g.edition _ c.in_err-edition.ensures)) in
    rw (e.1, e.2, refusal_known g.edition _ c.in_err-edition.ensures) record { result_value = r.0; split_meaning = r.1 }

pub returns : goal.returns
returns c =
    let g = c.args in
    let w = symbols g.w in
    let r = split_answered w g.edition g.ends.now _
    (c.judge.ensures
    ∙ ap (λ (k : ℕ). piece_verdict (repetition? held_period k) w g.ends.now) (turns_known g.edition _ c.in_ok-edition.ensures)
    ∙ split_judged w g.edition g.ends.now (omega arith) (edition_known g.edition _ c.in_ok-edition.ensures)) in
    record { result_value = r.0; split_meaning = r.1 }
