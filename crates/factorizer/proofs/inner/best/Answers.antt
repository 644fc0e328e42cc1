-- `factorizer::inner::best` meets its contract: each way out is the case of the definitions that its tests lead to, and what `finish` hands out from the filled
-- table is the best split. Assumes nothing.
use mathlib.Core.Path.{◌≡◌}
use native.Mathlib.Omega.{arith}
use lib.ListN.{length}
use Rattle.std.proofs.lemmas.Result.{err_from_is_err_and}
use Rattle.periods.specs.Period.{repetition?, held_period}
use Rattle.periods.specs.Edition.{turns_in}
use Rattle.periods.specs.Width.{symbols}
use Rattle.factors.specs.Factorization.{choice_of}
use Rattle.factors.specs.Table.{filled}
use Rattle.factors.proofs.Choices.{choice_known, choice_meant, choice_refused, refusal_known}
use Rattle.factorizer.specs.Piece.{piece?}
use Rattle.factorizer.proofs.BestClaims.{chosen_bad_choice, chosen_short, settled_ensured}
use Rattle.factorizer.proofs.Lengths.{sized_readable, sized_finished}
use Rattle.factorizer.proofs.inner.best.Goals as goal

pub returns-in_err-choice : goal.returns-in_err-choice
returns-in_err-choice c =
    let g = c.args in
    let e = err_from_is_err_and c.from_residual.result c.from_residual.ensures.1 in
    let r = chosen_bad_choice (repetition? held_period (turns_in g.edition)) (symbols g.w) g.choice g.ends.now g.work.now (choice_refused g.choice _ c.in_err-choice.ensures) in
    rw (e.1, e.2, refusal_known g.choice _ c.in_err-choice.ensures) record { result_value = r.answer; ends_after = r.ends; work_after = r.work }

pub returns-then-work-len : goal.returns-then-work-len
returns-then-work-len c =
    let g = c.args in
    let r = chosen_short (repetition? held_period (turns_in g.edition)) (symbols g.w) g.choice g.ends.now g.work.now (choice_known g.choice _ c.in_ok-choice.ensures) (omega arith) in
    record { result_value = r.answer; ends_after = r.ends; work_after = r.work }

pub finish-requires : goal.finish-requires
finish-requires c =
    let g = c.args in
    let w = symbols g.w in
    let p = repetition? held_period (turns_in g.edition) in
    let full : c.fill.new.work ≡ filled (choice_of g.choice) (piece? p w) (length w) g.work.now = rw (choice_meant g.choice _ c.in_ok-choice.ensures) at c.fill.ensures in
    sized_readable w c.len-2.result c.len-2.ensures p g.choice g.work.now _ (omega arith) (omega arith) full

pub returns : goal.returns
returns c =
    let g = c.args in
    let w = symbols g.w in
    let p = repetition? held_period (turns_in g.edition) in
    let full : c.fill.new.work ≡ filled (choice_of g.choice) (piece? p w) (length w) g.work.now = rw (choice_meant g.choice _ c.in_ok-choice.ensures) at c.fill.ensures in
    let f = c.finish.ensures in
    let r = settled_ensured p w g.choice g.ends.now g.work.now (choice_known g.choice _ c.in_ok-choice.ensures) (omega arith) _ _ _
    (sized_finished w c.len-2.result c.len-2.ensures p g.choice g.work.now _ (omega arith) (omega arith) full g.ends.now _ _ _ (f.result_value, (f.ends_after, f.work_after))) in
    record { result_value = r.0; ends_after = r.1.0; work_after = r.1.1 }
