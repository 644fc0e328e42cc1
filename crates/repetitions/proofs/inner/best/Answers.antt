-- `repetitions::inner::best` meets its contract: each way out is the case of the definitions that its tests lead to, and `best_means` says what that means.
-- Assumes nothing.
use mathlib.Core.Path.{◌≡◌, subst}
use mathlib.Core.List.{List}
use Prim.Native.Nat.{ℕ}
use native.Mathlib.Omega.{arith}
use Rattle.std.proofs.lemmas.Result.{err_from_is_err_and}
use Rattle.answers.specs.Outcome.{Outcome}
use Rattle.periods.specs.Period.{repetition?, held_period}
use Rattle.periods.specs.Width.{symbols}
use Rattle.periods.specs.Edition.{turns_of}
use Rattle.periods.proofs.Editions.{edition_known, turns_known, edition_refused, refusal_known}
use Rattle.factorizer.proofs.BestClaims.{ChosenGiven, Ensured, chosen_given}
use Rattle.repetitions.proofs.BestClaims.{promised_long, promised_bad_edition, promised_chosen, best_answered}
use Rattle.repetitions.proofs.inner.best.Goals as goal

-- what `best` ensures, for the blocks of the edition
chosen_so : (edition k : ℕ) → k ≡ turns_of edition → (w : List ℕ) (choice : ℕ) (e t : List ℕ) (o : Outcome) (x y : List ℕ)
    → Ensured (repetition? held_period k) w choice e t o x y → ChosenGiven (repetition? held_period (turns_of edition)) w choice e t o x y
chosen_so edition k q w choice e t o x y E =
    subst (λ (z : ℕ). ChosenGiven (repetition? held_period z) w choice e t o x y) q (chosen_given (repetition? held_period k) w choice e t o x y E)

pub returns-then-len-gt-LIMIT : goal.returns-then-len-gt-LIMIT
returns-then-len-gt-LIMIT c =
    let g = c.args in
    let w = symbols g.w in
    let r = best_answered w g.edition g.choice g.ends.now g.work.now _ _ _ (promised_long w g.edition g.choice g.ends.now g.work.now (omega arith)) in
    record { result_value = r.0; ends_after = r.1.0; work_after = r.1.1.0; best_meaning = r.1.1.1 }

pub returns-in_err-edition : goal.returns-in_err-edition
returns-in_err-edition c =
    let g = c.args in
    let w = symbols g.w in
    let e = err_from_is_err_and c.from_residual.result c.from_residual.ensures.1 in
    let r = best_answered w g.edition g.choice g.ends.now g.work.now _ _ _
    (promised_bad_edition w g.edition g.choice g.ends.now g.work.now (omega arith) (edition_refused g.edition _ c.in_err-edition.ensures)) in
    rw (e.1, e.2, refusal_known g.edition _ c.in_err-edition.ensures) record { result_value = r.0; ends_after = r.1.0; work_after = r.1.1.0; best_meaning = r.1.1.1 }

pub returns : goal.returns
returns c =
    let g = c.args in
    let w = symbols g.w in
    let s = c.best.ensures in
    let r = best_answered w g.edition g.choice g.ends.now g.work.now _ _ _
    (promised_chosen w g.edition g.choice g.ends.now g.work.now (omega arith) (edition_known g.edition _ c.in_ok-edition.ensures) _ _ _
    (chosen_so g.edition _ (turns_known g.edition _ c.in_ok-edition.ensures) w g.choice g.ends.now g.work.now _ _ _ (s.result_value, (s.ends_after, s.work_after)))) in
    record { result_value = r.0; ends_after = r.1.0; work_after = r.1.1.0; best_meaning = r.1.1.1 }
