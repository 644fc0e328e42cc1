-- `squares::inner::judge` meets its contract: its answer is that of the definition, and `squares_judged_means` says what that means. Assumes nothing.
use mathlib.Core.Path.{◌∙◌}
use native.Mathlib.Omega.{arith}
use Rattle.periods.specs.Width.{symbols}
use Rattle.squares.proofs.CallClaims.{squares_judged_fine, squares_judged_given}
use Rattle.squares.proofs.inner.judge.Goals as goal

pub returns-clause-squares_judged_meaning : goal.returns-clause-squares_judged_meaning
returns-clause-squares_judged_meaning c = squares_judged_given _ _ _ (c.judge.ensures ∙ squares_judged_fine (symbols c.args.w) c.args.ends.now (omega arith))
