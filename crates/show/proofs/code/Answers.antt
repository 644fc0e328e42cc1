-- `show::code` meets its contract: the lengths of the two texts add up. Assumes nothing.
use mathlib.Core.Path.{◌≡◌, ap}
use native.Mathlib.Omega.{arith}
use lib.ListN.{length, length-append}
use Rattle.answers.specs.declared.Code.{Code}
use Rattle.answers.specs.Outcome.{code_of}
use Rattle.decimals.specs.Decimal.{plain}
use Rattle.show.specs.Text.{code_text}
use Rattle.show.proofs.code.Goals as goal

pub returns : goal.returns
unfolding code_text
returns g c =
    let e = c.into-kind.ensures in
    let a : length (plain c.into-kind.result.0) ≡ length (plain (code_of c.args.r).0) = ap (λ (k : Code). length (plain k.0)) e in
    let b : length (plain c.into-kind.result.1) ≡ length (plain (code_of c.args.r).1) = ap (λ (k : Code). length (plain k.1)) e in
    (simp length-append (omega (arith, c.number.ensures.0, c.field.ensures.0)), omega arith)
