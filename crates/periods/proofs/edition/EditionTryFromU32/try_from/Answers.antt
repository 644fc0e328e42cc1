-- `Edition::try_from` meets its contract: each arm is a case of `edition_of`. Assumes nothing.
use mathlib.Core.Path.{sym}
use native.Mathlib.Omega.{arith}
use Rattle.std.proofs.Common.{rules, inl, inr}
use Rattle.periods.specs.Edition.{edition_of, bad_edition?}
use Rattle.periods.proofs.Editions.{edition_of_other}
use Rattle.periods.proofs.edition.EditionTryFromU32.try_from.Goals as goal

pub returns-in-1 : goal.returns-in-1
unfolding edition_of bad_edition?
returns-in-1 c = search rules

pub returns-in-2 : goal.returns-in-2
unfolding edition_of bad_edition?
returns-in-2 c = search rules

pub returns-in_default : goal.returns-in_default
returns-in_default c = sym (edition_of_other c.args.edition (λ h. elim h [ inl e ↦ omega (arith, e) | inr e ↦ omega (arith, e) ]))
