-- `decimals::inner::make_digit` meets its contract: the digits before it read as the quotient by the next power, and the digit stored is the last of the quotient
-- by its own. Assumes nothing.
use mathlib.Core.Path.{sym, subst}
use Prim.Native.Nat.{ℕ, ◌≤◌}
use native.Mathlib.Omega.{arith}
use Rattle.decimals.proofs.Loops.{power_positive, made_quotient, made_more}
use Rattle.decimals.proofs.inner.make_digit.Goals as goal

pub nonzero_div-made : goal.nonzero_div-made
nonzero_div-made c = subst (λ (p : ℕ). 1 ≤ p) (sym c.power.ensures) (power_positive _)

pub returns-clause-reads : goal.returns-clause-reads
returns-clause-reads c =
    let g = c.args in
    rw (made_quotient g.width g.i g.x c.power.result c.power.ensures) (made_more g.width g.i g.x (omega arith) g.out.now g.at (omega arith) c.requires.3)

pub returns-clause-stored : goal.returns-clause-stored
returns-clause-stored c = let g = c.args in rw (made_quotient g.width g.i g.x c.power.result c.power.ensures)
