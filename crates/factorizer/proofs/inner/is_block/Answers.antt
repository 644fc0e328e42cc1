-- `factorizer::inner::is_block` meets its contract: a repetition by its unit. Assumes nothing.
use mathlib.Core.Path.{ap, ◌∙◌}
use mathlib.Core.Bool.{not}
use Prim.Native.Nat.{ℕ}
use lib.Dec.{eqb}
use Rattle.periods.specs.Edition.{turns_in}
use Rattle.periods.specs.Width.{symbols}
use Rattle.periods.proofs.BlockUnit.{block_unit_tells}
use Rattle.factorizer.proofs.inner.is_block.Goals as goal

pub returns-in-Repetition : goal.returns-in-Repetition
returns-in-Repetition c =
    rw c.in-Repetition.is (ap (λ (u : ℕ). not (eqb u 0)) c.block_unit.ensures ∙ block_unit_tells (turns_in c.in-Repetition.edition) (symbols c.args.w))
