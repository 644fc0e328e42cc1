-- `factorizer::inner::spread` meets its contract: its loop is the fold `spread`, and where it stops early no later unit is short enough, since units never
-- fall. Assumes nothing.
use mathlib.Core.Path.{◌≡◌}
use Rattle.periods.specs.Edition.{turns_in}
use Rattle.factors.specs.Choice.{choice_in}
use Rattle.factors.specs.Table.{spread}
use Rattle.factorizer.specs.Fill.{ends_block}
use Rattle.factorizer.proofs.inner.spread.Given as goal

abbrev pub invariant-loop-d : goal.invariant-loop-d
invariant-loop-d l = l.work ≡ spread (choice_in l.choice) l.n l.j l.size (ends_block (turns_in l.fn.edition) l.n l.initial.work) l.d l.initial.work
