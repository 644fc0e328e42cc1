-- `paths::inner::numbers_with` meets its contract: its loop keeps how many blocks are taken, and that the table holds their numbers and, from there on, what it
-- held. Assumes nothing.
use mathlib.Core.Path.{◌≡◌}
use mathlib.Core.List.{◌++◌}
use lib.ListN.{length, take, drop}
use Rattle.periods.specs.Period.{held_period}
use Rattle.periods.specs.Width.{symbols}
use Rattle.factors.proofs.BlockByBlock.{Taken}
use Rattle.repetitions.specs.Block.{Block}
use Rattle.paths.specs.Calls.{run_numbers}
use Rattle.paths.proofs.inner.numbers_with.Given as goal

abbrev pub invariant-loop-k : goal.invariant-loop-k
invariant-loop-k g l = let w = symbols l.w in
    (symbols l.look_up.w ≡ w) × Taken (Block held_period 2 w) l.ends (length w) l.k l.look_up.before
    × (l.table ≡ take l.k (run_numbers w 0 l.ends) ++ drop l.k l.initial.table)
