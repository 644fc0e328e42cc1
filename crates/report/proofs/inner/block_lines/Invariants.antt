-- `report::inner::block_lines` meets its contract: its loop keeps that the ends that are left join up to the end of the word, and what is left to store.
-- Assumes nothing.
use mathlib.Core.Path.{◌≡◌}
use Prim.Native.Nat.{◌≤◌}
use lib.ListN.{length, drop}
use Rattle.periods.specs.Period.{held_period}
use Rattle.factors.proofs.BlockByBlock.{Taken}
use Rattle.repetitions.specs.Block.{Block}
use Rattle.report.specs.Text.{printed_turns, block_lines}
use Rattle.writers.proofs.Stores.{Left}
use Rattle.report.proofs.inner.block_lines.Given as goal

abbrev pub invariant-loop-k : goal.invariant-loop-k
invariant-loop-k l = (l.k ≤ l.before) × (length l.out ≡ length l.fn.out) × Taken (Block held_period printed_turns l.fn.w) l.fn.ends (length l.fn.w) l.k l.before × Left l.fn.out l.fn.at (block_lines l.fn.w 0 0 l.fn.ends) l.out l.next (block_lines l.fn.w l.k l.before (drop l.k l.fn.ends))
