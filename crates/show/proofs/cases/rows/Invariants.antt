-- `show::cases::rows` meets its contract: calls at the rows that are left, after those that were made, are calls at all of the rows. Assumes nothing.
use Prim.Native.Nat.{◌-◌}
use lib.ListN.{length, drop}
use Rattle.std.specs.Fn.{CalledAt}
use Rattle.std.specs.List.{FoldsTo}
use Rattle.show.specs.Cases.{rows_in}
use Rattle.show.proofs.cases.rows.Given as goal

abbrev pub invariant-loop-at : goal.invariant-loop-at
invariant-loop-at g l =
    goal.F-IsAlwaysCallable g l.visit
    × ((last : _) → FoldsTo (λ p x q. CalledAt g.F.FnMut p x tt q) l.visit (rows_in (drop l.at l.table)) last
    → FoldsTo (λ p x q. CalledAt g.F.FnMut p x tt q) l.initial.visit (rows_in l.table) last)

abbrev pub decreases-loop-at : goal.decreases-loop-at
decreases-loop-at g l = length l.table - l.at
