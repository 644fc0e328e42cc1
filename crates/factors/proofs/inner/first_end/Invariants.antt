-- `factors::inner::first_end` meets its contract: its loop keeps that the first end of the blocks that are left is the one asked for. Assumes nothing.
use Rattle.std.proofs.Common.{◌≡◌, ◌+◌, ◌-◌}
use Rattle.factors.specs.Table.{ends_back, Linked}
use Rattle.factors.specs.Verdict.{end_of}
use Rattle.factors.proofs.inner.first_end.Given as goal

-- the count of blocks that are left is count + 1 - counter
abbrev pub invariant-loop : goal.invariant-loop
invariant-loop l =
    Linked l.prev (l.count + 1 - l.counter) l.end × (end_of (ends_back l.prev (l.count + 1 - l.counter) l.end) 1 ≡ end_of (ends_back l.prev l.count l.j) 1)
