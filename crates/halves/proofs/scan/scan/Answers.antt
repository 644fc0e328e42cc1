-- `halves::scan::scan` meets its contract: before the turn for p, every run of the part with a smaller period was found. Assumes nothing.
use native.Mathlib.Omega.{arith}
use Rattle.halves.proofs.Recorded.{keeps_none, keeps_then}
use Rattle.halves.proofs.Scans.{below_none, below_all}
use Rattle.halves.proofs.scan.scan.Goals as goal

pub loop-p-init : goal.loop-p-init
loop-p-init c = record { keeps = keeps_none _ _ _ _ _; below = below_none c.args.w.now c.args.lo c.args.hi _ c.requires.1; room = c.requires.2.1 }

pub loop-p-preserved : goal.loop-p-preserved
loop-p-preserved c =
    let i = c.loop-p.invariant in
    let x = c.scan_period.ensures in
    record { keeps = keeps_then _ _ _ _ _ _ _ _ _ _ _ i.keeps x.keeps; below = x.below; room = x.keeps.room i.room }

pub returns-clause-solved : goal.returns-clause-solved
returns-clause-solved c = below_all c.args.w.now c.args.lo c.args.hi c.loop-p.p _ c.requires.1 (omega arith) c.loop-p.invariant.below
