-- `halves::scan::scan_period` meets its contract: its loop keeps `Scanned` of proofs/Scans.antt. Assumes nothing.
use mathlib.Core.Path.{◌≡◌}
use Prim.Native.Nat.{◌-◌}
use native.Mathlib.Omega.{arith}
use Rattle.halves.proofs.Recorded.{keeps_then}
use Rattle.halves.proofs.Scans.{scanned_more, scanned_next, scanned_all, below_grow}
use Rattle.halves.proofs.scan.scan_period.Goals as goal
use Rattle.halves.proofs.scan.scan_period.Goals.{then-w-at, else-w-at}

pub loop-at-preserved : goal.loop-at-preserved
loop-at-preserved c =
    let g = c.args in
    let q = c.requires in
    let l = c.loop-at in
    let i = l.invariant in
    elim c.if-w-at.branch [
      | then-w-at w ↦
          let x = w.attempt.ensures in
          rw (w.scratch-is, w.table-is, w.start-is) (record {
            keeps = keeps_then _ _ _ _ _ _ _ _ _ _ _ i.keeps x.keeps;
            below = below_grow _ _ _ _ _ _ x.keeps.grows i.below;
            room = x.keeps.room i.room;
            scanned = scanned_next g.w.now g.lo g.hi g.p q.0 q.2 l.start l.at _ i.scanned (λ h. w.if-w-at.true) _ x.keeps.grows x.tried (omega arith);
          })
      | else-w-at w ↦
          rw (w.scratch-is, w.table-is, w.start-is) (record {
            keeps = i.keeps;
            below = i.below;
            room = i.room;
            scanned = scanned_more g.w.now g.lo g.hi g.p q.0 q.2 l.start l.at _ i.scanned (omega arith) w.if-w-at.false;
          })
    ]

pub returns-clause-below : goal.returns-clause-below
returns-clause-below c =
    let g = c.args in
    let q = c.requires in
    let l = c.loop-at in
    let x = c.attempt-2.ensures in
    let e : g.hi - g.p ≡ l.at = omega arith in
    scanned_all g.w.now g.lo g.hi g.p q.0 q.2 l.start l.at _ l.invariant.scanned (λ h. absurd (omega arith)) _ x.keeps.grows (rw e at x.tried) (omega arith) l.invariant.below
