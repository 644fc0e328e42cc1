-- `halves::scan::scan_period` meets its contract: its loop keeps `Scanned` of proofs/Scans.antt. Assumes nothing.
use Rattle.halves.specs.Scratch.{ends_row, next_row}
use Rattle.halves.specs.Found.{Below}
use Rattle.halves.specs.Kept.{Room, Advances}
use Rattle.halves.proofs.Scans.{Scanned}
use Rattle.halves.proofs.scan.scan_period.Given as goal

abbrev pub invariant-loop-at : goal.invariant-loop-at
invariant-loop-at l = record {
  keeps : Advances l.listing l.w l.initial.scratch l.initial.table l.scratch l.table;
  below : Below l.w l.lo l.hi l.p (ends_row l.w l.scratch);
  room : Room l.w (ends_row l.w l.scratch) (next_row l.w l.scratch);
  scanned : Scanned l.w l.lo l.hi l.p l.start l.at (ends_row l.w l.scratch);
}
