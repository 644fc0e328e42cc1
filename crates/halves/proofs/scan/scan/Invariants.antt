-- `halves::scan::scan` meets its contract: before the turn for p, every run of the part with a smaller period was found. Assumes nothing.
use Rattle.halves.specs.Scratch.{ends_row, next_row}
use Rattle.halves.specs.Found.{Below}
use Rattle.halves.specs.Kept.{Room, Advances}
use Rattle.halves.proofs.scan.scan.Given as goal

abbrev pub invariant-loop-p : goal.invariant-loop-p
invariant-loop-p l = record {
  keeps : Advances l.listing l.w l.initial.scratch l.initial.table l.scratch l.table;
  below : Below l.w l.lo l.hi l.p (ends_row l.w l.scratch);
  room : Room l.w (ends_row l.w l.scratch) (next_row l.w l.scratch);
}
