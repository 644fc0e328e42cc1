-- `halves::node::node` meets its contract: before the turn for p, every run between lo and hi that does not cross m or has a smaller period was found. Assumes
-- nothing.
use Rattle.halves.specs.Scratch.{prefix_row, suffix_row, ends_row, next_row}
use Rattle.halves.specs.Found.{Tables, Done}
use Rattle.halves.specs.Kept.{Room, Advances}
use Rattle.halves.proofs.node.node.Given as goal

abbrev pub invariant-loop-p : goal.invariant-loop-p
invariant-loop-p l = record {
  keeps : Advances l.listing l.w l.initial.scratch l.initial.table l.scratch l.table;
  done : Done l.w l.lo l.m l.hi l.p (ends_row l.w l.scratch);
  room : Room l.w (ends_row l.w l.scratch) (next_row l.w l.scratch);
  tables : Tables l.w l.lo l.m l.hi (prefix_row l.w l.scratch) (suffix_row l.w l.scratch);
}
