-- `prefixes::inner::View::fill` meets its contract: its loop keeps the box, the places filled so far, and those past the part. Assumes nothing.
use Rattle.std.proofs.Common.{◌≡◌, ◌+◌, length, drop}
use Rattle.prefixes.specs.Match.{view}
use Rattle.prefixes.specs.Filled.{Filled}
use Rattle.prefixes.proofs.Boxes.{Box}
use Rattle.prefixes.proofs.inner.View.fill.Given as goal

abbrev pub invariant-loop-i : goal.invariant-loop-i
invariant-loop-i l = record {
  box : Box (view l.self.mirrored l.self.part.now) (length l.self.part.now) l.mid l.from l.i l.l l.r;
  filled : Filled (view l.self.mirrored l.self.part.now) (length l.self.part.now) l.mid l.from l.i l.t;
  past : drop (length l.self.part.now + 1) l.t ≡ drop (length l.self.part.now + 1) l.initial.t;
}
