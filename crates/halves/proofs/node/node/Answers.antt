-- `halves::node::node` meets its contract: before the turn for p, every run between lo and hi that does not cross m or has a smaller period was found. Assumes
-- nothing.
use native.Mathlib.Omega.{arith}
use Rattle.halves.proofs.Recorded.{keeps_none, keeps_then}
use Rattle.halves.proofs.Stretches.{done_start, done_more, done_all, done_grow}
use Rattle.halves.proofs.Filled.{tables_kept, room_kept, solved_kept}
use Rattle.halves.proofs.node.node.Goals as goal

pub loop-p-init : goal.loop-p-init
loop-p-init c =
    let q = c.requires in
    let f = c.fill_tables.ensures in
    record {
      keeps = keeps_none _ _ _ _ _;
      done = done_start _ _ _ _ q.2 _ (solved_kept _ _ _ _ _ f.same q.3) (solved_kept _ _ _ _ _ f.same q.4);
      room = room_kept _ _ _ f.same q.5.1;
      tables = f.tables;
    }

pub below-requires : goal.below-requires
below-requires c =
    let q = c.requires in
    let i = c.loop-p.invariant in
    let x = c.above in (
      omega arith,
      q.0,
      q.1,
      q.2,
      tables_kept _ _ _ _ _ _ x.ensures.same i.tables,
      done_grow _ _ _ _ _ _ _ x.ensures.keeps.grows i.done,
      ((q.5.0.0, omega arith), x.ensures.keeps.room i.room),
    )

pub loop-p-preserved : goal.loop-p-preserved
loop-p-preserved c =
    let i = c.loop-p.invariant in
    let x = c.above in
    let y = c.below in
    record {
      keeps = keeps_then _ _ _ _ _ _ _ _ _ _ _ i.keeps (keeps_then _ _ _ _ _ _ _ _ _ _ _ x.ensures.keeps y.ensures.keeps);
      done = done_more _ _ _ _ c.requires.2 _ _ _ _ i.done x.ensures.keeps.grows y.ensures.keeps.grows x.ensures.met y.ensures.met;
      room = y.ensures.keeps.room (x.ensures.keeps.room i.room);
      tables = tables_kept _ _ _ _ _ _ y.ensures.same (tables_kept _ _ _ _ _ _ x.ensures.same i.tables);
    }

pub returns-clause-solved : goal.returns-clause-solved
returns-clause-solved c = done_all _ _ _ _ c.requires.2 c.loop-p.p _ (omega arith) c.loop-p.invariant.done
