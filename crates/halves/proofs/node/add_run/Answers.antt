-- `halves::node::add_run` meets its contract: the rows and the table are those of proofs/Added.antt. Assumes nothing.
use Prim.Native.Nat.{◌+◌, ◌*◌}
use native.Mathlib.Omega.{arith}
use lib.ListN.{length, length-set}
use Rattle.runs.proofs.RootClaims.{two_turns}
use Rattle.halves.proofs.Added.{new_run, new_start, next_small, added_same, added_keeps, added_tried}
use Rattle.halves.proofs.node.add_run.Goals as goal

pub put_run-requires : goal.put_run-requires
put_run-requires c =
    let g = c.args in
    let q = c.requires in
    let z = two_turns g.w.now g.a g.b g.p (new_run g.w.now g.a g.b g.p _ q.1) in
    (omega (arith, next_small g.w.now g.scratch.now g.a g.b g.p q.0 q.1), omega arith, q.1.within, z.0, z.1)

pub bounds-scratch-next-2 : goal.bounds-scratch-next-2
bounds-scratch-next-2 c =
    let g = c.args in
    omega (arith, new_start g.w.now g.a g.b g.p _ c.requires.1, length-set g.scratch.now (2 * (length g.w.now + 1) + g.a) g.b)

pub returns-clause-keeps : goal.returns-clause-keeps
returns-clause-keeps c =
    let g = c.args in
    let q = c.requires in
    added_keeps g.w.now g.scratch.now g.table.now g.a g.b g.p q.0.0 q.1 g.listing _ c.put_run.ensures

pub returns-clause-same : goal.returns-clause-same
returns-clause-same c =
    let g = c.args in
    let q = c.requires in
    added_same g.w.now g.scratch.now g.table.now g.a g.b g.p q.0.0 q.1

pub returns-clause-tried : goal.returns-clause-tried
returns-clause-tried c =
    let g = c.args in
    let q = c.requires in
    added_tried g.w.now g.scratch.now g.table.now g.a g.b g.p q.0.0 q.1
