-- `halves::node::attempt` meets its contract: each way through it is one of proofs/Ways.antt. Assumes nothing.
use mathlib.Core.Path.{sym, ◌∙◌}
use Prim.Native.Nat.{◌+◌, ◌-◌}
use native.Mathlib.Omega.{arith}
use Rattle.halves.proofs.Ways.{way_short, way_old, way_left, way_right, way_new}
use Rattle.halves.proofs.node.attempt.Goals as goal
use Rattle.halves.proofs.node.attempt.Goals.{else-left_maximal-via-then-left_maximal+else-right_maximal, else-left_maximal-via-else-left_maximal}

pub returns-then-left-right-clause-tried : goal.returns-then-left-right-clause-tried
returns-then-left-right-clause-tried c =
    let g = c.args in
    (way_short g.listing g.w.now g.scratch.now g.table.now (g.c - g.left) (g.c + g.p + g.right) g.p c.requires.1 (omega arith)).1.1

pub returns-then-b-scratch-clause-tried : goal.returns-then-b-scratch-clause-tried
returns-then-b-scratch-clause-tried c =
    let g = c.args in
    (way_old g.listing g.w.now g.scratch.now g.table.now (g.c - g.left) (g.c + g.p + g.right) g.p c.requires.1 (omega arith)).1.1

pub returns-else-left_maximal-clause-tried : goal.returns-else-left_maximal-clause-tried
returns-else-left_maximal-clause-tried c =
    let g = c.args in
    elim c.else-left_maximal.branch [
      | else-left_maximal-via-then-left_maximal+else-right_maximal w ↦
          (way_right g.listing g.w.now g.scratch.now g.table.now (g.c - g.left) (g.c + g.p + g.right) g.p c.requires.1 (sym w.right_maximal.ensures ∙ w.if-right_maximal.false)).1.1
      | else-left_maximal-via-else-left_maximal w ↦
          (way_left g.listing g.w.now g.scratch.now g.table.now (g.c - g.left) (g.c + g.p + g.right) g.p c.requires.1 (sym c.left_maximal.ensures ∙ w.if-left_maximal.false)).1.1
    ]

pub add_run-requires : goal.add_run-requires
add_run-requires c =
    let g = c.args in
    let q = c.requires in (
      q.3,
      way_new g.listing g.w.now g.scratch.now g.table.now (g.c - g.left) (g.c + g.p + g.right) g.p q.1 (omega arith) (sym c.left_maximal.ensures ∙ c.if-left_maximal.true)
          (sym c.right_maximal.ensures ∙ c.if-right_maximal.true) q.2 (omega arith),
    )
