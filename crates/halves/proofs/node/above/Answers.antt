-- `halves::node::above` meets its contract: the two places that it reads give the longest stretch of period p after the middle. Assumes nothing.
use native.Mathlib.Omega.{arith}
use Rattle.halves.proofs.Stretches.{stretch_ready, stretch_met}
use Rattle.halves.proofs.PlacesRead.{above_read}
use Rattle.halves.proofs.node.above.Goals as goal

pub attempt-requires : goal.attempt-requires
attempt-requires c =
    let g = c.args in
    let q = c.requires in
    let S = above_read g.w.now g.scratch.now g.lo g.m g.hi q.1 q.2 q.3 q.4 g.p q.0 (omega arith) in
    (S.0, S.1.periodic, stretch_ready g.w.now g.lo g.m g.hi g.m g.p _ _ _ S.1 q.5, q.6)

pub returns-clause-met : goal.returns-clause-met
returns-clause-met c =
    let g = c.args in
    let q = c.requires in
    let S = above_read g.w.now g.scratch.now g.lo g.m g.hi q.1 q.2 q.3 q.4 g.p q.0 (omega arith) in
    stretch_met g.w.now g.lo g.hi g.m g.p _ _ _ S.1 q.3 c.attempt.ensures.tried
