-- `halves::node::below` meets its contract: the two places that it reads give the longest stretch of period p before the middle. Assumes nothing.
use mathlib.Core.Path.{subst}
use Prim.Native.Nat.{ℕ, ◌-◌}
use native.Mathlib.Omega.{arith}
use Rattle.halves.specs.Scratch.{ends_row}
use Rattle.halves.specs.Found.{Met}
use Rattle.halves.proofs.Stretches.{stretch_ready, stretch_met}
use Rattle.halves.proofs.PlacesRead.{below_read}
use Rattle.halves.proofs.node.below.Goals as goal

pub attempt-requires : goal.attempt-requires
attempt-requires c =
    let g = c.args in
    let q = c.requires in
    let S = below_read g.w.now g.scratch.now g.lo g.m g.hi q.1 q.2 q.3 q.4 g.p q.0 (omega arith) in
    (S.0, S.1.periodic, stretch_ready g.w.now g.lo g.m g.hi (g.m - g.p) g.p _ _ _ S.1 q.5, q.6)

pub returns-clause-met : goal.returns-clause-met
returns-clause-met c =
    let g = c.args in
    let q = c.requires in
    let S = below_read g.w.now g.scratch.now g.lo g.m g.hi q.1 q.2 q.3 q.4 g.p q.0 (omega arith) in
    subst (λ (x : ℕ). Met g.w.now g.lo g.hi x g.p (ends_row g.w.now c.attempt.new.scratch)) (omega arith)
    (stretch_met g.w.now g.lo g.hi (g.m - g.p) g.p _ _ _ S.1 q.3 c.attempt.ensures.tried)
