-- `halves::node::fill_tables` meets its contract: each row is the one that was lent for it. Assumes nothing.
use native.Mathlib.Omega.{arith}
use Rattle.halves.proofs.Filled.{tables_filled}
use Rattle.halves.proofs.node.fill_tables.Goals as goal

pub returns-clause-tables : goal.returns-clause-tables
returns-clause-tables c =
    let g = c.args in
    (tables_filled g.w.now g.scratch.now c.matches.new.t c.matches-2.new.t g.lo g.m g.hi (omega arith) c.matches.auto.t c.matches-2.auto.t c.matches.ensures.cases
    c.matches-2.ensures.cases).0

pub returns-clause-same : goal.returns-clause-same
returns-clause-same c =
    let g = c.args in
    (tables_filled g.w.now g.scratch.now c.matches.new.t c.matches-2.new.t g.lo g.m g.hi (omega arith) c.matches.auto.t c.matches-2.auto.t c.matches.ensures.cases
    c.matches-2.ensures.cases).1
