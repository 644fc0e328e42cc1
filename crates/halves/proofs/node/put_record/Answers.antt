-- `halves::node::put_record` meets its contract: a table without the place stays, and else the record is the new run's. Assumes nothing.
use native.Mathlib.Omega.{arith}
use Rattle.halves.proofs.Added.{root_small}
use Rattle.halves.proofs.node.put_record.Goals as goal

pub overflow_cast-run-4 : goal.overflow_cast-run-4
overflow_cast-run-4 c = omega (arith, c.root.ensures, root_small c.args.w.now c.args.a c.args.p c.requires.3 c.requires.4)
