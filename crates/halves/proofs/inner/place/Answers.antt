-- `halves::inner::place` meets its contract: when all runs were found, the table is that of the definition. Assumes nothing.
use native.Mathlib.Omega.{arith}
use Rattle.halves.proofs.Cleared.{place_roomy, place_is}
use Rattle.halves.proofs.inner.place.Goals as goal

pub solve-requires : goal.solve-requires
solve-requires c = (omega arith, omega arith, place_roomy c.args.w.now c.args.scratch.now c.requires.0 c.fill.new.self (c.fill.ensures.after (λ y h. h)) c.requires.1)

pub returns : goal.returns
returns c =
    let s = c.solve.ensures in
    place_is c.args.w.now c.args.scratch.now c.requires.0 c.fill.new.self (c.fill.ensures.after (λ y h. h)) c.requires.1 _ c.args.table.now _ _ c.requires.2 s.keeps s.solved
