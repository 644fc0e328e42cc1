-- `halves::inner::count` meets its contract: when all runs were found, the counts are those of the runs after each boundary. Assumes nothing.
use mathlib.Core.Path.{◌∙◌}
use native.Mathlib.Omega.{arith}
use Rattle.runs.specs.declared.Listing.TheVariants.{Keys}
use Rattle.halves.proofs.Cleared.{count_roomy, sums_asked, count_is, starts_left}
use Rattle.halves.proofs.inner.count.Goals as goal

pub solve-requires : goal.solve-requires
solve-requires c = (omega arith, omega arith, count_roomy c.args.w.now c.args.scratch.now c.requires c.fill.new.self (c.fill.ensures.after (λ y h. h)))

pub starts-requires : goal.starts-requires
starts-requires c =
    let s = c.solve in
    sums_asked c.args.w.now c.args.scratch.now c.requires c.fill.new.self (c.fill.ensures.after (λ y h. h)) Keys _ s.new.scratch _ s.ensures.keeps s.ensures.solved s.auto.scratch

pub returns-clause-value : goal.returns-clause-value
returns-clause-value c =
    let s = c.solve in
    c.starts.ensures.value
    ∙ count_is c.args.w.now c.args.scratch.now c.requires c.fill.new.self (c.fill.ensures.after (λ y h. h)) Keys _ s.new.scratch _ s.ensures.keeps s.ensures.solved s.auto.scratch

pub returns-clause-starts : goal.returns-clause-starts
returns-clause-starts c =
    let s = c.solve in
    starts_left c.args.w.now c.args.scratch.now c.requires c.fill.new.self (c.fill.ensures.after (λ y h. h)) Keys _ s.new.scratch _ s.ensures.keeps s.ensures.solved s.auto.scratch c.starts.new.s
    c.starts.auto.s c.starts.ensures.summed
