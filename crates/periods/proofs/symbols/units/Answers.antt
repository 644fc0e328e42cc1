-- `symbols::units` meets its contract: both loops keep `Upto` of proofs/Units.antt, of the symbols' numbers. Assumes nothing.
use mathlib.Core.Path.{sym, ◌∙◌}
use mathlib.Core.List.{List}
use Prim.Native.Nat.{ℕ, ◌-◌}
use native.Mathlib.Omega.{arith}
use lib.ListN.{set}
use Rattle.periods.proofs.Pairs.{pair_same, pair_differs}
use Rattle.periods.proofs.Claims.{smallest_period_empty}
use Rattle.periods.proofs.UnitsTable.{units_none}
use Rattle.periods.proofs.Units.{units_start, units_agree, units_next, units_next_low, units_next_high, units_whole, units_done}
use Rattle.periods.proofs.symbols.units.Goals as goal

pub returns-then-n-eq0-clause-unit : goal.returns-then-n-eq0-clause-unit
returns-then-n-eq0-clause-unit g c = sym (smallest_period_empty _ (g.met.S.Symbol.as_many c.args.part.now ∙ c.if-n-eq0.true))

pub returns-then-n-eq0-clause-written : goal.returns-then-n-eq0-clause-written
returns-then-n-eq0-clause-written g c = units_none _ _ (g.met.S.Symbol.as_many c.args.part.now ∙ c.if-n-eq0.true)

pub outer-init : goal.outer-init
outer-init g c =
    let s : List ℕ = g.S.Symbol.numbers c.args.part.now in
    let long = g.met.S.Symbol.as_many c.args.part.now in
    (omega arith, omega arith, omega arith, units_start s c.args.table.now (omega arith) (omega arith))

pub loop-m-preserved : goal.loop-m-preserved
loop-m-preserved g c =
    let s : List ℕ = g.S.Symbol.numbers c.args.part.now in
    let long = g.met.S.Symbol.as_many c.args.part.now in
    let told = g.met.S.Symbol.told_apart c.args.part.now (c.loop-m.m - c.loop-m.p) c.loop-m.m _ _ (omega arith) (omega arith) c.index-part-m.is c.index-part-m-in-loop-m.is in
    (omega arith, omega arith, omega arith, omega arith, λ t U. units_agree s _ _ _ _ (c.loop-m.invariant.4 t U) (omega arith) (pair_same _ _ _ told c.if-eq.ensures))

pub outer-smaller-then-p-m : goal.outer-smaller-then-p-m
outer-smaller-then-p-m g c =
    let s : List ℕ = g.S.Symbol.numbers c.args.part.now in
    let long = g.met.S.Symbol.as_many c.args.part.now in
    let U = c.loop-m.invariant.4 (set c.args.table.now 0 1) c.outer.invariant.3 in
    omega (arith, units_next_low s _ _ _ _ U (omega arith) (omega arith))

pub outer-preserved-then-p-m : goal.outer-preserved-then-p-m
outer-preserved-then-p-m g c =
    let s : List ℕ = g.S.Symbol.numbers c.args.part.now in
    let long = g.met.S.Symbol.as_many c.args.part.now in
    let told = g.met.S.Symbol.told_apart c.args.part.now (c.loop-m.m - c.loop-m.p) c.loop-m.m _ _ (omega arith) (omega arith) c.index-part-m.is c.index-part-m-in-loop-m.is in
    let U = c.loop-m.invariant.4 (set c.args.table.now 0 1) c.outer.invariant.3 in (
      omega arith,
      omega (arith, units_next_high s _ _ _ _ U (omega arith) (omega arith)),
      omega arith,
      units_next s _ _ _ _ U (omega arith) (pair_differs _ _ _ told c.if-eq.ensures) c.if-p-m.true,
    )

pub outer-preserved : goal.outer-preserved
outer-preserved g c =
    let s : List ℕ = g.S.Symbol.numbers c.args.part.now in
    let long = g.met.S.Symbol.as_many c.args.part.now in
    let told = g.met.S.Symbol.told_apart c.args.part.now (c.loop-m.m - c.loop-m.p) c.loop-m.m _ _ (omega arith) (omega arith) c.index-part-m.is c.index-part-m-in-loop-m.is in
    let U = c.loop-m.invariant.4 (set c.args.table.now 0 1) c.outer.invariant.3 in
    (omega arith, omega arith, omega arith, units_whole s _ _ _ _ U (omega arith) (pair_differs _ _ _ told c.if-eq.ensures) c.if-p-m.false)

pub returns-clause-written : goal.returns-clause-written
returns-clause-written g c =
    let s : List ℕ = g.S.Symbol.numbers c.args.part.now in
    let long = g.met.S.Symbol.as_many c.args.part.now in
    let U = c.loop-m.invariant.4 (set c.args.table.now 0 1) c.outer.invariant.3 in
    (units_done s _ _ _ _ (omega arith) (omega arith) U).1
