-- The outer loop of `symbols::block_unit` keeps that no number below p is a period, the inner one that the pairs below i agree. Assumes nothing.
use mathlib.Core.Path.{◌≡◌}
use Prim.Native.Nat.{ℕ, ◌+◌, ◌<◌}
use lib.ListN.{get_or}
use Rattle.periods.specs.Period.{Period}
use Rattle.periods.proofs.symbols.block_unit.Given as goal

abbrev pub invariant-loop-i : goal.invariant-loop-i
invariant-loop-i g l =
    let s = g.S.Symbol.numbers l.part in
    (k : ℕ) → k < l.i → get_or s k 0 ≡ get_or s (k + l.p) 0

abbrev pub invariant-outer : goal.invariant-outer
invariant-outer g l = (q : ℕ) → q < l.p → Period (g.S.Symbol.numbers l.part) q → ⊥
