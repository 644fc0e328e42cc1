-- `periods::symbols::units` meets its contract: both loops keep `Upto` of proofs/Units.antt. The inner one keeps it from whatever table it held for at its start,
-- so that it holds from the function's own. In both m + p rises and stays below 2 × length + 1. Assumes nothing.
use mathlib.Core.List.{List}
use Prim.Native.Nat.{ℕ, ◌+◌, ◌-◌, ◌≤◌}
use Rattle.periods.proofs.Units.{Upto}
use Rattle.periods.proofs.symbols.units.Given as goal

abbrev pub invariant-loop-m : goal.invariant-loop-m
invariant-loop-m g l = (l.initial.m + l.initial.p ≤ l.m + l.p) × (1 ≤ l.p) × (l.p ≤ l.m) × (l.m ≤ l.n) × ((t : List ℕ) → Upto (g.S.Symbol.numbers l.part) t l.initial.table l.initial.m l.initial.p → Upto (g.S.Symbol.numbers l.part) t l.table l.m l.p)

abbrev pub decreases-loop-m : goal.decreases-loop-m
decreases-loop-m g l = l.n + l.n + 1 - (l.m + l.p)

abbrev pub invariant-outer : goal.invariant-outer
invariant-outer g l = (1 ≤ l.p) × (l.p ≤ l.m) × (l.m ≤ l.n) × Upto (g.S.Symbol.numbers l.part) l.initial.table l.table l.m l.p

abbrev pub decreases-outer : goal.decreases-outer
decreases-outer g l = l.n + l.n + 1 - (l.m + l.p)
