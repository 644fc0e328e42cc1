-- The loop of `symbols::is_square` keeps that the pairs below i agree. Assumes nothing.
use mathlib.Core.Path.{◌≡◌}
use Prim.Native.Nat.{ℕ, ◌+◌, ◌<◌}
use lib.ListN.{get_or}
use Rattle.periods.proofs.symbols.is_square.Given as goal

abbrev pub invariant-loop-i : goal.invariant-loop-i
invariant-loop-i g l =
    let s = g.S.Symbol.numbers l.part in
    (k : ℕ) → k < l.i → get_or s k 0 ≡ get_or s (k + l.half) 0
