-- `symbols::is_square` meets its contract: the symbols are told apart as their numbers, and at the loop's end half the length is a period. Assumes nothing.
use mathlib.Core.Path.{sym}
use mathlib.Core.List.{List}
use Prim.Native.Nat.{ℕ, ◌+◌, ◌/◌}
use native.Mathlib.Omega.{arith}
use borrow.Author.Count.{below_more}
use lib.ListN.{length}
use Rattle.laws.proofs.Tests.{T_true}
use Rattle.periods.proofs.Pairs.{pair_not_unequal, pair_unequal}
use Rattle.periods.proofs.Squares.{square_even, square_filled, half_period, period_half, square_complete, not_square}
use Rattle.periods.proofs.symbols.is_square.Goals as goal
use Rattle.periods.proofs.symbols.is_square.Goals.{then-n-eq0-via-then-n-eq0, then-n-eq0-via-else-n-eq0+then-n-ne0}

pub returns-then-n-eq0 : goal.returns-then-n-eq0
returns-then-n-eq0 g c =
    let s : List ℕ = g.S.Symbol.numbers c.args.part.now in
    let long = g.met.S.Symbol.as_many c.args.part.now in
    not_square s (λ S. elim c.then-n-eq0.branch [
      | then-n-eq0-via-then-n-eq0 w ↦ omega (arith, long, square_filled s S)
      | then-n-eq0-via-else-n-eq0+then-n-ne0 w ↦ omega (arith, long, square_even s S)
    ])

pub returns-then-ne : goal.returns-then-ne
returns-then-ne g c =
    let s : List ℕ = g.S.Symbol.numbers c.args.part.now in
    let long = g.met.S.Symbol.as_many c.args.part.now in
    let i : ℕ = c.loop-i.i in
    let told = g.met.S.Symbol.told_apart c.args.part.now i (i + length c.args.part.now / 2) _ _ (omega arith) (omega arith) c.index-part-i.is c.index-part-i-in-loop-i.is in
    not_square s (λ S. pair_unequal _ _ _ told c.if-ne.ensures ((half_period s _ S (omega arith)).same i (omega arith)))

pub loop-i-preserved : goal.loop-i-preserved
loop-i-preserved g c =
    let i : ℕ = c.loop-i.i in
    let told = g.met.S.Symbol.told_apart c.args.part.now i (i + length c.args.part.now / 2) _ _ (omega arith) (omega arith) c.index-part-i.is c.index-part-i-in-loop-i.is in
    below_more _ i c.loop-i.invariant (pair_not_unequal _ _ _ told c.if-ne.ensures)

pub returns : goal.returns
returns g c =
    let s : List ℕ = g.S.Symbol.numbers c.args.part.now in
    let long = g.met.S.Symbol.as_many c.args.part.now in
    sym (T_true _ (square_complete s (period_half s _ (record { positive = omega arith; fits = omega arith; same = λ k l. c.loop-i.invariant k (omega arith) }) (omega arith))))
