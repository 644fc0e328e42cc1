-- `symbols::block_unit` meets its contract: the symbols are told apart as their numbers, so the first candidate of which every pair agrees is the smallest
-- period. Assumes nothing.
use mathlib.Core.Path.{◌≡◌, refl, sym, ap, ◌∙◌}
use mathlib.Core.Bool.{Bool, true, false, ◌&&◌}
use mathlib.Core.List.{List}
use Prim.Native.Nat.{ℕ, suc, ◌+◌, ◌-◌, ◌*◌, ◌<◌, ◌≤◌}
use native.Mathlib.Omega.{arith}
use native.Mathlib.Decide.{dec_lt}
use native.Mathlib.Nat.{mul-le-mul_right}
use borrow.Author.Count.{below_more}
use lib.Dec.{leb}
use lib.ListN.{length, get_or}
use Rattle.periods.specs.Period.{Period, SmallestPeriod, unit_memory, block_of?}
use Rattle.periods.specs.Edition.{Turns, turns_in}
use Rattle.periods.proofs.Pairs.{pair_not_unequal, pair_unequal}
use Rattle.periods.proofs.Editions.{turns_in_range}
use Rattle.periods.proofs.BlockUnit.{block_of_means, block_unit_found, block_unit-none}
use Rattle.periods.proofs.symbols.block_unit.Goals as goal

-- the first number of which every pair agrees is the smallest period
first_is_smallest : (s : List ℕ) (p : ℕ) → 1 ≤ p → p ≤ length s → ((i : ℕ) → i < length s - p → get_or s i 0 ≡ get_or s (i + p) 0) → ((q : ℕ) → q < p → Period s q → ⊥) → SmallestPeriod s p
first_is_smallest s p a b same none = record { period = record { positive = a; fits = b; same = λ i l. same i (omega arith) }; least = λ q Q. least q Q (dec_lt q p) }
  where
    least : (q : ℕ) → Period s q → Dec (q < p) → p ≤ q
    least q Q (yes l) = absurd (none q l Q)
    least q Q (no l) = omega arith

-- a candidate that passed the test stands in the part twice at least, so that it leaves a pair
leaves_pair : (k n p : ℕ) → Turns k → true ≡ block_of? k n p → 1 ≤ p → p < n
leaves_pair k n p h e a = omega (arith, a, (block_of_means k n p (sym e)).0, mul-le-mul_right p h.0)

-- what memory does not hold is no unit of a block
too_long : (k n : ℕ) → block_of? k n (suc unit_memory) ≡ false
too_long k n = go (leb (k * suc unit_memory) n)
  where
    go : (b : Bool) → b && false ≡ false
    go true = refl
    go false = refl

-- the pair at place 0 has the number at place p second
pair_at_start : (s : List ℕ) (p : ℕ) → get_or s (0 + p) 0 ≡ get_or s p 0
pair_at_start s p = ap (λ (k : ℕ). get_or s k 0) {x = 0 + p} {y = p} (omega arith)

-- a pair p apart differs, so that p is no period
pub outer-preserved : goal.outer-preserved
outer-preserved g c =
    let long = g.met.S.Symbol.as_many c.args.part.now in
    let i : ℕ = c.loop-i.i in
    let p : ℕ = c.outer.p in
    let told = g.met.S.Symbol.told_apart c.args.part.now i (i + p) _ _ (omega arith) (omega arith) c.index-part-i.is c.index-part-i-in-loop-i.is in
    below_more _ _ c.outer.invariant (λ Q. pair_unequal _ _ _ told c.if-ne-2.ensures (Q.same i (omega arith)))

pub outer-preserved-then-ne : goal.outer-preserved-then-ne
outer-preserved-then-ne g c =
    let long = g.met.S.Symbol.as_many c.args.part.now in
    let p : ℕ = c.outer.p in
    let room = leaves_pair _ _ _ (turns_in_range c.args.edition) c.if-not-is_block.ensures (omega arith) in
    let told = g.met.S.Symbol.told_apart c.args.part.now 0 p _ _ (omega arith) room c.index-part-0.is c.index-part-p.is in
    below_more _ _ c.outer.invariant (λ Q. pair_unequal _ _ _ told c.if-ne.ensures (Q.same 0 (omega arith) ∙ pair_at_start _ p))

pub loop-i-init : goal.loop-i-init
loop-i-init g c = λ k h.
    let p : ℕ = c.outer.p in
    let room = leaves_pair _ _ _ (turns_in_range c.args.edition) c.if-not-is_block.ensures (omega arith) in
    let told = g.met.S.Symbol.told_apart c.args.part.now 0 p _ _ (omega arith) room c.index-part-0.is c.index-part-p.is in
    let first : k ≡ 0 = omega arith in
    rw first (pair_not_unequal _ _ _ told c.if-ne.ensures ∙ sym (pair_at_start _ p))

pub loop-i-preserved : goal.loop-i-preserved
loop-i-preserved g c =
    let i : ℕ = c.loop-i.i in
    let p : ℕ = c.outer.p in
    let told = g.met.S.Symbol.told_apart c.args.part.now i (i + p) _ _ (omega arith) (omega arith) c.index-part-i.is c.index-part-i-in-loop-i.is in
    below_more _ i c.loop-i.invariant (pair_not_unequal _ _ _ told c.if-ne-2.ensures)

pub returns-then-not-is_block : goal.returns-then-not-is_block
returns-then-not-is_block g c =
    let s : List ℕ = g.S.Symbol.numbers c.args.part.now in
    let long = g.met.S.Symbol.as_many c.args.part.now in
    let e : false ≡ block_of? (turns_in c.args.edition) (length s) c.outer.p = rw long c.if-not-is_block.ensures in
    block_unit-none _ s c.outer.p c.outer.invariant (sym e)

pub returns-in-outer : goal.returns-in-outer
returns-in-outer g c =
    let s : List ℕ = g.S.Symbol.numbers c.args.part.now in
    let long = g.met.S.Symbol.as_many c.args.part.now in
    let e : true ≡ block_of? (turns_in c.args.edition) (length s) c.outer.p = rw long c.if-not-is_block.ensures in
    let room = leaves_pair (turns_in c.args.edition) (length s) c.outer.p (turns_in_range c.args.edition) e (omega arith) in
    block_unit_found _ s _ (first_is_smallest s _ (omega arith) (omega (arith, room)) (λ k l. c.loop-i.invariant k (omega arith)) c.outer.invariant) (sym e)

pub returns : goal.returns
returns g c = block_unit-none _ (g.S.Symbol.numbers c.args.part.now) (suc unit_memory) (λ q l. c.outer.invariant q (omega arith)) (too_long (turns_in c.args.edition) _)
