-- `paths::inner::numbers_with` meets its contract: its loop keeps how many blocks are taken, that the table holds their numbers and, from there on, what it held,
-- and which runs are noted. Assumes nothing.
use mathlib.Core.Path.{◌≡◌, sym, ap, ◌∙◌}
use mathlib.Core.List.{List, ◌++◌}
use Prim.Native.Nat.{ℕ, ◌+◌, ◌≤◌, ◌<◌}
use native.Mathlib.Omega.{arith}
use lib.ListN.{length, get_or, take, drop, set}
use Rattle.periods.specs.Period.{part, smallest_period, held_period}
use Rattle.periods.specs.Width.{symbols}
use Rattle.periods.proofs.BlockUnit.{block_unit_of_block}
use Rattle.runs.specs.Number.{run_number}
use Rattle.factors.proofs.BlockByBlock.{of_blocks-length, Taken, next_block, next_number, one_more_taken}
use Rattle.repetitions.specs.Block.{Block}
use Rattle.repetitions.proofs.Blocks.{block_unit_lem}
use Rattle.paths.specs.LookUp.{Found}
use Rattle.paths.specs.Calls.{run_numbers}
use Rattle.paths.proofs.Latest.{block_latest}
use Rattle.paths.proofs.NumberLaws.{written_more, written_all}
use Rattle.paths.proofs.inner.numbers_with.Goals as goal

-- the word, the ends, and the table before and now
module _ (w ends lent table : List ℕ) (before k : ℕ) (places : length ends ≤ length lent) (taken : Taken (Block held_period 2 w) ends (length w) k before)
    (written : table ≡ take k (run_numbers w 0 ends) ++ drop k lent) where
  -- there is a place for each number
  room : length (run_numbers w 0 ends) ≤ length lent
  room = omega (arith, of_blocks-length (run_number w) 0 ends)

  abbrev end : ℕ
  end = get_or ends k 0

  -- the next piece is a block
  block : k < length ends → Block held_period 2 w before end
  block h = next_block taken h

  more : (h : k < length ends) (unit number : ℕ) → Found 2 w before end unit number
      → Taken (Block held_period 2 w) ends (length w) (k + 1) end × (set table k number ≡ take (k + 1) (run_numbers w 0 ends) ++ drop (k + 1) lent)
  more h unit number found =
      let K = block h in
      let u : unit ≡ smallest_period (part w before end) = found.is_unit ∙ block_unit_of_block 2 (part w before end) K.1 in
      let n = found.is_number (block_unit_lem held_period 2 w before end K unit u).0 ∙ block_latest held_period w before end unit K u in (
        one_more_taken taken h,
        written_more lent (run_numbers w 0 ends) room k table written _ (omega (arith, of_blocks-length (run_number w) 0 ends)) (n ∙ sym (next_number taken h (run_number w))),
      )

  all : length ends ≤ k → table ≡ run_numbers w 0 ends ++ drop (length ends) lent
  all h =
      let m = of_blocks-length (run_number w) 0 ends in
      written_all lent (run_numbers w 0 ends) room k table written (omega arith) (omega (arith, taken.within)) ∙ ap (λ (j : ℕ). run_numbers w 0 ends ++ drop j lent) m

pub loop-k-preserved : goal.loop-k-preserved
loop-k-preserved g c =
    let l = c.loop-k in
    let f = c.locate in
    let m =
    more (symbols c.args.w) c.args.ends.now c.args.table.now l.table l.look_up.before l.k c.requires.1 l.invariant.1 l.invariant.2 c.loop-k-test.true f.result.unit f.result.number (rw l.invariant.0 at f.ensures.found) in
    (f.ensures.word ∙ l.invariant.0, rw f.ensures.boundary m.0, m.1)

pub returns : goal.returns
returns g c =
    let l = c.loop-k in
    all (symbols c.args.w) c.args.ends.now c.args.table.now l.table l.look_up.before l.k c.requires.1 l.invariant.1 l.invariant.2 c.loop-k-test.false
