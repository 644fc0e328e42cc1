-- `report::inner::block_lines` meets its contract: its loop keeps that the ends that are left join up to the end of the word, and what is left to store.
-- Assumes nothing.
use mathlib.Core.Path.{◌∙◌}
use mathlib.Core.List.{[]}
use Prim.Native.Nat.{◌+◌}
use native.Mathlib.Omega.{arith}
use lib.ListN.{length, get_or, drop}
use Rattle.periods.specs.Period.{held_period}
use Rattle.factors.proofs.BlockByBlock.{next_block, one_more_taken, text_more, text_done}
use Rattle.repetitions.proofs.Blocks.{block_up, edition_half}
use Rattle.report.specs.Text.{printed_edition, printed_turns, block_line, block_lines}
use Rattle.writers.proofs.Stores.{stored, stored_length, ensured, left_as, left_less, left_none}
use Rattle.report.proofs.Lines.{block_lines_long}
use Rattle.report.proofs.inner.block_lines.Goals as goal

pub block_line-next-requires-clause-at_bound : goal.block_line-next-requires-clause-at_bound
block_line-next-requires-clause-at_bound c =
    let g = c.args in
    let l = c.loop-k in
    let p = c.requires.at_bound in
    let at = l.invariant.3.place in
    let long = block_lines_long g.w.now g.ends.now 0 0 in
    let few = edition_half printed_edition g.w.now (length g.w.now) g.ends.now p.2 in
    (omega arith, p.1, l.invariant.0, next_block l.invariant.2 (omega arith))

pub loop-k-preserved : goal.loop-k-preserved
loop-k-preserved c =
    let g = c.args in
    let l = c.loop-k in
    let w = g.w.now in
    let e = c.block_line-next.ensures in
    let end = get_or g.ends.now l.k 0 in
    let up = block_up held_period printed_turns w l.before end (next_block l.invariant.2 (omega arith)) in
    let S = stored l.out l.next (block_line w (l.k + 1) l.before end) _ _ (e.value, e.out_after) in (
      omega arith,
      stored_length S ∙ l.invariant.1,
      one_more_taken l.invariant.2 (omega arith),
      left_less (block_lines w (l.k + 1) end (drop (l.k + 1) g.ends.now)) (left_as _ (text_more (block_line w) g.ends.now l.k l.before (omega arith)) l.invariant.3) S,
    )

pub returns : goal.returns
returns c =
    let g = c.args in
    let l = c.loop-k in
    let r = ensured (left_none (left_as [] (text_done (block_line g.w.now) g.ends.now l.k l.before (omega arith)) l.invariant.3)) in
    record { value = r.0; out_after = r.1 }
