-- `pages::inner::lines_with` meets its contract: its loop keeps how many blocks are taken, and what is left to store. Assumes nothing.
use mathlib.Core.Path.{◌≡◌, ◌∙◌}
use mathlib.Core.List.{[]}
use Prim.Native.Nat.{◌+◌, ◌*◌}
use native.Mathlib.Omega.{arith}
use lib.ListN.{get_or, drop}
use Rattle.periods.specs.Period.{part, smallest_period, held_period}
use Rattle.periods.specs.Width.{symbols}
use Rattle.periods.proofs.BlockUnit.{block_unit_of_block}
use Rattle.factors.specs.Factorization.{text_of_blocks}
use Rattle.factors.proofs.BlockByBlock.{next_block, one_more_taken, text_more, text_done}
use Rattle.repetitions.specs.Block.{Block}
use Rattle.repetitions.proofs.Blocks.{block_up, block_unit_lem}
use Rattle.paths.proofs.Latest.{block_latest}
use Rattle.writers.proofs.Stores.{stored, left_as, left_less, left_none}
use Rattle.page_lines.specs.Line.{line_bytes}
use Rattle.pages.specs.Page.{form_in, page_line}
use Rattle.pages.proofs.PageClaims.{page_line-length}
use Rattle.pages.proofs.Forms.{form_in_fits}
use Rattle.pages.proofs.inner.lines_with.Goals as goal

pub write_block-requires-clause-unit_value : goal.write_block-requires-clause-unit_value
write_block-requires-clause-unit_value g c =
    let i = c.loop-k in
    let w = symbols c.args.w in
    let before = i.look_up.before in
    let end = get_or c.args.ends.now i.k 0 in
    let l = c.locate-found in
    let found = rw i.invariant.0 at l.ensures.found in
    let K : Block held_period 2 w before end = next_block i.invariant.2 c.loop-k-test.true in
    let unit : l.result.unit ≡ smallest_period (part w before end) = found.is_unit ∙ block_unit_of_block 2 (part w before end) K.1 in
    (unit, found.is_number (block_unit_lem held_period 2 w before end K l.result.unit unit).0 ∙ block_latest held_period w before end l.result.unit K unit)

pub loop-k-preserved : goal.loop-k-preserved
loop-k-preserved g c =
    let i = c.loop-k in
    let w = symbols c.args.w in
    let form = form_in c.args.w in
    let before = i.look_up.before in
    let ends = c.args.ends.now in
    let end = get_or ends i.k 0 in
    let f = c.locate-found.ensures in
    let K : Block held_period 2 w before end = next_block i.invariant.2 c.loop-k-test.true in
    let up = block_up held_period 2 w before end K in
    let long = page_line-length form (form_in_fits c.args.w) w (omega (arith, c.requires.0.0)) (i.k + 1) before end K (omega (arith, i.invariant.1)) in
    let S = stored i.out (line_bytes * i.k) (page_line form w (i.k + 1) before end) c.write_block.new.out (line_bytes * (i.k + 1)) (omega (arith, long), c.write_block.ensures) in
    rw f.boundary (
      f.word ∙ i.invariant.0,
      omega (arith, i.invariant.1),
      one_more_taken i.invariant.2 c.loop-k-test.true,
      left_less (text_of_blocks (page_line form w) (i.k + 1) end (drop (i.k + 1) ends)) (left_as _ (text_more (page_line form w) ends i.k before c.loop-k-test.true) i.invariant.3) S,
    )

pub returns : goal.returns
returns g c =
    let i = c.loop-k in
    (left_none (left_as [] (text_done (page_line (form_in c.args.w) (symbols c.args.w)) c.args.ends.now i.k i.look_up.before c.loop-k-test.false) i.invariant.3)).bytes
