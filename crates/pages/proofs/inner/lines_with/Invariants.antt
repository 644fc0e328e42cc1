-- `pages::inner::lines_with` meets its contract: its loop keeps how many blocks are taken, and what is left to store. Assumes nothing.
use mathlib.Core.Path.{◌≡◌}
use Prim.Native.Nat.{◌*◌, ◌≤◌}
use lib.ListN.{length, drop}
use Rattle.periods.specs.Period.{held_period}
use Rattle.periods.specs.Width.{symbols}
use Rattle.factors.specs.Factorization.{text_of_blocks}
use Rattle.factors.proofs.BlockByBlock.{Taken}
use Rattle.repetitions.specs.Block.{Block}
use Rattle.writers.proofs.Stores.{Left}
use Rattle.page_lines.specs.Line.{line_bytes}
use Rattle.pages.specs.Page.{form_in, page_line, page}
use Rattle.pages.proofs.inner.lines_with.Given as goal

abbrev pub invariant-loop-k : goal.invariant-loop-k
invariant-loop-k g l =
    let w = symbols l.w in
    let form = form_in l.w in
    let before = l.look_up.before in
    (symbols l.look_up.w ≡ w) × (l.k ≤ before) × Taken (Block held_period 2 w) l.ends (length w) l.k before
    × Left l.initial.out 0 (page form w l.ends) l.out (line_bytes * l.k) (text_of_blocks (page_line form w) l.k before (drop l.k l.ends))
