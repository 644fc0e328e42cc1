-- `page_lines::inner::put_numbers` meets its contract: its loop keeps what is left to store, from the start of the next column on. Assumes nothing.
use mathlib.Core.Path.{◌≡◌, refl, ap, subst, ◌∙◌}
use mathlib.Core.List.{[]}
use Prim.Native.Nat.{ℕ, ◌+◌}
use native.Mathlib.Omega.{arith}
use lib.ListN.{get_or, drop}
use lib.Seq.{sets}
use Rattle.writers.proofs.Stores.{Left, stored, left_all, left_as, left_less, left_none}
use Rattle.page_lines.specs.Line.{widths, width_of, start_of, right_aligned, columns}
use Rattle.page_lines.proofs.Columns.{starts_are_sums, start_first, start_next, column_within, line_number_short, right_length, columns_more, columns_done}
use Rattle.page_lines.proofs.inner.put_numbers.Goals as goal

pub loop-c-init : goal.loop-c-init
loop-c-init c =
    let g = c.args in
    let ys = columns widths g.numbers.now in
    let e : g.at ≡ g.at + start_of 0 = omega (arith, start_first) in
    subst (λ (b : ℕ). Left g.out.now g.at ys g.out.now b ys) e (left_all g.out.now g.at ys ys refl)

pub put_number-requires : goal.put_number-requires
put_number-requires c =
    let i = c.loop-c.c in
    let short = line_number_short c.args.numbers.now c.requires.1 i (omega arith) in
    (omega (arith, starts_are_sums i (omega arith), column_within i), omega (arith, short))

pub loop-c-preserved : goal.loop-c-preserved
loop-c-preserved c =
    let g = c.args in
    let l = c.loop-c in
    let xs = g.numbers.now in
    let x = get_or xs l.c 0 in
    let short = line_number_short xs c.requires.1 l.c (omega arith) in
    let S = stored l.out (g.at + start_of l.c) (right_aligned (width_of l.c) x) c.put_number.new.out (g.at + start_of (l.c + 1))
    (omega (arith, start_next l.c, right_length (width_of l.c) x (omega arith)), c.put_number.ensures ∙ ap (λ (a : ℕ). sets l.out (g.at + a) (right_aligned (width_of l.c) x)) (starts_are_sums l.c (omega arith))) in
    left_less (columns (drop (l.c + 1) widths) (drop (l.c + 1) xs)) (left_as _ (columns_more widths xs l.c (omega arith) (omega arith)) l.invariant) S

pub returns : goal.returns
returns c =
    let l = c.loop-c in
    (left_none (left_as [] (columns_done widths c.args.numbers.now l.c (omega arith)) l.invariant)).bytes
