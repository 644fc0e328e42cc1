-- `writers::inner::put_line` meets its contract: the name is stored, then the fields by a loop that keeps what is left of them, then the line end. Assumes
-- nothing.
use mathlib.Core.List.{[], ◌∷◌, ◌++◌}
use Prim.Native.Nat.{◌+◌}
use native.Mathlib.Omega.{arith}
use lib.ListN.{get_or, drop}
use Rattle.decimals.specs.Decimal.{comma, line_end, plain}
use Rattle.decimals.proofs.Fields.{fields_more, fields_done, fields_long}
use Rattle.writers.specs.Line.{fields_of, line}
use Rattle.writers.proofs.Stores.{stored, left_all, left_as, left_less, left_none, left_last, line_is}
use Rattle.writers.proofs.inner.put_line.Goals as goal

pub put_field-next-requires : goal.put_field-next-requires
put_field-next-requires c = omega (arith, c.loop-x.invariant.place, c.put_text-next.ensures.value, fields_long comma c.args.xs.now)

pub loop-x-preserved : goal.loop-x-preserved
loop-x-preserved c =
    let g = c.args in
    let l = c.loop-x in
    let x = get_or g.xs.now l.x-index 0 in
    let e = c.put_field-next.ensures in
    let S = stored l.out l.next (comma ∷ plain x) c.put_field-next.new.out c.put_field-next.result (e.value, e.out_after) in
    left_less (fields_of (drop (l.x-index + 1) g.xs.now)) (left_as ((comma ∷ plain x) ++ fields_of (drop (l.x-index + 1) g.xs.now)) (fields_more comma g.xs.now l.x-index (omega arith)) l.invariant) S

pub put_byte-requires : goal.put_byte-requires
put_byte-requires c = omega (arith, c.loop-x.invariant.place, c.put_text-next.ensures.value, fields_long comma c.args.xs.now)

pub returns : goal.returns
returns c =
    let g = c.args in
    let l = c.loop-x in
    let name = g.name.now in
    let xs = g.xs.now in
    let t = c.put_text-next in
    let b = c.put_byte in
    let all = left_all g.out.now g.at (line name xs) (name ++ (fields_of xs ++ (line_end ∷ []))) (line_is name xs) in
    let named = left_less (fields_of xs ++ (line_end ∷ [])) all (stored g.out.now g.at name t.new.out t.result (t.ensures.value, t.ensures.out_after)) in
    let fields = left_none (left_as [] (fields_done comma xs l.x-index (omega arith)) l.invariant) in
    let done = left_last (left_less (line_end ∷ []) named fields) (stored l.out l.next (line_end ∷ []) b.new.out b.result (b.ensures.value, b.ensures.out_after)) in
    record { value = done.place; out_after = done.bytes }
