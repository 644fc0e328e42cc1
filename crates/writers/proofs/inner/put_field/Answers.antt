-- `writers::inner::put_field` meets its contract: the comma is stored, and then the digits, which were written at the front of a local table. Assumes nothing.
use mathlib.Core.Path.{◌≡◌, refl, ap, ◌∙◌}
use mathlib.Core.List.{[], ◌∷◌, ◌++◌}
use Prim.Native.Nat.{ℕ}
use native.Mathlib.Omega.{arith}
use lib.ListN.{take, replicate, length-take}
use Rattle.decimals.specs.Decimal.{comma, plain, digits}
use Rattle.decimals.proofs.Fields.{count_most, counted_fits}
use Rattle.writers.proofs.Stores.{stored, stored_as, left_all, left_less, left_last, digits-front}
use Rattle.writers.proofs.inner.put_field.Goals as goal

pub write-requires : goal.write-requires
write-requires c = omega (arith, counted_fits c.args.x c.count-k.result (omega arith) c.count-k.ensures)

pub slice_bounds-digits-end : goal.slice_bounds-digits-end
slice_bounds-digits-end c = omega (arith, c.count-k.ensures, count_most 9 c.args.x)

pub slice_bounds-put_text-end : goal.slice_bounds-put_text-end
slice_bounds-put_text-end c = omega (arith, c.count-k.ensures, count_most 9 c.args.x, length-take c.count-k.result c.write.new.out)

pub returns : goal.returns
returns c =
    let g = c.args in
    let n = c.count-k in
    let d = c.write in
    let next = c.put_byte-next in
    let e : take n.result d.new.out ≡ plain g.x =
    digits-front (replicate 10 0) d.new.out n.result g.x (omega (arith, n.ensures, count_most 9 g.x)) d.ensures ∙ ap (λ (k : ℕ). digits k g.x) n.ensures in
    let begun = left_less (plain g.x) (left_all g.out.now g.at (comma ∷ plain g.x) ((comma ∷ []) ++ plain g.x) refl) (stored g.out.now g.at (comma ∷ []) _ _ (next.ensures.value, next.ensures.out_after)) in
    let all = left_last begun (stored_as (plain g.x) e (stored next.new.out next.result (take n.result d.new.out) _ _ (c.put_text.ensures.value, c.put_text.ensures.out_after))) in
    record { value = all.place; out_after = all.bytes }
