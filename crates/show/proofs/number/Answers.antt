-- `show::number` meets its contract: a number of up to ten digits has room in the local table, and as many bytes as it has digits are written. Assumes nothing.
use native.Mathlib.Omega.{arith}
use lib.ListN.{length-take}
use Rattle.decimals.specs.Decimal.{digit_count}
use Rattle.decimals.proofs.Claims.{digits-length}
use Rattle.decimals.proofs.Fields.{count_most, counted_fits}
use Rattle.show.proofs.number.Goals as goal

pub write-requires : goal.write-requires
write-requires g c = omega (arith, counted_fits c.args.x c.count-k.result (omega arith) c.count-k.ensures)

pub slice_bounds-digits-end : goal.slice_bounds-digits-end
slice_bounds-digits-end g c = omega (arith, c.count-k.ensures, count_most 9 c.args.x, c.write.auto.out)

pub slice_bounds-text-end : goal.slice_bounds-text-end
slice_bounds-text-end g c = omega (arith, length-take c.count-k.result c.write.new.out, c.count-k.ensures, count_most 9 c.args.x, c.write.auto.out)

pub returns : goal.returns
returns g c =
    let n = c.count-k in
    let e = digits-length (digit_count 9 c.args.x) c.args.x in
    let l = length-take n.result c.write.new.out in
    (omega (arith, n.ensures, count_most 9 c.args.x, c.write.auto.out, e, l, c.text.ensures), omega (arith, n.ensures, count_most 9 c.args.x, l, c.text.ensures))
