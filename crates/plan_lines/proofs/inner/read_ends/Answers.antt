-- `plan_lines::inner::read_ends` meets its contract: before the turn for end k + 1 the first k are in the table. Assumes nothing.
use mathlib.Core.Path.{refl, sym, ap, ◌∙◌, subst}
use mathlib.Core.List.{List}
use Prim.Native.Nat.{ℕ, ◌+◌, ◌≤◌}
use native.Mathlib.Omega.{arith}
use lib.Dec.{T}
use lib.ListN.{length, set, length-set}
use Rattle.decimals.specs.Decimal.{digits?, field}
use Rattle.plan_lines.specs.Line.{step, place_of_end, number_at}
use Rattle.plan_lines.proofs.Loops.{end_inside, field-digits, end_stands, read_ends_none, read_ends_more}
use Rattle.plan_lines.proofs.inner.read_ends.Goals as goal

pub loop-k-init : goal.loop-k-init
loop-k-init c = (refl, read_ends_none _ _ _)

pub number-requires : goal.number-requires
number-requires c =
    let g = c.args in
    let k = c.loop-k.k in
    let b = c.bytes_for.ensures in
    let inside : place_of_end g.width k + step g.width ≤ length g.s.now = omega (arith, end_inside g.width g.count k (omega arith), c.requires.0) in (
      omega (arith, b, inside),
      c.requires.1,
      subst (λ (at : ℕ). T (digits? (field g.s.now at g.width))) (sym b)
          (field-digits g.width g.s.now (place_of_end g.width k) (end_stands g.width g.s.now g.count k c.requires.2 (omega arith))),
    )

pub loop-k-preserved : goal.loop-k-preserved
loop-k-preserved c =
    let g = c.args in
    let l = c.loop-k in
    let e = c.number.ensures ∙ ap (number_at g.width g.s.now) c.bytes_for.ensures in (
      length-set l.table l.k c.number.result ∙ l.invariant.0,
      ap (set l.table l.k) e
          ∙ ap (λ (t : List ℕ). set t l.k (number_at g.width g.s.now (place_of_end g.width l.k))) l.invariant.1
          ∙ read_ends_more g.width g.s.now g.table.now l.k (omega arith),
    )
