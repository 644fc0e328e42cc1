-- `nodes::inner::pick` meets its contract: its loop keeps that the numbers of those of the first i marks that are set are counted and stored. Assumes nothing.
use mathlib.Core.Path.{◌≡◌, ap, ◌∙◌}
use mathlib.Core.List.{[], ◌∷◌, ◌++◌}
use Prim.Native.Nat.{◌+◌}
use native.Mathlib.Omega.{arith}
use borrow.Author.Tests.{eq-eqb, ne_eqb}
use lib.ListN.{length, get_or, take, length-append}
use Rattle.laws.proofs.Stores.{stored_next}
use Rattle.nodes.specs.Inner.{marked}
use Rattle.nodes.proofs.Marks.{marked_most, mark_skip, mark_add}
use Rattle.nodes.proofs.inner.pick.Goals.{then-mark-eq1, else-mark-eq1}
use Rattle.nodes.proofs.inner.pick.Goals as goal

-- no more are found than marks were looked at
pub overflow_add-found : goal.overflow_add-found
overflow_add-found c = omega (arith, c.loop-i.invariant.0, marked_most c.args.marks.now c.loop-i.i (omega arith))

pub loop-i-preserved : goal.loop-i-preserved
loop-i-preserved c =
    let m = c.args.marks.now in
    let l = c.loop-i in
    let N = marked 0 (take l.i m) in
    elim c.if-mark-eq1.branch [
      | then-mark-eq1 b ↦
          let e : marked 0 (take (l.i + 1) m) ≡ N ++ ((l.i + 1) ∷ []) = mark_add m l.i (omega arith) (eq-eqb (get_or m l.i 0) 1 b.if-mark-eq1.true) in (
            omega (arith, b.found-is, l.invariant.0, ap length e, length-append N ((l.i + 1) ∷ [])),
            b.out-is ∙ stored_next c.args.out.now l.out _ 0 l.found (l.i + 1) N _ l.invariant.1 (omega (arith, l.invariant.0)) b.store.ensures e,
          )
      | else-mark-eq1 b ↦
          let e = mark_skip m l.i (omega arith) (ne_eqb (get_or m l.i 0) 1 b.if-mark-eq1.false) in
          (b.found-is ∙ rw e l.invariant.0, b.out-is ∙ rw e l.invariant.1)
    ]
