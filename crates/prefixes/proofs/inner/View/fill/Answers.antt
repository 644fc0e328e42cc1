-- `prefixes::inner::View::fill` meets its contract: its loop keeps the box, the places filled so far, and those past the part. Assumes nothing.
use mathlib.Core.Path.{◌∙◌}
use Prim.Native.Nat.{◌+◌}
use native.Mathlib.Omega.{arith}
use lib.ListN.{length}
use lib.Seq.{drop-set-lt}
use Rattle.prefixes.proofs.Boxes.{box_next, box_new, head_agree, filled_more}
use Rattle.prefixes.proofs.inner.View.fill.Goals as goal
use Rattle.prefixes.proofs.inner.View.fill.Goals.{then-r-i, else-r-i}

pub extend-k-requires : goal.extend-k-requires
extend-k-requires c =
    rw c.head.ensures (head_agree _ _ _ _ c.requires.1 _ _ _ _ (omega arith) (omega arith) c.loop-i.invariant.box c.loop-i.invariant.filled)

pub loop-i-preserved : goal.loop-i-preserved
loop-i-preserved c =
    let l = c.loop-i in
    let k = c.extend-k in record {
      box = elim c.if-r-i.branch [
        | then-r-i w ↦ rw (w.l-is, w.r-is) (box_new _ _ _ _ c.requires.1 _ _ (omega arith) k.ensures.agree)
        | else-r-i w ↦ rw (w.l-is, w.r-is) (box_next _ _ _ _ c.requires.1 _ _ _ l.invariant.box)
      ];
      filled = filled_more _ _ _ _ c.requires.1 _ _ c.args.to _ (omega arith) (omega arith) (omega arith) c.requires.4 (omega arith) k.ensures l.invariant.filled;
      past = drop-set-lt (length c.args.self.part.now + 1) l.t l.i k.result (omega arith) ∙ l.invariant.past;
    }
