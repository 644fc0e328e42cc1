-- `slots::inner::admit` meets its contract: one more number is added behind those that were, within the four rows. Assumes nothing.
use mathlib.Core.Path.{◌∙◌}
use native.Mathlib.Omega.{arith}
use Prim.Native.Nat.{◌+◌, ◌-◌, ◌*◌}
use lib.Seq.{drop-set-lt}
use Rattle.std.proofs.Common.{rules}
use Rattle.factors.specs.Table.{rows}
use Rattle.slots.specs.Ready.{list_row}
use Rattle.slots.proofs.inner.admit.Goals as goal

pub loop-i-preserved : goal.loop-i-preserved
loop-i-preserved c =
    let l = c.loop-i in
    record {
      begun = search rules;
      added = record {
        long = search rules;
        old = search rules;
        new = search rules;
        rest = drop-set-lt (rows * (c.args.n + 1)) l.work (list_row c.args.n + c.args.lives + (l.i - c.args.next)) l.i (omega arith) ∙ l.invariant.added.rest;
      };
    }
