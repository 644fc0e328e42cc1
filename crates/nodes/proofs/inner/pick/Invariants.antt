-- `nodes::inner::pick` meets its contract: its loop keeps that the numbers of those of the first i marks that are set are counted and stored. Assumes nothing.
use mathlib.Core.Path.{◌≡◌}
use lib.ListN.{length, take}
use lib.Seq.{sets}
use Rattle.nodes.specs.Inner.{marked}
use Rattle.nodes.proofs.inner.pick.Given as goal

abbrev pub invariant-loop-i : goal.invariant-loop-i
invariant-loop-i l = (l.found ≡ length (marked 0 (take l.i l.marks))) × (l.out ≡ sets l.initial.out 0 (marked 0 (take l.i l.marks)))
