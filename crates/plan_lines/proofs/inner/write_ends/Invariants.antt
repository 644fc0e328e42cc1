-- `plan_lines::inner::write_ends` meets its contract: before the turn for end k + 1 the first k ends are stored. Assumes nothing.
use mathlib.Core.Path.{◌≡◌}
use Prim.Native.Nat.{◌-◌}
use lib.ListN.{length, take}
use lib.Seq.{sets}
use Rattle.plan_lines.specs.Line.{fields, place_of_end}
use Rattle.plan_lines.specs.Kinds.{width_in}
use Rattle.plan_lines.proofs.inner.write_ends.Given as goal

abbrev pub invariant-loop-k : goal.invariant-loop-k
invariant-loop-k l = (length l.out ≡ length l.initial.out) × (l.out ≡ sets l.initial.out (place_of_end (width_in l.kind) 0 - 1) (fields (width_in l.kind) (take l.k l.ends)))
