-- `show::cases::values` meets its contract: with the numbers that are still to be stored the table is what it shall be. Assumes nothing.
use mathlib.Core.Path.{◌≡◌}
use Prim.Native.Nat.{◌+◌, ◌≤◌}
use lib.ListN.{length, drop}
use lib.Seq.{sets}
use Rattle.show.specs.Cases.{values_in}
use Rattle.show.proofs.cases.values.Given as goal

abbrev pub invariant-loop-i : goal.invariant-loop-i
invariant-loop-i l = (l.k ≤ length l.t) × (length l.t ≡ length l.initial.t) × (l.k + length (values_in (drop l.i l.s)) ≡ length (values_in l.s)) × (sets l.t l.k (values_in (drop l.i l.s)) ≡ sets l.initial.t 0 (values_in l.s))
