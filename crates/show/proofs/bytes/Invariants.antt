-- `show::bytes` meets its contract: what is printed and what is left make the text. Assumes nothing.
use mathlib.Core.Path.{◌≡◌}
use Prim.Native.Nat.{◌+◌}
use lib.ListN.{length, drop}
use Rattle.show.specs.Text.{visible_bytes}
use Rattle.show.proofs.bytes.Given as goal

abbrev pub invariant-loop-b : goal.invariant-loop-b
invariant-loop-b g l = (l.count + length (visible_bytes (drop l.b-index l.s)) ≡ length (visible_bytes l.s))
