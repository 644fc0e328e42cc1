-- `decimals::inner::read` meets its contract: what is read and the bytes that are left spell the number, if they are digits. Assumes nothing.
use mathlib.Core.Path.{◌≡◌}
use Prim.Native.Nat.{◌^◌, ◌<◌}
use lib.ListN.{drop}
use Rattle.decimals.specs.Decimal.{field}
use Rattle.decimals.specs.Read.{number_in}
use Rattle.decimals.proofs.Loops.{spelled_in}
use Rattle.decimals.proofs.inner.read.Given as goal

abbrev pub invariant-loop-b : goal.invariant-loop-b
invariant-loop-b l = (l.x < 10 ^ l.b-index) × (number_in (field l.s l.at l.width) ≡ spelled_in l.x (drop l.b-index l.bytes))
