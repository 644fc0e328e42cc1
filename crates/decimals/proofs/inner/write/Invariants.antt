-- `decimals::inner::write` meets its contract: before each turn the first i digits stand, and read as the number made so far. Assumes nothing.
use mathlib.Core.Path.{◌≡◌}
use mathlib.Core.List.{[], ◌∷◌}
use lib.ListN.{length}
use lib.Seq.{sets}
use Rattle.decimals.specs.Decimal.{digits, field, made}
use Rattle.decimals.specs.Read.{number_in}
use Rattle.decimals.proofs.inner.write.Given as goal

abbrev pub invariant-loop-i : goal.invariant-loop-i
invariant-loop-i l = (length l.out ≡ length l.initial.out) × (number_in (field l.out l.at l.i) ≡ made l.width l.i l.x ∷ []) × (l.out ≡ sets l.initial.out l.at (digits l.i (made l.width l.i l.x)))
