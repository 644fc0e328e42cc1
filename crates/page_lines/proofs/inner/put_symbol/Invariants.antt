-- `page_lines::inner::put_symbol` meets its contract: with the digits that are still to be stored, those of the quotient that is left, the bytes are what they shall
-- be. Assumes nothing.
use Rattle.std.proofs.Common.{◌≡◌}
use Rattle.std.proofs.lemmas.List.Edits.{sets}
use Rattle.page_lines.specs.Line.{hex_digits}
use Rattle.page_lines.proofs.inner.put_symbol.Given as goal

abbrev pub invariant-loop-left : goal.invariant-loop-left
invariant-loop-left l = sets l.out l.at (hex_digits l.left l.rest) ≡ sets l.initial.out l.at (hex_digits l.digits l.x)
