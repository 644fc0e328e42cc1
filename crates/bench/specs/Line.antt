-- The line in bytes that were read.
use Rattle.std.specs.Prelude.{◌≡◌, cond, List, [], ◌∷◌, ℕ, zero, suc, ◌<◌, eqb, length, take, Result, Ok, Err}
use Rattle.decimals.specs.Decimal.{line_end}
use Rattle.bench.specs.declared.Input.{Input}
use Rattle.bench.specs.declared.Input.TheVariants.{Ended, Over, Full}
use Rattle.std.specs.declared.io.Error.{Error}

-- "up to byte 10 or the end of input, byte 10 not being a pass": how many bytes stand before the first byte 10; all of them where there is none
unfoldable pub line_length : List ℕ → ℕ
line_length [] = zero
line_length (b ∷ bs) = cond (eqb b line_end) zero (suc (line_length bs))

-- what a buffer holds after reading: the line up to the first byte 10; so many bytes, none of them byte 10; nothing but such bytes; nothing is said where a
-- read failed. What the kit says of a read allows no more: which bytes came, and whether the input was over, is not to be known here.
abbrev pub Holds : List ℕ → Result Input Error → Type 0
Holds b (Ok (Ended n)) = (n < length b) × (line_length b ≡ n)
Holds b (Ok (Over n)) = (n < length b) × (line_length (take n b) ≡ n)
Holds b (Ok Full) = line_length b ≡ length b
Holds b (Err e) = Unit {0}
