-- The line in bytes that were read, computed. Assumes nothing.
use mathlib.Core.Path.{◌≡◌, refl}
use mathlib.Core.List.{[], ◌∷◌}
use Rattle.bench.specs.Line.{line_length}

-- "up to byte 10 or the end of input, byte 10 not being a pass"
pub up_to_byte_10 : line_length (97 ∷ 97 ∷ 10 ∷ 98 ∷ []) ≡ 2
unfolding line_length
up_to_byte_10 = refl

pub up_to_the_end : line_length (97 ∷ 97 ∷ []) ≡ 2
unfolding line_length
up_to_the_end = refl

-- any other byte is a pass, byte 0 and byte 13 too
pub other_bytes_are_passes : line_length (0 ∷ 13 ∷ 10 ∷ []) ≡ 2
unfolding line_length
other_bytes_are_passes = refl
