-- The symbols of a word of either width are those of the slice that it holds: of 16-bit codes (`word_of_codes`) and of bytes (`word_of_bytes`). By the definition
-- of `symbols`. Assumes nothing.
use mathlib.Core.Path.{◌≡◌, refl}
use Rattle.periods.specs.declared.word.Word.{Word}
use Rattle.periods.specs.declared.word.Word.TheVariants.{Bytes, Codes}
use Rattle.periods.specs.Width.{symbols}

pub word_of_codes : (w : Word) (s : _) → w ≡ Codes s → symbols w ≡ s.now
word_of_codes w s e = rw e refl

pub word_of_bytes : (w : Word) (s : _) → w ≡ Bytes s → symbols w ≡ s.now
word_of_bytes w s e = rw e refl
