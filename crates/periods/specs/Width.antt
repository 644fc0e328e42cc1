-- Words of either width: "Sequences of 16-bit codes are taken beside bytes by every call that takes a sequence". Symbols are numbers in every definition and
-- law, whatever their width.
use Rattle.std.specs.Prelude.{Bool, true, false, List, ℕ}
use Rattle.periods.specs.declared.word.Word.{Word}
use Rattle.periods.specs.declared.word.Word.TheVariants.{Bytes, Codes}

-- the symbols (passes) of a word, as numbers
abbrev pub symbols : Word → List ℕ
symbols (Bytes s) = s.now
symbols (Codes s) = s.now

-- whether they are 16-bit codes
abbrev pub wide? : Word → Bool
wide? (Bytes s) = false
wide? (Codes s) = true
