-- What the test programs print: the texts whose lengths the contracts name.
use Rattle.std.specs.Prelude.{Bool, true, false, cond, ◌&&◌, List, [], ◌∷◌, ◌++◌, ℕ, ◌-◌, leb, ltb, eqb, length, take, drop, Result, Ok, Err}
use Rattle.answers.specs.declared.Refusal.{Refusal}
use Rattle.answers.specs.Outcome.{code_of}
use Rattle.periods.specs.declared.Description.{Description}
use Rattle.decimals.specs.Decimal.{comma, line_end, plain, fields_after}

-- a byte and a number
abbrev pub byte_number : ℕ → ℕ → List ℕ
byte_number b x = b ∷ plain x

-- the number of a refusal and its index
unfoldable pub code_text : Refusal → List ℕ
code_text r = plain (code_of r).0 ++ byte_number comma (code_of r).1

-- ",accepted" and ",refused,"
abbrev pub accepted_text : List ℕ
accepted_text = 44 ∷ 97 ∷ 99 ∷ 99 ∷ 101 ∷ 112 ∷ 116 ∷ 101 ∷ 100 ∷ []

abbrev pub refused_text : List ℕ
refused_text = 44 ∷ 114 ∷ 101 ∷ 102 ∷ 117 ∷ 115 ∷ 101 ∷ 100 ∷ 44 ∷ []

abbrev pub refusal_text : Refusal → List ℕ
refusal_text r = refused_text ++ code_text r

-- an answer of one number
abbrev pub outcome_text : Result ℕ Refusal → List ℕ
outcome_text (Ok n) = accepted_text ++ byte_number comma n
outcome_text (Err r) = refusal_text r

-- ",block" and ",no block"
abbrev pub verdict_text : Bool → List ℕ
verdict_text true = 44 ∷ 98 ∷ 108 ∷ 111 ∷ 99 ∷ 107 ∷ []
verdict_text false = 44 ∷ 110 ∷ 111 ∷ 32 ∷ 98 ∷ 108 ∷ 111 ∷ 99 ∷ 107 ∷ []

-- what the part call says of a part
abbrev pub description_text : Result Description Refusal → List ℕ
description_text (Ok d) = byte_number comma d.period ++ byte_number comma d.exponent ++ byte_number comma d.remainder ++ verdict_text d.repetition
description_text (Err r) = refusal_text r

-- the longest list that is printed
abbrev pub most : ℕ
most = 65536

-- numbers, the byte before each, where they are not more
unfoldable pub numbers_shown : ℕ → List ℕ → List ℕ
numbers_shown b xs = cond (ltb most (length xs)) [] (fields_after b xs)

-- a name, a colon, and numbers, each after a space
abbrev pub list_text : List ℕ → List ℕ → List ℕ
list_text name xs = name ++ (58 ∷ numbers_shown 32 xs)

-- the same, and the line's end
abbrev pub line_text : List ℕ → List ℕ → List ℕ
line_text name xs = list_text name xs ++ (line_end ∷ [])

-- such a line of the numbers from one place up to another, where the list has them
unfoldable pub part_text : List ℕ → List ℕ → ℕ → ℕ → List ℕ
part_text name xs from to = cond (leb from to && leb to (length xs)) (line_text name (take (to - from) (drop from xs))) []

-- a byte, the line end as a backslash and an n
abbrev pub visible_byte : ℕ → List ℕ
visible_byte b = cond (eqb b line_end) (92 ∷ 110 ∷ []) (b ∷ [])

-- bytes, each so
unfoldable pub visible_bytes : List ℕ → List ℕ
visible_bytes [] = []
visible_bytes (b ∷ bs) = visible_byte b ++ visible_bytes bs
