-- What a table of cases holds: rows up to a bar, and numbers after commas.
use Rattle.std.specs.Prelude.{cond, List, [], ◌∷◌, ℕ, ◌+◌, ◌-◌, ◌*◌, ◌%◌, ltb, eqb, length, take, drop}
use Rattle.decimals.specs.Decimal.{zero_byte, comma}

-- a text from the first such byte on
unfoldable pub from_byte : ℕ → List ℕ → List ℕ
from_byte b [] = []
from_byte b (x ∷ xs) = cond (eqb x b) (x ∷ xs) (from_byte b xs)

-- the first place of a byte from a place on, or the length
abbrev pub place_of : List ℕ → ℕ → ℕ → ℕ
place_of s from b = length s - length (from_byte b (drop from s))

-- the bytes before the first comma
abbrev pub word_of : List ℕ → List ℕ
word_of row = take (place_of row 0 comma) row

-- the byte at the end of a row
abbrev pub bar : ℕ
bar = 124

-- rows with a byte more at the front of the first
abbrev pub longer : ℕ → List (List ℕ) → List (List ℕ)
longer b [] = (b ∷ []) ∷ []
longer b (row ∷ rows) = (b ∷ row) ∷ rows

-- the rows of a table; the last may end without a bar
unfoldable pub rows_in : List ℕ → List (List ℕ)
rows_in [] = []
rows_in (b ∷ bs) = cond (eqb b bar) ([] ∷ rows_in bs) (longer b (rows_in bs))

-- the number that digits spell after a number that is known, below 2 ^ 32
unfoldable pub value_from : ℕ → List ℕ → ℕ
value_from x [] = x
value_from x (b ∷ bs) =
    cond (ltb b zero_byte) x (cond (ltb (zero_byte + 9) b) x (value_from ((x * 10 + (b - zero_byte)) % 4294967296) bs))

-- the numbers after the commas
unfoldable pub values_in : List ℕ → List ℕ
values_in [] = []
values_in (b ∷ bs) = cond (eqb b comma) (value_from 0 bs ∷ values_in bs) (values_in bs)
