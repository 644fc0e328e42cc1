-- Lines of a name and numbers: "Each line ends with byte 10, and its numbers have no leading zeros."
use Rattle.std.specs.Prelude.{List, [], ◌∷◌, ◌++◌, ℕ}
use Rattle.decimals.specs.Decimal.{comma, line_end, fields_after}

-- numbers, each with a comma before it
abbrev pub fields_of : List ℕ → List ℕ
fields_of xs = fields_after comma xs

-- a line
unfoldable pub line : List ℕ → List ℕ → List ℕ
line name xs = name ++ (fields_of xs ++ (line_end ∷ []))
