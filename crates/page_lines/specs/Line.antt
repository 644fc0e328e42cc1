-- The line of a page: "Each block of a split becomes one line of exactly 60 characters and byte 10." How its last column shows the unit is a form, one for bytes
-- and one for 16-bit codes.
use Rattle.std.specs.Prelude.{◌≡◌, ◌≢◌, List, [], ◌∷◌, ◌++◌, ℕ, ◌+◌, ◌-◌, ◌*◌, ◌≤◌, length, get_or, take, replicate}
use Rattle.decimals.specs.Decimal.{digits_in, plain, line_end, AtMost}
use Rattle.page_lines.specs.declared.form.Form.{Form}

-- "The column widths are six each for number, first, last, unit, turns, rest and run, then eighteen."
abbrev pub widths : List ℕ
widths = 6 ∷ 6 ∷ 6 ∷ 6 ∷ 6 ∷ 6 ∷ 6 ∷ 18 ∷ []

abbrev pub width_of : ℕ → ℕ
width_of c = get_or widths c 0

unfoldable pub sum : List ℕ → ℕ
sum [] = 0
sum (x ∷ xs) = x + sum xs

-- a column starts where the ones before it end
abbrev pub start_of : ℕ → ℕ
start_of c = sum (take c widths)

-- the columns that hold numbers; the one after them shows symbols
abbrev pub number_columns : ℕ
number_columns = 7

-- "exactly 60 characters and byte 10"
abbrev pub line_width : ℕ
line_width = 60

abbrev pub line_bytes : ℕ
line_bytes = 61

-- the byte that columns are filled with
abbrev pub space : ℕ
space = 32

abbrev pub spaces : ℕ → List ℕ
spaces count = replicate count space

-- "Numbers stand right-aligned, filled with spaces."
abbrev pub right_aligned : ℕ → ℕ → List ℕ
right_aligned width x = spaces (width - length (plain x)) ++ plain x

-- numbers, each in its column
unfoldable pub columns : List ℕ → List ℕ → List ℕ
columns [] xs = []
columns (width ∷ ws) [] = []
columns (width ∷ ws) (x ∷ xs) = right_aligned width x ++ columns ws xs

-- the lower-case hexadecimal digits: 0 1 2 3 4 5 6 7 8 9 a b c d e f
abbrev pub hex_bytes : List ℕ
hex_bytes = 48 ∷ 49 ∷ 50 ∷ 51 ∷ 52 ∷ 53 ∷ 54 ∷ 55 ∷ 56 ∷ 57 ∷ 97 ∷ 98 ∷ 99 ∷ 100 ∷ 101 ∷ 102 ∷ []

abbrev pub hex_byte : ℕ → ℕ
hex_byte d = get_or hex_bytes d 0

abbrev pub hex_digits : ℕ → ℕ → List ℕ
hex_digits k x = digits_in 16 hex_byte k x

-- symbols, so many digits each
unfoldable pub symbols : ℕ → List ℕ → List ℕ
symbols k [] = []
symbols k (x ∷ xs) = hex_digits k x ++ symbols k xs

-- "spaces after a shorter unit", "filled up to eighteen with spaces"
abbrev pub left_aligned : ℕ → List ℕ → List ℕ
left_aligned width s = s ++ spaces (width - length s)

-- the last column, of a unit whose symbols have so many digits each and of which so many are shown
abbrev pub unit_column : ℕ → ℕ → List ℕ → List ℕ
unit_column k shown unit = left_aligned (width_of number_columns) (symbols k (take shown unit))

-- "The last column shows the first nine passes of the unit, two lower-case hexadecimal digits each, spaces after a shorter unit."
abbrev pub byte_form : Form
byte_form = record { digits = 2; shown = 9 }

-- "A page of 16-bit codes shows the first four passes of the unit, four lower-case hexadecimal digits each, filled up to eighteen with spaces; byte pages keep
-- their form."
abbrev pub code_form : Form
code_form = record { digits = 4; shown = 4 }

-- the symbols that are shown have room in the last column
abbrev pub Fits : Form → Type 0
Fits form = form.digits * form.shown ≤ width_of number_columns

-- the line of the numbers of a block and its unit
unfoldable pub line : Form → List ℕ → List ℕ → List ℕ
line form numbers unit = columns widths numbers ++ (unit_column form.digits form.shown unit ++ (line_end ∷ []))

-- byte 10 is not among the bytes
abbrev pub NoEnd : List ℕ → Type 0
NoEnd [] = Unit {0}
NoEnd (b ∷ bs) = (b ≢ line_end) × NoEnd bs

-- bytes that are one line of exactly 60 characters and byte 10, which stands nowhere else
pub record OneLine (s : List ℕ) : Type 0 where
  pub characters : List ℕ
  pub wide : length characters ≡ line_width
  pub unended : NoEnd characters
  pub is : s ≡ characters ++ (line_end ∷ [])

-- the greatest number that a page may hold; it has a space before it in its column
abbrev pub greatest : ℕ
greatest = 99999

-- the numbers of a line: one for each of their columns
abbrev pub LineNumbers : List ℕ → Type 0
LineNumbers xs = (length xs ≡ number_columns) × AtMost greatest xs
