-- The numbers of items 3 and 10 of document 02, spelled, and columns and lines of both forms computed. Assumes nothing.
use mathlib.Core.Path.{◌≡◌, refl}
use mathlib.Core.List.{[], ◌∷◌}
use Rattle.decimals.specs.Decimal.{digits_in, digit_count}
use Rattle.page_lines.specs.Line.{widths, sum, start_of, number_columns, line_width, line_bytes, space, right_aligned, columns, symbols, unit_column, byte_form, code_form, line, greatest}

-- "The column widths are six each for number, first, last, unit, turns, rest and run, then eighteen."
pub the_widths : widths ≡ 6 ∷ 6 ∷ 6 ∷ 6 ∷ 6 ∷ 6 ∷ 6 ∷ 18 ∷ []
the_widths = refl

-- where the columns of first, of the symbols and what follows them start
pub the_starts : start_of 0 ∷ start_of 1 ∷ start_of number_columns ∷ start_of 8 ∷ [] ≡ 0 ∷ 6 ∷ 42 ∷ 60 ∷ []
unfolding sum
the_starts = refl

-- "exactly 60 characters and byte 10"
pub the_numbers : line_width ∷ line_bytes ∷ number_columns ∷ space ∷ greatest ∷ [] ≡ 60 ∷ 61 ∷ 7 ∷ 32 ∷ 99999 ∷ []
the_numbers = refl

-- "the first nine passes of the unit, two lower-case hexadecimal digits each"
pub the_byte_form : byte_form.digits ∷ byte_form.shown ∷ [] ≡ 2 ∷ 9 ∷ []
the_byte_form = refl

-- "the first four passes of the unit, four lower-case hexadecimal digits each"
pub the_code_form : code_form.digits ∷ code_form.shown ∷ [] ≡ 4 ∷ 4 ∷ []
the_code_form = refl

-- "right-aligned, filled with spaces": 8 and 99,999
pub eight_aligned : right_aligned 6 8 ≡ 32 ∷ 32 ∷ 32 ∷ 32 ∷ 32 ∷ 56 ∷ []
unfolding digits_in digit_count
eight_aligned = refl

pub greatest_aligned : right_aligned 6 99999 ≡ 32 ∷ 57 ∷ 57 ∷ 57 ∷ 57 ∷ 57 ∷ []
unfolding digits_in digit_count
greatest_aligned = refl

-- symbols 0, 9, 10 and 255: 00, 09, 0a, ff
pub symbols_shown : symbols 2 (0 ∷ 9 ∷ 10 ∷ 255 ∷ []) ≡ 48 ∷ 48 ∷ 48 ∷ 57 ∷ 48 ∷ 97 ∷ 102 ∷ 102 ∷ []
unfolding symbols digits_in
symbols_shown = refl

-- codes 255, 256, 257 and 65,535: 00ff, 0100, 0101, ffff
pub codes_shown : symbols 4 (255 ∷ 256 ∷ 257 ∷ 65535 ∷ []) ≡ 48 ∷ 48 ∷ 102 ∷ 102 ∷ 48 ∷ 49 ∷ 48 ∷ 48 ∷ 48 ∷ 49 ∷ 48 ∷ 49 ∷ 102 ∷ 102 ∷ 102 ∷ 102 ∷ []
unfolding symbols digits_in
codes_shown = refl

-- "spaces after a shorter unit": c0
pub one_symbol : unit_column byte_form.digits byte_form.shown (192 ∷ []) ≡ 99 ∷ 48 ∷ 32 ∷ 32 ∷ 32 ∷ 32 ∷ 32 ∷ 32 ∷ 32 ∷ 32 ∷ 32 ∷ 32 ∷ 32 ∷ 32 ∷ 32 ∷ 32 ∷ 32 ∷ 32 ∷ []
unfolding symbols digits_in
one_symbol = refl

-- "filled up to eighteen with spaces": 00c0
pub one_code : unit_column code_form.digits code_form.shown (192 ∷ []) ≡ 48 ∷ 48 ∷ 99 ∷ 48 ∷ 32 ∷ 32 ∷ 32 ∷ 32 ∷ 32 ∷ 32 ∷ 32 ∷ 32 ∷ 32 ∷ 32 ∷ 32 ∷ 32 ∷ 32 ∷ 32 ∷ []
unfolding symbols digits_in
one_code = refl

-- of ten symbols nine are shown, and fill the column
pub ten_symbols : unit_column byte_form.digits byte_form.shown (1 ∷ 35 ∷ 69 ∷ 103 ∷ 137 ∷ 171 ∷ 205 ∷ 239 ∷ 16 ∷ 255 ∷ [])
    ≡ 48 ∷ 49 ∷ 50 ∷ 51 ∷ 52 ∷ 53 ∷ 54 ∷ 55 ∷ 56 ∷ 57 ∷ 97 ∷ 98 ∷ 99 ∷ 100 ∷ 101 ∷ 102 ∷ 49 ∷ 48 ∷ []
unfolding symbols digits_in
ten_symbols = refl

-- of five codes four are shown, and leave two places of the column
pub five_codes : unit_column code_form.digits code_form.shown (255 ∷ 256 ∷ 257 ∷ 65535 ∷ 43981 ∷ [])
    ≡ 48 ∷ 48 ∷ 102 ∷ 102 ∷ 48 ∷ 49 ∷ 48 ∷ 48 ∷ 48 ∷ 49 ∷ 48 ∷ 49 ∷ 102 ∷ 102 ∷ 102 ∷ 102 ∷ 32 ∷ 32 ∷ []
unfolding symbols digits_in
five_codes = refl

-- a line of seven numbers of five digits and a unit of ten symbols
pub longest_line : line byte_form (99999 ∷ 99999 ∷ 99999 ∷ 99999 ∷ 99999 ∷ 99999 ∷ 99999 ∷ []) (1 ∷ 35 ∷ 69 ∷ 103 ∷ 137 ∷ 171 ∷ 205 ∷ 239 ∷ 16 ∷ 255 ∷ [])
    ≡ 32 ∷ 57 ∷ 57 ∷ 57 ∷ 57 ∷ 57 ∷ 32 ∷ 57 ∷ 57 ∷ 57 ∷ 57 ∷ 57 ∷ 32 ∷ 57 ∷ 57 ∷ 57 ∷ 57 ∷ 57 ∷ 32 ∷ 57 ∷ 57 ∷ 57 ∷ 57 ∷ 57 ∷ 32 ∷ 57 ∷ 57 ∷ 57 ∷ 57 ∷ 57 ∷ 32 ∷ 57 ∷ 57 ∷ 57 ∷ 57 ∷ 57 ∷ 32 ∷ 57 ∷ 57 ∷ 57 ∷ 57 ∷ 57 ∷ 48 ∷ 49 ∷ 50 ∷ 51 ∷ 52 ∷ 53 ∷ 54 ∷ 55 ∷ 56 ∷ 57 ∷ 97 ∷ 98 ∷ 99 ∷ 100 ∷ 101 ∷ 102 ∷ 49 ∷ 48 ∷ 10 ∷ []
unfolding line columns symbols digits_in digit_count
longest_line = refl

-- the same of 16-bit codes
pub line_of_codes : line code_form (99999 ∷ 99999 ∷ 99999 ∷ 99999 ∷ 99999 ∷ 99999 ∷ 99999 ∷ []) (255 ∷ 256 ∷ 257 ∷ 65535 ∷ 43981 ∷ [])
    ≡ 32 ∷ 57 ∷ 57 ∷ 57 ∷ 57 ∷ 57 ∷ 32 ∷ 57 ∷ 57 ∷ 57 ∷ 57 ∷ 57 ∷ 32 ∷ 57 ∷ 57 ∷ 57 ∷ 57 ∷ 57 ∷ 32 ∷ 57 ∷ 57 ∷ 57 ∷ 57 ∷ 57 ∷ 32 ∷ 57 ∷ 57 ∷ 57 ∷ 57 ∷ 57 ∷ 32 ∷ 57 ∷ 57 ∷ 57 ∷ 57 ∷ 57 ∷ 32 ∷ 57 ∷ 57 ∷ 57 ∷ 57 ∷ 57 ∷ 48 ∷ 48 ∷ 102 ∷ 102 ∷ 48 ∷ 49 ∷ 48 ∷ 48 ∷ 48 ∷ 49 ∷ 48 ∷ 49 ∷ 102 ∷ 102 ∷ 102 ∷ 102 ∷ 32 ∷ 32 ∷ 10 ∷ []
unfolding line columns symbols digits_in digit_count
line_of_codes = refl
