-- A line, of any form that fits, is one line of 60 characters and byte 10, which stands nowhere else (line_is_one); each of its columns reads as its number
-- (column_reads). By induction on the lists: columns and symbols fill the places that they have, and digits and spaces are other bytes. Assumes nothing.
use mathlib.Core.Path.{◌≡◌, refl, sym, ap, ◌∙◌, subst}
use mathlib.Core.Logic.{◌≢◌}
use mathlib.Core.Bool.{Bool, true, not, ◌&&◌}
use mathlib.Core.List.{List, [], ◌∷◌, ◌++◌, append_assoc}
use Prim.Native.Nat.{ℕ, zero, suc, ◌+◌, ◌-◌, ◌*◌, ◌/◌, ◌%◌, ◌^◌, ◌≤◌, ◌<◌, min}
use native.Mathlib.Omega.{arith}
use native.Mathlib.Decide.{dec_lt}
use native.Mathlib.Nat.{mul-le-mul_left}
use borrow.Author.Tests.{eq-eqb}
use lib.Dec.{T, eqb}
use lib.ListN.{length, get_or, set, take, drop, length-append, length-take, length-replicate}
use lib.Seq.{sets, take_at, take_all, drop-append-add}
use Rattle.laws.proofs.Tests.{and_left, and_right}
use Rattle.decimals.specs.Decimal.{digits_in, digit_count, plain, digit?, digits?, value, spelled, line_end, field}
use Rattle.decimals.proofs.Claims.{digit_low, digits_are_digits, plain_value}
use Rattle.decimals.proofs.Fields.{at_most_at}
use Rattle.writers.proofs.Stores.{stored, left_all, left_less, left_last}
use Rattle.page_lines.specs.Line.{widths, width_of, sum, start_of, number_columns, line_width, line_bytes, space, spaces, right_aligned, columns, hex_bytes, hex_byte, hex_digits, symbols, left_aligned, unit_column, byte_form, code_form, Fits, line, NoEnd, OneLine, greatest, LineNumbers}
use Rattle.page_lines.specs.declared.form.Form.{Form}
use Rattle.page_lines.proofs.Columns.{start_unit, right_length, line_number_short, symbols-length}

-- ---- how long the columns are

columns-length : (ws xs : List ℕ) → ((c : ℕ) → c < length xs → length (plain (get_or xs c 0)) ≤ get_or ws c 0) → length xs ≤ length ws
    → length (columns ws xs) ≡ sum (take (length xs) ws)
unfolding columns sum
columns-length [] [] h l = refl
columns-length [] (x ∷ xs) h l = absurd (omega arith)
columns-length (width ∷ ws) [] h l = refl
columns-length (width ∷ ws) (x ∷ xs) h l =
    omega (arith, length-append (right_aligned width x) (columns ws xs), right_length width x (h 0 (omega arith)), columns-length ws xs (λ c k. h (suc c) (omega arith)) (omega arith))

module _ (numbers : List ℕ) (N : LineNumbers numbers) where
  -- each number fits
  fits : (c : ℕ) → c < length numbers → length (plain (get_or numbers c 0)) ≤ width_of c
  fits c h = omega (arith, line_number_short numbers N c (omega arith))

  numbers_length : length (columns widths numbers) ≡ start_of number_columns
  numbers_length = columns-length widths numbers fits (omega arith) ∙ ap start_of N.0

pub byte_form_fits : Fits byte_form
byte_form_fits = omega arith

pub code_form_fits : Fits code_form
code_form_fits = omega arith

-- the symbols that are shown fit into the last column
pub shown_fit : (form : Form) → Fits form → (unit : List ℕ) (k : ℕ) → k ≤ form.shown → form.digits * length (take k unit) ≤ width_of number_columns
shown_fit form F unit k h = omega (arith, mul-le-mul_left {m = length (take k unit)} {n = form.shown} form.digits (omega (arith, length-take k unit)))

-- the last column is filled up
unit_length : (form : Form) → Fits form → (unit : List ℕ) → length (unit_column form.digits form.shown unit) ≡ width_of number_columns
unit_length form F unit =
    let s = symbols form.digits (take form.shown unit) in
    omega (arith, length-append s (spaces (width_of number_columns - length s)), length-replicate (width_of number_columns - length s) space, symbols-length form.digits (take form.shown unit), shown_fit form F unit form.shown (omega arith))

pub line_is : (form : Form) (numbers unit : List ℕ) → line form numbers unit ≡ columns widths numbers ++ (unit_column form.digits form.shown unit ++ (line_end ∷ []))
unfolding line
line_is form numbers unit = refl

-- ---- stored

take_least : (k : ℕ) (l : List ℕ) → take (min (length l) k) l ≡ take k l
take_least k l = elim (dec_lt k (length l)) [ yes h ↦ ap (λ (j : ℕ). take j l) {x = min (length l) k} {y = k} (omega arith) | no h ↦ ap (λ (j : ℕ). take j l) {x = min (length l) k} {y = length l} (omega arith) ∙ take_all (length l) l (omega arith) ∙ sym (take_all k l (omega arith)) ]

-- the numbers, the symbols and the line's end, one after the other
pub line_stored : (form : Form) → Fits form → (t u v numbers unit : List ℕ) (at s k : ℕ) → LineNumbers numbers → u ≡ sets t at (columns widths numbers)
    → s ≡ start_of number_columns → k ≡ min (length unit) form.shown
    → v ≡ sets u (at + s) (left_aligned (width_of number_columns) (symbols form.digits (take k unit))) → set v (at + line_width) line_end ≡ sets t at (line form numbers unit)
line_stored form F t u v numbers unit at s k N e f h w =
    let front = columns widths numbers in
    let last = unit_column form.digits form.shown unit in
    let shown : take k unit ≡ take form.shown unit = ap (λ (j : ℕ). take j unit) h ∙ take_least form.shown unit in
    let w' : v ≡ sets u (at + start_of number_columns) last = w ∙ rw (f, shown) refl in
    let A = stored t at front u (at + start_of number_columns) (ap (λ (n : ℕ). at + n) (sym (numbers_length numbers N)), e) in
    let B = stored u (at + start_of number_columns) last v (at + line_width) (omega (arith, unit_length form F unit, start_unit), w') in
    let C = stored v (at + line_width) (line_end ∷ []) (set v (at + line_width) line_end) (at + line_bytes) (omega arith, refl) in
    (left_last (left_less (line_end ∷ []) (left_less (last ++ (line_end ∷ [])) (left_all t at (line form numbers unit) (front ++ (last ++ (line_end ∷ []))) (line_is form numbers unit)) A) B) C).bytes

-- ---- byte 10

unended_append : (xs ys : List ℕ) → NoEnd xs → NoEnd ys → NoEnd (xs ++ ys)
unended_append [] ys a b = b
unended_append (x ∷ xs) ys a b = (a.0, unended_append xs ys a.1 b)

unended_spaces : (n : ℕ) → NoEnd (spaces n)
unended_spaces zero = tt
unended_spaces (suc n) = (λ e. omega arith, unended_spaces n)

unended_digits : (bs : List ℕ) → T (digits? bs) → NoEnd bs
unended_digits [] h = tt
unended_digits (b ∷ bs) h = (λ e. omega (arith, digit_low b (and_left (digit? b) (digits? bs) h)), unended_digits bs (and_right (digit? b) (digits? bs) h))

unended_right : (width x : ℕ) → NoEnd (right_aligned width x)
unended_right width x =
    unended_append (spaces (width - length (plain x))) (plain x) (unended_spaces (width - length (plain x))) (unended_digits (plain x) (digits_are_digits (digit_count 9 x) x))

unended_columns : (ws xs : List ℕ) → NoEnd (columns ws xs)
unfolding columns
unended_columns [] xs = tt
unended_columns (width ∷ ws) [] = tt
unended_columns (width ∷ ws) (x ∷ xs) = unended_append (right_aligned width x) (columns ws xs) (unended_right width x) (unended_columns ws xs)

-- no byte of a list, nor what is read past its end
unended_at : (bs : List ℕ) (i : ℕ) → NoEnd bs → get_or bs i 0 ≢ line_end
unended_at [] i h = λ e. omega arith
unended_at (b ∷ bs) zero h = h.0
unended_at (b ∷ bs) (suc i) h = unended_at bs i h.1

abbrev other? : List ℕ → Bool
other? [] = true
other? (b ∷ bs) = not (eqb b line_end) && other? bs

unended_tested : (bs : List ℕ) → T (other? bs) → NoEnd bs
unended_tested [] h = tt
unended_tested (b ∷ bs) h =
    (λ e. subst (λ (t : Bool). T (not t)) (eq-eqb b line_end e) (and_left (not (eqb b line_end)) (other? bs) h), unended_tested bs (and_right (not (eqb b line_end)) (other? bs) h))

unended_hex_bytes : NoEnd hex_bytes
unended_hex_bytes = unended_tested hex_bytes tt

unended_hex : (k x : ℕ) → NoEnd (hex_digits k x)
unfolding digits_in
unended_hex zero x = tt
unended_hex (suc k) x = unended_append (hex_digits k (x / 16)) (hex_byte (x % 16) ∷ []) (unended_hex k (x / 16)) (unended_at hex_bytes (x % 16) unended_hex_bytes, tt)

unended_symbols : (k : ℕ) (xs : List ℕ) → NoEnd (symbols k xs)
unfolding symbols
unended_symbols k [] = tt
unended_symbols k (x ∷ xs) = unended_append (hex_digits k x) (symbols k xs) (unended_hex k x) (unended_symbols k xs)

unended_unit : (k shown : ℕ) (unit : List ℕ) → NoEnd (unit_column k shown unit)
unended_unit k shown unit =
    let s = symbols k (take shown unit) in
    unended_append s (spaces (width_of number_columns - length s)) (unended_symbols k (take shown unit)) (unended_spaces (width_of number_columns - length s))

-- CLAIM: a line is one line of exactly 60 characters and byte 10, which stands nowhere else
pub line_is_one : (form : Form) → Fits form → (numbers unit : List ℕ) → LineNumbers numbers → OneLine (line form numbers unit)
line_is_one form F numbers unit N =
    let front = columns widths numbers in
    let last = unit_column form.digits form.shown unit in
    record {
      characters = front ++ last;
      wide = omega (arith, length-append front last, numbers_length numbers N, unit_length form F unit, start_unit);
      unended = unended_append front last (unended_columns widths numbers) (unended_unit form.digits form.shown unit);
      is = line_is form numbers unit ∙ sym (append_assoc front last (line_end ∷ []));
    }

-- so it has 61 bytes
pub line-length : (form : Form) → Fits form → (numbers unit : List ℕ) → LineNumbers numbers → length (line form numbers unit) ≡ line_bytes
line-length form F numbers unit N =
    let L = line_is_one form F numbers unit N in
    omega (arith, ap length L.is, length-append L.characters (line_end ∷ []), L.wide)

-- ---- reading a column

-- a space spells nothing: it stands below the byte of 0, and before the digits
spaces_spell : (n : ℕ) (bs : List ℕ) → spelled 0 (spaces n ++ bs) ≡ spelled 0 bs
spaces_spell zero bs = refl
spaces_spell (suc n) bs = spaces_spell n bs

-- CLAIM: a number in its column reads as the number
pub right_reads : (width x : ℕ) → x < 10 ^ 10 → value (right_aligned width x) ≡ x
right_reads width x h = spaces_spell (width - length (plain x)) (plain x) ∙ plain_value x h

column_at : (ws xs rest : List ℕ) (c : ℕ) → ((c : ℕ) → c < length xs → length (plain (get_or xs c 0)) ≤ get_or ws c 0) → c < length xs → length xs ≤ length ws
    → field (columns ws xs ++ rest) (sum (take c ws)) (get_or ws c 0) ≡ right_aligned (get_or ws c 0) (get_or xs c 0)
unfolding columns sum
column_at ws [] rest c h l m = absurd (omega arith)
column_at [] (x ∷ xs) rest c h l m = absurd (omega arith)
column_at (width ∷ ws) (x ∷ xs) rest zero h l m =
    ap (take width) (append_assoc (right_aligned width x) (columns ws xs) rest) ∙ take_at (right_aligned width x) (columns ws xs ++ rest) width (right_length width x (h 0 (omega arith)))
column_at (width ∷ ws) (x ∷ xs) rest (suc c) h l m =
    let r = right_aligned width x in
    ap (λ (s : List ℕ). take (get_or ws c 0) (drop (width + sum (take c ws)) s)) (append_assoc r (columns ws xs) rest)
    ∙ ap (λ (n : ℕ). take (get_or ws c 0) (drop (n + sum (take c ws)) (r ++ (columns ws xs ++ rest)))) (sym (right_length width x (h 0 (omega arith))))
    ∙ ap (take (get_or ws c 0)) (drop-append-add r (columns ws xs ++ rest) (sum (take c ws)))
    ∙ column_at ws xs rest c (λ d k. h (suc d) (omega arith)) (omega arith) (omega arith)

-- whatever follows the columns of the numbers
pub numbers_read : (numbers rest : List ℕ) → LineNumbers numbers → (c : ℕ) → c < number_columns → value (field (columns widths numbers ++ rest) (start_of c) (width_of c)) ≡ get_or numbers c 0
numbers_read numbers rest N c h =
    ap value (column_at widths numbers rest c (fits numbers N) (omega arith) (omega arith))
    ∙ right_reads (width_of c) (get_or numbers c 0) (omega (arith, at_most_at greatest numbers c N.1 (omega arith)))

-- CLAIM: each column of a line reads as its number
pub column_reads : (form : Form) (numbers unit : List ℕ) → LineNumbers numbers → (c : ℕ) → c < number_columns
    → value (field (line form numbers unit) (start_of c) (width_of c)) ≡ get_or numbers c 0
column_reads form numbers unit N c h =
    ap (λ (s : List ℕ). value (field s (start_of c) (width_of c))) (line_is form numbers unit)
    ∙ numbers_read numbers (unit_column form.digits form.shown unit ++ (line_end ∷ [])) N c h
