-- The columns of a line and what stands in them: each column starts where the one before it ends and together they take 60 places; a number below 100,000 is
-- shorter than its column, so it fills it with its spaces; one more number, one more symbol, and one digit of a symbol. By computing the table, and by induction
-- on the lists. Assumes nothing.
use mathlib.Core.Path.{◌≡◌, refl, sym, ap, ap₂, ◌∙◌}
use mathlib.Core.List.{List, [], ◌∷◌, ◌++◌, append_assoc}
use Prim.Native.Nat.{ℕ, zero, suc, ◌+◌, ◌-◌, ◌*◌, ◌/◌, ◌%◌, ◌≤◌, ◌<◌}
use native.Mathlib.Omega.{arith}
use native.Mathlib.Decide.{dec_lt}
use native.Mathlib.Nat.{mul-suc, pow-le-pow_right}
use native.Mathlib.Numerals.{add-one}
use borrow.Rule.Slice.PartMut.{put_mid, Post-is}
use lib.ListN.{length, get_or, set, take, drop, length-append, length-take, length-drop, length-replicate, drop_of_length-le}
use Rattle.std.proofs.lemmas.List.Edits.{sets-eq}
use lib.Seq.{sets, set_comm, drop-cons, take-nil}
use Rattle.laws.proofs.Stores.{sets-append}
use Rattle.decimals.specs.Decimal.{digits_in, digits, digit_count, plain}
use Rattle.decimals.proofs.Claims.{digits-length, digits_in_length, count_one, plain-shortest}
use Rattle.decimals.proofs.Fields.{at_most_at}
use Rattle.page_lines.specs.Line.{widths, width_of, sum, start_of, number_columns, line_width, space, spaces, right_aligned, columns, hex_byte, hex_digits, symbols, greatest, LineNumbers}

-- ---- the table

-- where the columns start, as the code has it
abbrev pub starts : List ℕ
starts = 0 ∷ 6 ∷ 12 ∷ 18 ∷ 24 ∷ 30 ∷ 36 ∷ 42 ∷ []

-- CLAIM: each start is the sum of the widths before it
pub starts_are_sums : (c : ℕ) → c < length widths → get_or starts c 0 ≡ start_of c
unfolding sum
starts_are_sums zero h = refl
starts_are_sums (suc zero) h = refl
starts_are_sums (suc (suc zero)) h = refl
starts_are_sums (suc (suc (suc zero))) h = refl
starts_are_sums (suc (suc (suc (suc zero)))) h = refl
starts_are_sums (suc (suc (suc (suc (suc zero))))) h = refl
starts_are_sums (suc (suc (suc (suc (suc (suc zero)))))) h = refl
starts_are_sums (suc (suc (suc (suc (suc (suc (suc zero))))))) h = refl
starts_are_sums (suc (suc (suc (suc (suc (suc (suc (suc c)))))))) h = absurd (omega arith)

-- CLAIM: the widths sum to 60
pub widths-sum : sum widths ≡ line_width
unfolding sum
widths-sum = refl

sum_more : (ws : List ℕ) (c : ℕ) → sum (take (suc c) ws) ≡ sum (take c ws) + get_or ws c 0
unfolding sum
sum_more [] c = ap (λ (l : List ℕ). sum l + 0) (sym (take-nil c))
sum_more (x ∷ ws) zero = omega arith
sum_more (x ∷ ws) (suc c) = omega (arith, sum_more ws c)

sum-most : (ws : List ℕ) (c : ℕ) → sum (take c ws) ≤ sum ws
unfolding sum
sum-most ws zero = omega arith
sum-most [] (suc c) = omega arith
sum-most (x ∷ ws) (suc c) = omega (arith, sum-most ws c)

-- a column starts where the one before it ends
pub start_next : (c : ℕ) → start_of (c + 1) ≡ start_of c + width_of c
start_next c = ap start_of (add-one c) ∙ sum_more widths c

-- and ends within the line
pub column_within : (c : ℕ) → start_of c + width_of c ≤ line_width
column_within c = omega (arith, sum_more widths c, sum-most widths (suc c), widths-sum)

pub start_first : start_of 0 ≡ 0
unfolding sum
start_first = refl

-- the column of the symbols is the last
pub start_unit : start_of number_columns ≡ 42
unfolding sum
start_unit = refl

-- ---- numbers

number_width : (c : ℕ) → c < number_columns → width_of c ≡ 6
number_width zero h = refl
number_width (suc zero) h = refl
number_width (suc (suc zero)) h = refl
number_width (suc (suc (suc zero))) h = refl
number_width (suc (suc (suc (suc zero)))) h = refl
number_width (suc (suc (suc (suc (suc zero))))) h = refl
number_width (suc (suc (suc (suc (suc (suc zero)))))) h = refl
number_width (suc (suc (suc (suc (suc (suc (suc c))))))) h = absurd (omega arith)

-- CLAIM: a number below 100,000 is shorter than its column
pub number_short : (c x : ℕ) → c < number_columns → x ≤ greatest → length (plain x) < width_of c
number_short c x l h = rw (number_width c l) (go (dec_lt x 10))
  where
    go : Dec (x < 10) → length (plain x) < 6
    go (yes l) = omega (arith, digits-length (digit_count 9 x) x, count_one 9 x l)
    go (no l) = by (dec_lt (digit_count 9 x) 6)
      where
        by : Dec (digit_count 9 x < 6) → length (plain x) < 6
        by (yes k) = omega (arith, digits-length (digit_count 9 x) x)
        by (no k) = absurd (omega (arith, plain-shortest x (omega arith), pow-le-pow_right {n = 10} (omega arith) {i = 5} {j = digit_count 9 x - 1} (omega arith)))

pub right_length : (width x : ℕ) → length (plain x) ≤ width → length (right_aligned width x) ≡ width
right_length width x h = omega (arith, length-append (spaces (width - length (plain x))) (plain x), length-replicate (width - length (plain x)) space)

-- a part that is spaces now
pub spaces_stored : (t ys : List ℕ) (at count : ℕ) → at + count ≤ length t → ys ≡ spaces (length (take (at + count - at) (drop at t))) → put_mid at (at + count - at) t ys ≡ sets t at (spaces count)
spaces_stored t ys at count h e =
    let blank : ys ≡ spaces count = e ∙ ap spaces (omega (arith, length-take (at + count - at) (drop at t), length-drop at t)) in
    ap₂ (λ (xs zs : List ℕ). take at t ++ (xs ++ zs)) blank (Post-is at (at + count) t (omega arith))
    ∙ sym (append_assoc (take at t) (spaces count) (drop (at + count) t))
    ∙ ap (λ (n : ℕ). take at t ++ spaces count ++ drop (at + n) t) (sym (length-replicate count space))
    ∙ sym (sets-eq (spaces count) t at (omega (arith, length-replicate count space)))

-- its spaces, and then its digits
pub right_stored : (t u v : List ℕ) (at width x k : ℕ) → k ≡ digit_count 9 x → u ≡ sets t at (spaces (width - k)) → v ≡ sets u (at + (width - k)) (digits k x)
    → v ≡ sets t at (right_aligned width x)
right_stored t u v at width x k e f g =
    let d : length (plain x) ≡ k = digits-length (digit_count 9 x) x ∙ sym e in
    let s = length-replicate (width - k) space in
    g ∙ ap₂ (λ (l : List ℕ) (b : ℕ). sets l (at + b) (digits k x)) f (sym s) ∙ sym (sets-append t at (spaces (width - k)) (digits k x))
    ∙ ap₂ (λ (b j : ℕ). sets t at (spaces (width - b) ++ digits j x)) (sym d) e

columns-none : (ws : List ℕ) → columns ws [] ≡ []
unfolding columns
columns-none [] = refl
columns-none (width ∷ ws) = refl

pub columns_more : (ws xs : List ℕ) (c : ℕ) → c < length ws → c < length xs
    → columns (drop c ws) (drop c xs) ≡ right_aligned (get_or ws c 0) (get_or xs c 0) ++ columns (drop (c + 1) ws) (drop (c + 1) xs)
unfolding columns
columns_more ws xs c h k = ap₂ columns (drop-cons ws c 0 h) (drop-cons xs c 0 k) ∙ rw (add-one c) refl

pub columns_done : (ws xs : List ℕ) (c : ℕ) → length xs ≤ c → columns (drop c ws) (drop c xs) ≡ []
columns_done ws xs c h = ap (columns (drop c ws)) (drop_of_length-le xs {i = c} h) ∙ columns-none (drop c ws)

-- each number of a line is shorter than its column
pub line_number_short : (xs : List ℕ) → LineNumbers xs → (c : ℕ) → c < number_columns → length (plain (get_or xs c 0)) < width_of c
line_number_short xs N c h = number_short c (get_or xs c 0) h (at_most_at greatest xs c N.1 (omega arith))

-- ---- symbols

-- a store behind a stretch may come before it
set_behind : (t : List ℕ) (at : ℕ) (ys : List ℕ) (k y : ℕ) → at + length ys ≤ k → set (sets t at ys) k y ≡ sets (set t k y) at ys
set_behind t at [] k y h = refl
set_behind t at (x ∷ xs) k y h = set_behind (set t at x) (suc at) xs k y (omega arith) ∙ ap (λ (l : List ℕ). sets l (suc at) xs) (set_comm t at k x y (λ e. omega arith))

-- of the digits that are left the last is stored first
pub digit_stored : (t : List ℕ) (at k j x : ℕ) → k ≡ suc j → sets t at (hex_digits k x) ≡ sets (set t (at + j) (hex_byte (x % 16))) at (hex_digits j (x / 16))
unfolding digits_in
digit_stored t at k j x e =
    let high = hex_digits j (x / 16) in
    let long = digits_in_length 16 hex_byte j (x / 16) in
    ap (λ (n : ℕ). sets t at (hex_digits n x)) e
    ∙ sets-append t at high (hex_byte (x % 16) ∷ [])
    ∙ ap (λ (n : ℕ). set (sets t at high) (at + n) (hex_byte (x % 16))) long
    ∙ set_behind t at high (at + j) (hex_byte (x % 16)) (omega (arith, long))

-- no digit is left
pub digits_stored : (t : List ℕ) (at k x : ℕ) → k ≤ 0 → sets t at (hex_digits k x) ≡ t
unfolding digits_in
digits_stored t at zero x h = refl
digits_stored t at (suc k) x h = absurd (omega arith)

pub symbols-length : (k : ℕ) (xs : List ℕ) → length (symbols k xs) ≡ k * length xs
unfolding symbols
symbols-length k [] = omega arith
symbols-length k (x ∷ xs) =
    omega (arith, length-append (hex_digits k x) (symbols k xs), digits_in_length 16 hex_byte k x, symbols-length k xs, mul-suc k (length xs))

pub symbols_more : (k : ℕ) (xs : List ℕ) (i : ℕ) → i < length xs → symbols k (drop i xs) ≡ hex_digits k (get_or xs i 0) ++ symbols k (drop (i + 1) xs)
unfolding symbols
symbols_more k xs i h = ap (symbols k) (drop-cons xs i 0 h) ∙ rw (add-one i) refl

pub symbols_done : (k : ℕ) (xs : List ℕ) (i : ℕ) → length xs ≤ i → symbols k (drop i xs) ≡ []
unfolding symbols
symbols_done k xs i h = ap (symbols k) (drop_of_length-le xs {i = i} h)
