-- Numbers in decimal, as bytes 48 to 57 ("0" to "9"), the highest digit first.
use Rattle.std.specs.Prelude.{Bool, true, cond, ◌&&◌, List, [], ◌∷◌, ◌++◌, ℕ, zero, suc, ◌+◌, ◌-◌, ◌*◌, ◌/◌, ◌%◌, ◌^◌, ◌≤◌, leb, ltb, take, drop}

-- the byte of the digit 0
abbrev pub zero_byte : ℕ
zero_byte = 48

-- the byte between numbers, and the byte at the end of a line
abbrev pub comma : ℕ
comma = 44

abbrev pub line_end : ℕ
line_end = 10

-- the last `width` digits of a number in a base, each as its byte
unfoldable pub digits_in : ℕ → (ℕ → ℕ) → ℕ → ℕ → List ℕ
digits_in base byte zero x = []
digits_in base byte (suc k) x = digits_in base byte k (x / base) ++ (byte (x % base) ∷ [])

-- in base ten
abbrev pub decimal_byte : ℕ → ℕ
decimal_byte d = zero_byte + d

abbrev pub digits : ℕ → ℕ → List ℕ
digits k x = digits_in 10 decimal_byte k x

-- "those made so far, read as a number, are … the whole number divided by 1,000, 100, 10 and then 1, rounded down": the number that the first `i` of the
-- `width` digits of a number read as
unfoldable pub made : ℕ → ℕ → ℕ → ℕ
made width i x = x / 10 ^ (width - i)

-- the digits that the greatest number below 2 ^ 32 has
abbrev pub most_digits : ℕ
most_digits = 10

-- how many digits a number has with no leading zeros, if it has at most `most` more than one
unfoldable pub digit_count : ℕ → ℕ → ℕ
digit_count zero x = 1
digit_count (suc most) x = cond (ltb x 10) 1 (suc (digit_count most (x / 10)))

-- a number of up to ten digits with no leading zeros
abbrev pub plain : ℕ → List ℕ
plain x = digits (digit_count 9 x) x

-- numbers with no leading zeros, the byte before each
unfoldable pub fields_after : ℕ → List ℕ → List ℕ
fields_after b [] = []
fields_after b (x ∷ xs) = b ∷ (plain x ++ fields_after b xs)

-- each number is at most m
abbrev pub AtMost : ℕ → List ℕ → Type 0
AtMost m [] = Unit {0}
AtMost m (x ∷ xs) = (x ≤ m) × AtMost m xs

-- whether a byte is a digit
abbrev pub digit? : ℕ → Bool
digit? b = leb zero_byte b && leb b (zero_byte + 9)

-- whether all of the bytes are digits
abbrev pub digits? : List ℕ → Bool
digits? [] = true
digits? (b ∷ bs) = digit? b && digits? bs

-- the number that digits spell after a number that is known
abbrev pub spelled : ℕ → List ℕ → ℕ
spelled x [] = x
spelled x (b ∷ bs) = spelled (x * 10 + (b - zero_byte)) bs

-- the number that digits spell
abbrev pub value : List ℕ → ℕ
value bs = spelled 0 bs

-- the bytes of a field of so many bytes that starts at a place
abbrev pub field : List ℕ → ℕ → ℕ → List ℕ
field s at width = take width (drop at s)
