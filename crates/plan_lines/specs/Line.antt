-- The plan line: "It begins with the five bytes plan and a comma, then n, the number of blocks and each end, each number in exactly four digits, parted by
-- commas, then byte 10." And the long line: "above 4,096 passes the line begins with long and a comma and has six digits a number". The kind of a line is
-- whether it is a long one; the bytes that it begins with and the digits of a number go by its kind, and all else by those.
use Rattle.std.specs.Prelude.{◌≡◌, Bool, true, false, not, ◌&&◌, List, [], ◌∷◌, ◌++◌, ℕ, zero, suc, ◌+◌, ◌-◌, ◌*◌, ◌^◌, ◌≤◌, ◌<◌, leb, ltb, eqb, length, get_or}
use Rattle.decimals.specs.Decimal.{comma, line_end, digits, AtMost, digits?, value, field}

-- p l a n ,
abbrev pub plan_bytes : List ℕ
plan_bytes = 112 ∷ 108 ∷ 97 ∷ 110 ∷ 44 ∷ []

-- l o n g ,
abbrev pub long_bytes : List ℕ
long_bytes = 108 ∷ 111 ∷ 110 ∷ 103 ∷ 44 ∷ []

-- the bytes that a line of a kind begins with
abbrev pub prefix_of : Bool → List ℕ
prefix_of false = plan_bytes
prefix_of true = long_bytes

-- "exactly four digits"; "six digits a number"
abbrev pub width_of : Bool → ℕ
width_of false = 4
width_of true = 6

-- the most digits that a number has
abbrev pub widest : ℕ
widest = width_of true

-- "above 4,096 passes the line begins with long"
abbrev pub line_limit : ℕ
line_limit = 4096

abbrev pub needs_long : ℕ → Bool
needs_long n = ltb line_limit n

-- the greatest number of so many digits
abbrev pub greatest : ℕ → ℕ
greatest d = 10 ^ d - 1

-- numbers of so many digits, each with a comma before it
abbrev pub fields : ℕ → List ℕ → List ℕ
fields d [] = []
fields d (x ∷ xs) = comma ∷ (digits d x ++ fields d xs)

-- the line of n and ends, of a kind
unfoldable pub line : Bool → ℕ → List ℕ → List ℕ
line long n ends = prefix_of long ++ (digits (width_of long) n ++ (fields (width_of long) (length ends ∷ ends) ++ (line_end ∷ [])))

-- "Each plan has one line"
abbrev pub plan_line : ℕ → List ℕ → List ℕ
plan_line n ends = line (needs_long n) n ends

-- each number has at most so many digits
abbrev pub Small : ℕ → List ℕ → Type 0
Small d xs = AtMost (greatest d) xs

-- the bytes are the line of n and ends, of a kind, and its numbers have at most the digits of the kind: "a long line with n of 4,096 or less is no line"
pub record IsLineOf (long : Bool) (s : List ℕ) (n : ℕ) (ends : List ℕ) : Type 0 where
  pub small_length : n ≤ greatest (width_of long)
  pub small_count : length ends ≤ greatest (width_of long)
  pub small_ends : Small (width_of long) ends
  pub needed : long ≡ true → line_limit < n
  pub is : s ≡ line long n ends

-- of one of the two kinds
abbrev pub IsLine : List ℕ → ℕ → List ℕ → Type 0
IsLine s n ends = (long : Bool) × IsLineOf long s n ends

-- ---- the same, read off the places of the bytes

-- With d digits a number, n stands at place 5, the count at place 6 + d, end number i + 1 at place 2 × d + 7 + (d + 1) × i, each after a comma; a line with k
-- ends has 2 × d + 7 + (d + 1) × k bytes.
abbrev pub place_of_length : ℕ
place_of_length = 5

abbrev pub place_of_count : ℕ → ℕ
place_of_count d = 6 + d

abbrev pub shortest : ℕ → ℕ
shortest d = 2 * d + 7

abbrev pub step : ℕ → ℕ
step d = d + 1

abbrev pub place_of_end : ℕ → ℕ → ℕ
place_of_end d i = shortest d + step d * i

abbrev pub bytes_for : ℕ → ℕ → ℕ
bytes_for d k = shortest d + step d * k

-- the number of so many digits at a place
abbrev pub number_at : ℕ → List ℕ → ℕ → ℕ
number_at d s at = value (field s at d)

-- a comma and so many digits stand before and at a place
abbrev pub field? : ℕ → List ℕ → ℕ → Bool
field? d s at = eqb (get_or s (at - 1) 0) comma && digits? (field s at d)

-- so at each of the first k ends
unfoldable pub ends? : ℕ → List ℕ → ℕ → Bool
ends? d s zero = true
ends? d s (suc k) = ends? d s k && field? d s (place_of_end d k)

unfoldable pub starts_with : List ℕ → List ℕ → Bool
starts_with [] s = true
starts_with (b ∷ bs) [] = false
starts_with (b ∷ bs) (c ∷ s) = eqb b c && starts_with bs s

-- the kind of line that the bytes begin as
abbrev pub long? : List ℕ → Bool
long? s = starts_with (prefix_of true) s

-- "the needless long line": "a long line with n of 4,096 or less is no line"
abbrev pub needless? : Bool → ℕ → Bool
needless? long n = long && leb n line_limit

-- whether the bytes are one line of a kind
unfoldable pub line? : Bool → List ℕ → Bool
line? long s =
    let d = width_of long in
    let k = number_at d s (place_of_count d) in
    starts_with (prefix_of long) s
    && (digits? (field s place_of_length d)
    && (not (needless? long (number_at d s place_of_length))
    && (field? d s (place_of_count d)
    && (eqb (length s) (bytes_for d k)
    && (ends? d s k && eqb (get_or s (length s - 1) 0) line_end)))))

-- the first k ends of a line
unfoldable pub ends_in : ℕ → List ℕ → ℕ → List ℕ
ends_in d s zero = []
ends_in d s (suc k) = ends_in d s k ++ (number_at d s (place_of_end d k) ∷ [])
