-- Digits of numbers, computed. Assumes nothing.
use mathlib.Core.Path.{◌≡◌, refl}
use mathlib.Core.List.{[], ◌∷◌}
use Rattle.decimals.specs.Decimal.{digits_in, digits, made, digit_count, plain}
use Rattle.decimals.specs.Read.{number_in}

-- "each number in exactly four digits": 0008
pub four_digits : digits 4 8 ≡ 48 ∷ 48 ∷ 48 ∷ 56 ∷ []
unfolding digits_in
four_digits = refl

-- the digits of 4,096 as they are made: 4, 40, 409, 4,096
pub made_of_4096 : made 4 1 4096 ∷ made 4 2 4096 ∷ made 4 3 4096 ∷ made 4 4 4096 ∷ [] ≡ 4 ∷ 40 ∷ 409 ∷ 4096 ∷ []
unfolding made
made_of_4096 = refl

-- six digits, and those of the greatest number
pub made_of_70000 : made 6 1 70000 ∷ made 6 2 70000 ∷ made 6 6 70000 ∷ [] ≡ 0 ∷ 7 ∷ 70000 ∷ []
unfolding made
made_of_70000 = refl

pub made_of_greatest : made 10 1 4294967295 ∷ made 10 9 4294967295 ∷ [] ≡ 4 ∷ 429496729 ∷ []
unfolding made
made_of_greatest = refl

-- "its numbers have no leading zeros"
pub plain-zero : plain 0 ≡ 48 ∷ []
unfolding digits_in digit_count
plain-zero = refl

pub plain-greatest : plain 4294967295 ≡ 52 ∷ 50 ∷ 57 ∷ 52 ∷ 57 ∷ 54 ∷ 55 ∷ 50 ∷ 57 ∷ 53 ∷ []
unfolding digits_in digit_count
plain-greatest = refl

pub read_four : number_in (48 ∷ 48 ∷ 49 ∷ 50 ∷ []) ≡ 12 ∷ []
unfolding number_in
read_four = refl

-- a comma is no digit
pub read_comma : number_in (48 ∷ 48 ∷ 44 ∷ 50 ∷ []) ≡ []
unfolding number_in
read_comma = refl
