-- Lines of both kinds, and what is read off them, computed. Assumes nothing.
use mathlib.Core.Path.{◌≡◌, refl}
use mathlib.Core.Bool.{true, false}
use mathlib.Core.List.{List, [], ◌∷◌}
use Prim.Native.Nat.{ℕ}
use lib.ListN.{length}
use Rattle.decimals.specs.Decimal.{digits_in}
use Rattle.plan_lines.specs.Line.{prefix_of, width_of, line_limit, greatest, line, plan_line, line?, long?, starts_with, ends?, ends_in, number_at, place_of_length, place_of_count, shortest, step}

-- plan,0000,0000 and byte 10
abbrev pub empty_plan : List ℕ
empty_plan = 112 ∷ 108 ∷ 97 ∷ 110 ∷ 44 ∷ 48 ∷ 48 ∷ 48 ∷ 48 ∷ 44 ∷ 48 ∷ 48 ∷ 48 ∷ 48 ∷ 10 ∷ []

-- plan,0008,0002,0002,0008 and byte 10
abbrev pub two_blocks : List ℕ
two_blocks = 112 ∷ 108 ∷ 97 ∷ 110 ∷ 44 ∷ 48 ∷ 48 ∷ 48 ∷ 56 ∷ 44 ∷ 48 ∷ 48 ∷ 48 ∷ 50 ∷ 44 ∷ 48 ∷ 48 ∷ 48 ∷ 50 ∷ 44 ∷ 48 ∷ 48 ∷ 48 ∷ 56 ∷ 10 ∷ []

-- plan,4096,0002,2048,4096 and byte 10
abbrev pub greatest_plan : List ℕ
greatest_plan = 112 ∷ 108 ∷ 97 ∷ 110 ∷ 44 ∷ 52 ∷ 48 ∷ 57 ∷ 54 ∷ 44 ∷ 48 ∷ 48 ∷ 48 ∷ 50 ∷ 44 ∷ 50 ∷ 48 ∷ 52 ∷ 56 ∷ 44 ∷ 52 ∷ 48 ∷ 57 ∷ 54 ∷ 10 ∷ []

-- long,004097,000001,004097 and byte 10
abbrev pub least_long : List ℕ
least_long =
    108 ∷ 111 ∷ 110 ∷ 103 ∷ 44 ∷ 48 ∷ 48 ∷ 52 ∷ 48 ∷ 57 ∷ 55 ∷ 44 ∷ 48 ∷ 48 ∷ 48 ∷ 48 ∷ 48 ∷ 49 ∷ 44 ∷ 48 ∷ 48 ∷ 52 ∷ 48 ∷ 57 ∷ 55 ∷ 10 ∷ []

-- long,070000,000002,000002,070000 and byte 10
abbrev pub greatest_long : List ℕ
greatest_long =
    108 ∷ 111 ∷ 110 ∷ 103 ∷ 44 ∷ 48 ∷ 55 ∷ 48 ∷ 48 ∷ 48 ∷ 48 ∷ 44 ∷ 48 ∷ 48 ∷ 48 ∷ 48 ∷ 48 ∷ 50 ∷ 44 ∷ 48 ∷ 48 ∷ 48 ∷ 48 ∷ 48 ∷ 50 ∷ 44 ∷ 48 ∷ 55 ∷ 48 ∷ 48 ∷ 48 ∷ 48 ∷ 10 ∷ []

-- ---- the line of a plan

pub line_of_none : plan_line 0 [] ≡ empty_plan
unfolding line digits_in
line_of_none = refl

pub line_of_two : plan_line 8 (2 ∷ 8 ∷ []) ≡ two_blocks
unfolding line digits_in
line_of_two = refl

-- up to 4,096 four digits, and above it six
pub line_at_limit : plan_line 4096 (2048 ∷ 4096 ∷ []) ≡ greatest_plan
unfolding line digits_in
line_at_limit = refl

pub line_above_limit : plan_line 4097 (4097 ∷ []) ≡ least_long
unfolding line digits_in
line_above_limit = refl

pub line_of_greatest : plan_line 70000 (2 ∷ 70000 ∷ []) ≡ greatest_long
unfolding line digits_in
line_of_greatest = refl

pub length_of_greatest : length greatest_long ≡ 33
length_of_greatest = refl

-- the widths, and what goes by them: 15 bytes and 5 for each end, or 19 and 7
pub of_plan : width_of false ∷ greatest (width_of false) ∷ shortest (width_of false) ∷ step (width_of false) ∷ place_of_count (width_of false) ∷ line_limit ∷ [] ≡ 4 ∷ 9999 ∷ 15 ∷ 5 ∷ 10 ∷ 4096 ∷ []
of_plan = refl

pub of_long : width_of true ∷ greatest (width_of true) ∷ shortest (width_of true) ∷ step (width_of true) ∷ place_of_count (width_of true) ∷ [] ≡ 6 ∷ 999999 ∷ 19 ∷ 7 ∷ 12 ∷ []
of_long = refl

-- ---- what is read off it

pub starts_with_plan : starts_with (prefix_of false) two_blocks ≡ true
unfolding starts_with
starts_with_plan = refl

pub two_is_plan : long? two_blocks ≡ false
unfolding starts_with
two_is_plan = refl

pub greatest_is_long : long? greatest_long ≡ true
unfolding starts_with
greatest_is_long = refl

pub two_is_line : line? false two_blocks ≡ true
unfolding line? starts_with ends?
two_is_line = refl

pub greatest_is_line : line? true greatest_long ≡ true
unfolding line? starts_with ends?
greatest_is_line = refl

pub numbers_of_two : number_at 4 two_blocks place_of_length ∷ number_at 4 two_blocks 10 ∷ ends_in 4 two_blocks 2 ≡ 8 ∷ 2 ∷ 2 ∷ 8 ∷ []
unfolding ends_in
numbers_of_two = refl

pub numbers_of-greatest : number_at 6 greatest_long place_of_length ∷ number_at 6 greatest_long 12 ∷ ends_in 6 greatest_long 2 ≡ 70000 ∷ 2 ∷ 2 ∷ 70000 ∷ []
unfolding ends_in
numbers_of-greatest = refl
