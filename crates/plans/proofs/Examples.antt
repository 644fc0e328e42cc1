-- Lines of both kinds written and read, and a refusal of each number, of the definitions that the contracts of the two calls cite, computed. Assumes nothing.
use mathlib.Core.Path.{◌≡◌, refl}
use mathlib.Core.Bool.{false}
use mathlib.Core.List.{List, [], ◌∷◌, ◌++◌}
use Prim.Native.Nat.{ℕ}
use lib.ListN.{take}
use Rattle.answers.specs.Outcome.{accepted, refused}
use Rattle.decimals.specs.Decimal.{digits_in}
use Rattle.factors.specs.Verdict.{verdict}
use Rattle.plan_lines.specs.Line.{line, line?, starts_with, ends?, ends_in}
use Rattle.plans.specs.Calls.{plausible, write_outcome, write_table, read_outcome_as, read_table_as, read_outcome, read_table}
use Rattle.plan_lines.proofs.Examples.{empty_plan, two_blocks, greatest_plan, least_long, greatest_long}

-- plan,0008,0003,0002,0008 and byte 10: two ends, and three stated
abbrev wrong_count : List ℕ
wrong_count = 112 ∷ 108 ∷ 97 ∷ 110 ∷ 44 ∷ 48 ∷ 48 ∷ 48 ∷ 56 ∷ 44 ∷ 48 ∷ 48 ∷ 48 ∷ 51 ∷ 44 ∷ 48 ∷ 48 ∷ 48 ∷ 50 ∷ 44 ∷ 48 ∷ 48 ∷ 48 ∷ 56 ∷ 10 ∷ []

-- ---- writing

-- "giving the count of bytes"; exactly enough are enough
pub write_two : write_outcome 8 (2 ∷ 8 ∷ []) 25 ≡ accepted (25 ∷ [])
unfolding write_outcome plausible verdict line digits_in
write_two = refl

-- up to 4,096 in four digits, above it in six
pub write_at_line_limit : write_outcome 4096 (2048 ∷ 4096 ∷ []) 25 ≡ accepted (25 ∷ [])
unfolding write_outcome plausible verdict line digits_in
write_at_line_limit = refl

pub write_least_long : write_outcome 4097 (4097 ∷ []) 26 ≡ accepted (26 ∷ [])
unfolding write_outcome plausible verdict line digits_in
write_least_long = refl

pub write_greatest_long : write_outcome 70000 (2 ∷ 70000 ∷ []) 33 ≡ accepted (33 ∷ [])
unfolding write_outcome plausible verdict line digits_in
write_greatest_long = refl

pub write_long_too_few : write_outcome 70000 (2 ∷ 70000 ∷ []) 32 ≡ refused 7 0
unfolding write_outcome plausible verdict line digits_in
write_long_too_few = refl

pub write_least_long_into : write_table 4097 (4097 ∷ []) (least_long ++ (1 ∷ [])) ≡ least_long ++ (1 ∷ [])
unfolding write_table write_outcome plausible verdict line digits_in
write_least_long_into = refl

-- only the first bytes change
pub write_none_into : write_table 0 [] (1 ∷ 1 ∷ 1 ∷ 1 ∷ 1 ∷ 1 ∷ 1 ∷ 1 ∷ 1 ∷ 1 ∷ 1 ∷ 1 ∷ 1 ∷ 1 ∷ 1 ∷ 1 ∷ 1 ∷ []) ≡ empty_plan ++ (1 ∷ 1 ∷ [])
unfolding write_table write_outcome plausible verdict line digits_in
write_none_into = refl

-- 1 comes before 3, 3 before 5, 5 before 7
pub write_too_long : write_outcome 70001 (3 ∷ 2 ∷ []) 0 ≡ refused 1 0
unfolding write_outcome plausible
write_too_long = refl

pub write_above_limit : write_outcome 70001 (70001 ∷ []) 99 ≡ refused 1 0
unfolding write_outcome plausible
write_above_limit = refl

pub write_not_rising : write_outcome 8 (2 ∷ 2 ∷ []) 0 ≡ refused 3 2
unfolding write_outcome plausible verdict
write_not_rising = refl

pub write_unfinished : write_outcome 8 (2 ∷ 7 ∷ []) 0 ≡ refused 5 0
unfolding write_outcome plausible verdict
write_unfinished = refl

pub write_too_few : write_outcome 8 (2 ∷ 8 ∷ []) 24 ≡ refused 7 0
unfolding write_outcome plausible verdict line digits_in
write_too_few = refl

pub write_refused_keeps : write_table 8 (2 ∷ 8 ∷ []) (1 ∷ 1 ∷ 1 ∷ []) ≡ 1 ∷ 1 ∷ 1 ∷ []
unfolding write_table write_outcome plausible verdict line digits_in
write_refused_keeps = refl

-- ---- reading

pub read_none : read_outcome empty_plan 0 ≡ accepted (0 ∷ 0 ∷ [])
unfolding read_outcome_as line? starts_with ends? ends_in plausible verdict
read_none = refl

pub read_two : read_outcome two_blocks 2 ≡ accepted (8 ∷ 2 ∷ [])
unfolding read_outcome_as line? starts_with ends? ends_in plausible verdict
read_two = refl

pub read_two_into : read_table two_blocks (7 ∷ 7 ∷ 7 ∷ []) ≡ 2 ∷ 8 ∷ 7 ∷ []
unfolding read_table_as read_outcome_as line? starts_with ends? ends_in plausible verdict
read_two_into = refl

-- "11: bytes that are not one plan line in the above form, or whose count of ends differs from the one stated"
pub read_nothing : read_outcome [] 2 ≡ refused 11 0
unfolding read_outcome_as line? starts_with
read_nothing = refl

pub read_cut : read_outcome (take 24 two_blocks) 2 ≡ refused 11 0
unfolding read_outcome_as line? starts_with ends?
read_cut = refl

pub read_one_more : read_outcome (two_blocks ++ (48 ∷ [])) 2 ≡ refused 11 0
unfolding read_outcome_as line? starts_with ends?
read_one_more = refl

pub read_wrong_count : read_outcome wrong_count 3 ≡ refused 11 0
unfolding read_outcome_as line? starts_with ends?
read_wrong_count = refl

-- a line of four digits with n above 4,096 is one: 1, not 11
pub read_too_long : read_outcome (line false 5000 (2 ∷ 5000 ∷ [])) 0 ≡ refused 1 0
unfolding read_outcome_as line? starts_with ends? ends_in plausible line digits_in
read_too_long = refl

pub read_not_rising : read_outcome (line false 8 (2 ∷ 2 ∷ [])) 0 ≡ refused 3 2
unfolding read_outcome_as line? starts_with ends? ends_in plausible verdict line digits_in
read_not_rising = refl

pub read_above : read_outcome (line false 8 (9 ∷ [])) 0 ≡ refused 3 1
unfolding read_outcome_as line? starts_with ends? ends_in plausible verdict line digits_in
read_above = refl

pub read_unfinished : read_outcome (line false 8 (2 ∷ 7 ∷ [])) 0 ≡ refused 5 0
unfolding read_outcome_as line? starts_with ends? ends_in plausible verdict line digits_in
read_unfinished = refl

pub read_too_few : read_outcome two_blocks 1 ≡ refused 7 0
unfolding read_outcome_as line? starts_with ends? ends_in plausible verdict
read_too_few = refl

pub read_refused_keeps : read_table two_blocks (7 ∷ []) ≡ 7 ∷ []
unfolding read_table_as read_outcome_as line? starts_with ends? ends_in plausible verdict
read_refused_keeps = refl

-- ---- long lines

pub read_at_line_limit : read_outcome greatest_plan 2 ≡ accepted (4096 ∷ 2 ∷ [])
unfolding read_outcome_as line? starts_with ends? ends_in plausible verdict
read_at_line_limit = refl

pub read_least_long : read_outcome least_long 1 ≡ accepted (4097 ∷ 1 ∷ [])
unfolding read_outcome_as line? starts_with ends? ends_in plausible verdict
read_least_long = refl

pub read_greatest_long : read_outcome greatest_long 2 ≡ accepted (70000 ∷ 2 ∷ [])
unfolding read_outcome_as line? starts_with ends? ends_in plausible verdict
read_greatest_long = refl

pub read_greatest_long_into : read_table greatest_long (7 ∷ 7 ∷ 7 ∷ []) ≡ 2 ∷ 70000 ∷ 7 ∷ []
unfolding read_table_as read_outcome_as line? starts_with ends? ends_in plausible verdict
read_greatest_long_into = refl

pub read_long_too_few : read_outcome greatest_long 1 ≡ refused 7 0
unfolding read_outcome_as line? starts_with ends? ends_in plausible verdict
read_long_too_few = refl

-- long,004096,000001,004096 and byte 10: "a long line with n of 4,096 or less is no line"
pub read_needless :
    read_outcome (108 ∷ 111 ∷ 110 ∷ 103 ∷ 44 ∷ 48 ∷ 48 ∷ 52 ∷ 48 ∷ 57 ∷ 54 ∷ 44 ∷ 48 ∷ 48 ∷ 48 ∷ 48 ∷ 48 ∷ 49 ∷ 44 ∷ 48 ∷ 48 ∷ 52 ∷ 48 ∷ 57 ∷ 54 ∷ 10 ∷ []) 1
    ≡ refused 11 0
unfolding read_outcome_as line? starts_with
read_needless = refl

-- long,004096,000001,009999 and byte 10: also with a bad end
pub read_needless_bad_end :
    read_outcome (108 ∷ 111 ∷ 110 ∷ 103 ∷ 44 ∷ 48 ∷ 48 ∷ 52 ∷ 48 ∷ 57 ∷ 54 ∷ 44 ∷ 48 ∷ 48 ∷ 48 ∷ 48 ∷ 48 ∷ 49 ∷ 44 ∷ 48 ∷ 48 ∷ 57 ∷ 57 ∷ 57 ∷ 57 ∷ 10 ∷ []) 0
    ≡ refused 11 0
unfolding read_outcome_as line? starts_with
read_needless_bad_end = refl

-- plan,4097,0001,4097 and byte 10: "a plan line with n above 4,096 still gives 1"
pub read_plan_above : read_outcome (112 ∷ 108 ∷ 97 ∷ 110 ∷ 44 ∷ 52 ∷ 48 ∷ 57 ∷ 55 ∷ 44 ∷ 48 ∷ 48 ∷ 48 ∷ 49 ∷ 44 ∷ 52 ∷ 48 ∷ 57 ∷ 55 ∷ 10 ∷ []) 1 ≡ refused 1 0
unfolding read_outcome_as line? starts_with ends? ends_in plausible
read_plan_above = refl

-- long,070001,000001,070001 and byte 10: "1 now means above 70,000 in all other calls and in a long line"
pub read_long_above :
    read_outcome (108 ∷ 111 ∷ 110 ∷ 103 ∷ 44 ∷ 48 ∷ 55 ∷ 48 ∷ 48 ∷ 48 ∷ 49 ∷ 44 ∷ 48 ∷ 48 ∷ 48 ∷ 48 ∷ 48 ∷ 49 ∷ 44 ∷ 48 ∷ 55 ∷ 48 ∷ 48 ∷ 48 ∷ 49 ∷ 10 ∷ []) 1
    ≡ refused 1 0
unfolding read_outcome_as line? starts_with ends? ends_in plausible
read_long_above = refl

-- long,04097,00001,04097 and byte 10: five digits
pub read_long_five :
    read_outcome (108 ∷ 111 ∷ 110 ∷ 103 ∷ 44 ∷ 48 ∷ 52 ∷ 48 ∷ 57 ∷ 55 ∷ 44 ∷ 48 ∷ 48 ∷ 48 ∷ 48 ∷ 49 ∷ 44 ∷ 48 ∷ 52 ∷ 48 ∷ 57 ∷ 55 ∷ 10 ∷ []) 1
    ≡ refused 11 0
unfolding read_outcome_as line? starts_with
read_long_five = refl

-- long,4097,0001,4097 and byte 10: four digits
pub read_long_four : read_outcome (108 ∷ 111 ∷ 110 ∷ 103 ∷ 44 ∷ 52 ∷ 48 ∷ 57 ∷ 55 ∷ 44 ∷ 48 ∷ 48 ∷ 48 ∷ 49 ∷ 44 ∷ 52 ∷ 48 ∷ 57 ∷ 55 ∷ 10 ∷ []) 1 ≡ refused 11 0
unfolding read_outcome_as line? starts_with
read_long_four = refl

-- plan,000008,000001,000008 and byte 10: six digits
pub read_plan_six :
    read_outcome (112 ∷ 108 ∷ 97 ∷ 110 ∷ 44 ∷ 48 ∷ 48 ∷ 48 ∷ 48 ∷ 48 ∷ 56 ∷ 44 ∷ 48 ∷ 48 ∷ 48 ∷ 48 ∷ 48 ∷ 49 ∷ 44 ∷ 48 ∷ 48 ∷ 48 ∷ 48 ∷ 48 ∷ 56 ∷ 10 ∷ []) 1
    ≡ refused 11 0
unfolding read_outcome_as line? starts_with
read_plan_six = refl
