-- The documents' examples of the definitions that the contracts of this crate cite, computed. Assumes nothing.
use mathlib.Core.Path.{◌≡◌, refl, ap, ◌∙◌}
use mathlib.Core.Bool.{true, false}
use mathlib.Core.List.{List, [], ◌∷◌, map}
use Prim.Native.Nat.{ℕ, zero, suc}
use native.Mathlib.Omega.{arith}
use lib.ListN.{length, replicate, length-append}
use Rattle.std.specs.Prelude.{Ok, Err}
use Rattle.answers.specs.declared.Refusal.TheVariants.{BadEdition}
use Rattle.answers.specs.Outcome.{accepted, refused}
use Rattle.periods.specs.declared.edition.Edition.TheVariants.{First, Second}
use Rattle.periods.specs.Period.{smallest_period, repetition?, prefix_periods, unit_memory, held_period, units_table}
use Rattle.periods.specs.Square.{twice, power, Primitive, square?}
use Rattle.periods.specs.Edition.{bad_edition?, turns_of, edition_of, turns_in}
use Rattle.periods.specs.Part.{part_outcome, part_table, description}
use Rattle.periods.proofs.Squares.{power_empty}
use Rattle.periods.proofs.Words.{one_and, word_a, word_aa, word_aaa, word_aaaa, word_aaaaa, word_aabaabaa, word_ab, word_ababa, word_empty}

-- "ababa * | 5 (unit 2, turns 2, rest 1)"
pub part_of_ababa : part_outcome word_ababa 1 1 5 5 ≡ accepted (2 ∷ 2 ∷ 1 ∷ 1 ∷ [])
unfolding part_outcome description repetition? smallest_period bad_edition? turns_of
part_of_ababa = refl

-- the block of the printed text: "block,1,1,8,3,2,2,2"
pub part_of_aabaabaa : part_outcome word_aabaabaa 1 1 8 8 ≡ accepted (3 ∷ 2 ∷ 2 ∷ 1 ∷ [])
unfolding part_outcome description repetition? smallest_period bad_edition? turns_of
part_of_aabaabaa = refl

-- the single symbol has a period, itself, and is no block
pub part_of_one : part_outcome word_ababa 1 2 2 1 ≡ accepted (1 ∷ 1 ∷ 0 ∷ 0 ∷ [])
unfolding part_outcome description repetition? smallest_period bad_edition? turns_of
part_of_one = refl

-- "In edition 2 a block has length ≥ 3 × unit": ababa has two turns, aaaaa five; unit, turns and rest stay
pub part_of_ababa_in_2 : part_outcome word_ababa 2 1 5 5 ≡ accepted (2 ∷ 2 ∷ 1 ∷ 0 ∷ [])
unfolding part_outcome description repetition? smallest_period bad_edition? turns_of
part_of_ababa_in_2 = refl

pub part_of_aaaaa_in_2 : part_outcome word_aaaaa 2 1 5 5 ≡ accepted (1 ∷ 5 ∷ 0 ∷ 1 ∷ [])
unfolding part_outcome description repetition? smallest_period bad_edition? turns_of
part_of_aaaaa_in_2 = refl

-- exactly three turns are enough
pub part_of_aaa_in_2 : part_outcome word_aaa 2 1 3 3 ≡ accepted (1 ∷ 3 ∷ 0 ∷ 1 ∷ [])
unfolding part_outcome description repetition? smallest_period bad_edition? turns_of
part_of_aaa_in_2 = refl

-- "edition 1 or 2", the numbers beside them, and the turns of each
pub edition_of_0 : edition_of 0 ≡ Err BadEdition
unfolding edition_of bad_edition?
edition_of_0 = refl

pub edition_of_1 : edition_of 1 ≡ Ok First
unfolding edition_of bad_edition?
edition_of_1 = refl

pub edition_of_2 : edition_of 2 ≡ Ok Second
unfolding edition_of bad_edition?
edition_of_2 = refl

pub edition_of_3 : edition_of 3 ≡ Err BadEdition
unfolding edition_of bad_edition?
edition_of_3 = refl

pub turns_in_first : turns_in First ≡ 2
turns_in_first = refl

pub turns_in_second : turns_in Second ≡ 3
turns_in_second = refl

-- "12, an edition other than 1 or 2, directly after 1": before 6 and 7
pub part_edition_0 : part_outcome word_ababa 0 0 5 0 ≡ refused 12 0
unfolding part_outcome bad_edition?
part_edition_0 = refl

pub part_edition_3 : part_outcome word_ababa 3 4 3 0 ≡ refused 12 0
unfolding part_outcome bad_edition?
part_edition_3 = refl

pub part_too_long_before_edition : part_outcome (replicate 70001 97) 3 1 1 0 ≡ refused 1 0
unfolding part_outcome
part_too_long_before_edition = refl

-- "6: first below 1, last above n or first above last"; 7 comes "after 6"
pub part_first_zero : part_outcome word_ababa 1 0 5 0 ≡ refused 6 0
unfolding part_outcome bad_edition?
part_first_zero = refl

pub part_last_above : part_outcome word_ababa 1 1 6 0 ≡ refused 6 0
unfolding part_outcome bad_edition?
part_last_above = refl

pub part_turned : part_outcome word_ababa 1 4 3 0 ≡ refused 6 0
unfolding part_outcome bad_edition?
part_turned = refl

pub part_of_empty : part_outcome [] 1 1 0 0 ≡ refused 6 0
unfolding part_outcome bad_edition?
part_of_empty = refl

-- "70,001 passes": 1 comes before 6
pub part_too_long_first : part_outcome (replicate 70001 97) 1 0 0 0 ≡ refused 1 0
unfolding part_outcome bad_edition?
part_too_long_first = refl

-- "The limit of the library becomes 70,000": so many are taken
pub part_longest : part_outcome (replicate 70000 97) 1 0 0 0 ≡ refused 6 0
unfolding part_outcome bad_edition?
part_longest = refl

-- "Taking any period as the unit: aaaa then has two paths for one split." Its unit is 1.
pub smallest_of_aaaa : smallest_period (97 ∷ 97 ∷ 97 ∷ 97 ∷ []) ≡ 1
unfolding smallest_period
smallest_of_aaaa = refl

-- a block of exactly two turns is one, and three turns are more than it has
pub twice_is_a_block : repetition? held_period 2 (97 ∷ 98 ∷ 97 ∷ 98 ∷ []) ≡ true
unfolding repetition? smallest_period
twice_is_a_block = refl

pub twice_is_not_thrice : repetition? held_period 3 (97 ∷ 98 ∷ 97 ∷ 98 ∷ []) ≡ false
unfolding repetition? smallest_period
twice_is_not_thrice = refl

-- "unit memory holds 256 passes": "a block's unit ... must be 256 or less"
pub memory_is_256 : unit_memory ≡ 256
memory_is_256 = refl

pub held_periods : map held_period (1 ∷ 255 ∷ 256 ∷ 257 ∷ 4096 ∷ []) ≡ true ∷ true ∷ true ∷ false ∷ false ∷ []
held_periods = refl

-- "One pass of code 1 and 256 of code 0, all wound twice, was a block of unit 257 in edition 1 and is one no longer"; with 255 of code 0 it is one
pub unit_of_257 : part_outcome (power 2 (one_and 256)) 1 1 514 514 ≡ accepted (257 ∷ 2 ∷ 0 ∷ 0 ∷ [])
unfolding part_outcome description repetition? smallest_period bad_edition? turns_of
unit_of_257 = refl

pub unit_of_256 : part_outcome (power 2 (one_and 255)) 1 1 512 512 ≡ accepted (256 ∷ 2 ∷ 0 ∷ 1 ∷ [])
unfolding part_outcome description repetition? smallest_period bad_edition? turns_of
unit_of_256 = refl

-- a square keeps any length
pub square_of_257 : square? (power 2 (one_and 256)) ≡ true
unfolding square?
square_of_257 = refl

-- "writes the unit of every leading part of that part but the empty one, one place for each length from 1": the other places stay
pub units_of_aabaabaa : part_table word_aabaabaa 1 1 8 (replicate 9 7) ≡ 1 ∷ 1 ∷ 3 ∷ 3 ∷ 3 ∷ 3 ∷ 3 ∷ 3 ∷ 7 ∷ []
unfolding part_table units_table prefix_periods smallest_period bad_edition?
units_of_aabaabaa = refl

pub units_of_ababa : part_table word_ababa 1 1 5 (replicate 5 7) ≡ 1 ∷ 2 ∷ 2 ∷ 2 ∷ 2 ∷ []
unfolding part_table units_table prefix_periods smallest_period bad_edition?
units_of_ababa = refl

-- of the part, not of the word: baabaa, the same in edition 2
pub units_from_3 : part_table word_aabaabaa 2 3 8 (replicate 8 7) ≡ 1 ∷ 2 ∷ 3 ∷ 3 ∷ 3 ∷ 3 ∷ 7 ∷ 7 ∷ []
unfolding part_table units_table prefix_periods smallest_period bad_edition?
units_from_3 = refl

-- a place short: 7, and the table keeps its contents
pub part_a_place_short : part_outcome word_ababa 1 1 5 4 ≡ refused 7 0
unfolding part_outcome bad_edition?
part_a_place_short = refl

pub units_a_place_short : part_table word_ababa 1 1 5 (replicate 4 7) ≡ replicate 4 7
unfolding part_table bad_edition?
units_a_place_short = refl

-- so do the other refusals
pub units_outside : part_table word_ababa 1 1 6 (replicate 6 7) ≡ replicate 6 7
unfolding part_table bad_edition?
units_outside = refl

pub units_edition_3 : part_table word_ababa 3 1 5 (replicate 5 7) ≡ replicate 5 7
unfolding part_table bad_edition?
units_edition_3 = refl

-- "Batten shops wind a unit exactly twice"
pub twice_is_2 : twice ≡ 2
twice_is_2 = refl

-- "x^k = x^(k-1) · x"
pub ab_to_2 : power 2 word_ab ≡ 97 ∷ 98 ∷ 97 ∷ 98 ∷ []
ab_to_2 = refl

pub ab_to_3 : power 3 word_ab ≡ 97 ∷ 98 ∷ 97 ∷ 98 ∷ 97 ∷ 98 ∷ []
ab_to_3 = refl

-- "primitive if there does not exist a string x and an integer k ≥ 2": a is, aa and abab are not, two times over being enough
pub a_primitive : Primitive word_a
a_primitive x (suc (suc k)) two e = go x e
  where
    go : (x : List ℕ) → word_a ≡ power (suc (suc k)) x → ⊥
    go [] e = omega (arith, ap length (e ∙ power_empty (suc (suc k))))
    go (y ∷ ys) e = omega (arith, ap length e, length-append (power (suc k) (y ∷ ys)) (y ∷ ys), length-append (power k (y ∷ ys)) (y ∷ ys))
a_primitive x (suc zero) two e = omega arith
a_primitive x zero two e = omega arith

pub aa_not_primitive : Primitive word_aa → ⊥
aa_not_primitive P = P word_a 2 (omega arith) refl

pub abab_not_primitive : Primitive (97 ∷ 98 ∷ 97 ∷ 98 ∷ []) → ⊥
abab_not_primitive P = P word_ab 2 (omega arith) refl

-- "For any non-empty string x, a repetition x^2 is called a square": aa, abab, aaaa and aabaab; "A square's half need not be primitive", as that of aaaa
pub squares : map square? (word_aa ∷ power 2 word_ab ∷ word_aaaa ∷ (97 ∷ 97 ∷ 98 ∷ 97 ∷ 97 ∷ 98 ∷ []) ∷ []) ≡ replicate 4 true
unfolding square?
squares = refl

-- the empty word, a, aba, ababa, abaab and abba are none
pub no_squares :
    map square? (word_empty ∷ word_a ∷ (97 ∷ 98 ∷ 97 ∷ []) ∷ word_ababa ∷ (97 ∷ 98 ∷ 97 ∷ 97 ∷ 98 ∷ []) ∷ (97 ∷ 98 ∷ 98 ∷ 97 ∷ []) ∷ []) ≡ replicate 6 false
unfolding square?
no_squares = refl

-- ---- 16-bit codes: every bit of a code counts

-- codes that differ only above the low byte
pub unit_of_codes : smallest_period (1 ∷ 257 ∷ 1 ∷ 257 ∷ []) ≡ 2
unfolding smallest_period
unit_of_codes = refl

pub no_square_of_codes : square? (1 ∷ 257 ∷ []) ≡ false
unfolding square?
no_square_of_codes = refl

pub part_of_codes : part_outcome (255 ∷ 256 ∷ 257 ∷ 65535 ∷ 255 ∷ 256 ∷ 257 ∷ 65535 ∷ 255 ∷ []) 1 1 9 9 ≡ accepted (4 ∷ 2 ∷ 1 ∷ 1 ∷ [])
unfolding part_outcome description repetition? smallest_period bad_edition? turns_of
part_of_codes = refl
