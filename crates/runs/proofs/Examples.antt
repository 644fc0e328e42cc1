-- Examples of the definitions that the contracts of this crate cite, document 01's among them, computed. Assumes nothing.
use mathlib.Core.Path.{◌≡◌, refl}
use mathlib.Core.List.{[], ◌∷◌}
use lib.ListN.{length, replicate}
use Rattle.answers.specs.Outcome.{accepted, refused}
use Rattle.periods.specs.Period.{smallest_period, repetition?}
use Rattle.runs.specs.Table.{run?, least_start, root_of, run_between, rows_at, rows_before, runs_of, flat}
use Rattle.runs.specs.Calls.{runs_outcome, runs_table}
use Rattle.periods.proofs.Words.{word_aa, word_aabaabaa}

-- the run from 1 to 8 with unit 3, and the three runs aa, by first and then by unit
pub runs_of_aabaabaa : flat (runs_of word_aabaabaa) ≡ 1 ∷ 2 ∷ 1 ∷ 1 ∷ 1 ∷ 8 ∷ 3 ∷ 1 ∷ 4 ∷ 5 ∷ 1 ∷ 4 ∷ 7 ∷ 8 ∷ 1 ∷ 7 ∷ []
unfolding runs_of rows_before rows_at run_between run? root_of least_start repetition? smallest_period
runs_of_aabaabaa = refl

-- "Two runs may wind the same unit from different starting passes": a b a b and b a b a, whose roots are both a b; between them b a b b a b and b b
pub runs_of_ababbaba : flat (runs_of (97 ∷ 98 ∷ 97 ∷ 98 ∷ 98 ∷ 97 ∷ 98 ∷ 97 ∷ []))
    ≡ 1 ∷ 4 ∷ 2 ∷ 1 ∷ 2 ∷ 7 ∷ 3 ∷ 3 ∷ 4 ∷ 5 ∷ 1 ∷ 4 ∷ 5 ∷ 8 ∷ 2 ∷ 6 ∷ []
unfolding runs_of rows_before rows_at run_between run? root_of least_start repetition? smallest_period
runs_of_ababbaba = refl

-- codes above 127 come after those below
pub runs_of_high_codes : flat (runs_of (200 ∷ 100 ∷ 200 ∷ 100 ∷ [])) ≡ 1 ∷ 4 ∷ 2 ∷ 2 ∷ []
unfolding runs_of rows_before rows_at run_between run? root_of least_start repetition? smallest_period
runs_of_high_codes = refl

-- "roots ordered by code": of 16-bit codes the high byte decides first, and no code is negative
pub runs_by_the_high_byte : flat (runs_of (256 ∷ 1 ∷ 256 ∷ 1 ∷ [])) ≡ 1 ∷ 4 ∷ 2 ∷ 2 ∷ []
unfolding runs_of rows_before rows_at run_between run? root_of least_start repetition? smallest_period
runs_by_the_high_byte = refl

pub root_without_sign : root_of (65535 ∷ 32768 ∷ 1 ∷ 65535 ∷ 32768 ∷ 1 ∷ []) 0 3 ≡ 3
unfolding root_of least_start
root_without_sign = refl

-- in c b a b, twice wound, the root is the third pass
pub root_late : root_of (99 ∷ 98 ∷ 97 ∷ 98 ∷ 99 ∷ 98 ∷ 97 ∷ 98 ∷ []) 0 4 ≡ 3
unfolding root_of least_start
root_late = refl

-- and in a c a b, where two starts agree in their first pass
pub root_after_agreement : root_of (97 ∷ 99 ∷ 97 ∷ 98 ∷ 97 ∷ 99 ∷ 97 ∷ 98 ∷ []) 0 4 ≡ 3
unfolding root_of least_start
root_after_agreement = refl

-- four runs need sixteen places
pub runs_enough_places : runs_outcome word_aabaabaa 16 ≡ accepted (4 ∷ [])
unfolding runs_outcome runs_of rows_before rows_at run_between run? root_of least_start repetition? smallest_period
runs_enough_places = refl

pub runs_a_place_short : runs_outcome word_aabaabaa 15 ≡ refused 7 0
unfolding runs_outcome runs_of rows_before rows_at run_between run? root_of least_start repetition? smallest_period
runs_a_place_short = refl

pub runs_written_in_aabaabaa : runs_table word_aabaabaa (replicate 17 9) ≡ 1 ∷ 2 ∷ 1 ∷ 1 ∷ 1 ∷ 8 ∷ 3 ∷ 1 ∷ 4 ∷ 5 ∷ 1 ∷ 4 ∷ 7 ∷ 8 ∷ 1 ∷ 7 ∷ 9 ∷ []
unfolding runs_table runs_of rows_before rows_at run_between run? root_of least_start repetition? smallest_period
runs_written_in_aabaabaa = refl

-- what follows the records stays
pub runs_written_in_aa : runs_table word_aa (9 ∷ 9 ∷ 9 ∷ 9 ∷ 9 ∷ []) ≡ 1 ∷ 2 ∷ 1 ∷ 1 ∷ 9 ∷ []
unfolding runs_table runs_of rows_before rows_at run_between run? root_of least_start repetition? smallest_period
runs_written_in_aa = refl

-- the empty word has no runs, and they need no place
pub runs_of_empty : runs_outcome [] 0 ≡ accepted (0 ∷ [])
unfolding runs_outcome runs_of rows_before
runs_of_empty = refl

-- "70,001 passes"
pub runs_too_long_first : runs_outcome (replicate 70001 97) 0 ≡ refused 1 0
unfolding runs_outcome
runs_too_long_first = refl

-- a run of exactly two turns has its node at its last position: the strict bound of section 4.1 of the paper would lose it
pub runs_of_aa : flat (runs_of word_aa) ≡ 1 ∷ 2 ∷ 1 ∷ 1 ∷ []
unfolding runs_of rows_before rows_at run_between run? root_of least_start repetition? smallest_period
runs_of_aa = refl

-- how near n the number of runs comes: one in two symbols, ten in fourteen
pub one_run_in_2 : length (runs_of word_aa) ≡ 1
unfolding runs_of rows_before rows_at run_between run? root_of least_start repetition? smallest_period
one_run_in_2 = refl

pub ten_runs_in_14 : length (runs_of (97 ∷ 97 ∷ 98 ∷ 97 ∷ 97 ∷ 98 ∷ 98 ∷ 97 ∷ 97 ∷ 98 ∷ 97 ∷ 97 ∷ 98 ∷ 98 ∷ [])) ≡ 10
unfolding runs_of rows_before rows_at run_between run? root_of least_start repetition? smallest_period
ten_runs_in_14 = refl
