-- The documents' examples of the definitions that the contracts of this crate cite, computed. Assumes nothing.
use mathlib.Core.Path.{◌≡◌, refl}
use mathlib.Core.Bool.{true, false}
use mathlib.Core.List.{[], ◌∷◌, map}
use lib.ListN.{replicate}
use Rattle.answers.specs.Outcome.{accepted, refused}
use Rattle.periods.specs.Period.{smallest_period, repetition?, held_period}
use Rattle.periods.specs.Edition.{bad_edition?, turns_of}
use Rattle.periods.specs.Square.{power}
use Rattle.runs.specs.Table.{run?, run_between, rows_at, rows_before, runs_of}
use Rattle.runs.specs.Listing.{node?}
use Rattle.nodes.specs.Node.{nodes_at}
use Rattle.nodes.specs.Calls.{nodes_outcome, nodes_table}
use Rattle.periods.proofs.Words.{one_and, word_aa, word_aabaabaa, word_abababab}

pub nodes_of_aa : nodes_at held_period 2 word_aa 2 ≡ 1 ∷ []
unfolding nodes_at runs_of rows_before rows_at run_between run? repetition? smallest_period
nodes_of_aa = refl

-- "from first+2×unit−1 to last": of the runs 1 to 4 above, from 2 to 2, from 6 to 8, from 5 to 5, from 8 to 8
pub nodes_at_8 : nodes_at held_period 2 word_aabaabaa 8 ≡ 2 ∷ 4 ∷ []
unfolding nodes_at runs_of rows_before rows_at run_between run? repetition? smallest_period
nodes_at_8 = refl

pub nodes_at_6 : nodes_at held_period 2 word_aabaabaa 6 ≡ 2 ∷ []
unfolding nodes_at runs_of rows_before rows_at run_between run? repetition? smallest_period
nodes_at_6 = refl

pub nodes_at_3 : nodes_at held_period 2 word_aabaabaa 3 ≡ []
unfolding nodes_at runs_of rows_before rows_at run_between run? repetition? smallest_period
nodes_at_3 = refl

-- abababab has one run of two letters, all of it: in edition 1 its nodes are from 4 to 8, in edition 2 "from first+3×unit−1", 6 to 8
pub nodes_of_abababab_at_5 : nodes_at held_period 2 word_abababab 5 ≡ 1 ∷ []
unfolding nodes_at runs_of rows_before rows_at run_between run? repetition? smallest_period
nodes_of_abababab_at_5 = refl

pub nodes_in_2_at_5 : nodes_outcome word_abababab 2 5 8 ≡ accepted (0 ∷ [])
unfolding nodes_outcome nodes_at runs_of rows_before rows_at run_between run? repetition? smallest_period bad_edition? turns_of
nodes_in_2_at_5 = refl

pub nodes_in_2_at_6 : nodes_table word_abababab 2 6 (9 ∷ 9 ∷ []) ≡ 1 ∷ 9 ∷ []
unfolding nodes_table nodes_at runs_of rows_before rows_at run_between run? repetition? smallest_period bad_edition? turns_of
nodes_in_2_at_6 = refl

-- a run shorter than 3 × unit has no white node in edition 2, and stays a run: aabaabaa has the runs 1 to 4 there
pub nodes_in_2_of_short_runs : nodes_at held_period 3 word_aabaabaa 8 ≡ []
unfolding nodes_at runs_of rows_before rows_at run_between run? repetition? smallest_period
nodes_in_2_of_short_runs = refl

-- "a run with a longer unit stays in the list but has no white nodes": so the run of one pass of code 1 and 256 of code 0, wound twice, and thrice for edition 2;
-- with 255 of code 0 it has one, at its last pass
pub node_of_257 : map (node? held_period 2 514) (run_between (power 2 (one_and 256)) 0 514) ≡ false ∷ []
unfolding run_between run? repetition? smallest_period
node_of_257 = refl

pub node_of_256 : map (node? held_period 2 512) (run_between (power 2 (one_and 255)) 0 512) ≡ true ∷ []
unfolding run_between run? repetition? smallest_period
node_of_256 = refl

pub node_in_2_of_257 : map (node? held_period 3 771) (run_between (power 3 (one_and 256)) 0 771) ≡ false ∷ []
unfolding run_between run? repetition? smallest_period
node_in_2_of_257 = refl

pub node_in_2_of_256 : map (node? held_period 3 768) (run_between (power 3 (one_and 255)) 0 768) ≡ true ∷ []
unfolding run_between run? repetition? smallest_period
node_in_2_of_256 = refl

pub nodes_enough_places : nodes_outcome word_aabaabaa 1 8 2 ≡ accepted (2 ∷ [])
unfolding nodes_outcome nodes_at runs_of rows_before rows_at run_between run? repetition? smallest_period bad_edition? turns_of
nodes_enough_places = refl

-- what follows the numbers stays
pub nodes_written : nodes_table word_aabaabaa 1 8 (9 ∷ 9 ∷ 9 ∷ []) ≡ 2 ∷ 4 ∷ 9 ∷ []
unfolding nodes_table nodes_at runs_of rows_before rows_at run_between run? repetition? smallest_period bad_edition? turns_of
nodes_written = refl

pub nodes_a_place_short : nodes_outcome word_aabaabaa 1 8 1 ≡ refused 7 0
unfolding nodes_outcome nodes_at runs_of rows_before rows_at run_between run? repetition? smallest_period bad_edition? turns_of
nodes_a_place_short = refl

-- "6: positions outside": below 1 and above n
pub nodes_at_0 : nodes_outcome word_aabaabaa 1 0 8 ≡ refused 6 0
unfolding nodes_outcome bad_edition?
nodes_at_0 = refl

pub nodes_at_9 : nodes_outcome word_aabaabaa 1 9 8 ≡ refused 6 0
unfolding nodes_outcome bad_edition?
nodes_at_9 = refl

-- "12 ... directly after 1": before 6
pub nodes_edition_0 : nodes_outcome word_aabaabaa 0 0 8 ≡ refused 12 0
unfolding nodes_outcome bad_edition?
nodes_edition_0 = refl

pub nodes_edition_3 : nodes_outcome word_aabaabaa 3 9 0 ≡ refused 12 0
unfolding nodes_outcome bad_edition?
nodes_edition_3 = refl

pub nodes_too_long_before_edition : nodes_outcome (replicate 70001 97) 3 1 0 ≡ refused 1 0
unfolding nodes_outcome
nodes_too_long_before_edition = refl

-- "70,001 passes"
pub nodes_too_long_first : nodes_outcome (replicate 70001 97) 1 0 0 ≡ refused 1 0
unfolding nodes_outcome bad_edition?
nodes_too_long_first = refl

pub nodes_of_empty : nodes_outcome [] 1 1 8 ≡ refused 6 0
unfolding nodes_outcome bad_edition?
nodes_of_empty = refl
