-- The documents' examples of the definitions that the contracts of this crate cite, computed: paths of splits, three paths node by node, judged paths. Assumes
-- nothing.
use mathlib.Core.Path.{◌≡◌, refl}
use mathlib.Core.Bool.{true, false}
use mathlib.Core.List.{List, [], ◌∷◌}
use Prim.Native.Nat.{ℕ, ◌≤◌}
use native.Mathlib.Omega.{arith}
use lib.ListN.{replicate}
use Rattle.answers.specs.Outcome.{accepted, refused}
use Rattle.periods.specs.Period.{smallest_period, repetition?, held_period}
use Rattle.periods.specs.Edition.{bad_edition?, turns_of}
use Rattle.periods.specs.Square.{power}
use Rattle.runs.specs.declared.Record.{Record}
use Rattle.runs.specs.Run.{Entry}
use Rattle.nodes.specs.Node.{White}
use Rattle.runs.specs.Table.{run?, least_start, root_of, run_between, rows_at, rows_before, runs_of}
use Rattle.paths.specs.LookUp.{entry_of}
use Rattle.factors.specs.Verdict.{verdict}
use Rattle.paths.specs.Graph.{Node, black, white, Path, total, drops, encoding}
use Rattle.repetitions.specs.Judge.{split_outcome}
use Rattle.runs.specs.Number.{first_number, run_number}
use Rattle.factors.specs.Factorization.{of_blocks}
use Rattle.paths.specs.Calls.{path_outcome, path_table, in_run?, path_judged_outcome}
use Rattle.periods.proofs.Words.{one_and, word_aa, word_aaaa, word_aabaabaa, word_abababab}

-- ---- the path of a split

pub path_of_2_8 : path_outcome word_aabaabaa 1 (2 ∷ 8 ∷ []) 2 ≡ accepted (2 ∷ [])
unfolding path_outcome split_outcome verdict repetition? smallest_period bad_edition? turns_of
path_of_2_8 = refl

-- the run numbers of the printed text: "block,1,1,2,1,2,0,1" and "block,2,3,8,3,2,0,2"; what follows them stays
pub path_numbers_of_2_8 : path_table word_aabaabaa 1 (2 ∷ 8 ∷ []) (9 ∷ 9 ∷ 9 ∷ []) ≡ 1 ∷ 2 ∷ 9 ∷ []
unfolding path_table path_outcome split_outcome verdict of_blocks run_number first_number runs_of rows_before rows_at run_between run? repetition? smallest_period bad_edition? turns_of
path_numbers_of_2_8 = refl

pub path_a_place_short : path_outcome word_aabaabaa 1 (2 ∷ 8 ∷ []) 1 ≡ refused 7 0
unfolding path_outcome split_outcome verdict repetition? smallest_period bad_edition? turns_of
path_a_place_short = refl

-- a refused split comes before too few places
pub path_of_3_8 : path_outcome word_aabaabaa 1 (3 ∷ 8 ∷ []) 0 ≡ refused 4 1
unfolding path_outcome split_outcome verdict repetition? smallest_period bad_edition? turns_of
path_of_3_8 = refl

-- "4 now covers a unit above 256 in every call that gives it for blocks": one pass of code 1 and 256 of code 0, all wound twice; with 255 of code 0 there is a path
pub path_of_unit_257 : path_outcome (power 2 (one_and 256)) 1 (514 ∷ []) 1 ≡ refused 4 1
unfolding path_outcome split_outcome verdict repetition? smallest_period bad_edition? turns_of
path_of_unit_257 = refl

pub path_of_unit_256 : path_outcome (power 2 (one_and 255)) 1 (512 ∷ []) 1 ≡ accepted (1 ∷ [])
unfolding path_outcome split_outcome verdict repetition? smallest_period bad_edition? turns_of
path_of_unit_256 = refl

-- ---- three paths, node by node

abbrev run_1 : Record
run_1 = record { first = 1; last = 2; period = 1; root = 1 }

abbrev run_2 : Record
run_2 = record { first = 1; last = 8; period = 3; root = 1 }

numbered_1 : Entry (runs_of word_aabaabaa) 1 run_1
unfolding runs_of rows_before rows_at run_between run? root_of least_start repetition? smallest_period
numbered_1 = refl

numbered_2 : Entry (runs_of word_aabaabaa) 2 run_2
unfolding runs_of rows_before rows_at run_between run? root_of least_start repetition? smallest_period
numbered_2 = refl

-- "from first+2×unit−1 to last": run 1 has a white node at 2, run 2 at 6, 7 and 8
white_1 : White held_period 2 (runs_of word_aabaabaa) 1 2
white_1 = record { run = run_1; numbered = numbered_1; from = omega arith; to = omega arith; permitted = tt }

white_2 : (x : ℕ) → 6 ≤ x → x ≤ 8 → White held_period 2 (runs_of word_aabaabaa) 2 x
white_2 x a b = record { run = run_2; numbered = numbered_2; from = omega arith; to = b; permitted = tt }

-- 2,8: the diagonal of run 1 to position 2, the drop to joint 2, the diagonal of run 2 to position 8, the drop to joint 8
abbrev nodes_of_2_8 : List Node
nodes_of_2_8 = white 1 2 ∷ black 2 ∷ white 2 8 ∷ black 8 ∷ []

pub walk_of_2_8 : Path held_period 2 word_aabaabaa 8 nodes_of_2_8
walk_of_2_8 = (
  (omega arith, white_1, record { run = run_1; numbered = numbered_1; span = refl }),
  (
    (white_1, omega arith, refl),
    (
      (omega arith, white_2 8 (omega arith) (omega arith), record { run = run_2; numbered = numbered_2; span = refl }),
      (
        (white_2 8 (omega arith) (omega arith), omega arith, refl),
        refl,
      ),
    ),
  ),
)

pub drops_of_2_8 : drops (black 0) nodes_of_2_8 ≡ 2 ∷ 8 ∷ []
drops_of_2_8 = refl

pub encoding_of_2_8 : encoding (black 0) nodes_of_2_8 ≡ 1 ∷ 2 ∷ 2 ∷ 8 ∷ []
encoding_of_2_8 = refl

pub weight_of_2_8 : total (black 0) nodes_of_2_8 ≡ 2
weight_of_2_8 = refl

-- 8: the diagonal of run 2 to position 6, two flat edges, the drop to joint 8
abbrev nodes_of_8 : List Node
nodes_of_8 = white 2 6 ∷ white 2 7 ∷ white 2 8 ∷ black 8 ∷ []

pub walk_of_8 : Path held_period 2 word_aabaabaa 8 nodes_of_8
walk_of_8 = (
  (omega arith, white_2 6 (omega arith) (omega arith), record { run = run_2; numbered = numbered_2; span = refl }),
  (
    (white_2 6 (omega arith) (omega arith), white_2 7 (omega arith) (omega arith), (refl, refl)),
    (
      (white_2 7 (omega arith) (omega arith), white_2 8 (omega arith) (omega arith), (refl, refl)),
      (
        (white_2 8 (omega arith) (omega arith), omega arith, refl),
        refl,
      ),
    ),
  ),
)

pub encoding_of_8 : encoding (black 0) nodes_of_8 ≡ 2 ∷ 8 ∷ []
encoding_of_8 = refl

pub weight_of_8 : total (black 0) nodes_of_8 ≡ 1
weight_of_8 = refl

-- edition 2: abababab has one run, of unit 2, with white nodes "from first+3×unit−1" on, 6 to 8; "a diagonal spans 3 × unit": from joint 0 to 6, then two flat
-- edges and the drop to joint 8
abbrev run_of_abababab : Record
run_of_abababab = record { first = 1; last = 8; period = 2; root = 1 }

numbered_abababab : Entry (runs_of word_abababab) 1 run_of_abababab
unfolding runs_of rows_before rows_at run_between run? root_of least_start repetition? smallest_period
numbered_abababab = refl

white_in_2 : (x : ℕ) → 6 ≤ x → x ≤ 8 → White held_period 3 (runs_of word_abababab) 1 x
white_in_2 x a b = record { run = run_of_abababab; numbered = numbered_abababab; from = omega arith; to = b; permitted = tt }

abbrev nodes_in_2 : List Node
nodes_in_2 = white 1 6 ∷ white 1 7 ∷ white 1 8 ∷ black 8 ∷ []

pub walk_in_2 : Path held_period 3 word_abababab 8 nodes_in_2
walk_in_2 = (
  (omega arith, white_in_2 6 (omega arith) (omega arith), record { run = run_of_abababab; numbered = numbered_abababab; span = refl }),
  (
    (white_in_2 6 (omega arith) (omega arith), white_in_2 7 (omega arith) (omega arith), (refl, refl)),
    (
      (white_in_2 7 (omega arith) (omega arith), white_in_2 8 (omega arith) (omega arith), (refl, refl)),
      (
        (white_in_2 8 (omega arith) (omega arith), omega arith, refl),
        refl,
      ),
    ),
  ),
)

pub encoding_in_2 : encoding (black 0) nodes_in_2 ≡ 1 ∷ 8 ∷ []
encoding_in_2 = refl

-- ---- judged paths

-- edition 2: that path is accepted, and a piece of two turns, 1 to 4, is refused where edition 1 takes it: "error 4 for a path measures by 3 × unit"
pub path_in_2 : path_judged_outcome word_abababab 2 (1 ∷ 8 ∷ []) ≡ accepted (1 ∷ [])
unfolding path_judged_outcome verdict entry_of runs_of rows_before rows_at run_between run? repetition? smallest_period bad_edition? turns_of
path_in_2 = refl

pub path_two_turns : path_judged_outcome word_abababab 1 (1 ∷ 4 ∷ 1 ∷ 8 ∷ []) ≡ accepted (2 ∷ [])
unfolding path_judged_outcome verdict entry_of runs_of rows_before rows_at run_between run? repetition? smallest_period bad_edition? turns_of
path_two_turns = refl

pub path_two_turns_in_2 : path_judged_outcome word_abababab 2 (1 ∷ 4 ∷ 1 ∷ 8 ∷ []) ≡ refused 4 1
unfolding path_judged_outcome verdict entry_of runs_of rows_before rows_at run_between run? repetition? smallest_period bad_edition? turns_of
path_two_turns_in_2 = refl

pub path_numbers_in_2 : path_table word_abababab 2 (8 ∷ []) (9 ∷ 9 ∷ []) ≡ 1 ∷ 9 ∷ []
unfolding path_table path_outcome split_outcome verdict of_blocks run_number first_number runs_of rows_before rows_at run_between run? repetition? smallest_period bad_edition? turns_of
path_numbers_in_2 = refl

-- "12 ... directly after 1": before 10, and before the split's own refusals
pub path_edition_0 : path_judged_outcome word_aabaabaa 0 (1 ∷ 2 ∷ 2 ∷ []) ≡ refused 12 0
unfolding path_judged_outcome bad_edition?
path_edition_0 = refl

pub path_edition_3 : path_judged_outcome word_aabaabaa 3 (1 ∷ []) ≡ refused 12 0
unfolding path_judged_outcome bad_edition?
path_edition_3 = refl

pub path_too_long_before_edition : path_judged_outcome (replicate 70001 97) 3 [] ≡ refused 1 0
unfolding path_judged_outcome
path_too_long_before_edition = refl

pub path_of_split_edition_3 : path_table word_aabaabaa 3 (3 ∷ []) (9 ∷ []) ≡ 9 ∷ []
unfolding path_table path_outcome split_outcome bad_edition?
path_of_split_edition_3 = refl

pub path_1_2_2_8 : path_judged_outcome word_aabaabaa 1 (1 ∷ 2 ∷ 2 ∷ 8 ∷ []) ≡ accepted (2 ∷ [])
unfolding path_judged_outcome verdict entry_of runs_of rows_before rows_at run_between run? repetition? smallest_period bad_edition? turns_of
path_1_2_2_8 = refl

-- "4: .. for a path, no run has that number, or the run does not enclose the piece, or the piece is shorter than 2 × the run's unit": run 1 ends at 2
pub path_1_2_1_8 : path_judged_outcome word_aabaabaa 1 (1 ∷ 2 ∷ 1 ∷ 8 ∷ []) ≡ refused 4 2
unfolding path_judged_outcome verdict entry_of runs_of rows_before rows_at run_between run? repetition? smallest_period bad_edition? turns_of
path_1_2_1_8 = refl

-- there are four runs
pub path_no_such_run : path_judged_outcome word_aabaabaa 1 (1 ∷ 2 ∷ 9 ∷ 8 ∷ []) ≡ refused 4 2
unfolding path_judged_outcome verdict entry_of runs_of rows_before rows_at run_between run? repetition? smallest_period bad_edition? turns_of
path_no_such_run = refl

-- runs are numbered from 1
pub path_run_zero : path_judged_outcome word_aabaabaa 1 (0 ∷ 2 ∷ 2 ∷ 8 ∷ []) ≡ refused 4 1
unfolding path_judged_outcome verdict entry_of runs_of rows_before rows_at run_between run? repetition? smallest_period bad_edition? turns_of
path_run_zero = refl

-- run 2 encloses the piece, and twice its unit is longer
pub path_short_of_its_run : path_judged_outcome word_aabaabaa 1 (2 ∷ 2 ∷ 2 ∷ 8 ∷ []) ≡ refused 4 1
unfolding path_judged_outcome verdict entry_of runs_of rows_before rows_at run_between run? repetition? smallest_period bad_edition? turns_of
path_short_of_its_run = refl

-- all of a run of unit 257, wound twice, is no segment of it; of one of unit 256 it is
pub in_run_of_257 : in_run? held_period 2 (record { first = 1; last = 514; period = 257; root = 2 } ∷ []) 0 514 ≡ false
in_run_of_257 = refl

pub in_run_of_256 : in_run? held_period 2 (record { first = 1; last = 512; period = 256; root = 2 } ∷ []) 0 512 ≡ true
in_run_of_256 = refl

-- "10: a path with an odd count of numbers"
pub path_odd_count : path_judged_outcome word_aabaabaa 1 (1 ∷ 2 ∷ 2 ∷ []) ≡ refused 10 0
unfolding path_judged_outcome bad_edition?
path_odd_count = refl

pub path_end_not_above : path_judged_outcome word_aabaabaa 1 (1 ∷ 2 ∷ 2 ∷ 2 ∷ []) ≡ refused 3 2
unfolding path_judged_outcome verdict entry_of runs_of rows_before rows_at run_between run? repetition? smallest_period bad_edition? turns_of
path_end_not_above = refl

pub path_unfinished : path_judged_outcome word_aabaabaa 1 (1 ∷ 2 ∷ []) ≡ refused 5 0
unfolding path_judged_outcome verdict entry_of runs_of rows_before rows_at run_between run? repetition? smallest_period bad_edition? turns_of
path_unfinished = refl

-- "Counting an unreachable joint as size 0: baa then has one block": baa of the starred cases is refused.
-- "The strict bound of section 4.1: aa is then refused": aa of the starred cases is accepted, and it has a path:
pub path_of_aa : path_judged_outcome word_aa 1 (1 ∷ 2 ∷ []) ≡ accepted (1 ∷ [])
unfolding path_judged_outcome verdict entry_of runs_of rows_before rows_at run_between run? repetition? smallest_period bad_edition? turns_of
path_of_aa = refl

-- "Taking any period as the unit: aaaa then has two paths for one split": it has one run, and the end 4 one path
pub path_numbers_of_aaaa : path_table word_aaaa 1 (4 ∷ []) (9 ∷ []) ≡ 1 ∷ []
unfolding path_table path_outcome split_outcome verdict of_blocks run_number first_number runs_of rows_before rows_at run_between run? repetition? smallest_period bad_edition? turns_of
path_numbers_of_aaaa = refl

pub path_one_of_aaaa : path_judged_outcome word_aaaa 1 (1 ∷ 4 ∷ []) ≡ accepted (1 ∷ [])
unfolding path_judged_outcome verdict entry_of runs_of rows_before rows_at run_between run? repetition? smallest_period bad_edition? turns_of
path_one_of_aaaa = refl

pub path_no_other_of_aaaa : path_judged_outcome word_aaaa 1 (2 ∷ 4 ∷ []) ≡ refused 4 1
unfolding path_judged_outcome verdict entry_of runs_of rows_before rows_at run_between run? repetition? smallest_period bad_edition? turns_of
path_no_other_of_aaaa = refl
