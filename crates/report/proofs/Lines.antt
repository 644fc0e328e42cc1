-- The lines of the runs and of the blocks: one more line, and how long they can be; and the finder's record of a block, which is its run. A block has one run
-- that encloses it and has its unit (runs/proofs/Number.antt), so that the first record that the finder meets is that run. Assumes nothing.
use mathlib.Core.Path.{◌≡◌, refl, ap, ap₂, ◌∙◌}
use mathlib.Core.Logic.{◌≢◌}
use mathlib.Core.Bool.{Bool, true, false, cond}
use mathlib.Core.List.{List, [], ◌∷◌, ◌++◌}
use Prim.Native.Nat.{ℕ, zero, suc, ◌+◌, ◌*◌, ◌≤◌, ◌<◌}
use Rattle.std.proofs.Common.{add-one}
use native.Mathlib.Omega.{arith}
use native.Mathlib.Nat.{mul-le-mul_right}
use lib.Dec.{eqb, eqb-suc-zero}
use lib.Seq.{drop-cons}
use lib.ListN.{length, drop, drop_of_length-le, get_or, length-append}
use Rattle.periods.specs.Period.{part, smallest_period, held_period}
use Rattle.periods.proofs.Editions.{two_turns}
use Rattle.periods.proofs.Claims.{smallest_period_unique}
use Rattle.runs.specs.declared.Record.{Record}
use Rattle.runs.specs.Table.{runs_of, numbers_of}
use Rattle.runs.proofs.Rows.{part_long}
use Rattle.finder.specs.Find.{enclosing?, step, find_run}
use Rattle.factors.specs.Factorization.{text_of_blocks}
use Rattle.repetitions.specs.Block.{Block}
use Rattle.runs.specs.Number.{encloses?, first_number, run_number, block_numbers}
use Rattle.repetitions.proofs.Blocks.{block_up}
use Rattle.report.specs.Records.{run_bytes, block_bytes}
use Rattle.report.specs.Text.{printed_edition, printed_turns, run_name, block_name, run_lines, block_line, block_lines}
use Rattle.writers.specs.Line.{line}
use Rattle.writers.proofs.Stores.{line_long}
use Rattle.runs.proofs.Number.{run_numbered}

-- ---- runs

module _ (rows : List Record) (i : ℕ) where
  -- the line of the record at hand, and those of the records after it
  pub run_lines_more : (d : Record) → i < length rows → run_lines i (drop i rows) ≡ line run_name ((i + 1) ∷ numbers_of (get_or rows i d)) ++ run_lines (i + 1) (drop (i + 1) rows)
  unfolding run_lines
  run_lines_more d h = ap (run_lines i) (drop-cons rows i d h) ∙ rw (add-one i) refl

  -- none is left
  pub run_lines_done : length rows ≤ i → run_lines i (drop i rows) ≡ []
  unfolding run_lines
  run_lines_done h = rw (drop_of_length-le rows {i = i} h) refl

pub run_lines_long : (rows : List Record) (i : ℕ) → length (run_lines i rows) ≤ run_bytes * length rows
unfolding run_lines
run_lines_long [] i = omega arith
run_lines_long (r ∷ rows) i =
    omega (arith, run_lines_long rows (suc i), line_long run_name (suc i ∷ numbers_of r), length-append (line run_name (suc i ∷ numbers_of r)) (run_lines (suc i) rows))

-- ---- blocks

-- a block's line, by its numbers
pub block_line_is : (w : List ℕ) (number i j : ℕ) → line block_name (block_numbers w number i j) ≡ block_line w number i j
unfolding block_line
block_line_is w number i j = refl

block_line_long : (w : List ℕ) (number i j : ℕ) → length (block_line w number i j) ≤ block_bytes
unfolding block_line
block_line_long w number i j = line_long block_name _

pub block_lines_long : (w es : List ℕ) (k i : ℕ) → length (block_lines w k i es) ≤ block_bytes * length es
unfolding text_of_blocks
block_lines_long w [] k i = omega arith
block_lines_long w (e ∷ es) k i =
    omega (arith, block_lines_long w es (suc k) e, block_line_long w (suc k) i e, length-append (block_line w (suc k) i e) (block_lines w (suc k) e es))

-- ---- the record of a block

find_most : (rs : List Record) (first last p : ℕ) → find_run rs first last p ≤ length rs
find_most [] first last p = omega arith
find_most (r ∷ rs) first last p = go (enclosing? r.first r.last r.period first last p) (find_most rs first last p)
  where
    go : (b : Bool) → find_run rs first last p ≤ length rs → step b (find_run rs first last p) ≤ suc (length rs)
    go true h = omega arith
    go false h = omega arith

-- the finder counts from 0, the numbers of the runs from 1
find_first : (i j p : ℕ) (rows : List Record) → first_number (encloses? i j p) rows ≢ 0
    → find_run rows (i + 1) j p + 1 ≡ first_number (encloses? i j p) rows
unfolding first_number
find_first i j p [] h = absurd (h refl)
find_first i j p (r ∷ rs) h = go (find_first i j p rs) (encloses? i j p r) h
  where
    later : (m : ℕ) → (m ≢ 0 → find_run rs (i + 1) j p + 1 ≡ m) → cond (eqb m 0) 0 (suc m) ≢ 0
        → suc (find_run rs (i + 1) j p) + 1 ≡ cond (eqb m 0) 0 (suc m)
    later zero ih k = absurd (k refl)
    later (suc m) ih k = rw (eqb-suc-zero m) (omega (arith, ih (λ e. omega arith)))

    go : (first_number (encloses? i j p) rs ≢ 0 → find_run rs (i + 1) j p + 1 ≡ first_number (encloses? i j p) rs) → (b : Bool)
        → cond b 1 (cond (eqb (first_number (encloses? i j p) rs) 0) 0 (suc (first_number (encloses? i j p) rs))) ≢ 0
        → step b (find_run rs (i + 1) j p) + 1 ≡ cond b 1 (cond (eqb (first_number (encloses? i j p) rs) 0) 0 (suc (first_number (encloses? i j p) rs)))
    go ih true k = refl
    go ih false k = later (first_number (encloses? i j p) rs) ih k

-- a block is twice its unit or longer
block_twice : (w : List ℕ) (i j : ℕ) → Block held_period printed_turns w i j → 2 * smallest_period (part w i j) ≤ length (part w i j)
block_twice w i j K = omega (arith, K.1.long, mul-le-mul_right K.1.period (two_turns printed_edition), smallest_period_unique (part w i j) K.1.period K.1.smallest)

-- CLAIM: the first record that encloses a block and has its unit is the block's run
pub find_is_run_number : (w : List ℕ) (i j : ℕ) → Block held_period printed_turns w i j
    → find_run (runs_of w) (i + 1) j (smallest_period (part w i j)) + 1 ≡ run_number w i j
unfolding run_number
find_is_run_number w i j K =
    let l = part_long w i j K.0 in
    let u = block_up held_period printed_turns w i j K in
    find_first i j (smallest_period (part w i j)) (runs_of w) (run_numbered w i j K.0 (omega arith) (block_twice w i j K))

-- the same for what the finder gives over the records that are held
pub found_is_run_number : (w : List ℕ) (rs : List Record) (i j unit found : ℕ) → Block held_period printed_turns w i j → rs ≡ runs_of w
    → unit ≡ smallest_period (part w i j) → found ≡ find_run rs (i + 1) j unit → found + 1 ≡ run_number w i j
found_is_run_number w rs i j unit found K h e f =
    ap (λ (n : ℕ). n + 1) (f ∙ ap₂ (λ (l : List Record) (p : ℕ). find_run l (i + 1) j p) h e) ∙ find_is_run_number w i j K

-- it is among them
pub found_most : (rs : List Record) (first last p found : ℕ) → found ≡ find_run rs first last p → found ≤ length rs
found_most rs first last p found e = omega (arith, e, find_most rs first last p)
