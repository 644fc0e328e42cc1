-- Laws for filling the working table: the units of a window in row 2, the table at the start and at the end. The general part is factors/proofs/Filling.antt;
-- here the blocks are repetitions. Assumes nothing.
use mathlib.Core.Path.{◌≡◌, refl, sym, ap, ◌∙◌}
use mathlib.Core.Bool.{Bool}
use mathlib.Core.List.{List, ◌++◌, append_assoc}
use Prim.Native.Nat.{ℕ, ◌+◌, ◌-◌, ◌*◌, ◌≤◌, ◌<◌}
use native.Mathlib.Omega.{arith}
use borrow.Author.Tests.{le-leb}
use lib.Dec.{leb}
use lib.ListN.{length, get_or, take, drop, replicate, length-take, length-drop, length-replicate, get_or-replicate}
use lib.Seq.{drop-drop}
use Rattle.answers.specs.Outcome.{limit}
use Rattle.periods.specs.Period.{part, smallest_period, repetition?, held_period, units_table}
use Rattle.periods.specs.Edition.{Edition, Turns}
use Rattle.periods.specs.Part.{part_table}
use Rattle.periods.proofs.InPlace.{placed_part}
use Rattle.periods.proofs.Claims.{part_periods_rise}
use Rattle.periods.proofs.UnitsTable.{units_length, units_of_part}
use Rattle.periods.proofs.PartClaims.{part_described}
use Rattle.factors.specs.Factorization.{Choice, cell}
use Rattle.factors.specs.Table.{rows, Holds, sizes, previous, started, filled}
use Rattle.factors.proofs.TableLaws.{length-started, started-drop}
use Rattle.factors.proofs.Lent.{lent, lent_length, lent_below, lent_within, lent_rest}
use Rattle.factors.proofs.Filling.{rows_of_cells}
use Rattle.factorizer.specs.Piece.{piece?}
use Rattle.factorizer.specs.Fill.{unit_at, UnitsRise, ends_block}
use Rattle.factorizer.specs.Window.{window_of, RestKept}
use Rattle.factorizer.proofs.Rules.{block_by_unit}

-- where rows 2 and 3 start, and where they end
abbrev pub second : ℕ → ℕ
second n = n + 1 + (n + 1)

abbrev pub third : ℕ → ℕ
third n = second n + (n + 1)

abbrev pub fourth : ℕ → ℕ
fourth n = second n + second n

-- a part of a table set to 0
abbrev pub zeros : List ℕ → ℕ → ℕ → List ℕ
zeros t a b = replicate (length (take (b - a) (drop a t))) 0

pub zeros_length : (t : List ℕ) (a b : ℕ) → b ≤ length t → length (zeros t a b) ≡ b - a
zeros_length t a b h = length-replicate (length (take (b - a) (drop a t))) 0 ∙ length-take (b - a) (drop a t) ∙ omega (arith, length-drop a t)

-- row 2 of a table
abbrev pub row_two : List ℕ → List ℕ → List ℕ
row_two w t = take (third (length w) - second (length w)) (drop (second (length w)) t)

row_two_long : (w t : List ℕ) → rows * (length w + 1) ≤ length t → length (row_two w t) ≡ third (length w) - second (length w)
row_two_long w t room = length-take (third (length w) - second (length w)) (drop (second (length w)) t) ∙ omega (arith, length-drop (second (length w)) t)

-- the same once the part call has written the units of the part between the boundaries j and e to it
abbrev pub units_row : List ℕ → ℕ → ℕ → List ℕ → List ℕ
units_row w j e t = units_table (part w j e) (row_two w t)

-- a table with these units in row 2
pub laid : List ℕ → ℕ → ℕ → List ℕ → List ℕ
laid w j e t = lent t (second (length w)) (third (length w)) (units_row w j e t)

-- as the part call, which was lent row 2, leaves the table
pub laid_from : (w : List ℕ) (edition j e : ℕ) (t u : List ℕ) → length w ≤ limit → Edition edition → j < e → e ≤ length w → rows * (length w + 1) ≤ length t
    → u ≡ part_table w edition (j + 1) e (row_two w t) → lent t (second (length w)) (third (length w)) u ≡ laid w j e t
unfolding laid
laid_from w edition j e t u h k l m room f =
    let g = part_described w edition (j + 1) e (row_two w t) h k (omega arith, omega arith, omega arith) (omega (arith, row_two_long w t room)) in
    let z : j + 1 - 1 ≡ j = omega arith in
    ap (lent t (second (length w)) (third (length w))) (f ∙ sym g.1 ∙ ap (λ (i : ℕ). units_table (part w i e) (row_two w t)) z)

module _ (w : List ℕ) (j e : ℕ) (t : List ℕ) (inside : e ≤ length w) (room : rows * (length w + 1) ≤ length t) where
  units_fit : length (units_row w j e t) ≡ third (length w) - second (length w)
  units_fit =
      let l = row_two_long w t room in
      units_length (part w j e) (row_two w t) (omega (arith, (placed_part w j e inside).long)) ∙ l

  pub laid_long : length (laid w j e t) ≡ length t
  unfolding laid
  laid_long = lent_length t (second (length w)) (third (length w)) (units_row w j e t) (omega arith) (omega arith) units_fit

  pub laid_same : (i : ℕ) → i < second (length w) → get_or (laid w j e t) i 0 ≡ get_or t i 0
  unfolding laid
  laid_same i h = lent_below t (second (length w)) (third (length w)) (units_row w j e t) (omega arith) (omega arith) units_fit i h

  pub laid_kept : drop (rows * (length w + 1)) (laid w j e t) ≡ drop (rows * (length w + 1)) t
  unfolding laid
  laid_kept = lent_rest t (second (length w)) (third (length w)) (units_row w j e t) (omega arith) (omega arith) units_fit (rows * (length w + 1)) (omega arith)

  pub laid_unit : (d : ℕ) → j + d < e → unit_at (length w) (laid w j e t) d ≡ smallest_period (part w j (j + (d + 1)))
  unfolding laid
  laid_unit d h =
      let x : second (length w) + d - second (length w) ≡ d = omega arith in
      let y : j + (d + 1) - j - 1 ≡ d = omega arith in
      lent_within t (second (length w)) (third (length w)) (units_row w j e t) (omega arith) (omega arith) units_fit (second (length w) + d) (omega arith) (omega arith)
      ∙ ap (λ (i : ℕ). get_or (units_row w j e t) i 0) x
      ∙ rw y at (units_of_part w (row_two w t) j (j + (d + 1)) e (omega arith) (omega arith) inside)

  pub laid_rises : UnitsRise (length w) (e - j) (laid w j e t)
  laid_rises d f h l =
      omega (arith, laid_unit d (omega arith), laid_unit f (omega arith), part_periods_rise w j (j + (d + 1)) (j + (f + 1)) (omega arith) (omega arith) (omega arith))

  -- within a window the test of the units decides where a block ends
  pub laid_decides : (k : ℕ) → Turns k → (d : ℕ) → j + d < e → d < window_of k
      → ends_block k (length w) (laid w j e t) d ≡ piece? (repetition? held_period k) w j (j + (d + 1))
  laid_decides k turns d h near =
      let s = part w j (j + (d + 1)) in
      let l : length s ≡ d + 1 = (placed_part w j (j + (d + 1)) (omega arith)).long ∙ omega arith in
      ap (λ (x : ℕ). leb (k * x) (d + 1)) (laid_unit d h)
      ∙ ap (λ (x : ℕ). leb (k * smallest_period s) x) (sym l)
      ∙ block_by_unit k turns s (omega (arith, l)) (omega (arith, l))
      ∙ rw (le-leb (j + (d + 1)) (length w) (omega arith)) refl

-- a table whose row 0 is started and whose row 1 is cleared
pub begun : List ℕ → List ℕ → List ℕ
begun w t = lent (started (length w) t) (length w + 1) (second (length w)) (zeros (started (length w) t) (length w + 1) (second (length w)))

pub begun_from : (w t s z : List ℕ) → s ≡ started (length w) t → z ≡ zeros s (length w + 1) (second (length w)) → lent s (length w + 1) (second (length w)) z ≡ begun w t
unfolding begun
begun_from w t s z e f = rw (f, e) refl

module _ (w t : List ℕ) (room : rows * (length w + 1) ≤ length t) where
  started_long : length (started (length w) t) ≡ length t
  started_long = length-started (length w) t (omega arith)

  row_fits : length (zeros (started (length w) t) (length w + 1) (second (length w))) ≡ second (length w) - (length w + 1)
  row_fits = zeros_length (started (length w) t) (length w + 1) (second (length w)) (omega (arith, started_long))

  pub begun_kept : RestKept (length w) t (begun w t)
  unfolding begun
  begun_kept = (
    lent_length (started (length w) t) (length w + 1) (second (length w)) (zeros (started (length w) t) (length w + 1) (second (length w))) (omega arith) (omega (arith, started_long)) row_fits
        ∙ started_long,
    lent_rest (started (length w) t) (length w + 1) (second (length w)) (zeros (started (length w) t) (length w + 1) (second (length w)))
        (omega arith) (omega (arith, started_long)) row_fits (rows * (length w + 1)) (omega arith)
        ∙ started-drop (length w) t (rows * (length w + 1)) (omega arith),
  )

  pub begun_front : (i : ℕ) → i ≤ length w → get_or (begun w t) i 0 ≡ get_or (started (length w) t) i 0
  unfolding begun
  begun_front i h =
      lent_below (started (length w) t) (length w + 1) (second (length w)) (zeros (started (length w) t) (length w + 1) (second (length w)))
      (omega arith) (omega (arith, started_long)) row_fits i (omega arith)

  pub begun_zeros : (i : ℕ) → length w < i → i < second (length w) → get_or (begun w t) i 0 ≡ 0
  unfolding begun
  begun_zeros i h l =
      lent_within (started (length w) t) (length w + 1) (second (length w)) (zeros (started (length w) t) (length w + 1) (second (length w)))
      (omega arith) (omega (arith, started_long)) row_fits i (omega arith) l
      ∙ get_or-replicate (length (take (second (length w) - (length w + 1)) (drop (length w + 1) (started (length w) t)))) (i - (length w + 1)) 0 0
      (omega (arith, length-take (second (length w) - (length w + 1)) (drop (length w + 1) (started (length w) t)), length-drop (length w + 1) (started (length w) t), started_long))

-- all places hold their cells, and rows 2 and 3 are cleared
pub filled_from : (c : Choice) (b : ℕ → ℕ → Bool) (w t r : List ℕ) → rows * (length w + 1) ≤ length t → RestKept (length w) t r
    → ((m : ℕ) → m ≤ length w → Holds r m (length w + 1 + m) (cell c b m))
    → lent r (second (length w)) (fourth (length w)) (zeros r (second (length w)) (fourth (length w))) ≡ filled c b (length w) t
filled_from c b w t r room kept H =
    let e : fourth (length w) - second (length w) ≡ 2 * (length w + 1) = omega arith in
    let z : length (take (fourth (length w) - second (length w)) (drop (second (length w)) r)) ≡ 2 * (length w + 1) =
    length-take (fourth (length w) - second (length w)) (drop (second (length w)) r) ∙ omega (arith, length-drop (second (length w)) r, kept.0) in
    let d : drop (fourth (length w) - second (length w)) (drop (second (length w)) r) ≡ drop (rows * (length w + 1)) t =
    drop-drop (fourth (length w) - second (length w)) (second (length w)) r ∙ ap (λ (x : ℕ). drop x r) (sums e) ∙ kept.1 in
    rw (rows_of_cells c b (length w) r (omega (arith, kept.0)) H, z, d)
    (append_assoc (sizes c b (length w)) (previous c b (length w)) (replicate (2 * (length w + 1)) 0 ++ drop (rows * (length w + 1)) t))
  where
    sums : fourth (length w) - second (length w) ≡ 2 * (length w + 1) → second (length w) + (fourth (length w) - second (length w)) ≡ rows * (length w + 1)
    sums e = omega arith
