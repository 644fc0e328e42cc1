-- What recording a new run leaves: the rows with its end and the next number, the table with its record. By the laws of the rows, and `keeps_new`. Assumes
-- nothing.
use mathlib.Core.Path.{◌≡◌, sym, ap, ap₂, ◌∙◌}
use mathlib.Core.List.{List}
use Prim.Native.Nat.{ℕ, ◌+◌, ◌*◌, ◌≤◌, ◌<◌}
use native.Mathlib.Omega.{arith}
use lib.ListN.{length, get_or, set}
use lib.Seq.{sets, get_or-set_same}
use Rattle.laws.proofs.Tests.{T_true}
use Rattle.periods.specs.Period.{part, SmallestPeriod}
use Rattle.periods.proofs.InPlace.{symbol, part_smallest_in}
use Rattle.runs.specs.declared.Listing.{Listing}
use Rattle.runs.specs.Table.{root_of}
use Rattle.runs.specs.Listing.{entry_of, stride_of}
use Rattle.runs.proofs.InPlace.{RunIn}
use Rattle.runs.proofs.RootClaims.{root_computed}
use Rattle.runs.proofs.Listed.{run_tested}
use Rattle.halves.specs.Scratch.{Scratch, ends_row, next_row}
use Rattle.halves.specs.Found.{New, Tried}
use Rattle.halves.specs.Kept.{new_record, Roomy, Advances, SamePrefixes}
use Rattle.halves.proofs.ScratchRows.{row_long, row_read, row_set, row_set_before, row_set_behind}
use Rattle.halves.proofs.Recorded.{keeps_new}

-- a root is a position of the word
pub root_small : (w : List ℕ) (a p : ℕ) → a + 2 * p ≤ length w → SmallestPeriod (part w a (a + 2 * p)) p → root_of w a p ≤ length w
root_small w a p h S =
    let U = part_smallest_in w a (a + 2 * p) p h S in
    omega (arith, (root_computed w a (a + 2 * p) p U (omega arith)).to, U.period.positive)

pub new_run : (w : List ℕ) (a b p : ℕ) (ends : List ℕ) → New w a b p ends → RunIn (symbol w) (length w) a b p
new_run w a b p ends N = run_tested w a b p N.within N.unit (T_true _ N.test)

-- its start is a boundary before the word's end
pub new_start : (w : List ℕ) (a b p : ℕ) (ends : List ℕ) → New w a b p ends → (a < b) × (a < length w)
new_start w a b p ends N =
    let R = new_run w a b p ends N in
    (omega (arith, R.twice, R.smallest.period.positive), omega (arith, R.twice, R.smallest.period.positive, N.within))

-- the number of the next record stays small
pub next_small : (w s : List ℕ) (a b p : ℕ) → Roomy w s → New w a b p (ends_row w s) → get_or s (3 * (length w + 1) + a) 0 + 1 < 4294967296
next_small w s a b p R N =
    let l = (new_start w a b p (ends_row w s) N).1 in
    omega (arith, R.1.small a l, row_read (length w) s (3 * (length w + 1)) a (omega arith), N.later, N.within)

module _ (w s table : List ℕ) (a b p : ℕ) (F : Scratch w s) (N : New w a b p (ends_row w s)) where
  n : ℕ
  n = length w

  -- the places of the end and of the next number
  abbrev end : ℕ
  end = 2 * (length w + 1) + a

  abbrev next : ℕ
  next = 3 * (length w + 1) + a

  abbrev left : List ℕ
  left = set (set s end b) next (get_or s next 0 + 1)

  inside : (a < b) × (a < length w)
  inside = new_start w a b p (ends_row w s) N

  ends_are : ends_row w left ≡ set (ends_row w s) a b
  ends_are =
      row_set_behind (length w) (set s end b) (2 * (length w + 1)) next (get_or s next 0 + 1) (omega arith)
      ∙ row_set (length w) s (2 * (length w + 1)) a b (omega (arith, inside.1))

  next_are : next_row w left ≡ set (next_row w s) a (get_or (next_row w s) a 0 + 1)
  next_are =
      row_set (length w) (set s end b) (3 * (length w + 1)) a (get_or s next 0 + 1) (omega (arith, inside.1))
      ∙ ap₂ (λ (x : List ℕ) (y : ℕ). set x a (y + 1)) (row_set_before (length w) s (3 * (length w + 1)) end b (omega (arith, inside.1)))
      (sym (row_read (length w) s (3 * (length w + 1)) a (omega (arith, inside.1))))

  -- the rows of common prefixes and suffixes lie before
  pub added_same : SamePrefixes w s left
  added_same = record {
    prefixes = row_set_behind (length w) (set s end b) 0 next (get_or s next 0 + 1) (omega arith) ∙ row_set_behind (length w) s 0 end b (omega arith);
    suffixes = row_set_behind (length w) (set s end b) (length w + 1) next (get_or s next 0 + 1) (omega arith) ∙ row_set_behind (length w) s (length w + 1) end b (omega arith);
  }

  pub added_keeps : (f : Listing) (t : List ℕ) → t ≡ sets table (stride_of f * get_or s next 0) (entry_of f (new_record w a b p)) → Advances f w s table left t
  added_keeps f t e =
      rw (
        ends_are,
        next_are,
        e ∙ ap (λ (x : ℕ). sets table (stride_of f * x) (entry_of f (new_record w a b p))) (sym (row_read (length w) s (3 * (length w + 1)) a (omega (arith, inside.1)))),
      ) (
      keeps_new f w (ends_row w s) (next_row w s) table a b p N.within inside.0 (omega (arith, row_long (length w) s (2 * (length w + 1)) (omega arith)))
      (omega (arith, row_long (length w) s (3 * (length w + 1)) (omega arith))) N
      )

  pub added_tried : Tried w a b p (ends_row w left)
  added_tried = record { found = λ x q. rw ends_are (omega (arith, get_or-set_same (ends_row w s) a b 0 (omega (arith, inside.1, row_long (length w) s (2 * (length w + 1)) (omega arith))))) }
