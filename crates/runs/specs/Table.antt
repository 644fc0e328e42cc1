-- The table of runs, computed, and the numbers of its records.
use Rattle.std.specs.Prelude.{Bool, true, false, not, cond, ◌&&◌, ◌||◌, List, [], ◌∷◌, ◌++◌, ℕ, zero, suc, ◌+◌, ◌-◌, ◌*◌, ltb, eqb, length, get_or}
use Rattle.periods.specs.Period.{part, smallest_period, repetition?, any_period}
use Rattle.runs.specs.declared.Record.{Record}

-- the part after boundary a with period p cannot be lengthened to the left
abbrev pub left? : List ℕ → ℕ → ℕ → Bool
left? w zero p = true
left? w (suc a) p = not (eqb (get_or w a 0) (get_or w (a + p) 0))

-- nor, up to boundary b, to the right
abbrev pub right? : List ℕ → ℕ → ℕ → Bool
right? w b p = eqb b (length w) || not (eqb (get_or w b 0) (get_or w (b - p) 0))

-- whether the part between two boundaries is a run
unfoldable pub run? : List ℕ → ℕ → ℕ → Bool
run? w a b =
    let p = smallest_period (part w a b) in
    repetition? any_period 2 (part w a b) && (left? w a p && right? w b p)

-- whether the m symbols after boundary a come before the m symbols after boundary b: the first pair that differs decides
abbrev pub precedes? : List ℕ → ℕ → ℕ → ℕ → Bool
precedes? w zero a b = false
precedes? w (suc m) a b = cond (eqb (get_or w a 0) (get_or w b 0)) (precedes? w m (suc a) (suc b)) (ltb (get_or w a 0) (get_or w b 0))

-- of the boundaries from a to a + d, the one after which m symbols come first
unfoldable pub least_start : List ℕ → ℕ → ℕ → ℕ → ℕ
least_start w m a zero = a
least_start w m a (suc d) = let q = least_start w m a d in cond (precedes? w m (a + suc d) q) (a + suc d) q

-- the root of a run that starts after boundary a and has period p: a position, from 1
unfoldable pub root_of : List ℕ → ℕ → ℕ → ℕ
root_of w a p = suc (least_start w p a (p - 1))

-- the record of the run between two boundaries
abbrev pub record_of : List ℕ → ℕ → ℕ → Record
record_of w a b = let p = smallest_period (part w a b) in record { first = suc a; last = b; period = p; root = root_of w a p }

-- the same as a list, which is empty where there is no run
unfoldable pub run_between : List ℕ → ℕ → ℕ → List Record
run_between w a b = cond (run? w a b) (record_of w a b ∷ []) []

-- the runs after boundary a, up to the next d boundaries
unfoldable pub rows_at : List ℕ → ℕ → ℕ → List Record
rows_at w a zero = []
rows_at w a (suc d) = rows_at w a d ++ run_between w a (a + suc d)

-- the runs after the boundaries below a
unfoldable pub rows_before : List ℕ → ℕ → List Record
rows_before w zero = []
rows_before w (suc a) = rows_before w a ++ rows_at w a (length w - a)

-- the table of runs
unfoldable pub runs_of : List ℕ → List Record
runs_of w = rows_before w (length w)

-- ---- the numbers of a record

-- "The runs call writes four numbers a run": first, last, unit and root
abbrev pub stride : ℕ
stride = 4

abbrev pub numbers_of : Record → List ℕ
numbers_of r = r.first ∷ r.last ∷ r.period ∷ r.root ∷ []

-- the numbers of the records, one after the other
abbrev pub flat : List Record → List ℕ
flat [] = []
flat (r ∷ rs) = numbers_of r ++ flat rs

-- record number i of a table, from 0
abbrev pub record_at : List ℕ → ℕ → Record
record_at t i = record {
  first = get_or t (stride * i) 0;
  last = get_or t (stride * i + 1) 0;
  period = get_or t (stride * i + 2) 0;
  root = get_or t (stride * i + 3) 0;
}

-- the first c records of a table
unfoldable pub records : ℕ → List ℕ → List Record
records zero t = []
records (suc c) t = records c t ++ (record_at t c ∷ [])
