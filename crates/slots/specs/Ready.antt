-- What the working table holds between two boundaries while it is filled for squares, by a table of the runs.
use Rattle.std.specs.Prelude.{◌≡◌, cond, List, ℕ, ◌+◌, ◌-◌, ◌*◌, ◌≤◌, ◌<◌, ltb, length, get_or, set, drop}
use Rattle.periods.specs.Square.{square?}
use Rattle.runs.specs.Table.{runs_of, stride, record_at, records}
use Rattle.factors.specs.Factorization.{Choice, Cell, unreachable, cell}
use Rattle.factors.specs.Table.{rows, size_in, Holds}
use Rattle.factorizer.specs.Piece.{piece?}
use Rattle.slots.specs.Starts.{rank, rank_in, preferred, Top, Start, slot_of, lead_of}

-- ---- the runs

-- the first records of a table are all runs of the word
abbrev pub RunsIn : List ℕ → List ℕ → Type 0
RunsIn w runs = (stride * length (runs_of w) ≤ length runs) × (records (length (runs_of w)) runs ≡ runs_of w)

-- the boundary that run number i, from 0, starts after, and twice its unit
abbrev pub start_of : List ℕ → ℕ → ℕ
start_of runs i = (record_at runs i).first - 1

abbrev pub two_of : List ℕ → ℕ → ℕ
two_of runs i = 2 * (record_at runs i).period

-- ---- between two boundaries

-- the cell of boundary m, where the blocks are squares
abbrev pub square_cell : Choice → List ℕ → ℕ → Cell
square_cell c w m = cell c (piece? square? w) m

-- what is known of boundary m when those below e were taken
abbrev pub known_cell : Choice → List ℕ → ℕ → ℕ → Cell
known_cell c w e m = cond (ltb m e) (square_cell c w m) unreachable

-- s is the best start for boundary x in run number i
abbrev pub Lead : Choice → List ℕ → List ℕ → ℕ → ℕ → ℕ → Type 0
Lead c w runs i x s = Top (λ j. rank c (size_in (square_cell c w j))) (Start (start_of runs i) (two_of runs i) x) s

-- where row 3 starts, which lists the runs that are not over
abbrev pub list_row : ℕ → ℕ
list_row n = 3 * (n + 1)

-- The boundaries below e were taken. Row 3 lists `lives` runs that start before position `upto`, among them all that are not over before e. A run that is
-- not over and held a square up to one of the last boundaries has the best start for that boundary in its slot.
pub record Ready (c : Choice) (w runs : List ℕ) (upto e lives : ℕ) (t : List ℕ) : Type 0 where
  pub known : (m : ℕ) → m ≤ length w → Holds t m (length w + 1 + m) (known_cell c w e m)
  pub listed : (k : ℕ) → k < lives → (get_or t (list_row (length w) + k) 0 < length (runs_of w)) × ((record_at runs (get_or t (list_row (length w) + k) 0)).first < upto)
  pub lists : (i : ℕ) → i < length (runs_of w) → (record_at runs i).first < upto → e ≤ (record_at runs i).last → (k : ℕ) × (k < lives) × (get_or t (list_row (length w) + k) 0 ≡ i)
  pub slots :
      (i x : ℕ) → i < length (runs_of w) → e ≤ (record_at runs i).last → start_of runs i + two_of runs i ≤ x → x < e → e ≤ x + two_of runs i
      → Lead c w runs i x (get_or t (slot_of (length w) (start_of runs i) (two_of runs i) x) 0)

-- ---- one step

-- the run at hand is taken at boundary e: its best start, if it has one, is kept where it will be read
unfoldable pub kept_lead : Choice → ℕ → List ℕ → ℕ → ℕ → ℕ → List ℕ
kept_lead c n t a two e = cond (ltb (e - a) two) t (set t (slot_of n a two e) (lead_of c n t a two e))

-- and compared with the best start so far
unfoldable pub best_with : Choice → ℕ → List ℕ → ℕ → ℕ → ℕ → ℕ → ℕ
best_with c n t a two e best = cond (ltb (e - a) two) best (preferred (rank_in c t) best (lead_of c n t a two e))

-- the records from number `next` to r - 1 start at position e at the latest, and record r, if there is one, starts later
pub record Admitted (runs : List ℕ) (count e next r : ℕ) : Type 0 where
  pub low : next ≤ r
  pub high : r ≤ count
  pub begun : (i : ℕ) → next ≤ i → i < r → (record_at runs i).first ≤ e
  pub stops : r < count → e < (record_at runs r).first

-- the numbers from `next` to r - 1 were added to the list of a word of n symbols, which had `lives` numbers
pub record Added (n lives next r : ℕ) (t u : List ℕ) : Type 0 where
  pub long : length u ≡ length t
  pub old : (y : ℕ) → y < list_row n + lives → get_or u y 0 ≡ get_or t y 0
  pub new : (k : ℕ) → next + k < r → get_or u (list_row n + lives + k) 0 ≡ next + k
  pub rest : drop (rows * (n + 1)) u ≡ drop (rows * (n + 1)) t
