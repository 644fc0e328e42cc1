-- What the finder keeps in its rows and in the table: ends has, for each boundary, the greatest end of a run that was found after it, next the number from 0 of
-- the next record of such a run. Definitions only.
use Rattle.std.specs.Prelude.{◌≡◌, List, ℕ, zero, suc, ◌+◌, ◌-◌, ◌*◌, ◌≤◌, ◌<◌, length, get_or}
use Rattle.runs.specs.declared.Record.{Record}
use Rattle.runs.specs.declared.Listing.{Listing}
use Rattle.runs.specs.Table.{root_of, rows_at, rows_before, runs_of}
use Rattle.runs.specs.Listing.{stride_of, flat_by}
use Rattle.halves.specs.Scratch.{Scratch, prefix_row, suffix_row, ends_row, next_row}
use Rattle.halves.specs.Found.{Tables, Done, Solved}

-- the record of a run with period p between two boundaries
abbrev pub new_record : List ℕ → ℕ → ℕ → ℕ → Record
new_record w a b p = record { first = a + 1; last = b; period = p; root = root_of w a p }

-- base has the number of the first record for each boundary
pub record Starts (w base : List ℕ) : Type 0 where
  pub at : (a : ℕ) → a < length w → get_or base a 0 ≡ length (rows_before w a)

-- what is listed of the runs that were found stands in its places, and nothing past those of all runs was written
pub record Placed (l : Listing) (w base t ends table : List ℕ) : Type 0 where
  pub long : length table ≡ length t
  pub at : (a j : ℕ) → a < length w → j < stride_of l * length (rows_at w a (get_or ends a 0 - a)) → get_or table (stride_of l * get_or base a 0 + j) 0 ≡ get_or (flat_by l (rows_at w a (get_or ends a 0 - a))) j 0
  pub rest : (k : ℕ) → stride_of l * length (runs_of w) ≤ k → get_or table k 0 ≡ get_or t k 0

-- of the runs after boundary a exactly those are recorded that end at get_or ends a 0 at the latest
pub record Kept (l : Listing) (w base t ends next table : List ℕ) : Type 0 where
  pub below : (a : ℕ) → a < length w → get_or ends a 0 ≤ length w
  pub counted : (a : ℕ) → a < length w → get_or next a 0 ≡ get_or base a 0 + length (rows_at w a (get_or ends a 0 - a))
  pub placed : Starts w base → stride_of l * length (runs_of w) ≤ length t → Placed l w base t ends table

-- the numbers stay numbers of 32 bits
pub record Room (w ends next : List ℕ) : Type 0 where
  pub small : (a : ℕ) → a < length w → get_or next a 0 + (length w - get_or ends a 0) < 4294967296

-- a step of the finder: whatever was recorded is kept, and what is new is recorded behind it
pub record Keeps (l : Listing) (w ends next table ends' next' table' : List ℕ) : Type 0 where
  pub grows : (a : ℕ) → get_or ends a 0 ≤ get_or ends' a 0
  pub room : Room w ends next → Room w ends' next'
  pub kept : (base t : List ℕ) → Kept l w base t ends next table → Kept l w base t ends' next' table'

-- the scratch and the room in its rows
abbrev pub Roomy : List ℕ → List ℕ → Type 0
Roomy w s = Scratch w s × Room w (ends_row w s) (next_row w s)

-- before the runs that cross boundary m are looked for: those of either side were found
abbrev pub Halved : List ℕ → ℕ → ℕ → ℕ → List ℕ → Type 0
Halved w lo m hi s = (lo ≤ m) × (m ≤ hi) × (hi ≤ length w) × Solved w lo m (ends_row w s) × Solved w m hi (ends_row w s) × Roomy w s

-- before those with period p are: the tables of the part are there, and the runs with smaller periods were found too
abbrev pub Crossed : List ℕ → ℕ → ℕ → ℕ → ℕ → List ℕ → Type 0
Crossed w lo m hi p s =
    (1 ≤ p) × (lo ≤ m) × (m ≤ hi) × (hi ≤ length w) × Tables w lo m hi (prefix_row w s) (suffix_row w s) × Done w lo m hi p (ends_row w s) × Roomy w s

-- the same step, of the scratch and the table
abbrev pub Advances : Listing → List ℕ → List ℕ → List ℕ → List ℕ → List ℕ → Type 0
Advances l w s table s' table' = Keeps l w (ends_row w s) (next_row w s) table (ends_row w s') (next_row w s') table'

-- the rows of common prefixes and suffixes stay
pub record SamePrefixes (w s s' : List ℕ) : Type 0 where
  pub prefixes : prefix_row w s' ≡ prefix_row w s
  pub suffixes : suffix_row w s' ≡ suffix_row w s

-- the rows of what was found and recorded stay
pub record SameRecords (w s s' : List ℕ) : Type 0 where
  pub ends : ends_row w s' ≡ ends_row w s
  pub next : next_row w s' ≡ next_row w s

-- ---- sums

-- the sum of the first numbers of a table
unfoldable pub sum_to : List ℕ → ℕ → ℕ
sum_to s zero = 0
sum_to s (suc a) = sum_to s a + get_or s a 0

-- the first a numbers of s were replaced by the sums of those before them
pub record Summed (s r : List ℕ) (a : ℕ) : Type 0 where
  pub done : (k : ℕ) → k < a → get_or r k 0 ≡ sum_to s k
  pub rest : (k : ℕ) → a ≤ k → get_or r k 0 ≡ get_or s k 0
