-- How the run of a piece is looked up: the record with a number, the last run with a period that starts at or before a boundary, and the table in which a loop
-- over the pieces notes such runs.
use Rattle.std.specs.Prelude.{◌≡◌, Bool, cond, ◌&&◌, List, [], ◌∷◌, ◌++◌, ℕ, zero, suc, ◌+◌, ◌/◌, ◌%◌, ◌≤◌, ◌<◌, leb, eqb, length, get_or}
use Rattle.answers.specs.Outcome.{limit}
use Rattle.runs.specs.declared.Record.{Record}
use Rattle.periods.specs.Period.{part, block_unit}
use Rattle.runs.specs.Run.{Entry}
use Rattle.runs.specs.Table.{runs_of}
use Rattle.runs.specs.Listing.{key_step, key_of}

-- the record with a number from 1, where there is one
unfoldable pub entry_of : List Record → ℕ → List Record
entry_of rows zero = []
entry_of [] (suc i) = []
entry_of (r ∷ rs) (suc zero) = r ∷ []
entry_of (r ∷ rs) (suc (suc i)) = entry_of rs (suc i)

-- ---- the last run with a period that starts at or before a boundary

-- the number from 1 of the last record that passes a test, 0 where none does
unfoldable pub last_number : (Record → Bool) → List Record → ℕ
last_number t [] = 0
last_number t (r ∷ rs) = let i = last_number t rs in cond (eqb i 0) (cond (t r) 1 0) (suc i)

-- whether a record has a period
abbrev pub has_period : ℕ → Record → Bool
has_period p r = eqb r.period p

-- and starts at or before boundary i
abbrev pub starts_by : ℕ → ℕ → Record → Bool
starts_by p i r = leb r.first (i + 1) && has_period p r

-- the number of the last run with period p that starts at or before boundary i, 0 where there is none
unfoldable pub latest_number : List ℕ → ℕ → ℕ → ℕ
latest_number w p i = last_number (starts_by p i) (runs_of w)

-- ---- what the loops over the pieces are lent, and keep

-- a run as far as its key tells it
abbrev pub of_key : ℕ → Record
of_key k = record { first = k / key_step; last = 0; period = k % key_step; root = 0 }

-- the runs of the first c keys
unfoldable pub passed : ℕ → List ℕ → List Record
passed zero keys = []
passed (suc c) keys = passed c keys ++ (of_key (get_or keys c 0) ∷ [])

-- so many keys can be read from a table, and they are those of the runs of the word
pub record Keyed (w keys : List ℕ) (count : ℕ) : Type 0 where
  pub few : count ≤ limit
  pub room : count ≤ length keys
  pub all : count ≡ length (runs_of w)
  pub at : (k : ℕ) (r : Record) → Entry (runs_of w) (suc k) r → get_or keys k 0 ≡ key_of r.first r.period

-- the first `next` of them start at or before boundary i, and `latest` has at each unit that unit memory holds the number of the last of these with that unit
pub record Noted (keys : List ℕ) (count i next : ℕ) (latest : List ℕ) : Type 0 where
  pub within : next ≤ count
  pub early : (k : ℕ) → k < next → (of_key (get_or keys k 0)).first ≤ i + 1
  pub places : length latest ≡ key_step
  pub last : (p : ℕ) → 1 ≤ p → p < key_step → get_or latest p 0 ≡ last_number (has_period p) (passed next keys)

-- the run after these, if there is one, starts later
abbrev pub NextLater : List ℕ → ℕ → ℕ → ℕ → Type 0
NextLater keys count i next = next < count → i + 1 < (of_key (get_or keys next 0)).first

-- what is found of the piece between boundaries i and j: its unit if it is a block, 0 else, and for a block the last run with that unit that starts at or before it
pub record Found (turns : ℕ) (w : List ℕ) (i j unit number : ℕ) : Type 0 where
  pub is_unit : unit ≡ block_unit turns (part w i j)
  pub is_number : 1 ≤ unit → number ≡ latest_number w unit i
