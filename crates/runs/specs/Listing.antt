-- What a table may have of each run: its record, its key, or a mark.
use Rattle.std.specs.Prelude.{Bool, cond, ◌&&◌, List, [], ◌∷◌, ◌++◌, ℕ, ◌+◌, ◌*◌, leb}
use Rattle.periods.specs.Period.{held_period}
use Rattle.runs.specs.declared.Record.{Record}
use Rattle.runs.specs.declared.Listing.{Listing}
use Rattle.runs.specs.declared.Listing.TheVariants.{Records, Keys, Marks}
use Rattle.runs.specs.Table.{stride, numbers_of}

-- whether a run has a white node at position x: "from first+2×unit−1 to last", k × unit in general, and only allowed periods have nodes
abbrev pub node? : (ℕ → Bool) → ℕ → ℕ → Record → Bool
node? allowed k x r = leb (r.first + k * r.period) (x + 1) && (leb x r.last && allowed r.period)

-- one more than the longest unit that unit memory holds
abbrev pub key_step : ℕ
key_step = 257

-- the key of a run, from which its first position is read, and its unit, 0 where unit memory does not hold it
abbrev pub key_of : ℕ → ℕ → ℕ
key_of first p = key_step * first + cond (held_period p) p 0

-- the mark of a run with these numbers, for the turn number k and position x
abbrev pub mark_of : ℕ → ℕ → ℕ → ℕ → ℕ → ℕ
mark_of k x first last p = cond (leb (first + k * p) (x + 1) && (leb x last && held_period p)) 1 0

-- the numbers that a table has of a run
abbrev pub entry_of : Listing → Record → List ℕ
entry_of Records r = numbers_of r
entry_of Keys r = key_of r.first r.period ∷ []
entry_of (Marks k x) r = mark_of k x r.first r.last r.period ∷ []

-- and how many there are
abbrev pub stride_of : Listing → ℕ
stride_of Records = stride
stride_of Keys = 1
stride_of (Marks k x) = 1

-- those of all runs, one after the other
abbrev pub flat_by : Listing → List Record → List ℕ
flat_by l [] = []
flat_by l (r ∷ rs) = entry_of l r ++ flat_by l rs
