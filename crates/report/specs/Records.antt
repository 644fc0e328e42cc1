-- What the inner functions go by: the records of the runs, and how long a text can be.
use Rattle.std.specs.Prelude.{◌≡◌, List, ℕ, ◌+◌, ◌*◌, ◌≤◌, length}
use Rattle.runs.specs.declared.Record.{Record}
use Rattle.runs.specs.Table.{runs_of, stride, records}
use Rattle.finder.specs.Find.{record_limit}
use Rattle.report.specs.Text.{program_limit}

-- the records are those of the word's runs
abbrev pub RunsHeld : List ℕ → List Record → Type 0
RunsHeld w runs = (length runs ≤ record_limit) × (runs ≡ runs_of w)

-- the program takes the word, and the first count records of a table are those of its runs
abbrev pub RunsListed : List ℕ → List ℕ → ℕ → Type 0
RunsListed w table count = (length w ≤ program_limit) × (stride * count ≤ length table) × (records count table ≡ runs_of w)

-- the most bytes of a line: its name, at most eleven for a number with its comma, and the line's end
abbrev pub line_bytes : ℕ → ℕ → ℕ
line_bytes name numbers = name + 11 * numbers + 1

-- a run's line is named run and has five numbers, a block's is named block and has seven
abbrev pub run_bytes : ℕ
run_bytes = line_bytes 3 5

abbrev pub block_bytes : ℕ
block_bytes = line_bytes 5 7

-- the most blocks of a word that the program holds
abbrev pub most_blocks : ℕ
most_blocks = 512

-- a split's line and its blocks
abbrev pub split_bytes : ℕ
split_bytes = line_bytes 6 1 + block_bytes * most_blocks

-- the longest text: passes, the runs, and two splits
abbrev pub longest_text : ℕ
longest_text = line_bytes 6 1 + run_bytes * record_limit + 2 * split_bytes
