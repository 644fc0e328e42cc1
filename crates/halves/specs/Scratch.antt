-- What the finder of runs is lent, and what it writes.
use Rattle.std.specs.Prelude.{cond, List, ℕ, ◌+◌, ◌*◌, ◌≤◌, ltb, length, take, drop}
use Rattle.std.proofs.lemmas.List.Edits.{sets}
use Rattle.answers.specs.Outcome.{limit}
use Rattle.runs.specs.declared.Listing.{Listing}
use Rattle.runs.specs.Table.{runs_of}
use Rattle.runs.specs.Listing.{stride_of, flat_by}

-- the rows of the scratch
abbrev pub scratch_rows : ℕ
scratch_rows = 4

-- the word is within the limit, and each row has a place for every boundary of it
abbrev pub Scratch : List ℕ → List ℕ → Type 0
Scratch w s = (length w ≤ limit) × (scratch_rows * (length w + 1) ≤ length s)

-- a row, for a word of n symbols, that starts at a place of the scratch
unfoldable pub row_from : ℕ → ℕ → List ℕ → List ℕ
row_from n at s = take (n + 1) (drop at s)

-- common prefixes with what follows the middle of a part
abbrev pub prefix_row : List ℕ → List ℕ → List ℕ
prefix_row w s = row_from (length w) 0 s

-- common suffixes with what precedes it
abbrev pub suffix_row : List ℕ → List ℕ → List ℕ
suffix_row w s = row_from (length w) (length w + 1) s

-- for each boundary, the greatest end of a run that was found after it
abbrev pub ends_row : List ℕ → List ℕ → List ℕ
ends_row w s = row_from (length w) (2 * (length w + 1)) s

-- for each boundary, the number from 0 of the next record of a run after it
abbrev pub next_row : List ℕ → List ℕ → List ℕ
next_row w s = row_from (length w) (3 * (length w + 1)) s

-- a table with what is listed of each run at its front, if it has places for all of them
unfoldable pub listed : Listing → List ℕ → List ℕ → List ℕ
listed l w t = cond (ltb (length t) (stride_of l * length (runs_of w))) t (sets t 0 (flat_by l (runs_of w)))
