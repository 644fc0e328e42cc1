-- What the exported functions give for an outcome: the result, the index and the values; and the version of the interface.
use Rattle.std.specs.Prelude.{ℕ, List, length, get_or}
use Rattle.answers.specs.Outcome.{Outcome, accepted, refused}
use Rattle.periods.specs.Part.{part_outcome, PartMeaning}
use Rattle.repetitions.specs.BestSplit.{best_outcome, BestMeaning}
use Rattle.squares.specs.BestSquares.{squares_outcome, SquaresMeaning}
use Rattle.comparison.specs.Calls.{which_outcome, WhichMeaning}
use Rattle.paths.specs.Calls.{path_outcome, PathMeaning}
use Rattle.page_lines.specs.declared.form.Form.{Form}
use Rattle.pages.specs.Page.{page_outcome, PageMeaning}

-- 0 for accepted, else the refusal's number
abbrev pub result_of : Outcome → ℕ
result_of (accepted v) = 0
result_of (refused n i) = n

-- the index that 3 and 4 add, else 0
abbrev pub index_of : Outcome → ℕ
index_of (accepted v) = 0
index_of (refused n i) = i

-- value number k from 0 of an accepted answer; 0 after a refusal
abbrev pub value_of : ℕ → Outcome → ℕ
value_of k (accepted v) = get_or v k 0
value_of k (refused n i) = 0

-- the meanings of the part call, of best split, of best squares, of which first, of path of a split and of write a page, of the outcome that is handed over
abbrev pub PartHanded : List ℕ → ℕ → ℕ → ℕ → List ℕ → List ℕ → Type 0
PartHanded w edition first last t x = PartMeaning w edition first last t (part_outcome w edition first last (length t)) x

abbrev pub BestHanded : List ℕ → ℕ → ℕ → List ℕ → List ℕ → List ℕ → List ℕ → Type 0
BestHanded w edition choice e t x y = BestMeaning w edition choice e t (best_outcome w edition choice e t) x y

abbrev pub SquaresHanded : List ℕ → ℕ → List ℕ → List ℕ → List ℕ → List ℕ → Type 0
SquaresHanded w choice e t x y = SquaresMeaning w choice e t (squares_outcome w choice e t) x y

abbrev pub WhichHanded : List ℕ → List ℕ → ℕ → List ℕ → List ℕ → Type 0
WhichHanded a b edition t y = WhichMeaning a b edition t (which_outcome a b edition (length t)) y

abbrev pub PathHanded : List ℕ → ℕ → List ℕ → List ℕ → List ℕ → Type 0
PathHanded w edition ends t u = PathMeaning w edition ends t (path_outcome w edition ends (length t)) u

abbrev pub PageHanded : Form → List ℕ → ℕ → List ℕ → List ℕ → List ℕ → Type 0
PageHanded form w edition ends t u = PageMeaning form w edition ends t (page_outcome form w edition ends (length t)) u

-- 1,000 × the major number + the minor one, of version 0.11
abbrev pub version : ℕ
version = 11
