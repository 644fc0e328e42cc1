-- The run records of aabaabaa, and which of them its blocks find, computed. Assumes nothing.
use mathlib.Core.Path.{◌≡◌, refl}
use mathlib.Core.List.{List, [], ◌∷◌}
use Prim.Native.Nat.{ℕ}
use lib.ListN.{take}
use Rattle.runs.specs.declared.Record.{Record}
use Rattle.runs.specs.Table.{records}
use Rattle.finder.specs.Find.{find_run}

-- the flat table of its four runs, and a number more
abbrev table : List ℕ
table = 1 ∷ 2 ∷ 1 ∷ 1 ∷ 1 ∷ 8 ∷ 3 ∷ 1 ∷ 4 ∷ 5 ∷ 1 ∷ 4 ∷ 7 ∷ 8 ∷ 1 ∷ 7 ∷ 9 ∷ []

abbrev four : List Record
four =
    record { first = 1; last = 2; period = 1; root = 1 }
    ∷ record { first = 1; last = 8; period = 3; root = 1 }
    ∷ record { first = 4; last = 5; period = 1; root = 4 }
    ∷ record { first = 7; last = 8; period = 1; root = 7 }
    ∷ []

pub records_of_aabaabaa : records 4 table ≡ four
unfolding records
records_of_aabaabaa = refl

-- "block,1,1,8,3,2,2,2" and "block,1,1,2,1,2,0,1": an index from 0 is one below the run's number
pub finds_run_2 : find_run four 1 8 3 ≡ 1
finds_run_2 = refl

pub finds_run_1 : find_run four 1 2 1 ≡ 0
finds_run_1 = refl

-- the bounds of run 2 enclose it too, and its unit is another
pub finds_run_4 : find_run four 7 8 1 ≡ 3
finds_run_4 = refl

-- none encloses it
pub finds_none : find_run four 2 3 1 ≡ 4
finds_none = refl

-- the records after the first three do not count
pub finds_none_of_three : find_run (take 3 four) 7 8 1 ≡ 3
finds_none_of_three = refl
