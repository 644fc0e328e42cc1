-- White nodes of the repetition graph, and those at a position, computed.
use Rattle.std.specs.Prelude.{Bool, cond, List, [], ◌∷◌, ◌++◌, ℕ, suc, ◌+◌, ◌*◌, ◌≤◌, T}
use Rattle.runs.specs.declared.Record.{Record}
use Rattle.runs.specs.Run.{Entry}
use Rattle.runs.specs.Table.{runs_of}
use Rattle.runs.specs.Listing.{node?}

-- "Run i has a white node at each position from first+2×unit−1 to last", and in edition 2 "from first+3×unit−1". The turn number is k, and only allowed
-- periods have nodes: "a run with a longer unit stays in the list but has no white nodes".
pub record White (allowed : ℕ → Bool) (k : ℕ) (rows : List Record) (i x : ℕ) : Type 0 where
  pub run : Record
  pub numbered : Entry rows i run
  pub from : run.first + k * run.period ≤ x + 1
  pub to : x ≤ run.last
  pub permitted : T (allowed run.period)

-- ---- the same, computed

-- the numbers, from i + 1 on, of the records that pass a test
abbrev pub numbers_where : (Record → Bool) → ℕ → List Record → List ℕ
numbers_where t i [] = []
numbers_where t i (r ∷ rs) = cond (t r) (suc i ∷ []) [] ++ numbers_where t (suc i) rs

-- the numbers of the runs with a white node at position x
unfoldable pub nodes_at : (ℕ → Bool) → ℕ → List ℕ → ℕ → List ℕ
nodes_at allowed k w x = numbers_where (node? allowed k x) 0 (runs_of w)
