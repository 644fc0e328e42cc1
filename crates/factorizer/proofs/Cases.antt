-- Cases for the calls that give a best split: what is lent to them, what is expected, and that a case that passes its test holds. Each call's examples are a table
-- of these. Assumes nothing.
use mathlib.Core.Path.{◌≡◌}
use mathlib.Core.Bool.{Bool, true, ◌&&◌}
use mathlib.Core.List.{List, [], ◌∷◌, ◌++◌}
use Prim.Native.Nat.{ℕ, ◌+◌, ◌-◌, ◌*◌}
use lib.Dec.{T}
use lib.ListN.{length, replicate}
use Rattle.laws.proofs.Tests.{and_left, and_right}
use Rattle.answers.specs.Outcome.{Outcome}
use Rattle.answers.proofs.Same.{same?, same_outcome?, same_means, same_outcome_means}

-- the tables are lent with other numbers in them: as many places for ends as there are symbols and one more, and one place more than the working table needs
abbrev pub lent_ends : List ℕ → List ℕ
lent_ends w = replicate (length w + 1) 7

abbrev pub lent_work : List ℕ → List ℕ
lent_work w = replicate (4 * (length w + 1)) 9 ++ (9 ∷ [])

-- the ends, and the other places as they were
abbrev pub ends_left : List ℕ → List ℕ → List ℕ
ends_left w ends = ends ++ replicate (length w + 1 - length ends) 7

-- the sizes, zeros, and what follows as it was
abbrev pub work_left : List ℕ → List ℕ → List ℕ
work_left w best = best ++ (replicate (3 * (length w + 1)) 0 ++ (9 ∷ []))

-- what a call's definitions give for a word, the answer, the ends' table and the working table; and what is expected: the answer, the first places of the
-- ends' table, the best size of each prefix length
pub record Case : Type 0 where
  pub word : List ℕ
  pub gives : Outcome
  pub table : List ℕ
  pub work : List ℕ
  pub answer : Outcome
  pub ends : List ℕ
  pub best : List ℕ

-- the definitions give what is expected
abbrev pub Holds : Case → Type 0
Holds c = (c.gives ≡ c.answer) × (c.table ≡ ends_left c.word c.ends) × (c.work ≡ work_left c.word c.best)

-- the same as a test
abbrev pub holds? : Case → Bool
holds? c = same_outcome? c.gives c.answer && (same? c.table (ends_left c.word c.ends) && same? c.work (work_left c.word c.best))

abbrev pub all : List Case → Bool
all [] = true
all (c ∷ cs) = holds? c && all cs

-- a case that passes the test holds
pub holds_means : (c : Case) → T (holds? c) → Holds c
holds_means c h =
    let x = c.table in
    let y = c.work in
    let o = c.gives in
    let ends = same? x (ends_left c.word c.ends) in
    let work = same? y (work_left c.word c.best) in
    let rest = and_right (same_outcome? o c.answer) (ends && work) h in (
      same_outcome_means o c.answer (and_left (same_outcome? o c.answer) (ends && work) h),
      same_means x (ends_left c.word c.ends) (and_left ends work rest),
      same_means y (work_left c.word c.best) (and_right ends work rest),
    )
