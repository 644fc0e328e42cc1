-- What the inner functions go by: the numbers of the marks that are set, and what the call answers and writes once the tests before it are passed.
use Rattle.std.specs.Prelude.{cond, List, [], ◌∷◌, ◌++◌, ℕ, suc, eqb, ltb, length, drop}
use Rattle.answers.specs.declared.Refusal.TheVariants.{TooFewPlaces}
use Rattle.answers.specs.Outcome.{Outcome, accepted, refusal}

-- the numbers, from i + 1 on, of the marks that are 1
abbrev pub marked : ℕ → List ℕ → List ℕ
marked i [] = []
marked i (m ∷ ms) = cond (eqb m 1) (suc i ∷ []) [] ++ marked (suc i) ms

-- the count of these numbers, if so many places suffice for them
abbrev pub listed_outcome : List ℕ → ℕ → Outcome
listed_outcome numbers places = cond (ltb places (length numbers)) (refusal TooFewPlaces) (accepted (length numbers ∷ []))

-- and the table afterwards
abbrev pub listed_table : List ℕ → List ℕ → List ℕ
listed_table numbers t = cond (ltb (length t) (length numbers)) t (numbers ++ drop (length numbers) t)
