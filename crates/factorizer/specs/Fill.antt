-- What the inner functions go by in the working table.
use Rattle.std.specs.Prelude.{◌≡◌, Bool, cond, List, [], ◌∷◌, ◌++◌, ℕ, ◌+◌, ◌-◌, ◌*◌, ◌≤◌, ◌<◌, leb, ltb, eqb, length, get_or, take, drop, replicate}
use Rattle.answers.specs.declared.Refusal.TheVariants.{NoFactorization, TooFewPlaces}
use Rattle.answers.specs.Outcome.{Outcome, accepted, refusal, limit}
use Rattle.factors.specs.Table.{none, rows, ends_back, Linked}

-- the unit of the part of d + 1 symbols after a boundary, in row 2
abbrev pub unit_at : ℕ → List ℕ → ℕ → ℕ
unit_at n t d = get_or t (n + 1 + (n + 1) + d) 0

-- the units of the parts of up to `len` symbols never fall as the part grows
abbrev pub UnitsRise : ℕ → ℕ → List ℕ → Type 0
UnitsRise n len t = (d e : ℕ) → d ≤ e → e < len → unit_at n t d ≤ unit_at n t e

-- whether k turns of the unit fit into that part, which in a window makes it a block
abbrev pub ends_block : ℕ → ℕ → List ℕ → ℕ → Bool
ends_block k n t d = leb (k * unit_at n t d) (d + 1)

-- the word is within the limit, and the working table has its four rows
abbrev pub Workable : List ℕ → List ℕ → Type 0
Workable w t = (length w ≤ limit) × (rows * (length w + 1) ≤ length t)

-- row 1 of a table
abbrev pub row_one : ℕ → List ℕ → List ℕ
row_one n t = take (n + 1 + (n + 1) - (n + 1)) (drop (n + 1) t)

-- where the whole word has a size, the previous boundaries lead back from its end in so many steps
abbrev pub Leads : ℕ → List ℕ → Type 0
Leads n t = (get_or t n 0 ≡ none → ⊥) → Linked (row_one n t) (get_or t n 0) n

-- an answer can be read off the table for a word of n symbols: rows 0 and 1 lie within it, and the way back is there
abbrev pub Readable : ℕ → List ℕ → Type 0
Readable n t = (n ≤ limit) × (n + 1 + (n + 1) ≤ length t) × Leads n t

-- the answer from the size that stands for the whole word, where so many places are lent for the ends
abbrev pub handed_outcome : ℕ → ℕ → Outcome
handed_outcome v places = cond (eqb v none) (refusal NoFactorization) (cond (ltb places v) (refusal TooFewPlaces) (accepted (v ∷ [])))

-- the ends' table after it
abbrev pub handed_ends : ℕ → List ℕ → List ℕ → List ℕ
handed_ends n t e =
    cond (eqb (get_or t n 0) none) e (cond (ltb (length e) (get_or t n 0)) e (ends_back (row_one n t) (get_or t n 0) n ++ drop (get_or t n 0) e))

-- the table with row 1 cleared
abbrev pub cleared_row : ℕ → List ℕ → List ℕ
cleared_row n t = take (n + 1) t ++ (replicate (n + 1) 0 ++ drop (n + 1 + (n + 1)) t)
