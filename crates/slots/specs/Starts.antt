-- The starts of the squares that end at a boundary inside a run, and which of them is the best. Twice the unit of the run is `two`, and the run starts after
-- boundary a.
use Rattle.std.specs.Prelude.{◌≡◌, cond, List, ℕ, min, ◌+◌, ◌-◌, ◌*◌, ◌%◌, ◌≤◌, ◌<◌, ltb, eqb, get_or}
use Rattle.answers.specs.Outcome.{limit}
use Rattle.factors.specs.Factorization.{Choice, smallest, largest}
use Rattle.factors.specs.Table.{none}

-- the number by which sizes are compared: less is better, and none is worst
abbrev pub rank : Choice → ℕ → ℕ
rank smallest s = s
rank largest s = cond (eqb s none) none (none - 1 - s)

-- the same of the size that stands in row 0 of a table
abbrev pub rank_in : Choice → List ℕ → ℕ → ℕ
rank_in c t i = rank c (get_or t i 0)

-- of two starts the better one, of equal ones the lower
abbrev pub preferred : (ℕ → ℕ) → ℕ → ℕ → ℕ
preferred key i k = cond (ltb (key i) (key k)) i (cond (ltb (key k) (key i)) k (min i k))

-- i is the best of some starts, and the lowest of equal ones
pub record Top (key : ℕ → ℕ) (D : ℕ → Type 0) (i : ℕ) : Type 0 where
  pub member : D i
  pub least : (j : ℕ) → D j → key i ≤ key j
  pub lowest : (j : ℕ) → D j → key j ≤ key i → i ≤ j

-- a square of the run that starts after boundary j and ends at boundary e: its length is a multiple of `two`
pub record Start (a two e j : ℕ) : Type 0 where
  pub from : a ≤ j
  pub below : j < e
  pub multiple : (e - j) % two ≡ 0

-- the place, in row 2 of the table for a word of n symbols, where the best start for boundary e is kept: one for each residue, at the first boundaries of the run
abbrev pub slot_of : ℕ → ℕ → ℕ → ℕ → ℕ
slot_of n a two e = n + 1 + (n + 1) + (a + (e - a) % two)

-- boundary e of a word of n symbols lies in the run
abbrev pub InRun : ℕ → ℕ → ℕ → ℕ → Type 0
InRun n a two e = (n ≤ limit) × (1 ≤ two) × (two ≤ 2 * n) × (a < e) × (e ≤ n)

-- what is kept there is a boundary of the word, once the run held a square `two` before e
abbrev pub Readable : ℕ → List ℕ → ℕ → ℕ → ℕ → Type 0
Readable n t a two e = a + (two + two) ≤ e → get_or t (slot_of n a two e) 0 ≤ n

-- the best start for boundary e: the one `two` before e is the only one, or the best start for the boundary `two` before e was kept
unfoldable pub lead_of : Choice → ℕ → List ℕ → ℕ → ℕ → ℕ → ℕ
lead_of c n t a two e = cond (ltb (e - a) (two + two)) (e - two) (preferred (rank_in c t) (get_or t (slot_of n a two e) 0) (e - two))
