-- Periods and repetitions of a word, which is the list of its symbols (passes). Definitions only; proofs/ shows that the computed ones agree with the others.
use Rattle.std.specs.Prelude.{Bool, true, cond, ◌&&◌, List, [], ◌∷◌, ◌++◌, ℕ, zero, suc, ◌+◌, ◌-◌, ◌*◌, ◌≤◌, ◌<◌, ◌≡◌, T, leb, ltb, eqb, length, get_or, take, drop}

-- the part of a word after boundary (joint) a, up to boundary b: its symbols at the positions a + 1 to b
abbrev pub part : List ℕ → ℕ → ℕ → List ℕ
part w a b = take (b - a) (drop a w)

-- "p is a period of a non-empty part when 1 ≤ p ≤ its length and any two of its passes p apart are equal."
pub record Period (s : List ℕ) (p : ℕ) : Type 0 where
  pub positive : 1 ≤ p
  pub fits : p ≤ length s
  pub same : (i : ℕ) → i + p < length s → get_or s i 0 ≡ get_or s (i + p) 0

-- the unit: "the smallest p at which no pair of passes p apart differs"
pub record SmallestPeriod (s : List ℕ) (p : ℕ) : Type 0 where
  pub period : Period s p
  pub least : (q : ℕ) → Period s q → p ≤ q

-- a block: "A part with length ≥ 2 × unit", and 3 × unit in edition 2. The turn number is k, and only the periods that a test allows count.
pub record Repetition (allowed : ℕ → Bool) (k : ℕ) (s : List ℕ) : Type 0 where
  pub period : ℕ
  pub smallest : SmallestPeriod s period
  pub long : k * period ≤ length s
  pub permitted : T (allowed period)

-- "Square blocks keep any length", and so do the units of runs: "a run with a longer unit stays in the list"
abbrev pub any_period : ℕ → Bool
any_period p = true

-- the periods of at most so many symbols
abbrev pub up_to : ℕ → ℕ → Bool
up_to most p = leb p most

-- "unit memory holds 256 passes"
abbrev pub unit_memory : ℕ
unit_memory = 256

-- "A block's unit is then its smallest period and must be 256 or less, in both editions"
abbrev pub held_period : ℕ → Bool
held_period = up_to unit_memory

-- ---- the same, computed

-- the test passes at each of the d numbers from i on
abbrev pub all : (ℕ → Bool) → ℕ → ℕ → Bool
all t i zero = true
all t i (suc d) = t i && all t (suc i) d

-- the first of the d numbers from p on that passes the test, or p + d where none does
abbrev pub seek : (ℕ → Bool) → ℕ → ℕ → ℕ
seek t zero p = p
seek t (suc d) p = elim (t p) [ true ↦ p | Bool.false ↦ seek t d (suc p) ]

-- no pair of symbols p apart differs
abbrev pub agrees : List ℕ → ℕ → Bool
agrees s p = all (λ i. eqb (get_or s i 0) (get_or s (i + p) 0)) 0 (length s - p)

-- the smallest period (unit); 0 for the empty word, which has none
unfoldable pub smallest_period : List ℕ → ℕ
smallest_period [] = 0
smallest_period (x ∷ xs) = seek (agrees (x ∷ xs)) (length xs) 1

-- whether a word is a repetition (block)
unfoldable pub repetition? : (ℕ → Bool) → ℕ → List ℕ → Bool
repetition? allowed k s = ltb 0 (length s) && (leb (k * smallest_period s) (length s) && allowed (smallest_period s))

-- whether a part of this length with this unit is a block of k turns
abbrev pub block_of? : ℕ → ℕ → ℕ → Bool
block_of? k len u = leb (k * u) len && held_period u

-- the unit of a block of k turns, 0 for a word that is none
unfoldable pub block_unit : ℕ → List ℕ → ℕ
block_unit k s = cond (repetition? held_period k s) (smallest_period s) 0

-- the smallest periods of the prefixes of lengths 1 to m, in this order
unfoldable pub prefix_periods : List ℕ → ℕ → List ℕ
prefix_periods s zero = []
prefix_periods s (suc m) = prefix_periods s m ++ (smallest_period (take (suc m) s) ∷ [])

-- these of all prefixes in the first places of a table, whose other places stay
unfoldable pub units_table : List ℕ → List ℕ → List ℕ
units_table s t = prefix_periods s (length s) ++ drop (length s) t
