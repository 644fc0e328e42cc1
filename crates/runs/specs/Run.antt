-- Runs (maximal repetitions) of a word, their roots, and the list of their records. Definitions only. A record is the struct of the code.
use Rattle.std.specs.Prelude.{◌≡◌, ◌⊎◌, ◌≢◌, List, [], ◌∷◌, ℕ, zero, suc, ◌+◌, ◌-◌, ◌*◌, ◌≤◌, ◌<◌, length, get_or}
use Rattle.periods.specs.Period.{part, SmallestPeriod}
use Rattle.runs.specs.declared.Record.{Record}

-- the symbol (pass) at a position from 1
abbrev pub symbol_at : List ℕ → ℕ → ℕ
symbol_at w i = get_or w (i - 1) 0

-- "A block, first to last with unit p, that cannot be lengthened: first = 1 or pass first−1 differs from pass first+p−1; last = n or pass last+1 differs
-- from pass last−p+1." "Runs stay those of edition 1": whatever an edition asks of blocks, a run has two turns at least, and any period.
pub record Run (w : List ℕ) (first last p : ℕ) : Type 0 where
  pub starts : 1 ≤ first
  pub ends : last ≤ length w
  pub smallest : SmallestPeriod (part w (first - 1) last) p
  pub twice : 2 * p ≤ length (part w (first - 1) last)
  pub left : (first ≡ 1) ⊎ (symbol_at w (first - 1) ≢ symbol_at w (first + p - 1))
  pub right : (last ≡ length w) ⊎ (symbol_at w (last + 1) ≢ symbol_at w (last - p + 1))

-- in order of pass code: the p symbols from position q come before the p symbols from position c, as the first pair that differs decides
pub record Precedes (w : List ℕ) (p q c : ℕ) : Type 0 where
  pub common : ℕ
  pub within : common < p
  pub same : (i : ℕ) → i < common → symbol_at w (q + i) ≡ symbol_at w (c + i)
  pub less : symbol_at w (q + common) < symbol_at w (c + common)

-- "a root: the position q from first to first+unit−1 where the unit passes starting at q come first in order of pass code"
pub record Root (w : List ℕ) (first p q : ℕ) : Type 0 where
  pub from : first ≤ q
  pub to : q ≤ first + p - 1
  pub least : (c : ℕ) → first ≤ c → c ≤ first + p - 1 → c ≢ q → Precedes w p q c

-- entry number i of a list of records, from 1
abbrev pub Entry : List Record → ℕ → Record → Type 0
Entry rows zero r = ⊥
Entry [] (suc i) r = ⊥
Entry (x ∷ xs) (suc zero) r = x ≡ r
Entry (x ∷ xs) (suc (suc i)) r = Entry xs (suc i) r

-- "numbered from 1 by first, then by unit"
abbrev pub Before : Record → Record → Type 0
Before r s = (r.first < s.first) ⊎ ((r.first ≡ s.first) × (r.period < s.period))

abbrev pub Sorted : List Record → Type 0
Sorted [] = Unit {0}
Sorted (x ∷ xs) = ((i : ℕ) (r : Record) → Entry xs i r → Before x r) × Sorted xs

-- the records are exactly the runs of the word, in order, each with its root
pub record Lists (w : List ℕ) (rows : List Record) : Type 0 where
  pub sorted : Sorted rows
  pub sound : (i : ℕ) (r : Record) → Entry rows i r → Run w r.first r.last r.period
  pub rooted : (i : ℕ) (r : Record) → Entry rows i r → Root w r.first r.period r.root
  pub complete : (first last p : ℕ) → Run w first last p → (i : ℕ) × (q : ℕ) × Entry rows i (record { first = first; last = last; period = p; root = q })
