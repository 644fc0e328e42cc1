-- Squares and primitive words, as source document 002 defines them. Definitions only; proofs/Squares.antt shows that the computed test agrees with the
-- definition.
use Rattle.std.specs.Prelude.{◌≡◌, Bool, ◌&&◌, List, [], ◌++◌, ℕ, zero, suc, ◌/◌, ◌%◌, ◌≤◌, ◌<◌, ltb, eqb, length}
use Rattle.periods.specs.Period.{agrees}

-- "Batten shops wind a unit exactly twice"
abbrev pub twice : ℕ
twice = 2

-- "let x^0 = ε, and x^k = x^(k-1) · x"
abbrev pub power : ℕ → List ℕ → List ℕ
power zero x = []
power (suc k) x = power k x ++ x

-- "A string w is called primitive if there does not exist a string x and an integer k ≥ 2 such that w = x^k."
abbrev pub Primitive : List ℕ → Type 0
Primitive s = (x : List ℕ) (k : ℕ) → 2 ≤ k → s ≡ power k x → ⊥

-- "For any non-empty string x, a repetition x^2 is called a square." "A square's half need not be primitive"
pub record Square (s : List ℕ) : Type 0 where
  pub half : List ℕ
  pub filled : 0 < length half
  pub twice_over : s ≡ half ++ half

-- "A square x^2 is called a primitively rooted square if x is primitive."
pub record PrimitiveSquare (s : List ℕ) : Type 0 where
  pub square : Square s
  pub primitive : Primitive square.half

-- ---- the same, computed

-- whether a word is a square: it is not empty, its length is even, and no pair of symbols half the length apart differs
unfoldable pub square? : List ℕ → Bool
square? s = ltb 0 (length s) && (eqb (length s % twice) 0 && agrees s (length s / twice))
