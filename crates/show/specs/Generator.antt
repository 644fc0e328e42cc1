-- The generator of the test programs' words: a linear congruential one.
use Rattle.std.specs.Prelude.{cond, ℕ, ◌+◌, ◌*◌, ◌/◌, ◌%◌, eqb}

-- the next number
abbrev pub next_seed : ℕ → ℕ
next_seed s = (s * 1103515245 + 12345) % 2147483648

-- a letter, of so many from a on; of none as of one
unfoldable pub letter_of : ℕ → ℕ → ℕ
letter_of x letters = cond (eqb letters 0) 97 (97 + x / 65536 % letters % 26)
