-- The first record of a list that encloses a part and has its period.
use Rattle.std.specs.Prelude.{ℕ, zero, suc, Bool, true, false, ◌&&◌, List, [], ◌∷◌, leb, eqb}
use Rattle.runs.specs.declared.Record.{Record}

-- how many records the bench program holds
abbrev pub record_limit : ℕ
record_limit = 1024

-- the bounds lo to hi enclose first to last, and the periods are the same
abbrev pub enclosing? : ℕ → ℕ → ℕ → ℕ → ℕ → ℕ → Bool
enclosing? lo hi p first last period = leb lo first && (leb last hi && eqb p period)

-- 0 where the head is taken, one more than t otherwise
abbrev pub step : Bool → ℕ → ℕ
step true t = zero
step false t = suc t

-- the index of the first record that encloses first to last and has the period; the length where there is none
abbrev pub find_run : List Record → ℕ → ℕ → ℕ → ℕ
find_run [] first last period = zero
find_run (r ∷ rs) first last period = step (enclosing? r.first r.last r.period first last period) (find_run rs first last period)
