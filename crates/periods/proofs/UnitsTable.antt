-- What a table holds once the smallest periods of all prefixes of a word are written: each of them at its place, the word's own at the last, and what was there
-- after them. By the law of each part of an appended list. Assumes nothing.
use mathlib.Core.Path.{◌≡◌, refl, ap, ◌∙◌}
use mathlib.Core.List.{List, [], ◌∷◌}
use Prim.Native.Nat.{ℕ, suc, ◌-◌, ◌≤◌, ◌<◌}
use native.Mathlib.Omega.{arith}
use lib.ListN.{length, get_or, take, drop, length-drop, length-append, get_or-append}
use lib.Seq.{take_all, drop_at}
use Rattle.periods.specs.Period.{part, smallest_period, prefix_periods, units_table}
use Rattle.periods.proofs.InPlace.{placed_part}
use Rattle.periods.proofs.Claims.{part_prefix, prefix_periods-length, prefix_periods_at}

module _ (s t : List ℕ) where
  pub units_length : length s ≤ length t → length (units_table s t) ≡ length t
  unfolding units_table
  units_length h =
      length-append (prefix_periods s (length s)) (drop (length s) t) ∙ omega (arith, prefix_periods-length s (length s), length-drop (length s) t)

  pub units_at : (i : ℕ) → i < length s → get_or (units_table s t) i 0 ≡ smallest_period (take (suc i) s)
  unfolding units_table
  units_at i h =
      get_or-append (prefix_periods s (length s)) (drop (length s) t) 0 i (omega (arith, prefix_periods-length s (length s)))
      ∙ prefix_periods_at s (length s) i h

  pub units_last : 0 < length s → get_or (units_table s t) (length s - 1) 0 ≡ smallest_period s
  units_last h = units_at (length s - 1) (omega arith) ∙ ap smallest_period (take_all (suc (length s - 1)) s (omega arith))

  pub units_rest : drop (length s) (units_table s t) ≡ drop (length s) t
  unfolding units_table
  units_rest = drop_at (prefix_periods s (length s)) (drop (length s) t) (length s) (prefix_periods-length s (length s))

-- of the empty word nothing is written
pub units_none : (s t : List ℕ) → length s ≡ 0 → t ≡ units_table s t
unfolding units_table prefix_periods
units_none [] t e = refl
units_none (x ∷ s) t e = absurd (omega arith)

-- of the part between boundaries a and e, the place of the part up to boundary b
pub units_of_part : (w t : List ℕ) (a b e : ℕ) → a < b → b ≤ e → e ≤ length w → get_or (units_table (part w a e) t) (b - a - 1) 0 ≡ smallest_period (part w a b)
units_of_part w t a b e h k l =
    let f : suc (b - a - 1) ≡ b - a = omega arith in
    units_at (part w a e) t (b - a - 1) (omega (arith, (placed_part w a e l).long)) ∙ rw f (ap smallest_period (part_prefix w a b e k))
