-- The part call: "For first and last: unit, turns, rest, block or not." It "now writes the unit of every leading part of that part but the empty one, one
-- place for each length from 1". Refusals: "Part: 1, 6", 12 "directly after 1", and 7 "after 6".
use Rattle.std.specs.Prelude.{◌↔◌, Bool, cond, ◌||◌, List, [], ◌∷◌, ◌≡◌, ℕ, ◌+◌, ◌-◌, ◌*◌, ◌/◌, ◌%◌, ◌≤◌, ◌<◌, ltb, length, get_or, take, drop, Result, Ok, Err}
use Rattle.answers.specs.declared.Refusal.{Refusal}
use Rattle.answers.specs.declared.Refusal.TheVariants.{TooLong, BadPosition, TooFewPlaces, BadEdition}
use Rattle.answers.specs.Outcome.{Outcome, accepted, refused, refusal, limit}
use Rattle.periods.specs.declared.Description.{Description}
use Rattle.periods.specs.Period.{part, SmallestPeriod, Repetition, smallest_period, repetition?, held_period, units_table}
use Rattle.periods.specs.Edition.{Edition, bad_edition?, turns_of}

-- block or not, as a number
abbrev pub flag : Bool → ℕ
flag b = cond b 1 0

-- the answer in document 01's numbers: unit, turns, rest, and 1 for a block or 0
abbrev pub part_view : Result Description Refusal → Outcome
part_view (Ok d) = accepted (d.period ∷ d.exponent ∷ d.remainder ∷ flag d.repetition ∷ [])
part_view (Err r) = refusal r

-- "Turns = length divided by unit, rounded down; rest = the remainder." Only block or not depends on the turn number k, and on what unit memory holds.
unfoldable pub description : ℕ → List ℕ → List ℕ
description k s =
    smallest_period s ∷ length s / smallest_period s ∷ length s % smallest_period s ∷ flag (repetition? held_period k s) ∷ []

-- "1 now means above 70,000" "12, an edition other than 1 or 2" "6: first below 1, last above n or first above last" "7: fewer output places ... than the answer
-- needs", which are one for each length from 1 to last − first + 1. One of these is met, or the part is described; so many places are lent.
abbrev pub tested_part : {A : Type 0} → List ℕ → ℕ → ℕ → ℕ → ℕ → A → A → A → A → A → A
tested_part w edition first last places long unknown outside few described =
    cond (ltb limit (length w)) long
    (cond (bad_edition? edition) unknown
    (cond (ltb first 1 || (ltb (length w) last || ltb last first)) outside
    (cond (ltb places (last - first + 1)) few
    described)))

unfoldable pub part_outcome : List ℕ → ℕ → ℕ → ℕ → ℕ → Outcome
part_outcome w edition first last places =
    tested_part w edition first last places (refusal TooLong) (refusal BadEdition) (refusal BadPosition) (refusal TooFewPlaces)
    (accepted (description (turns_of edition) (part w (first - 1) last)))

-- the lent table afterwards: a refusal changes no place, an answer only the first that it needs
unfoldable pub part_table : List ℕ → ℕ → ℕ → ℕ → List ℕ → List ℕ
part_table w edition first last t =
    tested_part w edition first last (length t) t t t t (units_table (part w (first - 1) last) t)

-- ---- what the answer means

abbrev pub Within : List ℕ → ℕ → ℕ → Type 0
Within w first last = (1 ≤ first) × (first ≤ last) × (last ≤ length w)

pub record Describes (k : ℕ) (s : List ℕ) (period exponent remainder block : ℕ) : Type 0 where
  pub smallest : SmallestPeriod s period
  pub divided : exponent * period + remainder ≡ length s
  pub short : remainder < period
  pub flagged : block ≤ 1
  pub is_block : (block ≡ 1) ↔ Repetition held_period k s

-- each place is the unit of that leading part as a word of its own, and the unit answered, u, "is the last of them"; t and x are the table at entry and
-- at exit
pub record Grows (s t x : List ℕ) (u : ℕ) : Type 0 where
  pub units : (m : ℕ) → 1 ≤ m → m ≤ length s → SmallestPeriod (take m s) (get_or x (m - 1) 0)
  pub last : get_or x (length s - 1) 0 ≡ u
  pub kept : drop (length s) x ≡ drop (length s) t
  pub long : length x ≡ length t

pub data PartMeaning (w : List ℕ) (edition first last : ℕ) (t : List ℕ) (o : Outcome) (x : List ℕ) : Type 0 where
  too_long : limit < length w → o ≡ refused 1 0 → x ≡ t → PartMeaning w edition first last t o x
  bad_edition : length w ≤ limit → (Edition edition → ⊥) → o ≡ refused 12 0 → x ≡ t → PartMeaning w edition first last t o x
  outside : length w ≤ limit → Edition edition → (Within w first last → ⊥) → o ≡ refused 6 0 → x ≡ t → PartMeaning w edition first last t o x
  too_few :
      length w ≤ limit → Edition edition → Within w first last → length t < last - first + 1 → o ≡ refused 7 0 → x ≡ t
      → PartMeaning w edition first last t o x
  described :
      length w ≤ limit → Edition edition → Within w first last → last - first + 1 ≤ length t → (u q r b : ℕ)
      → Describes (turns_of edition) (part w (first - 1) last) u q r b → o ≡ accepted (u ∷ q ∷ r ∷ b ∷ []) → Grows (part w (first - 1) last) t x u
      → PartMeaning w edition first last t o x
