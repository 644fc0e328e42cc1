-- The nodes call: what it answers, what it writes, and what that means.
use Rattle.std.specs.Prelude.{◌≡◌, Bool, cond, ◌||◌, ℕ, ◌≤◌, ◌<◌, ltb, length, drop}
use mathlib.Core.List.{List, [], ◌∷◌, ◌++◌, Memᴰ}
use Rattle.answers.specs.declared.Refusal.TheVariants.{TooLong, BadPosition, TooFewPlaces, BadEdition}
use Rattle.answers.specs.Outcome.{Outcome, accepted, refused, refusal, limit}
use Rattle.periods.specs.Period.{held_period}
use Rattle.periods.specs.Edition.{Edition, bad_edition?, turns_of}
use Rattle.runs.specs.declared.Record.{Record}
use Rattle.runs.specs.Run.{Lists}
use Rattle.nodes.specs.Node.{White, nodes_at}

-- ---- "Nodes. For a position 1 to n: the numbers of the runs with a white node there, rising, and their count." "Nodes: 1, 6, 7", and 12 "directly after 1"

-- one of the refusals 1, 12, 6 and 7 is met, or these numbers of runs are listed; so many places are lent
abbrev pub tested_nodes : {A : Type 0} → List ℕ → ℕ → ℕ → ℕ → List ℕ → A → A → A → A → A → A
tested_nodes w edition x places numbers long unknown outside few listed =
    cond (ltb limit (length w)) long
    (cond (bad_edition? edition) unknown
    (cond (ltb x 1 || ltb (length w) x) outside (cond (ltb places (length numbers)) few listed)))

unfoldable pub nodes_outcome : List ℕ → ℕ → ℕ → ℕ → Outcome
nodes_outcome w edition x places =
    let numbers = nodes_at held_period (turns_of edition) w x in
    tested_nodes w edition x places numbers (refusal TooLong) (refusal BadEdition) (refusal BadPosition) (refusal TooFewPlaces) (accepted (length numbers ∷ []))

unfoldable pub nodes_table : List ℕ → ℕ → ℕ → List ℕ → List ℕ
nodes_table w edition x t =
    let numbers = nodes_at held_period (turns_of edition) w x in
    tested_nodes w edition x (length t) numbers t t t t (numbers ++ drop (length numbers) t)

-- each number is greater than the one before it, and than i
abbrev pub Rising : ℕ → List ℕ → Type 0
Rising i [] = Unit {0}
Rising i (x ∷ xs) = (i < x) × Rising x xs

-- the numbers are exactly those of the runs with a white node at position x, rising
pub record ListsNodes (allowed : ℕ → Bool) (k : ℕ) (rows : List Record) (x : ℕ) (numbers : List ℕ) : Type 0 where
  pub rising : Rising 0 numbers
  pub sound : (i : ℕ) → Memᴰ i numbers → White allowed k rows i x
  pub complete : (i : ℕ) → White allowed k rows i x → Memᴰ i numbers

pub data NodesMeaning (w : List ℕ) (edition x : ℕ) (t : List ℕ) (o : Outcome) (u : List ℕ) : Type 0 where
  too_long : limit < length w → o ≡ refused 1 0 → u ≡ t → NodesMeaning w edition x t o u
  bad_edition : length w ≤ limit → (Edition edition → ⊥) → o ≡ refused 12 0 → u ≡ t → NodesMeaning w edition x t o u
  outside : length w ≤ limit → Edition edition → ((1 ≤ x) × (x ≤ length w) → ⊥) → o ≡ refused 6 0 → u ≡ t → NodesMeaning w edition x t o u
  too_few :
      length w ≤ limit → Edition edition → (1 ≤ x) × (x ≤ length w) → (rows : List Record) → Lists w rows → (numbers : List ℕ)
      → ListsNodes held_period (turns_of edition) rows x numbers → length t < length numbers → o ≡ refused 7 0 → u ≡ t → NodesMeaning w edition x t o u
  listed :
      length w ≤ limit → Edition edition → (1 ≤ x) × (x ≤ length w) → (rows : List Record) → Lists w rows → (numbers : List ℕ)
      → ListsNodes held_period (turns_of edition) rows x numbers → length numbers ≤ length t → o ≡ accepted (length numbers ∷ []) → u ≡ numbers ++ drop (length numbers) t
      → NodesMeaning w edition x t o u
