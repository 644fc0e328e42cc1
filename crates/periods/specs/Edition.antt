-- The editions of the winder's controller: "Each call that tests for blocks or nodes is told edition 1 or 2." "12, an edition other than 1 or 2".
use Rattle.std.specs.Prelude.{◌≡◌, ◌⊎◌, Bool, cond, ◌||◌, ℕ, ◌≤◌, ltb, eqb, Result, Ok, Err}
use Rattle.answers.specs.declared.Refusal.{Refusal}
use Rattle.answers.specs.declared.Refusal.TheVariants.{BadEdition}
use Rattle.periods.specs.declared.edition.Edition as known
use Rattle.periods.specs.declared.edition.Edition.TheVariants.{First, Second}

abbrev pub first_edition : ℕ
first_edition = 1

abbrev pub second_edition : ℕ
second_edition = 2

-- "old winders stay in use with two"; "In edition 2 a block has length ≥ 3 × unit"
abbrev pub first_turns : ℕ
first_turns = 2

abbrev pub second_turns : ℕ
second_turns = 3

abbrev pub Edition : ℕ → Type 0
Edition e = (e ≡ first_edition) ⊎ (e ≡ second_edition)

-- the turn number of an edition: the whole turns that its blocks have at least
unfoldable pub turns_of : ℕ → ℕ
turns_of e = cond (eqb e first_edition) first_turns second_turns

-- whether a number is no edition
unfoldable pub bad_edition? : ℕ → Bool
bad_edition? e = ltb e first_edition || ltb second_edition e

-- the turn numbers that there are
abbrev pub Turns : ℕ → Type 0
Turns k = (first_turns ≤ k) × (k ≤ second_turns)

-- the edition that a number names, or refusal 12
unfoldable pub edition_of : ℕ → Result known.Edition Refusal
edition_of e = cond (bad_edition? e) (Err BadEdition) (Ok (cond (eqb e first_edition) First Second))

-- the turn number of an edition that is known
abbrev pub turns_in : known.Edition → ℕ
turns_in First = first_turns
turns_in Second = second_turns
