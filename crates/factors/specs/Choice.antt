-- The choices as the calls are told them, numbers, and as the functions below the calls take them.
use Rattle.std.specs.Prelude.{ℕ, cond, Result, Ok, Err}
use Rattle.answers.specs.declared.Refusal.{Refusal}
use Rattle.answers.specs.declared.Refusal.TheVariants.{BadChoice}
use Rattle.factors.specs.Factorization.{Choice, smallest, largest, choice_of, bad_choice?}
use Rattle.factors.specs.declared.Choice as known
use Rattle.factors.specs.declared.Choice.TheVariants.{Fewest, Most}

-- what may be asked for
abbrev pub Asked : Type 0
Asked = Choice

-- what a choice that is known asks for
abbrev pub choice_in : known.Choice → Choice
choice_in Fewest = smallest
choice_in Most = largest

abbrev pub known_as : Choice → known.Choice
known_as smallest = Fewest
known_as largest = Most

-- the choice that a number names, or refusal 8
unfoldable pub choice_named : ℕ → Result known.Choice Refusal
choice_named c = cond (bad_choice? c) (Err BadChoice) (Ok (known_as (choice_of c)))
