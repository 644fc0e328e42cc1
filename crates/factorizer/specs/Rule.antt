-- The two kinds of blocks, repetitions of an edition and squares, by one rule.
use Rattle.std.specs.Prelude.{Bool, cond, List, ℕ, eqb}
use Rattle.periods.specs.Period.{repetition?, held_period}
use Rattle.periods.specs.Square.{square?}
use Rattle.periods.specs.Edition.{first_edition, turns_in}
use Rattle.periods.specs.declared.edition.Edition.TheVariants.{First, Second}
use Rattle.factorizer.specs.declared.Rule.{Rule}
use Rattle.factorizer.specs.declared.Rule.TheVariants.{Repetition, Square}

-- the rule for the blocks of an edition, by its number
abbrev pub rule_of : ℕ → Rule
rule_of e = Repetition (cond (eqb e first_edition) First Second)

-- whether a word is a block by a rule
abbrev pub block_by : Rule → List ℕ → Bool
block_by (Repetition e) = repetition? held_period (turns_in e)
block_by Square = square?
