-- What a call answers, in the documents' numbers: "The answer to any call ... is a full result or one of eleven numbered refusals", to which document 02
-- adds 12.
use Rattle.std.specs.Prelude.{List, [], ◌∷◌, ℕ, Result, Ok, Err}
use Rattle.answers.specs.declared.Code.{Code}
use Rattle.answers.specs.declared.Refusal.{Refusal}
use Rattle.answers.specs.declared.Refusal.TheVariants.{TooLong, NoFactorization, BadEnd, NotBlock, Unfinished, BadPosition, TooFewPlaces, BadChoice, ShortTable, OddPath, NotPlan, BadEdition}

-- "The limit of the library becomes 70,000"
abbrev pub limit : ℕ
limit = 70000

-- an answer with its values, or a refusal: "A refusal returns its number; 3 and 4 add the index of the end, from 1; others add 0."
pub data Outcome : Type 0 where
  accepted : List ℕ → Outcome
  refused : ℕ → ℕ → Outcome

-- the number and the index of each refusal
abbrev pub code_of : Refusal → Code
code_of TooLong = record { 0 = 1; 1 = 0 }
code_of NoFactorization = record { 0 = 2; 1 = 0 }
code_of (BadEnd i) = record { 0 = 3; 1 = i }
code_of (NotBlock i) = record { 0 = 4; 1 = i }
code_of Unfinished = record { 0 = 5; 1 = 0 }
code_of BadPosition = record { 0 = 6; 1 = 0 }
code_of TooFewPlaces = record { 0 = 7; 1 = 0 }
code_of BadChoice = record { 0 = 8; 1 = 0 }
code_of ShortTable = record { 0 = 9; 1 = 0 }
code_of OddPath = record { 0 = 10; 1 = 0 }
code_of NotPlan = record { 0 = 11; 1 = 0 }
code_of BadEdition = record { 0 = 12; 1 = 0 }

abbrev pub refusal : Refusal → Outcome
refusal r = refused (code_of r).0 (code_of r).1

-- the answer of a call that gives one number
abbrev pub counted_view : Result ℕ Refusal → Outcome
counted_view (Ok n) = accepted (n ∷ [])
counted_view (Err r) = refusal r

-- a later answer, where nothing was refused before
abbrev pub unless_refused : Outcome → Outcome → Outcome
unless_refused (accepted v) o = o
unless_refused (refused n i) o = refused n i

-- a table as it was, t, where a call refuses, and else as it leaves it, u
abbrev pub table_unless : Outcome → List ℕ → List ℕ → List ℕ
table_unless (accepted v) t u = u
table_unless (refused n i) t u = t
