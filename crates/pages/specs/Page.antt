-- The page of a split: "Each block of a split becomes one line of exactly 60 characters and byte 10." What the call answers, what it writes, and what that
-- means, for any form of the last column; that of bytes and that of 16-bit codes are `byte_form` and `code_form`.
use Rattle.std.specs.Prelude.{◌≡◌, Bool, true, false, cond, List, [], ◌∷◌, ◌++◌, ℕ, suc, ◌+◌, ◌-◌, ◌*◌, ◌/◌, ◌%◌, ◌≤◌, ◌<◌, ltb, length, drop}
use Rattle.answers.specs.declared.Refusal.TheVariants.{TooFewPlaces}
use Rattle.answers.specs.Outcome.{Outcome, accepted, refused, refusal, limit, unless_refused, table_unless}
use Rattle.periods.specs.Period.{part, SmallestPeriod, smallest_period, held_period}
use Rattle.periods.specs.Edition.{Edition, turns_of}
use Rattle.periods.specs.declared.word.Word.{Word}
use Rattle.periods.specs.Width.{wide?}
use Rattle.runs.specs.Number.{block_numbers}
use Rattle.factors.specs.Factorization.{Factorization, text_of_blocks}
use Rattle.repetitions.specs.Block.{Block}
use Rattle.repetitions.specs.Judge.{SplitMeaning, split_outcome}
use Rattle.paths.specs.Graph.{Segment}
use Rattle.page_lines.specs.declared.form.Form.{Form}
use Rattle.page_lines.specs.Line.{byte_form, code_form, line, line_bytes, OneLine}

-- "A page of 16-bit codes shows .. four lower-case hexadecimal digits each"; "byte pages keep their form": the form by whether symbols are 16-bit codes
abbrev pub form_of : Bool → Form
form_of false = byte_form
form_of true = code_form

-- that of a word's page
abbrev pub form_in : Word → Form
form_in w = form_of (wide? w)

-- the line of the block with a number between boundaries i and j
unfoldable pub page_line : Form → List ℕ → ℕ → ℕ → ℕ → List ℕ
page_line form w number i j = line form (block_numbers w number i j) (part w i (i + smallest_period (part w i j)))

-- the lines of the blocks with these ends; a split of no blocks has the empty page
abbrev pub page : Form → List ℕ → List ℕ → List ℕ
page form w ends = text_of_blocks (page_line form w) 0 0 ends

-- a text, where so many bytes are lent
abbrev pub printed_outcome : List ℕ → ℕ → Outcome
printed_outcome s room = cond (ltb room (length s)) (refusal TooFewPlaces) (accepted (length s ∷ []))

-- "The answer is the count of bytes written." "Errors: judge's order, then 7." So many bytes are lent.
unfoldable pub page_outcome : Form → List ℕ → ℕ → List ℕ → ℕ → Outcome
page_outcome form w edition ends room =
    unless_refused (split_outcome w edition ends) (printed_outcome (page form w ends) room)

-- only these bytes change, and only when accepted
unfoldable pub page_table : Form → List ℕ → ℕ → List ℕ → List ℕ → List ℕ
page_table form w edition ends t = table_unless (page_outcome form w edition ends (length t)) t (page form w ends ++ drop (length (page form w ends)) t)

-- ---- what they mean

-- the bytes are one line, with the number, first and last of the block between boundaries i and j, its smallest period (unit), its turns and rest, the number
-- of a run that encloses it and in which it has two turns, of which there is only one, and the symbols (passes) of its unit
pub record LineOf (form : Form) (w : List ℕ) (number i j : ℕ) (s : List ℕ) : Type 0 where
  pub unit : ℕ
  pub smallest : SmallestPeriod (part w i j) unit
  pub run : ℕ
  pub of_run : Segment held_period 2 w run i j
  pub is : s ≡ line form (number ∷ suc i ∷ j ∷ unit ∷ ((j - i) / unit) ∷ ((j - i) % unit) ∷ run ∷ []) (part w i (i + unit))
  pub one : OneLine s

-- one line for each of the blocks after boundary i that have these ends, with the numbers from k + 1 on
abbrev pub Lines : Form → List ℕ → ℕ → ℕ → List ℕ → List ℕ → Type 0
Lines form w k i [] s = s ≡ []
Lines form w k i (e ∷ es) s = (first : List ℕ) × (others : List ℕ) × LineOf form w (suc k) i e first × Lines form w (suc k) e es others × (s ≡ first ++ others)

-- t is the lent table of bytes at entry, u at exit
pub data PageMeaning (form : Form) (w : List ℕ) (edition : ℕ) (ends t : List ℕ) (o : Outcome) (u : List ℕ) : Type 0 where
  refused_split : (x i : ℕ) → SplitMeaning w edition ends (refused x i) → o ≡ refused x i → u ≡ t → PageMeaning form w edition ends t o u
  too_few :
      length w ≤ limit → Edition edition → Factorization (Block held_period (turns_of edition) w) (length w) ends → length t < line_bytes * length ends → o ≡ refused 7 0
      → u ≡ t → PageMeaning form w edition ends t o u
  written :
      length w ≤ limit → Edition edition → Factorization (Block held_period (turns_of edition) w) (length w) ends → line_bytes * length ends ≤ length t → (s : List ℕ)
      → Lines form w 0 0 ends s → o ≡ accepted (line_bytes * length ends ∷ []) → u ≡ s ++ drop (line_bytes * length ends) t → PageMeaning form w edition ends t o u
