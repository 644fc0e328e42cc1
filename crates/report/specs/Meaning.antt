-- What the printed text and the report say, in words.
use Rattle.std.specs.Prelude.{◌≡◌, List, [], ◌∷◌, ◌++◌, ℕ, ◌≤◌, ◌<◌, length}
use Rattle.std.proofs.lemmas.List.Edits.{sets}
use Rattle.periods.specs.Period.{held_period}
use Rattle.runs.specs.declared.Record.{Record}
use Rattle.runs.specs.Run.{Lists}
use Rattle.factors.specs.Factorization.{Choice, smallest, largest, size, Best}
use Rattle.repetitions.specs.Block.{Block}
use Rattle.repetitions.specs.BestSplit.{Unsplittable}
use Rattle.report.specs.Text.{program_limit, printed_turns, passes_name, fewest_name, most_name, none_text, refused_text, run_lines, block_lines}
use Rattle.writers.specs.Line.{line}

-- "fewest with its size and then its blocks, and most in the same way"; "With no split it prints fewest,none and most,none."
pub data SplitPrinted (w : List ℕ) (c : Choice) (name s : List ℕ) : Type 0 where
  none_printed : Unsplittable printed_turns w → s ≡ name ++ none_text → SplitPrinted w c name s
  best_printed : (es : List ℕ) → Best c (Block held_period printed_turns w) (length w) (size es) es → s ≡ line name (size es ∷ []) ++ block_lines w 0 0 es → SplitPrinted w c name s

-- "The lines are passes with n, each run in order, fewest ..., and most in the same way."
pub data Printed (w s : List ℕ) : Type 0 where
  refused_alone : program_limit < length w → s ≡ refused_text → Printed w s
  all_lines :
      length w ≤ program_limit → (rows : List Record) → Lists w rows → (fewest most : List ℕ) → SplitPrinted w smallest fewest_name fewest → SplitPrinted w largest most_name most
      → s ≡ line passes_name (length w ∷ []) ++ (run_lines 0 rows ++ (fewest ++ most)) → Printed w s

-- t is the lent table of bytes at entry, u at exit: the text is stored as far as there are bytes, and its bytes are counted
pub record ReportMeaning (w t : List ℕ) (count : ℕ) (u : List ℕ) : Type 0 where
  pub lines : List ℕ
  pub printed : Printed w lines
  pub counted : count ≡ length lines
  pub stored : u ≡ sets t 0 lines
