-- The report of a word is its text, and what that says: `report_means`. A word has fewer runs than symbols, so the records that the program holds suffice for the
-- runs of every word that it takes (`records_suffice`), and so do its bytes for every text (`report_whole`). Assumes nothing.
use mathlib.Core.Path.{◌≡◌, refl, sym, ap, ◌∙◌}
use mathlib.Core.List.{List, ◌++◌}
use Prim.Native.Nat.{ℕ, ◌*◌, ◌≤◌, ◌<◌}
use native.Mathlib.Omega.{arith}
use native.Mathlib.Decide.{dec_lt}
use borrow.Author.Tests.{lt-ltb}
use lib.ListN.{length, take, drop}
use lib.Seq.{sets, length-sets, take_at}
use Rattle.laws.proofs.Stores.{sets-front}
use Rattle.periods.specs.Period.{held_period}
use Rattle.runs.specs.Table.{runs_of, stride}
use Rattle.runs.proofs.Records.{length-records}
use Rattle.runs.proofs.Listed.{runs_listed}
use Rattle.runs.proofs.Few.{table_at_most}
use Rattle.runs.specs.declared.Listing.TheVariants.{Records}
use Rattle.halves.specs.Scratch.{listed}
use Rattle.halves.proofs.Records.{records_listed}
use Rattle.factors.specs.Factorization.{choice_of, Cell, unreachable, reached}
use Rattle.factors.proofs.Optimal.{Answers}
use Rattle.repetitions.specs.Block.{Block}
use Rattle.repetitions.specs.BestSplit.{last_cell}
use Rattle.repetitions.proofs.BestClaims.{word_answers}
use Rattle.finder.specs.Find.{record_limit}
use Rattle.report.specs.Text.{printed_turns, program_limit, fewest_name, most_name, refused_text, split_lines, split_text, text}
use Rattle.report.specs.Records.{RunsListed, longest_text}
use Rattle.report.specs.Meaning.{SplitPrinted, none_printed, best_printed, Printed, refused_alone, all_lines, ReportMeaning}
use Rattle.report.proofs.Splits.{ends_of, text_is, text_long}

-- ---- the runs

-- CLAIM: so many records suffice for the runs of every word that the program takes
pub records_suffice : (w table : List ℕ) (count : ℕ) → RunsListed w table count → count ≤ record_limit
records_suffice w table count L = omega (arith, length-records table count, ap length L.2, table_at_most w)

-- the table u that the runs were listed in, for which z was lent
pub runs_stored : (w z u : List ℕ) (count : ℕ) → length w ≤ program_limit → length z ≡ stride * record_limit → length u ≡ length z → count ≡ length (runs_of w) → u ≡ listed Records w z → RunsListed w u count
runs_stored w z u count h k l e f = (h, omega (arith, table_at_most w), records_listed w z u count (omega arith) e f)

-- ---- the text

pub text_refused : (w : List ℕ) → program_limit < length w → text w ≡ refused_text
unfolding text
text_refused w h = rw (lt-ltb program_limit (length w) h) refl

-- CLAIM: no text has more bytes than the longest
pub text_fits : (w : List ℕ) → length (text w) ≤ longest_text
text_fits w = go (dec_lt program_limit (length w))
  where
    go : Dec (program_limit < length w) → length (text w) ≤ longest_text
    go (yes h) = omega (arith, ap length (text_refused w h))
    go (no h) = text_long w (omega arith)

-- ---- what it means

split_printed : (w : List ℕ) (choice : ℕ) (name : List ℕ) → SplitPrinted w (choice_of choice) name (split_text w choice name)
unfolding split_text
split_printed w choice name = go (last_cell printed_turns w choice) (word_answers held_period printed_turns (choice_of choice) w (length w))
  where
    go : (v : Cell) → Answers (choice_of choice) (Block held_period printed_turns w) (length w) v (ends_of w choice) → SplitPrinted w (choice_of choice) name (split_lines w name v (ends_of w choice))
    go unreachable A = none_printed A refl
    go (reached s p) A = best_printed (ends_of w choice) (rw A.sized A) (rw A.sized refl)

-- CLAIM: the text has the lines that the documents ask
pub text_printed : (w : List ℕ) → Printed w (text w)
text_printed w = go (dec_lt program_limit (length w))
  where
    go : Dec (program_limit < length w) → Printed w (text w)
    go (yes h) = refused_alone h (text_refused w h)
    go (no h) =
        all_lines (omega arith) (runs_of w) (runs_listed w) (split_text w 1 fewest_name) (split_text w 2 most_name) (split_printed w 1 fewest_name) (split_printed w 2 most_name)
        (text_is w (omega arith))

module _ (w t : List ℕ) where
  -- what the report promises
  abbrev pub Promised : ℕ → List ℕ → Type 0
  Promised n u = (n ≡ length (text w)) × (u ≡ sets t 0 (text w))

  -- CLAIM: the report is the text that the documents ask
  pub report_means : (n : ℕ) (u : List ℕ) → Promised n u → ReportMeaning w t n u
  report_means n u P = record { lines = text w; printed = text_printed w; counted = P.0; stored = P.1 }

  -- what the call ensures
  pub report_answered : (n : ℕ) (u : List ℕ) → Promised n u → (n ≡ length (text w)) × ((u ≡ sets t 0 (text w)) × ReportMeaning w t n u)
  report_answered n u P = (P.0, (P.1, report_means n u P))

  pub promised_long : program_limit < length w → Promised (length refused_text) (sets t 0 refused_text)
  promised_long h = rw (text_refused w h) (refl, refl)

  -- CLAIM: in so many bytes as the longest text has, the bytes that are counted are the text
  pub report_whole : longest_text ≤ length t → (n : ℕ) (u : List ℕ) → Promised n u → (n ≤ length u) × (take n u ≡ text w)
  report_whole h n u P =
      let k : length (text w) ≤ length t = omega (arith, text_fits w) in
      let e : u ≡ text w ++ drop (length (text w)) t = P.1 ∙ sets-front t (text w) k in
      (omega (arith, P.0, ap length P.1, length-sets t 0 (text w)), ap (take n) e ∙ take_at (text w) (drop (length (text w)) t) n (sym P.0))
