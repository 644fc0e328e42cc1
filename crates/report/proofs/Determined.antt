-- The meaning in the report's contract leaves nothing open: only the count and the bytes of the computed text have it. The runs are listed in
-- one way only, and a best factorization is one only, so there is one text. By cases on the meaning. Assumes nothing.
use mathlib.Core.Path.{◌≡◌, sym, ap, ◌∙◌}
use mathlib.Core.List.{List, [], ◌∷◌, ◌++◌}
use Prim.Native.Nat.{ℕ}
use native.Mathlib.Omega.{arith}
use lib.ListN.{length}
use lib.Seq.{sets}
use Rattle.periods.specs.Period.{held_period}
use Rattle.runs.proofs.Determined.{lists_unique}
use Rattle.factors.specs.Factorization.{Choice, smallest, largest, size}
use Rattle.factors.proofs.Optimal.{best_unique}
use Rattle.repetitions.specs.Block.{Block}
use Rattle.report.specs.Text.{printed_turns, fewest_name, most_name, block_lines, text}
use Rattle.writers.specs.Line.{line}
use Rattle.report.specs.Meaning.{SplitPrinted, none_printed, best_printed, Printed, refused_alone, all_lines, ReportMeaning}
use Rattle.report.proofs.Reports.{text_printed}

pub split_printed_unique : (w : List ℕ) (c : Choice) (name s r : List ℕ) → SplitPrinted w c name s → SplitPrinted w c name r → s ≡ r
split_printed_unique w c name s r (none_printed n e) (none_printed m f) = e ∙ sym f
split_printed_unique w c name s r (none_printed n e) (best_printed fs C f) = absurd (n fs C.factorization)
split_printed_unique w c name s r (best_printed es B e) (none_printed m f) = absurd (m es B.factorization)
split_printed_unique w c name s r (best_printed es B e) (best_printed fs C f) =
    e ∙ ap (λ (xs : List ℕ). line name (size xs ∷ []) ++ block_lines w 0 0 xs) (best_unique c (Block held_period printed_turns w) (length w) (size es) (size fs) es fs B C).1 ∙ sym f

-- CLAIM: a word has one text
pub printed_unique : (w s r : List ℕ) → Printed w s → Printed w r → s ≡ r
printed_unique w s r (refused_alone h e) (refused_alone k f) = e ∙ sym f
printed_unique w s r (refused_alone h e) (all_lines k rows L x y X Y f) = absurd (omega arith)
printed_unique w s r (all_lines h rows L x y X Y e) (refused_alone k f) = absurd (omega arith)
printed_unique w s r (all_lines h rows L x y X Y e) (all_lines k others M u v A B f) =
    let a : rows ≡ others = lists_unique w rows others L M in
    let b : x ≡ u = split_printed_unique w smallest fewest_name x u X A in
    let c : y ≡ v = split_printed_unique w largest most_name y v Y B in
    e ∙ rw (a, b, c) (sym f)

-- CLAIM: the meaning of the report determines the count and the bytes
pub report_determined : (w t : List ℕ) (n : ℕ) (u : List ℕ) → ReportMeaning w t n u → (n ≡ length (text w)) × (u ≡ sets t 0 (text w))
report_determined w t n u M =
    let e = printed_unique w M.lines (text w) M.printed (text_printed w) in
    (M.counted ∙ ap length e, M.stored ∙ ap (sets t 0) e)
