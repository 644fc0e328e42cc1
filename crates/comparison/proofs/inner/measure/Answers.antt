-- `comparison::inner::measure` meets its contract: what it reads off is that of a filled table. Assumes nothing.
use Rattle.std.proofs.Common.{◌≡◌, List, ℕ, length, get_or, ◌∙◌, arith}
use Rattle.periods.specs.Period.{repetition?, held_period}
use Rattle.periods.specs.Edition.{turns_in}
use Rattle.periods.specs.Width.{symbols}
use Rattle.factors.specs.Factorization.{fewest}
use Rattle.factorizer.proofs.Lengths.{sized_readable}
use Rattle.comparison.specs.Measure.{end_in}
use Rattle.comparison.proofs.Measures.{given_size, given_end}
use Rattle.comparison.proofs.inner.measure.Goals as goal

-- what read_off ensures, where n is the word's length as the call of `len` gives it
read_so : (w : List ℕ) (n : ℕ) → n ≡ length w → (x : List ℕ) (size end : ℕ) → (size ≡ get_or x n 0) × (end ≡ end_in n x) → (size ≡ get_or x (length w) 0) × (end ≡ end_in (length w) x)
read_so w n is x size end r = rw is at r

pub read_off-requires : goal.read_off-requires
read_off-requires c =
    sized_readable (symbols c.args.w) c.len.result c.len.ensures (repetition? held_period (turns_in c.args.edition)) fewest c.args.work.now _ (omega arith) (omega arith) c.fill.ensures

pub returns-clause-size_value : goal.returns-clause-size_value
returns-clause-size_value c =
    let w = symbols c.args.w in
    let k = turns_in c.args.edition in
    let r = read_so w c.len.result c.len.ensures c.fill.new.work c.read_off.result.size c.read_off.result.end c.read_off.ensures in
    (r.0 ∙ given_size k w c.args.work.now _ c.fill.ensures (omega arith), r.1 ∙ given_end k w c.args.work.now _ c.fill.ensures (omega arith))
