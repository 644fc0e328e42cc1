-- `page_lines::inner::fill` meets its contract: the part that is filled is spaces. Assumes nothing.
use native.Mathlib.Omega.{arith}
use Rattle.page_lines.proofs.Columns.{spaces_stored}
use Rattle.page_lines.proofs.inner.fill.Goals as goal

pub returns : goal.returns
returns c = spaces_stored c.args.out.now _ c.args.at c.args.count (omega arith) (c.fill.ensures.after (λ y e. e))
