-- `cegridom::codes::cegridom_write_page_16` meets its contract: what the call promises of its answer, and what `hand_over` takes from the answer. Assumes nothing.
use Rattle.std.proofs.Common.{sym}
use Rattle.cegridom.proofs.codes.cegridom_write_page_16.Goals as goal

pub returns-clause-meaning : goal.returns-clause-meaning
returns-clause-meaning c = rw (sym c.write_page-answer.ensures.answer) c.write_page-answer.ensures.meaning
