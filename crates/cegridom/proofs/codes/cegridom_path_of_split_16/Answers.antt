-- `cegridom::codes::cegridom_path_of_split_16` meets its contract: what the call promises of its answer, and what `hand_over` takes from the answer. Assumes nothing.
use Rattle.std.proofs.Common.{sym}
use Rattle.cegridom.proofs.codes.cegridom_path_of_split_16.Goals as goal

pub returns-clause-meaning : goal.returns-clause-meaning
returns-clause-meaning c = rw (sym c.path_of_split-answer.ensures.answer) c.path_of_split-answer.ensures.meaning
