-- `cegridom::codes::cegridom_nodes_16` meets its contract: what the call promises of its answer, and what `hand_over` takes from the answer. Assumes nothing.
use Rattle.std.proofs.Common.{sym}
use Rattle.cegridom.proofs.codes.cegridom_nodes_16.Goals as goal

pub returns-clause-meaning : goal.returns-clause-meaning
returns-clause-meaning c = rw (sym c.nodes-answer.ensures.answer) c.nodes-answer.ensures.meaning
