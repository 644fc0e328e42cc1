-- `nodes::nodes` meets its contract: the word has the numbers of the symbols. Assumes nothing.
use Rattle.nodes.proofs.nodes.Goals as goal

pub returns-clause-meaning : goal.returns-clause-meaning
returns-clause-meaning g c = rw c.word.ensures.numbers at c.nodes.ensures.nodes_meaning
