-- `run_table::runs` meets its contract: the symbols of the word that it makes are the numbers of its symbols. Assumes nothing.
use Rattle.run_table.proofs.runs.Goals as goal

pub returns-clause-meaning : goal.returns-clause-meaning
returns-clause-meaning g c = rw c.word.ensures.numbers at c.runs.ensures.runs_meaning
