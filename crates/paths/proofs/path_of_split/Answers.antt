-- `paths::path_of_split` meets its contract: the word has the numbers of the symbols. Assumes nothing.
use Rattle.paths.proofs.path_of_split.Goals as goal

pub returns-clause-meaning : goal.returns-clause-meaning
returns-clause-meaning g c = rw c.word.ensures.numbers at c.path.ensures.path_meaning
