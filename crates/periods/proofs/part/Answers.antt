-- `periods::part` meets its contract: the word's numbers are the slice's. Assumes nothing.
use Rattle.periods.proofs.part.Goals as goal

pub returns-clause-meaning : goal.returns-clause-meaning
returns-clause-meaning g c = rw c.word.ensures.numbers at c.part.ensures.part_meaning
