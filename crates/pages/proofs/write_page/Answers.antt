-- `pages::write_page` meets its contract: the word has the numbers of the symbols, and their width. Assumes nothing.
use Rattle.pages.proofs.write_page.Goals as goal

pub returns-clause-meaning : goal.returns-clause-meaning
returns-clause-meaning g c = rw (c.word.ensures.numbers, c.word.ensures.width) at c.write.ensures.page_meaning
