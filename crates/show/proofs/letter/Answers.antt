-- `show::letter` meets its contract: a test for no letters, and the formula. Assumes nothing.
use borrow.Author.Tests.{eq-eqb, ne_eqb}
use Rattle.show.specs.Generator.{letter_of}
use Rattle.show.proofs.letter.Goals as goal

pub returns-then-letters-eq0 : goal.returns-then-letters-eq0
unfolding letter_of
returns-then-letters-eq0 c = simp (eq-eqb _ _ c.if-letters-eq0.true)

pub returns : goal.returns
unfolding letter_of
returns c = simp (ne_eqb _ _ c.if-letters-eq0.false)
