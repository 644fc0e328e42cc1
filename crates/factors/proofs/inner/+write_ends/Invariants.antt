-- write_ends writes the ends of the blocks up to boundary j: the last one is stored, the call below writes those before it, and ends_back is the two together.
-- The boundary falls at each call. Assumes nothing.
use Rattle.factors.proofs.inner.+write_ends.Given as goal

abbrev pub decreases-write_ends : goal.decreases-write_ends
decreases-write_ends l = l.j
