-- `prefixes::inner::View::extend` meets its contract: its loop keeps that the symbols agree so far. Assumes nothing.
use Rattle.std.proofs.Common.{length}
use Rattle.prefixes.specs.Match.{view, Agree}
use Rattle.prefixes.proofs.inner.View.extend.Given as goal

abbrev pub invariant-loop-k : goal.invariant-loop-k
invariant-loop-k l = Agree (view l.self.mirrored l.self.part.now) (length l.self.part.now) l.mid l.i l.k
