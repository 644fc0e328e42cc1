-- `LookUp::note` meets its contract: its loop notes the runs in turn. Assumes nothing.
use mathlib.Core.Path.{◌≡◌}
use lib.ListN.{length}
use Rattle.periods.specs.Width.{symbols}
use Rattle.paths.proofs.look_up.LookUp.note.Given as goal

abbrev pub invariant-loop-k : goal.invariant-loop-k
invariant-loop-k l =
    (symbols l.self.w ≡ symbols l.fn.self.w) × (l.self.before ≡ l.fn.self.before) × (l.self.noted ≡ l.k) × (length l.self.keys.now ≡ l.k-end)
