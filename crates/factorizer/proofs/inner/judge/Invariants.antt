-- `factorizer::inner::judge` meets its contract: its loop keeps that the verdict on the ends that are left is the answer. Assumes nothing.
use mathlib.Core.Path.{◌≡◌}
use Prim.Native.Nat.{◌≤◌}
use Rattle.periods.specs.Width.{symbols}
use Rattle.factors.proofs.Judging.{judged_from}
use Rattle.factorizer.specs.Piece.{piece?}
use Rattle.factorizer.specs.Rule.{block_by}
use Rattle.factorizer.specs.Judge.{piece_verdict}
use Rattle.factorizer.proofs.inner.judge.Given as goal

abbrev pub invariant-loop-k : goal.invariant-loop-k
invariant-loop-k l =
    (l.k ≤ l.before) × (l.before ≤ l.n) × (judged_from (λ m. piece? (block_by l.fn.rule) (symbols l.fn.w)) l.n l.ends l.k l.before ≡ piece_verdict (block_by l.fn.rule) (symbols l.fn.w) l.ends)
