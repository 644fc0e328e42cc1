-- `factorizer::inner::judge` meets its contract: its loop keeps that the verdict on the ends that are left is the answer. Assumes nothing.
use mathlib.Core.Path.{◌≡◌, sym, subst}
use mathlib.Core.Bool.{Bool}
use Prim.Native.Nat.{ℕ}
use native.Mathlib.Omega.{arith}
use lib.ListN.{length}
use Rattle.periods.specs.Width.{symbols}
use Rattle.factors.proofs.Judging.{judged_from, judged_first}
use Rattle.factorizer.specs.Piece.{piece?}
use Rattle.factorizer.specs.Rule.{block_by}
use Rattle.factorizer.specs.Judge.{piece_verdict}
use Rattle.factorizer.proofs.inner.judge.Goals as goal

pub loop-k-init : goal.loop-k-init
loop-k-init c =
    let g = c.args in
    let w = symbols g.w in
    let f : ℕ → ℕ → ℕ → Bool = λ m. piece? (block_by g.rule) w in
    (omega arith, omega arith, subst (λ (n : ℕ). judged_from f n g.ends.now 0 0 ≡ piece_verdict (block_by g.rule) w g.ends.now) (sym c.len-n.ensures) (judged_first f (length w) g.ends.now))
