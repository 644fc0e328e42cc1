-- `factorizer::inner::fill` meets its contract: its loop keeps `Windowed` of specs/Window.antt. Assumes nothing.
use mathlib.Core.Path.{◌≡◌, refl, sym, ap, ◌∙◌, subst}
use mathlib.Core.List.{List}
use Prim.Native.Nat.{ℕ, ◌+◌, ◌*◌, ◌≤◌}
use native.Mathlib.Omega.{arith}
use lib.ListN.{length}
use Rattle.periods.specs.Period.{repetition?, held_period}
use Rattle.periods.specs.Edition.{turns_in}
use Rattle.periods.specs.Width.{symbols}
use Rattle.periods.proofs.Editions.{turns_in_range}
use Rattle.factors.specs.Factorization.{Choice}
use Rattle.factors.specs.Choice.{choice_in}
use Rattle.factors.specs.Table.{rows, started, filled}
use Rattle.factors.proofs.Lent.{lent}
use Rattle.factorizer.specs.Piece.{piece?}
use Rattle.factorizer.specs.Window.{window_of, Windowed, RestKept}
use Rattle.factorizer.proofs.FillLaws.{second, zeros, begun_kept}
use Rattle.factorizer.proofs.Windows.{windowed_starts}
use Rattle.factorizer.proofs.Lengths.{sized_begun, sized_filled}
use Rattle.factorizer.proofs.Passing.{lengthens}
use Rattle.factorizer.proofs.inner.fill.Goals as goal

-- the table that the loop begins with keeps what follows the four rows, and so do its later tables
begun_rest : (w : List ℕ) (n : ℕ) → n ≡ length w → (t s z : List ℕ) → rows * (length w + 1) ≤ length t → s ≡ started n t → z ≡ zeros s (n + 1) (second n)
    → RestKept (length w) t (lent s (n + 1) (second n) z)
begun_rest w n is t s z room e f = subst (RestKept (length w) t) (sym (sized_begun w n is t s z e f)) (begun_kept w t room)

rest_after : (n : ℕ) (t x y : List ℕ) → RestKept n t x → RestKept n x y → RestKept n t y
rest_after n t x y a b = (b.0 ∙ a.0, b.1 ∙ a.1)

pub loop-j-init : goal.loop-j-init
loop-j-init _ c =
    let g = c.args in
    let w = symbols g.w in
    let k = turns_in g.edition in (
      subst (Windowed (choice_in c.choice-asked.result) (piece? (repetition? held_period k) w) w (window_of k) 0 0 0)
          (sym (sized_begun w c.len-n.result c.len-n.ensures g.work.now _ _ c.start.ensures (c.fill.ensures.after (λ y h. h))))
          (windowed_starts (choice_in c.choice-asked.result) (piece? (repetition? held_period k) w) w g.work.now (window_of k) (omega arith)),
      (refl, refl),
    )

pub loop-j-preserved : goal.loop-j-preserved
loop-j-preserved _ c =
    let g = c.args in
    let w = symbols g.w in
    let l = c.loop-j in
    let v = c.visit-unit in
    let k = begun_rest w c.len-n.result c.len-n.ensures g.work.now _ _ (omega arith) c.start.ensures (c.fill.ensures.after (λ y h. h)) in
    let p = lengthens (choice_in c.choice-asked.result) (turns_in g.edition) (turns_in_range g.edition) w l.j v.result _ (omega (arith, v.ensures.rest_kept.0, l.invariant.1.0, k.0)) _ v.ensures.windowed_next
    (rw c.turns-window.ensures at c.lengthen.ensures) in
    (p.0, (p.1.0 ∙ v.ensures.rest_kept.0 ∙ l.invariant.1.0, p.1.1 ∙ v.ensures.rest_kept.1 ∙ l.invariant.1.1))

pub returns : goal.returns
returns _ c =
    let g = c.args in
    let w = symbols g.w in
    let l = c.loop-j in
    let k = rest_after (length w) g.work.now _ l.work (begun_rest w c.len-n.result c.len-n.ensures g.work.now _ _ (omega arith) c.start.ensures (c.fill.ensures.after (λ y h. h))) l.invariant.1 in
    sized_filled w c.len-n.result c.len-n.ensures (choice_in c.choice-asked.result) (piece? (repetition? held_period (turns_in g.edition)) w) g.work.now l.work _ (omega arith) k
    (λ m h. l.invariant.0.upto m h (omega (arith, c.len-n.ensures))) (c.fill-2.ensures.after (λ y h. h))
    ∙ ap (λ (x : Choice). filled x (piece? (repetition? held_period (turns_in g.edition)) w) (length w) g.work.now) c.choice-asked.ensures
