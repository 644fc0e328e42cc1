-- `factorizer::inner::spread` meets its contract: its loop is the fold `spread`, and where it stops early no later unit is short enough, since units never
-- fall. Assumes nothing.
use mathlib.Core.Path.{◌≡◌, ap, ◌∙◌}
use mathlib.Core.Bool.{Bool}
use mathlib.Core.List.{List}
use Prim.Native.Nat.{ℕ, ◌+◌, ◌-◌, ◌*◌, ◌<◌, ◌≤◌}
use native.Mathlib.Omega.{arith}
use native.Mathlib.Nat.{mul-le-mul_left}
use borrow.Author.Tests.{le-leb, lt-leb}
use Rattle.periods.specs.Edition.{turns_in}
use Rattle.factors.specs.Factorization.{Choice}
use Rattle.factors.specs.Choice.{choice_in}
use Rattle.factors.specs.Table.{spread}
use Rattle.factors.proofs.Filling.{spread_none, spread_takes, spread_passes, spread_rest, spread_past}
use Rattle.factorizer.specs.Fill.{unit_at, ends_block}
use Rattle.factorizer.proofs.inner.spread.Goals.{then-span-d, else-span-d+else-len-span}
use Rattle.factorizer.proofs.inner.spread.Goals as goal

-- so many turns of the unit that is read; the units stay as they were
span_read : (x : Choice) (n k j s len d : ℕ) (t r : List ℕ) → j + len ≤ n → d < len → r ≡ spread x n j s (ends_block k n t) d t → k * unit_at n r d ≡ k * unit_at n t d
span_read x n k j s len d t r room more is =
    ap (λ (y : List ℕ). k * unit_at n y d) is
    ∙ ap (λ (u : ℕ). k * u) (spread_past x n j s (ends_block k n t) t d (n + 1 + (n + 1) + d) (omega arith) (omega arith))

pub loop-d-init : goal.loop-d-init
loop-d-init c = spread_none _ _ _ _ _ _

pub returns-then-len-span : goal.returns-then-len-span
returns-then-len-span c =
    let g = c.args in
    let l = c.loop-d in
    let k = turns_in g.edition in
    let f : ℕ → Bool = ends_block k g.n g.work.now in
    let e : l.d + (g.len - l.d) ≡ g.len = omega arith in
    let s : c.turns-turns.result * unit_at g.n l.work l.d ≡ k * unit_at g.n g.work.now l.d =
    ap (λ (x : ℕ). x * unit_at g.n l.work l.d) c.turns-turns.ensures
    ∙ span_read (choice_in g.choice) g.n k g.j g.size g.len l.d g.work.now l.work (omega arith) (omega arith) l.invariant in
    l.invariant
    ∙ spread_rest (choice_in g.choice) g.n g.j g.size f g.work.now l.d (g.len - l.d)
    (λ i x y. lt-leb (k * unit_at g.n g.work.now i) (i + 1)
    (omega (arith, c.if-len-span.true, s, mul-le-mul_left k (c.requires.3 l.d i x (omega arith)))))
    ∙ ap (λ (x : ℕ). spread (choice_in g.choice) g.n g.j g.size f x g.work.now) e

pub loop-d-preserved : goal.loop-d-preserved
loop-d-preserved c =
    let g = c.args in
    let l = c.loop-d in
    let k = turns_in g.edition in
    let e : g.j + l.d + 1 ≡ g.j + (l.d + 1) = omega arith in
    let s : c.turns-turns.result * unit_at g.n l.work l.d ≡ k * unit_at g.n g.work.now l.d =
    ap (λ (x : ℕ). x * unit_at g.n l.work l.d) c.turns-turns.ensures
    ∙ span_read (choice_in g.choice) g.n k g.j g.size g.len l.d g.work.now l.work (omega arith) (omega arith) l.invariant in
    elim c.if-span-d.branch [
      | then-span-d w ↦
          w.work-is ∙ w.offer.ensures ∙ rw (l.invariant, e) (spread_takes (choice_in g.choice) g.n g.j g.size (ends_block k g.n g.work.now) g.work.now l.d
          (le-leb (k * unit_at g.n g.work.now l.d) (l.d + 1) (omega (arith, w.if-span-d.true, s))))
      | else-span-d+else-len-span w ↦
          w.work-is ∙ l.invariant ∙ spread_passes (choice_in g.choice) g.n g.j g.size (ends_block k g.n g.work.now) g.work.now l.d
          (lt-leb (k * unit_at g.n g.work.now l.d) (l.d + 1) (omega (arith, w.if-span-d.false, s)))
    ]
