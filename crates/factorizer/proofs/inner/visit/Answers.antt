-- `factorizer::inner::visit` meets its contract: each way out is a law of proofs/Visits.antt. Assumes nothing.
use mathlib.Core.Path.{◌≡◌, sym, ap, subst}
use Prim.Native.Nat.{min, ◌+◌, ◌-◌, ◌≤◌}
use native.Mathlib.Omega.{arith}
use lib.ListN.{length}
use Rattle.periods.specs.Edition.{turns_in}
use Rattle.periods.specs.Width.{symbols}
use Rattle.periods.proofs.Editions.{turns_in_range}
use Rattle.factors.specs.Choice.{choice_in}
use Rattle.factors.proofs.Lent.{lent}
use Rattle.factorizer.specs.Fill.{UnitsRise}
use Rattle.factorizer.specs.Window.{window_of}
use Rattle.factorizer.proofs.FillLaws.{second, third, laid, laid_long}
use Rattle.factorizer.proofs.Lengths.{sized_laid, sized_rises, sized_offers}
use Rattle.factorizer.proofs.inner.visit.Goals as goal

pub spread-requires : goal.spread-requires
spread-requires c =
    let g = c.args in
    let w = symbols g.w in
    let n = c.len-n.result in
    let is : n ≡ length w = c.len-n.ensures in
    let d = c.min-len.result in
    let few : g.j + d ≤ length w = omega (arith, c.min-len.ensures, is) in
    let e : lent g.work.now (second n) (third n) c.part.new.units ≡ laid w g.j (g.j + d) g.work.now =
    sized_laid w n is g.j (g.j + d) g.work.now _ (omega arith) (omega (arith, c.min-len.ensures, is, c.turns.ensures, turns_in_range g.edition)) (omega (arith, c.min-len.ensures, is)) (omega arith) c.part.ensures.units_after in (
      omega (arith, is),
      omega (arith, is, few),
      omega (arith, is, ap length e, laid_long w g.j (g.j + d) g.work.now few (omega arith)),
      subst (UnitsRise n d) (sym e) (sized_rises w n is g.j d g.work.now few (omega arith)),
    )

pub returns : goal.returns
returns c =
    let g = c.args in
    let w = symbols g.w in
    let n = c.len-n.result in
    let is : n ≡ length w = c.len-n.ensures in
    let d = c.min-len.result in
    let near : d ≡ min (window_of (turns_in g.edition)) (n - g.j) = rw c.turns.ensures at c.min-len.ensures in
    let e : lent g.work.now (second n) (third n) c.part.new.units ≡ laid w g.j (g.j + d) g.work.now =
    sized_laid w n is g.j (g.j + d) g.work.now _ (omega arith) (omega (arith, c.min-len.ensures, is, c.turns.ensures, turns_in_range g.edition)) (omega (arith, c.min-len.ensures, is)) (omega arith) c.part.ensures.units_after in
    let r = sized_offers w n is (choice_in g.choice) (turns_in g.edition) (turns_in_range g.edition) g.j g.known g.work.now (omega arith) (omega arith) (omega arith) c.requires.windowed
    c.if-size.false d _ _ near e c.spread.ensures in
    record { windowed_next = r.0; rest_kept = r.1 }
