-- `show::cases::rows` meets its contract: calls at the rows that are left, after those that were made, are calls at all of the rows. Assumes nothing.
use Rattle.std.proofs.Common.{of_calls}
use mathlib.Core.Path.{refl, sym, subst}
use Rattle.std.specs.Fn.{CalledAt}
use Rattle.std.specs.List.{FoldsTo}
use Rattle.std.proofs.lemmas.Fn.{called_at}
use Rattle.show.proofs.Tables.{rows_more, rows_done}
use Rattle.show.proofs.cases.rows.Goals as goal

pub loop-at-preserved : goal.loop-at-preserved
loop-at-preserved g c =
    let l = c.loop-at in
    let s = c.args.table.now in
    let e = rows_more s l.at c.place-end.result c.loop-at-test.true c.place-end.ensures.value in (
      search of_calls,
      λ last h. l.invariant.1 last
          (subst (λ rs. FoldsTo (λ p x q. CalledAt g.F.FnMut p x tt q) l.visit rs last) (sym e) (c.visit.new.self, called_at g.F.FnMut c.visit.ensures refl, h)),
    )

pub returns : goal.returns
returns g c =
    let l = c.loop-at in
    (l.visit, l.invariant.1 l.visit (subst (λ rs. FoldsTo (λ p x q. CalledAt g.F.FnMut p x tt q) l.visit rs l.visit) (sym (rows_done c.args.table.now l.at c.loop-at-test.false)) refl))
