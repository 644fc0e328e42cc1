-- `squares::inner::fill_with` meets its contract: the first records of the finder's table are the runs, which is what the filling goes by (`listed_runs`), and what the
-- finder left in the four rows does not count. Assumes nothing.
use mathlib.Core.Path.{◌≡◌, refl, ◌∙◌}
use mathlib.Core.List.{List}
use Prim.Native.Nat.{ℕ, ◌+◌, ◌*◌, ◌≤◌}
use native.Mathlib.Omega.{arith}
use lib.ListN.{length, drop, length-append, length-take, length-drop, length-replicate}
use Rattle.runs.specs.declared.Listing.TheVariants.{Records}
use Rattle.runs.specs.Table.{runs_of, stride}
use Rattle.runs.proofs.Few.{table_at_most}
use Rattle.halves.specs.Scratch.{listed}
use Rattle.halves.proofs.Records.{records_listed}
use Rattle.factors.specs.Table.{rows}
use Rattle.slots.specs.Ready.{RunsIn}
use Rattle.squares.proofs.inner.fill_with.Goals as goal

listed_runs : (w t u : List ℕ) → stride * length w ≤ length t → length u ≡ length t → u ≡ listed Records w t → RunsIn w u
listed_runs w t u room long is = (omega (arith, table_at_most w), records_listed w t u (length (runs_of w)) room refl is)

pub fill-requires : goal.fill-requires
fill-requires g c =
    let end = rows * (c.len.result + 1) in
    let fits : length c.list-count.new.scratch ≡ end = c.list-count.auto.scratch ∙ length-take end c.args.work.now ∙ omega arith in (
      (c.requires.0.0, omega (arith, length-append c.list-count.new.scratch (drop end c.args.work.now), fits, length-drop end c.args.work.now)),
      listed_runs _ _ _ (omega (arith, length-replicate {A = ℕ} g.row.ROOM 0)) c.list-count.auto.table c.list-count.ensures.table_after,
      c.list-count.ensures.value,
    )
