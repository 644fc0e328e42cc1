-- `report::inner::write_all` meets its contract: the text is that of the runs that were found. Assumes nothing.
use mathlib.Core.List.{List}
use Prim.Native.Nat.{ℕ, ◌*◌}
use native.Mathlib.Omega.{arith}
use lib.ListN.{replicate, length-replicate}
use Rattle.runs.specs.Table.{stride}
use Rattle.finder.specs.Find.{record_limit}
use Rattle.report.proofs.Reports.{runs_stored}
use Rattle.report.proofs.inner.write_all.Goals as goal

-- the table that is lent for the runs
abbrev table_lent : List ℕ
table_lent = replicate (stride * record_limit) 0

pub write_text-requires : goal.write_text-requires
write_text-requires c =
    let s = c.list-count in
    runs_stored c.args.w.now table_lent s.new.table s.result (omega arith) (length-replicate {A = ℕ} (stride * record_limit) 0) s.auto.table s.ensures.value s.ensures.table_after
