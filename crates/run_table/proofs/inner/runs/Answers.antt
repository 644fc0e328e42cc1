-- `run_table::inner::runs` meets its contract: a word that is too long is refused as `runs_outcome` says, what the finder leaves is the case of `runs_outcome` and
-- `runs_table` that the test leads to, and `runs_mean` says what that means. Assumes nothing.
use Prim.Native.Nat.{◌≤◌, ◌<◌}
use native.Mathlib.Omega.{arith}
use lib.ListN.{length}
use Rattle.answers.specs.Outcome.{limit}
use Rattle.periods.specs.Width.{symbols}
use Rattle.runs.proofs.CallClaims.{runs_too_long, runs_answered}
use Rattle.halves.proofs.Records.{runs_small}
use Rattle.run_table.proofs.Answers.{listed_too_few, listed_written}
use Rattle.run_table.proofs.inner.runs.Goals as goal

pub returns-then-len-gt-LIMIT : goal.returns-then-len-gt-LIMIT
returns-then-len-gt-LIMIT c =
    let w = symbols c.args.w in
    let t = c.args.table.now in
    let long : limit < length w = omega arith in
    let a = runs_answered w t _ _ (runs_too_long w t long) in
    record { result_value = a.0; table_after = a.1.0; runs_meaning = a.1.1 }

-- the count stays small
pub overflow_mul-count : goal.overflow_mul-count
overflow_mul-count c =
    let w = symbols c.args.w in
    let fits : length w ≤ limit = omega arith in
    omega (arith, c.list-count.ensures.value, runs_small w fits)

pub overflow_cast-result : goal.overflow_cast-result
overflow_cast-result c =
    let w = symbols c.args.w in
    let fits : length w ≤ limit = omega arith in
    omega (arith, c.list-count.ensures.value, runs_small w fits)

pub returns-then-table-count : goal.returns-then-table-count
returns-then-table-count c =
    let t = c.args.table.now in
    let l = c.list-count in
    let w = symbols c.args.w in
    let fits : length w ≤ limit = omega arith in
    let a = runs_answered w t _ _ (listed_too_few w t l.new.table l.result fits l.ensures.value l.ensures.table_after (omega (arith, c.if-table-count.true, l.auto.table))) in
    record { result_value = a.0; table_after = a.1.0; runs_meaning = a.1.1 }

pub returns : goal.returns
returns c =
    let t = c.args.table.now in
    let l = c.list-count in
    let w = symbols c.args.w in
    let fits : length w ≤ limit = omega arith in
    let a = runs_answered w t _ _ (listed_written w t l.new.table l.result fits l.ensures.value l.ensures.table_after (omega (arith, c.if-table-count.false, l.auto.table))) in
    record { result_value = a.0; table_after = a.1.0; runs_meaning = a.1.1 }
