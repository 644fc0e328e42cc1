-- `report::inner::split_lines` meets its contract: best split can only answer, or say that there is no split; the lines are those of its answer. Assumes
-- nothing.
use mathlib.Core.Path.{ap}
use mathlib.Core.List.{List, [], ◌∷◌}
use Prim.Native.Nat.{ℕ, ◌+◌, ◌*◌}
use native.Mathlib.Omega.{arith}
use lib.ListN.{take, replicate, length-replicate}
use Rattle.factors.specs.Table.{rows}
use Rattle.report.specs.Text.{program_limit, none_text, block_lines, split_text}
use Rattle.writers.specs.Line.{line}
use Rattle.report.specs.Records.{most_blocks}
use Rattle.writers.proofs.Stores.{stored, stored_as, stored_more, ensured, line_long}
use Rattle.report.proofs.Splits.{ends_of, split_refused, split_counted}
use Rattle.report.proofs.inner.split_lines.Goals as goal

-- the two tables that best split is lent
abbrev ends_lent : List ℕ
ends_lent = replicate most_blocks 0

abbrev work_lent : List ℕ
work_lent = replicate (rows * (program_limit + 1)) 0

pub block_lines-requires-clause-at_bound : goal.block_lines-requires-clause-at_bound
block_lines-requires-clause-at_bound c =
    let g = c.args in
    let p = c.requires.at_bound in
    let s = c.best_split in
    let n = c.in-Ok.size in
    let C = split_counted g.w.now g.choice g.name.now ends_lent work_lent p.1 p.2 p.3 (length-replicate {A = ℕ} most_blocks 0) (length-replicate {A = ℕ} (rows * (program_limit + 1)) 0)
    s.result n c.in-Ok.is s.ensures.answer s.new.ends s.ensures.written in
    (omega (arith, c.put_line-next.ensures.value, line_long g.name.now (n ∷ [])), p.1, rw C.ends C.split)

pub returns-in-Err : goal.returns-in-Err
returns-in-Err c =
    let g = c.args in
    let p = c.requires.at_bound in
    let s = c.best_split in
    let a = c.put_text-next in
    let b = c.put_text in
    let none =
    split_refused g.w.now g.choice g.name.now ends_lent work_lent p.1 p.2 p.3 (length-replicate {A = ℕ} most_blocks 0)
    (length-replicate {A = ℕ} (rows * (program_limit + 1)) 0) s.result _ c.in-Err.is s.ensures.answer in
    let r = ensured
    (stored_as (split_text g.w.now g.choice g.name.now) none
    (stored_more (stored g.out.now g.at g.name.now _ _ (a.ensures.value, a.ensures.out_after)) (stored a.new.out a.result none_text _ _ (b.ensures.value, b.ensures.out_after)))) in
    record { value = r.0; out_after = r.1 }

pub returns-in-Ok : goal.returns-in-Ok
returns-in-Ok c =
    let g = c.args in
    let w = g.w.now in
    let p = c.requires.at_bound in
    let s = c.best_split in
    let n = c.in-Ok.size in
    let C = split_counted w g.choice g.name.now ends_lent work_lent p.1 p.2 p.3 (length-replicate {A = ℕ} most_blocks 0) (length-replicate {A = ℕ} (rows * (program_limit + 1)) 0)
    s.result n c.in-Ok.is s.ensures.answer s.new.ends s.ensures.written in
    let a = c.put_line-next in
    let b = c.block_lines in
    let named = stored g.out.now g.at (line g.name.now (n ∷ [])) _ _ (a.ensures.value, a.ensures.out_after) in
    let lines = stored a.new.out a.result (block_lines w 0 0 (take n s.new.ends)) _ _ (b.ensures.value, b.ensures.out_after) in
    let r = ensured
    (stored_as (split_text w g.choice g.name.now) C.lines
    (stored_more named (stored_as (block_lines w 0 0 (ends_of w g.choice)) (ap (block_lines w 0 0) C.ends) lines))) in
    record { value = r.0; out_after = r.1 }
