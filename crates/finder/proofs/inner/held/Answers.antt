-- `finder::inner::held` meets its contract: the records passed are those of the table. Assumes nothing.
use mathlib.Core.Path.{◌≡◌, refl, sym, ap, ◌∙◌}
use mathlib.Core.List.{List, [], ◌∷◌, ◌++◌}
use Prim.Native.Nat.{ℕ, ◌<◌, ◌+◌}
use native.Mathlib.Omega.{arith}
use native.Mathlib.Numerals.{add-one}
use lib.ListN.{length, take, set, length-set}
use lib.Seq.{take-suc-set}
use Rattle.runs.specs.declared.Record.{Record}
use Rattle.runs.specs.Table.{record_at, records}
use Rattle.runs.proofs.Records.{records_none, records_more}
use Rattle.finder.proofs.inner.held.Goals as goal

-- one record more
next_take : (t : List ℕ) (runs : List Record) (r : Record) (i : ℕ) → r ≡ record_at t i → i < length runs → take i runs ≡ records i t → take (i + 1) (set runs i r) ≡ records (i + 1) t
next_take t runs r i is lt e =
    ap (λ (j : ℕ). take j (set runs i r)) (add-one i) ∙ take-suc-set runs i r lt ∙ ap (λ (ys : List Record). ys ++ (r ∷ [])) e
    ∙ ap (λ (s : Record). records i t ++ (s ∷ [])) is ∙ sym (records_more t i)

pub loop-i-init : goal.loop-i-init
loop-i-init c = (refl, sym (records_none c.args.table.now))

pub loop-i-preserved : goal.loop-i-preserved
loop-i-preserved c =
    let l = c.loop-i in
    (length-set l.held l.i _ ∙ l.invariant.0, next_take c.args.table.now l.held _ l.i c.row.ensures (omega (arith, l.invariant.0)) l.invariant.1)
