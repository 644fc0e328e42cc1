-- `comparison::inner::compare` meets its contract: each way out is the case of `compared` that its tests lead to; past them the words are measured over the one
-- table, which is then cleared. Assumes nothing.
use Rattle.std.proofs.Common.{◌≡◌, List, ℕ, ◌+◌, ◌*◌, ◌≤◌, max, length, ap, ap₂, ◌∙◌, arith}
use Rattle.std.proofs.lemmas.Result.{err_from_is_err_and}
use native.Mathlib.Nat.{le-max_left, le-max_right}
use Rattle.periods.specs.Width.{symbols}
use Rattle.periods.specs.Edition.{turns_of, turns_in}
use Rattle.periods.proofs.Editions.{edition_known, turns_known, edition_refused, refusal_known}
use Rattle.factors.specs.Table.{rows}
use Rattle.factors.specs.Factorization.{fewest}
use Rattle.repetitions.specs.BestSplit.{last_cell}
use Rattle.std.specs.Prelude.{Result}
use Rattle.answers.specs.declared.Refusal.{Refusal}
use Rattle.comparison.specs.declared.Chosen.{Chosen}
use Rattle.comparison.specs.Measure.{first_end}
use Rattle.comparison.specs.Calls.{longer, chosen, compared}
use Rattle.comparison.proofs.CallClaims.{promised_long, promised_bad_edition, promised_short, promised_chosen}
use Rattle.comparison.proofs.Measures.{measured_chosen, first_long, both_cleared}
use Rattle.comparison.proofs.inner.compare.Goals as goal

-- n is the longer length, as the calls give it, and neither word is longer
longer_bounds : (a b : List ℕ) (l m n : ℕ) → n ≡ max l m → l ≡ length a → m ≡ length b → (n ≡ longer a b) × ((length a ≤ n) × (length b ≤ n))
longer_bounds a b l m n h p q =
    let e : n ≡ longer a b = h ∙ ap₂ max p q in
    (e, (omega (arith, le-max_left (length a) (length b)), omega (arith, le-max_right (length a) (length b))))

-- what is chosen by the turn number of the edition that the number names
chosen_in : (a b : List ℕ) (edition k : ℕ) (t : List ℕ) (r : Result Chosen Refusal) → k ≡ turns_of edition
    → r ≡ chosen (last_cell k a fewest) (last_cell k b fewest) (first_end k a) (first_end k b)
    → chosen (last_cell (turns_of edition) a fewest) (last_cell (turns_of edition) b fewest) (first_end (turns_of edition) a) (first_end (turns_of edition) b) ≡ compared a b edition (length t)
    → r ≡ compared a b edition (length t)
chosen_in a b edition k t r e f g = f ∙ rw e g

pub returns-then-n-gt-LIMIT-clause-value : goal.returns-then-n-gt-LIMIT-clause-value
returns-then-n-gt-LIMIT-clause-value c =
    let a = symbols c.args.a in
    let b = symbols c.args.b in
    let l = longer_bounds a b _ _ _ c.max-n.ensures c.len.ensures c.len-2.ensures in
    (promised_long a b c.args.edition c.args.work.now (omega arith)).choice

pub returns-then-n-gt-LIMIT-clause-work_after : goal.returns-then-n-gt-LIMIT-clause-work_after
returns-then-n-gt-LIMIT-clause-work_after c =
    let a = symbols c.args.a in
    let b = symbols c.args.b in
    let l = longer_bounds a b _ _ _ c.max-n.ensures c.len.ensures c.len-2.ensures in
    (promised_long a b c.args.edition c.args.work.now (omega arith)).work

pub returns-in_err-edition-clause-value : goal.returns-in_err-edition-clause-value
returns-in_err-edition-clause-value c =
    let a = symbols c.args.a in
    let b = symbols c.args.b in
    let l = longer_bounds a b _ _ _ c.max-n.ensures c.len.ensures c.len-2.ensures in
    let r = err_from_is_err_and c.from_residual.result c.from_residual.ensures.1 in
    let d = refusal_known c.args.edition _ c.in_err-edition.ensures in
    rw (r.1, r.2, d) (promised_bad_edition a b c.args.edition c.args.work.now (omega arith) (edition_refused c.args.edition _ c.in_err-edition.ensures)).choice

pub returns-in_err-edition-clause-work_after : goal.returns-in_err-edition-clause-work_after
returns-in_err-edition-clause-work_after c =
    let a = symbols c.args.a in
    let b = symbols c.args.b in
    let l = longer_bounds a b _ _ _ c.max-n.ensures c.len.ensures c.len-2.ensures in
    (promised_bad_edition a b c.args.edition c.args.work.now (omega arith) (edition_refused c.args.edition _ c.in_err-edition.ensures)).work

pub returns-then-work-places-clause-value : goal.returns-then-work-places-clause-value
returns-then-work-places-clause-value c =
    let a = symbols c.args.a in
    let b = symbols c.args.b in
    let l = longer_bounds a b _ _ _ c.max-n.ensures c.len.ensures c.len-2.ensures in
    (promised_short a b c.args.edition c.args.work.now (omega arith) (edition_known c.args.edition _ c.in_ok-edition.ensures) (omega arith)).choice

pub returns-then-work-places-clause-work_after : goal.returns-then-work-places-clause-work_after
returns-then-work-places-clause-work_after c =
    let a = symbols c.args.a in
    let b = symbols c.args.b in
    let l = longer_bounds a b _ _ _ c.max-n.ensures c.len.ensures c.len-2.ensures in
    (promised_short a b c.args.edition c.args.work.now (omega arith) (edition_known c.args.edition _ c.in_ok-edition.ensures) (omega arith)).work

pub measure-first-requires : goal.measure-first-requires
measure-first-requires c =
    let a = symbols c.args.a in
    let b = symbols c.args.b in
    let l = longer_bounds a b _ _ _ c.max-n.ensures c.len.ensures c.len-2.ensures in
    (omega arith, omega arith)

pub measure-second-requires : goal.measure-second-requires
measure-second-requires c =
    let a = symbols c.args.a in
    let b = symbols c.args.b in
    let l = longer_bounds a b _ _ _ c.max-n.ensures c.len.ensures c.len-2.ensures in
    let long = first_long (turns_in c.in_ok-edition.edition) a b c.args.work.now c.measure-first.new.work (omega arith) c.measure-first.ensures.work_after in
    (omega arith, omega arith)

-- the two measures, by the turn number of the edition's number
pub returns-clause-value : goal.returns-clause-value
returns-clause-value c =
    let a = symbols c.args.a in
    let b = symbols c.args.b in
    let l = longer_bounds a b _ _ _ c.max-n.ensures c.len.ensures c.len-2.ensures in
    let k = turns_known c.args.edition _ c.in_ok-edition.ensures in
    let P = promised_chosen a b c.args.edition c.args.work.now (omega arith) (edition_known c.args.edition _ c.in_ok-edition.ensures) (omega arith) in
    chosen_in a b c.args.edition _ c.args.work.now _ k (measured_chosen (turns_in c.in_ok-edition.edition) a b (omega arith) (omega arith) _ _ _ _ _ c.choose.ensures c.measure-first.ensures.size_value c.measure-second.ensures.size_value) P.choice

pub returns-clause-work_after : goal.returns-clause-work_after
returns-clause-work_after c =
    let a = symbols c.args.a in
    let b = symbols c.args.b in
    let l = longer_bounds a b _ _ _ c.max-n.ensures c.len.ensures c.len-2.ensures in
    let P = promised_chosen a b c.args.edition c.args.work.now (omega arith) (edition_known c.args.edition _ c.in_ok-edition.ensures) (omega arith) in
    both_cleared (turns_in c.in_ok-edition.edition) a b c.args.work.now _ (omega arith) c.measure-first.ensures.work_after _ c.measure-second.ensures.work_after _ _ (ap (λ (n : ℕ). rows * (n + 1)) l.0) (c.fill.ensures.after (λ y h. h)) ∙ P.work
