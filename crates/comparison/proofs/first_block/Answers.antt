-- `comparison::first_block` meets its contract: the part that it returns starts where the word that is chosen starts, and is as long as that word's first block.
-- Assumes nothing.
use Rattle.std.proofs.Common.{ℕ, List, ◌≡◌, ◌-◌, refl, sym, ap, ◌∙◌, arith, take, Ok, Err}
use native.Mathlib.Nat.{sub-zero}
use Rattle.comparison.specs.declared.Chosen.TheVariants.{First, Second}
use Rattle.comparison.proofs.CallClaims.{choice_within, block_answered}
use Rattle.comparison.proofs.first_block.Goals as goal

-- the numbers of the first so many symbols, by the law of a word's parts
cut_at : {X : Type 0} (numbers : List X → List ℕ) → ((s : List X) (k : ℕ) → numbers (take k s) ≡ take k (numbers s)) → (s : List X) (k : ℕ) → numbers (take (k - 0) s) ≡ take k (numbers s)
cut_at numbers cut s k = cut s (k - 0) ∙ ap (λ (x : ℕ). take x (numbers s)) (sub-zero k)

pub slice_bounds-result-end : goal.slice_bounds-result-end
slice_bounds-result-end g c =
    let n = g.S.Symbol.numbers in
    omega (arith, choice_within (n c.args.a.now) (n c.args.b.now) c.args.edition c.args.work.now _ _ c.compare.ensures.answer (c.in-Ok-First.is ∙ ap Ok c.in-Ok-First.field-0-is), g.met.S.Symbol.as_many c.args.a.now)

pub slice_bounds-result-end-in-Ok-Second : goal.slice_bounds-result-end-in-Ok-Second
slice_bounds-result-end-in-Ok-Second g c =
    let n = g.S.Symbol.numbers in
    omega (arith, choice_within (n c.args.a.now) (n c.args.b.now) c.args.edition c.args.work.now _ _ c.compare.ensures.answer (c.in-Ok-Second.is ∙ ap Ok c.in-Ok-Second.field-0-is), g.met.S.Symbol.as_many c.args.b.now)

pub returns-in-Ok-First-clause-meaning : goal.returns-in-Ok-First-clause-meaning
returns-in-Ok-First-clause-meaning g c =
    let n = g.S.Symbol.numbers in
    let k = c.in-Ok-First.length in
    (block_answered (n c.args.a.now) (n c.args.b.now) c.args.edition c.args.work.now c.args.a.ref_ptr c.args.b.ref_ptr (Ok (First k)) _ _ _ (sym (c.in-Ok-First.is ∙ ap Ok c.in-Ok-First.field-0-is) ∙ c.compare.ensures.answer) (cut_at n g.met.S.Symbol.cut c.args.a.now k) refl c.compare.ensures.worked).1.1.1

pub returns-in-Ok-Second-clause-meaning : goal.returns-in-Ok-Second-clause-meaning
returns-in-Ok-Second-clause-meaning g c =
    let n = g.S.Symbol.numbers in
    let k = c.in-Ok-Second.length in
    (block_answered (n c.args.a.now) (n c.args.b.now) c.args.edition c.args.work.now c.args.a.ref_ptr c.args.b.ref_ptr (Ok (Second k)) _ _ _ (sym (c.in-Ok-Second.is ∙ ap Ok c.in-Ok-Second.field-0-is) ∙ c.compare.ensures.answer) (cut_at n g.met.S.Symbol.cut c.args.b.now k) refl c.compare.ensures.worked).1.1.1

pub returns-in-Err-clause-meaning : goal.returns-in-Err-clause-meaning
returns-in-Err-clause-meaning g c =
    let n = g.S.Symbol.numbers in
    (block_answered (n c.args.a.now) (n c.args.b.now) c.args.edition c.args.work.now c.args.a.ref_ptr c.args.b.ref_ptr (Err c.in-Err.field-0) _ _ _ (sym c.in-Err.is ∙ c.compare.ensures.answer) (g.met.S.Symbol.cut c.args.a.now 0) refl c.compare.ensures.worked).1.1.1
