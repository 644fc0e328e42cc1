-- `pages::inner::write` meets its contract: each way out is the case of `page_outcome` that the split's verdict and the test lead to, and `page_means` says what
-- that means. Assumes nothing.
use mathlib.Core.Path.{◌≡◌, sym, ap, ◌∙◌}
use mathlib.Core.List.{List, [], ◌∷◌, head-eq_of_cons-eq}
use Prim.Native.Nat.{ℕ, ◌*◌, ◌≤◌}
use native.Mathlib.Omega.{arith}
use lib.ListN.{length}
use Rattle.std.proofs.lemmas.Result.{err_from_is_err_and}
use Rattle.laws.proofs.Stores.{sets-front}
use Rattle.answers.specs.Outcome.{accepted, limit}
use Rattle.periods.specs.Period.{held_period}
use Rattle.periods.specs.Width.{symbols}
use Rattle.factors.specs.Factorization.{Factorization}
use Rattle.repetitions.specs.Block.{Block}
use Rattle.repetitions.specs.Judge.{split_outcome}
use Rattle.repetitions.proofs.Blocks.{blocks_half, edition_two_turns}
use Rattle.repetitions.proofs.JudgeClaims.{accepted_split}
use Rattle.page_lines.specs.Line.{line_bytes}
use Rattle.periods.specs.declared.word.Word.{Word}
use Rattle.pages.specs.Page.{form_in, page}
use Rattle.pages.proofs.CallClaims.{bytes, page_refused, page_few, page_written, page_answered}
use Rattle.pages.proofs.Forms.{form_in_fits}
use Rattle.pages.proofs.inner.write.Goals as goal

-- what the judge accepts with a number of blocks is a split of so many, and its page has 61 bytes each
module _ (w : List ℕ) (edition : ℕ) (ends : List ℕ) (blocks : ℕ) (e : accepted (blocks ∷ []) ≡ split_outcome w edition ends) where
  within : length w ≤ limit
  within = (accepted_split w edition ends (blocks ∷ []) e).0

  split : Factorization (Block held_period 2 w) (length w) ends
  split = edition_two_turns edition w (length w) ends (accepted_split w edition ends (blocks ∷ []) e).3

  counted : blocks ≡ length ends
  counted = head-eq_of_cons-eq (accepted_split w edition ends (blocks ∷ []) e).1

  size : (v : Word) → length (page (form_in v) w ends) ≡ line_bytes * blocks
  size v = bytes (form_in v) (form_in_fits v) w edition ends within (accepted_split w edition ends (blocks ∷ []) e).3 ∙ ap (λ (n : ℕ). line_bytes * n) (sym counted)

pub returns-in_err-blocks : goal.returns-in_err-blocks
returns-in_err-blocks c =
    let g = c.args in
    let e = err_from_is_err_and c.from_residual.result c.from_residual.ensures.1 in
    let A = page_answered (form_in g.w) (symbols g.w) g.edition g.ends.now g.out.now (form_in_fits g.w) _ _ (page_refused (form_in g.w) (symbols g.w) g.edition g.ends.now g.out.now _ _ c.in_err-blocks.ensures.result_value) in
    rw (e.1, e.2) record { result_value = A.0; out_after = A.1.0; page_meaning = A.1.1 }

pub returns-then-out-size : goal.returns-then-out-size
returns-then-out-size c =
    let g = c.args in
    let w = symbols g.w in
    let e = c.in_ok-blocks.ensures.result_value in
    let A = page_answered (form_in g.w) w g.edition g.ends.now g.out.now (form_in_fits g.w) _ _
    (page_few (form_in g.w) w g.edition g.ends.now g.out.now _ e (omega (arith, size w g.edition g.ends.now _ e g.w, c.if-out-size.true))) in
    record { result_value = A.0; out_after = A.1.0; page_meaning = A.1.1 }

pub lines-requires : goal.lines-requires
lines-requires c =
    let g = c.args in
    let w = symbols g.w in
    let e = c.in_ok-blocks.ensures.result_value in
    ((within w g.edition g.ends.now _ e, split w g.edition g.ends.now _ e), omega (arith, counted w g.edition g.ends.now _ e, c.if-out-size.false))

pub overflow_cast-result : goal.overflow_cast-result
overflow_cast-result c =
    let g = c.args in
    let w = symbols g.w in
    let e = c.in_ok-blocks.ensures.result_value in
    let few = blocks_half held_period 2 w (omega arith) (length w) g.ends.now (split w g.edition g.ends.now _ e) in
    omega (arith, few, counted w g.edition g.ends.now _ e, within w g.edition g.ends.now _ e)

pub returns : goal.returns
returns c =
    let g = c.args in
    let w = symbols g.w in
    let e = c.in_ok-blocks.ensures.result_value in
    let n = size w g.edition g.ends.now _ e g.w in
    let room : length (page (form_in g.w) w g.ends.now) ≤ length g.out.now = omega (arith, n, c.if-out-size.false) in
    let P = page_written (form_in g.w) w g.edition g.ends.now g.out.now _ e room in
    let A = page_answered (form_in g.w) w g.edition g.ends.now g.out.now (form_in_fits g.w) _ _
    (ap (λ (b : ℕ). accepted (b ∷ [])) (sym n) ∙ P.0, c.lines.ensures ∙ sets-front g.out.now (page (form_in g.w) w g.ends.now) room ∙ P.1) in
    record { result_value = A.0; out_after = A.1.0; page_meaning = A.1.1 }
