-- The meaning in the contract of write a page leaves nothing open: only the answer and the bytes that the computed definitions give have it. By cases on the
-- meaning; the lines of a split are one text only. Assumes nothing.
use mathlib.Core.Path.{◌≡◌, sym, ap, ap₂, ◌∙◌}
use mathlib.Core.List.{List, [], ◌∷◌, ◌++◌}
use Prim.Native.Nat.{ℕ, ◌*◌}
use native.Mathlib.Omega.{arith}
use lib.ListN.{length, drop}
use Rattle.answers.specs.Outcome.{Outcome, accepted, refused}
use Rattle.repetitions.proofs.Determined.{split_determined}
use Rattle.repetitions.proofs.Blocks.{edition_two_turns}
use Rattle.repetitions.proofs.JudgeClaims.{factorization_accepted}
use Rattle.page_lines.specs.declared.form.Form.{Form}
use Rattle.page_lines.specs.Line.{line_bytes, Fits}
use Rattle.pages.specs.Page.{page, page_outcome, page_table, PageMeaning}
use Rattle.pages.proofs.PageClaims.{lines_unique}
use Rattle.pages.proofs.CallClaims.{PageGives, bytes, page_refused, page_few, page_written}
use Rattle.pages.specs.Page as calls

-- CLAIM: the meaning of write a page determines the answer and the bytes
pub page_determined : (form : Form) → Fits form → (w : List ℕ) (edition : ℕ) (ends t : List ℕ) (o : Outcome) (u : List ℕ) → PageMeaning form w edition ends t o u
    → (o ≡ page_outcome form w edition ends (length t)) × (u ≡ page_table form w edition ends t)
page_determined form F w edition ends t o u M = go M
  where
    by : {p : Outcome} {v : List ℕ} → o ≡ p → u ≡ v → PageGives form w edition ends t p v → (o ≡ page_outcome form w edition ends (length t)) × (u ≡ page_table form w edition ends t)
    by a b P = (a ∙ P.0, b ∙ P.1)

    go : PageMeaning form w edition ends t o u → (o ≡ page_outcome form w edition ends (length t)) × (u ≡ page_table form w edition ends t)
    go (calls.PageMeaning.refused_split x i S a b) = by a b (page_refused form w edition ends t x i (split_determined w edition ends (refused x i) S))
    go (calls.PageMeaning.too_few h i C k a b) =
        by a b (page_few form w edition ends t (length ends ∷ []) (factorization_accepted w edition ends h i C) (omega (arith, bytes form F w edition ends h C)))
    go (calls.PageMeaning.written h i C k s L a b) =
        let n : length (page form w ends) ≡ line_bytes * length ends = bytes form F w edition ends h C in
        let e : s ≡ page form w ends = lines_unique form w ends 0 0 (length w) s (edition_two_turns edition w (length w) ends C) L in
        by (a ∙ ap (λ (m : ℕ). accepted (m ∷ [])) (sym n)) (b ∙ ap₂ (λ (x : List ℕ) (m : ℕ). x ++ drop m t) e (sym n))
        (page_written form w edition ends t (length ends ∷ []) (factorization_accepted w edition ends h i C) (omega arith))
