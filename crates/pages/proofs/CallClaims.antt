-- Write a page, of any form that fits, outcome by outcome: each is the case of `page_outcome` and `page_table` that the judge's verdict and the test for room lead
-- to. It says what item 3 asks (page_means), and accepts exactly when the judge does and 61 bytes a block are lent (page_accepted), so that 61 for every two
-- symbols suffice (page_suffice), and forms differ in the bytes only (page_same_answer). By cases on the verdict. Assumes nothing.
use mathlib.Core.Path.{◌≡◌, refl, sym, ap, ◌∙◌, subst}
use mathlib.Core.Logic.{◌↔◌}
use mathlib.Core.Bool.{cond}
use mathlib.Core.List.{List, [], ◌∷◌, ◌++◌}
use Prim.Native.Nat.{ℕ, ◌*◌, ◌/◌, ◌≤◌, ◌<◌}
use native.Mathlib.Omega.{arith}
use native.Mathlib.Decide.{dec_lt}
use borrow.Author.Tests.{lt-ltb, le-ltb}
use lib.Dec.{ltb}
use lib.ListN.{length, drop}
use Rattle.answers.specs.declared.Refusal.TheVariants.{TooFewPlaces}
use Rattle.answers.specs.Outcome.{Outcome, accepted, refused, refusal, limit, unless_refused, table_unless}
use Rattle.answers.proofs.Claims.{refused_accepted}
use Rattle.periods.specs.Period.{held_period}
use Rattle.periods.specs.Edition.{turns_of}
use Rattle.factors.specs.Factorization.{Factorization}
use Rattle.repetitions.specs.Block.{Block}
use Rattle.repetitions.specs.Judge.{SplitMeaning, split_outcome}
use Rattle.repetitions.proofs.Blocks.{edition_two_turns, edition_half}
use Rattle.repetitions.proofs.JudgeClaims.{split_means, AcceptedSplit, accepted_split}
use Rattle.page_lines.specs.declared.form.Form.{Form}
use Rattle.page_lines.specs.Line.{line_bytes, Fits}
use Rattle.pages.specs.Page.{page, printed_outcome, page_outcome, page_table, PageMeaning, refused_split, too_few, written}
use Rattle.pages.proofs.PageClaims.{lines_there, page_length}

-- what the call gives
abbrev pub PageGives : Form → List ℕ → ℕ → List ℕ → List ℕ → Outcome → List ℕ → Type 0
PageGives form w edition ends t o u = (o ≡ page_outcome form w edition ends (length t)) × (u ≡ page_table form w edition ends t)

-- what it promises: so much, and what that means
abbrev pub PageAnswered : Form → List ℕ → ℕ → List ℕ → List ℕ → Outcome → List ℕ → Type 0
PageAnswered form w edition ends t o u = (o ≡ page_outcome form w edition ends (length t)) × ((u ≡ page_table form w edition ends t) × PageMeaning form w edition ends t o u)

-- the page of a split has 61 bytes a block
pub bytes : (form : Form) → Fits form → (w : List ℕ) (edition : ℕ) (ends : List ℕ) → length w ≤ limit → Factorization (Block held_period (turns_of edition) w) (length w) ends → length (page form w ends) ≡ line_bytes * length ends
bytes form F w edition ends h C = page_length form F w (omega arith) ends (edition_two_turns edition w (length w) ends C)

module _ (form : Form) (w : List ℕ) (edition : ℕ) (ends t : List ℕ) where
  pub page_refused : (x i : ℕ) → refused x i ≡ split_outcome w edition ends → PageGives form w edition ends t (refused x i) t
  unfolding page_outcome page_table
  page_refused x i e = rw (← e) (refl, refl)

  judged : (v : List ℕ) → accepted v ≡ split_outcome w edition ends
      → (printed_outcome (page form w ends) (length t) ≡ page_outcome form w edition ends (length t))
      × (table_unless (printed_outcome (page form w ends) (length t)) t (page form w ends ++ drop (length (page form w ends)) t) ≡ page_table form w edition ends t)
  unfolding page_outcome page_table
  judged v e = rw (← e) (refl, refl)

  pub page_few : (v : List ℕ) → accepted v ≡ split_outcome w edition ends → length t < length (page form w ends) → PageGives form w edition ends t (refused 7 0) t
  page_few v e h = rw (lt-ltb (length t) (length (page form w ends)) h) at (judged v e)

  pub page_written : (v : List ℕ) → accepted v ≡ split_outcome w edition ends → length (page form w ends) ≤ length t
      → PageGives form w edition ends t (accepted (length (page form w ends) ∷ [])) (page form w ends ++ drop (length (page form w ends)) t)
  page_written v e h = rw (le-ltb (length t) (length (page form w ends)) h) at (judged v e)

  -- CLAIM: write a page says what item 3 asks
  pub page_means : Fits form → PageMeaning form w edition ends t (page_outcome form w edition ends (length t)) (page_table form w edition ends t)
  page_means F = go (split_outcome w edition ends) refl
    where
      by : {o : Outcome} {u : List ℕ} → PageGives form w edition ends t o u → PageMeaning form w edition ends t o u → PageMeaning form w edition ends t (page_outcome form w edition ends (length t)) (page_table form w edition ends t)
      by P M = rw (← P.0, ← P.1) M

      go : (o : Outcome) → o ≡ split_outcome w edition ends → PageMeaning form w edition ends t (page_outcome form w edition ends (length t)) (page_table form w edition ends t)
      go (refused x i) e = by (page_refused x i e) (refused_split x i (subst (SplitMeaning w edition ends) (sym e) (split_means w edition ends)) refl refl)
      go (accepted v) e = room (dec_lt (length t) (length (page form w ends))) (accepted_split w edition ends v e)
        where
          room : Dec (length t < length (page form w ends)) → AcceptedSplit w edition ends v
              → PageMeaning form w edition ends t (page_outcome form w edition ends (length t)) (page_table form w edition ends t)
          room (yes h) A = by (page_few v e h) (too_few A.0 A.2 A.3 (omega (arith, bytes form F w edition ends A.0 A.3)) refl refl)
          room (no h) A =
              let n = bytes form F w edition ends A.0 A.3 in
              by (page_written v e (omega arith))
              (written A.0 A.2 A.3 (omega arith) (page form w ends) (lines_there form F w (omega arith) ends 0 0 (length w) (omega arith) (edition_two_turns edition w (length w) ends A.3))
              (ap (λ (b : ℕ). accepted (b ∷ [])) n) (ap (λ (b : ℕ). page form w ends ++ drop b t) n))

  pub page_answered : Fits form → (o : Outcome) (u : List ℕ) → PageGives form w edition ends t o u → PageAnswered form w edition ends t o u
  page_answered F o u P = (P.0, (P.1, rw (P.0, P.1) (page_means F)))

  -- CLAIM: every split that the judge accepts has a page: it is accepted, with 61 bytes a block, exactly when the judge accepts and so many bytes are lent
  pub page_accepted : Fits form → (page_outcome form w edition ends (length t) ≡ accepted (line_bytes * length ends ∷ []))
      ↔ ((split_outcome w edition ends ≡ accepted (length ends ∷ [])) × (line_bytes * length ends ≤ length t))
  page_accepted F = (to, from)
    where
      to : page_outcome form w edition ends (length t) ≡ accepted (line_bytes * length ends ∷ []) → (split_outcome w edition ends ≡ accepted (length ends ∷ [])) × (line_bytes * length ends ≤ length t)
      to a = go (split_outcome w edition ends) refl
        where
          go : (o : Outcome) → o ≡ split_outcome w edition ends → (split_outcome w edition ends ≡ accepted (length ends ∷ [])) × (line_bytes * length ends ≤ length t)
          go (refused x i) e = absurd (refused_accepted (page_outcome form w edition ends (length t)) x i (line_bytes * length ends ∷ []) (sym (page_refused x i e).0) a)
          go (accepted v) e = room (dec_lt (length t) (length (page form w ends))) (accepted_split w edition ends v e)
            where
              room : Dec (length t < length (page form w ends)) → AcceptedSplit w edition ends v
                  → (split_outcome w edition ends ≡ accepted (length ends ∷ [])) × (line_bytes * length ends ≤ length t)
              room (yes h) A = absurd (refused_accepted (page_outcome form w edition ends (length t)) 7 0 (line_bytes * length ends ∷ []) (sym (page_few v e h).0) a)
              room (no h) A = (sym e ∙ ap accepted A.1, omega (arith, bytes form F w edition ends A.0 A.3))

      from : (split_outcome w edition ends ≡ accepted (length ends ∷ [])) × (line_bytes * length ends ≤ length t) → page_outcome form w edition ends (length t) ≡ accepted (line_bytes * length ends ∷ [])
      from (e, h) =
          let A = accepted_split w edition ends (length ends ∷ []) (sym e) in
          let n = bytes form F w edition ends A.0 A.3 in
          sym (page_written (length ends ∷ []) (sym e) (omega (arith, n))).0 ∙ ap (λ (b : ℕ). accepted (b ∷ [])) n

  -- CLAIM: with 61 bytes for each of n/2 blocks 7 never comes: the judge's refusal, or the page
  pub page_suffice : Fits form → 61 * (length w / 2) ≤ length t → page_outcome form w edition ends (length t) ≡ unless_refused (split_outcome w edition ends) (accepted (61 * length ends ∷ []))
  page_suffice F h = go (split_outcome w edition ends) refl
    where
      go : (o : Outcome) → o ≡ split_outcome w edition ends → page_outcome form w edition ends (length t) ≡ unless_refused (split_outcome w edition ends) (accepted (61 * length ends ∷ []))
      go (refused x i) e = sym (page_refused x i e).0 ∙ rw (← e) refl
      go (accepted v) e =
          let A = accepted_split w edition ends v e in
          let n = bytes form F w edition ends A.0 A.3 in
          sym (page_written v e (omega (arith, n, edition_half edition w (length w) ends A.3))).0 ∙ ap (λ (b : ℕ). accepted (b ∷ [])) n ∙ rw (← e) refl

-- CLAIM: in another form the answer is the same; only the bytes differ
pub page_same_answer : (form other : Form) → Fits form → Fits other → (w : List ℕ) (edition : ℕ) (ends : List ℕ) (room : ℕ) → page_outcome form w edition ends room ≡ page_outcome other w edition ends room
unfolding page_outcome
page_same_answer form other F G w edition ends room = go (split_outcome w edition ends) refl
  where
    go : (o : Outcome) → o ≡ split_outcome w edition ends
        → unless_refused (split_outcome w edition ends) (printed_outcome (page form w ends) room) ≡ unless_refused (split_outcome w edition ends) (printed_outcome (page other w ends) room)
    go (refused x i) e = rw (← e) refl
    go (accepted v) e =
        let A = accepted_split w edition ends v e in
        ap (λ (n : ℕ). unless_refused (split_outcome w edition ends) (cond (ltb room n) (refusal TooFewPlaces) (accepted (n ∷ []))))
        (bytes form F w edition ends A.0 A.3 ∙ sym (bytes other G w edition ends A.0 A.3))
