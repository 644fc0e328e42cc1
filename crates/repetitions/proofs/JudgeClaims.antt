-- Judge a split accepts exactly the factorizations, and names the first fault (split_means), by what every judge of a split says (factorizer/proofs/JudgeClaims.antt);
-- what an accepted split is, for the calls that go on from there. Assumes nothing.
use mathlib.Core.Path.{◌≡◌, sym, ◌∙◌, subst}
use mathlib.Core.List.{List, [], ◌∷◌}
use Prim.Native.Nat.{ℕ, ◌≤◌, ◌<◌}
use native.Mathlib.Omega.{arith}
use native.Mathlib.Decide.{dec_lt}
use lib.ListN.{length}
use Rattle.answers.specs.Outcome.{Outcome, accepted, refused, limit}
use Rattle.answers.proofs.Claims.{refused_accepted}
use Rattle.periods.specs.Period.{Repetition, repetition?, held_period}
use Rattle.periods.specs.Edition.{Edition, turns_of}
use Rattle.periods.proofs.Editions.{edition?}
use Rattle.factors.specs.Factorization.{Factorization}
use Rattle.factors.specs.Verdict.{VerdictMeaning, bad_end, no_block, unfinished, fine}
use Rattle.factorizer.specs.Judge.{piece_verdict, Judged}
use Rattle.factorizer.proofs.Rules.{repetition_decides}
use Rattle.factorizer.proofs.JudgeClaims.{judged_means}
use Rattle.repetitions.specs.Block.{Block}
use Rattle.repetitions.specs.Judge.{split_outcome, SplitMeaning, too_long, bad_edition, judged}
use Rattle.repetitions.proofs.BestClaims.{told_long, told_bad_edition, told_fine}

module _ (w : List ℕ) (edition : ℕ) (ends : List ℕ) where
  pub split_too_long : limit < length w → refused 1 0 ≡ split_outcome w edition ends
  unfolding split_outcome
  split_too_long h = sym (told_long w edition _ _ _ h)

  pub split_bad_edition : length w ≤ limit → (Edition edition → ⊥) → refused 12 0 ≡ split_outcome w edition ends
  unfolding split_outcome
  split_bad_edition h i = sym (told_bad_edition w edition _ _ _ h i)

  pub split_judged : length w ≤ limit → Edition edition → piece_verdict (repetition? held_period (turns_of edition)) w ends ≡ split_outcome w edition ends
  unfolding split_outcome
  split_judged h i = sym (told_fine w edition _ _ _ h i)

  -- what every judge of a split into the edition's blocks says
  judged_so : Judged (Repetition held_period (turns_of edition)) w ends (piece_verdict (repetition? held_period (turns_of edition)) w ends)
  judged_so = judged_means (Repetition held_period (turns_of edition)) (repetition? held_period (turns_of edition)) (repetition_decides held_period (turns_of edition)) w ends

  -- CLAIM: judge a split says what the documents ask
  pub split_means : SplitMeaning w edition ends (split_outcome w edition ends)
  split_means = go (dec_lt limit (length w)) (edition? edition)
    where
      go : Dec (limit < length w) → Dec (Edition edition) → SplitMeaning w edition ends (split_outcome w edition ends)
      go (yes h) i = too_long h (sym (split_too_long h))
      go (no h) (no i) = bad_edition (omega arith) i (sym (split_bad_edition (omega arith) i))
      go (no h) (yes i) = judged (omega arith) i (subst (Judged (Repetition held_period (turns_of edition)) w ends) (split_judged (omega arith) i) judged_so)

  -- what judge a split accepts with values v
  abbrev pub AcceptedSplit : List ℕ → Type 0
  AcceptedSplit v = (length w ≤ limit) × (v ≡ length ends ∷ []) × Edition edition × Factorization (Block held_period (turns_of edition) w) (length w) ends

  pub accepted_split : (v : List ℕ) → accepted v ≡ split_outcome w edition ends → AcceptedSplit v
  accepted_split v e = go split_means
    where
      clash : (x i : ℕ) → split_outcome w edition ends ≡ refused x i → ⊥
      clash x i f = refused_accepted (split_outcome w edition ends) x i v f (sym e)

      go : SplitMeaning w edition ends (split_outcome w edition ends) → AcceptedSplit v
      go (too_long h f) = absurd (clash 1 0 f)
      go (bad_edition h i f) = absurd (clash 12 0 f)
      go (judged h i J) = by J.verdict_on
        where
          by : VerdictMeaning (λ k. Block held_period (turns_of edition) w) (length w) ends (split_outcome w edition ends) → AcceptedSplit v
          by (bad_end k a b d f g) = absurd (clash 3 k g)
          by (no_block k a b d f g x) = absurd (clash 4 k x)
          by (unfinished a b f) = absurd (clash 5 0 f)
          by (fine a b f) = let q : v ≡ length ends ∷ [] = cc in (h, q, i, J.accepts.0 f)

  pub factorization_accepted : length w ≤ limit → Edition edition → Factorization (Block held_period (turns_of edition) w) (length w) ends → accepted (length ends ∷ []) ≡ split_outcome w edition ends
  factorization_accepted h i F = sym (judged_so.accepts.1 F) ∙ split_judged h i

  pub split_answered : (o : Outcome) → o ≡ split_outcome w edition ends → (o ≡ split_outcome w edition ends) × SplitMeaning w edition ends o
  split_answered o e = (e, subst (SplitMeaning w edition ends) (sym e) split_means)
