-- Best split says all of demand 3, for every word, edition, choice and tables: `best_means`. The blocks of an edition are pieces that a test decides, so what every
-- best split says holds for them (factorizer/proofs/BestClaims.antt); here are the refusals 1 and 12. Assumes nothing.
use mathlib.Core.Path.{◌≡◌, refl, sym, ◌∙◌}
use mathlib.Core.Logic.{◌≢◌}
use mathlib.Core.Bool.{Bool}
use mathlib.Core.List.{List}
use Prim.Native.Nat.{ℕ, ◌/◌, ◌≤◌, ◌<◌}
use native.Mathlib.Omega.{arith}
use native.Mathlib.Decide.{dec_lt}
use borrow.Author.Tests.{lt-ltb, le-ltb}
use lib.ListN.{length, take}
use Rattle.answers.specs.Outcome.{Outcome, refused, limit}
use Rattle.answers.proofs.Claims.{refused_number}
use Rattle.periods.specs.Period.{Repetition, repetition?, held_period}
use Rattle.periods.specs.Edition.{Edition, turns_of}
use Rattle.periods.proofs.Editions.{test_of_edition, test_of_no_edition, edition?}
use Rattle.factors.specs.Factorization.{Choice, cell, best_ends}
use Rattle.factors.specs.Table.{none, size_in}
use Rattle.factors.proofs.Optimal.{Answers}
use Rattle.factorizer.specs.Best.{Reported}
use Rattle.factorizer.proofs.Rules.{repetition_decides}
use Rattle.factorizer.proofs.BestClaims.{piece_answers, prefix_reported, ChosenGiven, chosen_means, chosen_suffice}
use Rattle.repetitions.specs.Block.{Block, block?}
use Rattle.repetitions.proofs.Blocks.{edition_half}
use Rattle.repetitions.specs.BestSplit.{told, best_outcome, best_ends_table, best_work, BestMeaning, too_long, bad_edition, chosen}

-- CLAIM: the theorem of factors, for repetitions of any turn number and any allowed periods
pub word_answers : (allowed : ℕ → Bool) (k : ℕ) (c : Choice) (w : List ℕ) (m : ℕ)
    → Answers c (Block allowed k w) m (cell c (block? allowed k w) m) (best_ends c (block? allowed k w) m)
word_answers allowed k c w m = piece_answers (Repetition allowed k) (repetition? allowed k) (repetition_decides allowed k) c w m

-- CLAIM: the instances for the blocks of an edition, at every prefix length. turns_of 1 is 2 and turns_of 2 is 3; they hold for any other number too, of which
-- no call makes use
module _ (edition : ℕ) (c : Choice) (w : List ℕ) (m : ℕ) where
  pub edition_answers : Answers c (Block held_period (turns_of edition) w) m (cell c (block? held_period (turns_of edition) w) m) (best_ends c (block? held_period (turns_of edition) w) m)
  edition_answers = word_answers held_period (turns_of edition) c w m

  pub edition_reported : m ≤ length w → length w < none → Reported (Repetition held_period (turns_of edition)) c (take m w) (size_in (cell c (block? held_period (turns_of edition) w) m))
  edition_reported = prefix_reported (Repetition held_period (turns_of edition)) (repetition? held_period (turns_of edition)) (repetition_decides held_period (turns_of edition)) c w m

-- ---- the tests 1 and 12

module _ (w : List ℕ) (edition : ℕ) where
  pub told_long : {A : Type 0} (a s r : A) → limit < length w → told w edition a s r ≡ a
  told_long a s r h = rw (lt-ltb limit (length w) h) refl

  pub told_bad_edition : {A : Type 0} (a s r : A) → length w ≤ limit → (Edition edition → ⊥) → told w edition a s r ≡ s
  told_bad_edition a s r h i = rw (le-ltb limit (length w) h, test_of_no_edition edition i) refl

  pub told_fine : {A : Type 0} (a s r : A) → length w ≤ limit → Edition edition → told w edition a s r ≡ r
  told_fine a s r h i = rw (le-ltb limit (length w) h, test_of_edition edition i) refl

module _ (w : List ℕ) (edition choice : ℕ) (e t : List ℕ) where
  -- the three promises: the answer, the ends and the work
  pub record Promised (o : Outcome) (x y : List ℕ) : Type 0 where
    pub answer : o ≡ best_outcome w edition choice e t
    pub ends : x ≡ best_ends_table w edition choice e t
    pub work : y ≡ best_work w edition choice t

  pub promised_long : limit < length w → Promised (refused 1 0) e t
  unfolding best_outcome best_ends_table best_work
  promised_long h = record {
    answer = sym (told_long w edition _ _ _ h);
    ends = sym (told_long w edition _ _ _ h);
    work = sym (told_long w edition _ _ _ h);
  }

  pub promised_bad_edition : length w ≤ limit → (Edition edition → ⊥) → Promised (refused 12 0) e t
  unfolding best_outcome best_ends_table best_work
  promised_bad_edition h i = record {
    answer = sym (told_bad_edition w edition _ _ _ h i);
    ends = sym (told_bad_edition w edition _ _ _ h i);
    work = sym (told_bad_edition w edition _ _ _ h i);
  }

  pub promised_chosen : length w ≤ limit → Edition edition → (o : Outcome) (x y : List ℕ) → ChosenGiven (repetition? held_period (turns_of edition)) w choice e t o x y → Promised o x y
  unfolding best_outcome best_ends_table best_work
  promised_chosen h i o x y G = record {
    answer = G.answer ∙ sym (told_fine w edition _ _ _ h i);
    ends = G.ends ∙ sym (told_fine w edition _ _ _ h i);
    work = G.work ∙ sym (told_fine w edition _ _ _ h i);
  }

  -- CLAIM: best split says all of demand 3
  pub best_means : BestMeaning w edition choice e t (best_outcome w edition choice e t) (best_ends_table w edition choice e t) (best_work w edition choice t)
  best_means = go (dec_lt limit (length w)) (edition? edition)
    where
      by : {o : Outcome} {x y : List ℕ} → Promised o x y → BestMeaning w edition choice e t o x y
          → BestMeaning w edition choice e t (best_outcome w edition choice e t) (best_ends_table w edition choice e t) (best_work w edition choice t)
      by P M = rw (← P.answer, ← P.ends, ← P.work) M

      go : Dec (limit < length w) → Dec (Edition edition) → BestMeaning w edition choice e t (best_outcome w edition choice e t) (best_ends_table w edition choice e t) (best_work w edition choice t)
      go (yes h) i = by (promised_long h) (too_long h refl refl refl)
      go (no h) (no i) = by (promised_bad_edition (omega arith) i) (bad_edition (omega arith) i refl refl refl)
      go (no h) (yes i) =
          by (promised_chosen (omega arith) i _ _ _ record { answer = refl; ends = refl; work = refl })
          (chosen (omega arith) i
          (chosen_means (Repetition held_period (turns_of edition)) (repetition? held_period (turns_of edition)) (repetition_decides held_period (turns_of edition)) w choice e t (omega arith)))

  -- what the call ensures, from the three promises
  pub best_answered : (o : Outcome) (x y : List ℕ) → Promised o x y
      → (o ≡ best_outcome w edition choice e t) × ((x ≡ best_ends_table w edition choice e t) × ((y ≡ best_work w edition choice t) × BestMeaning w edition choice e t o x y))
  best_answered o x y P = (P.answer, (P.ends, (P.work, rw (P.answer, P.ends, P.work) best_means)))

  -- CLAIM: n/2 places for the ends suffice: no answer that means what the documents say is 7
  pub best_suffice : length w / 2 ≤ length e → (o : Outcome) (x y : List ℕ) → BestMeaning w edition choice e t o x y → (i : ℕ) → o ≢ refused 7 i
  best_suffice room o x y (too_long h f a b) i z = omega (arith, refused_number o 1 7 0 i f z)
  best_suffice room o x y (bad_edition h k f a b) i z = omega (arith, refused_number o 12 7 0 i f z)
  best_suffice room o x y (chosen h k C) i z = chosen_suffice (Repetition held_period (turns_of edition)) w choice e t (edition_half edition w (length w)) room o x y C i z
