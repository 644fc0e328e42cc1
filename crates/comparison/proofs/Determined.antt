-- The meanings in the contracts leave nothing open: only the answer, the part and the table that the computed definitions give have them. A smallest
-- factorization is one only, and a word that has one is not unsplittable. By cases on the meanings. Assumes nothing.
use mathlib.Core.Path.{◌≡◌, refl, sym, ap, ◌∙◌}
use mathlib.Core.List.{List, [], ◌∷◌}
use Prim.Native.Nat.{ℕ, ◌≤◌, ◌<◌}
use native.Mathlib.Nat.{max-le}
use native.Mathlib.Omega.{arith}
use native.Mathlib.Decide.{dec_lt}
use borrow.Author.Tests.{lt-ltb, le-ltb}
use lib.ListN.{length, get_or}
use lib.Seq.{ext_get_or}
use Rattle.laws.proofs.Stores.{same_past}
use Rattle.answers.specs.Outcome.{Outcome, accepted, refused, limit}
use Rattle.answers.proofs.Claims.{refused_accepted}
use Rattle.periods.specs.Period.{held_period}
use Rattle.periods.specs.Edition.{turns_of}
use Rattle.factors.specs.Factorization.{fewest, smallest, Cell, unreachable, reached}
use Rattle.factors.specs.Verdict.{end_of}
use Rattle.factors.proofs.Optimal.{best_unique}
use Rattle.repetitions.specs.Block.{Block}
use Rattle.repetitions.specs.BestSplit.{last_cell, Unsplittable}
use Rattle.comparison.specs.declared.Chosen.{Chosen}
use Rattle.std.specs.Prelude.{Result, Ok, Err}
use Rattle.answers.specs.declared.Refusal.{Refusal}
use Rattle.comparison.specs.declared.Chosen.TheVariants.{First, Second}
use Rattle.comparison.specs.Measure.{first_end}
use Rattle.comparison.specs.Calls.{longer, chosen, compared, which_view, which_outcome, which_work, word_in, length_in, front, first_which, first_length, first_block, Fewest, Cleared, Compared, WhichMeaning, FirstMeaning, BlockMeaning}
use Rattle.comparison.proofs.CallClaims.{above_longer, cleared_table, Promised, promised_long, promised_bad_edition, promised_short, promised_chosen, ends_of, Known, last_known, FirstEnd, Found, choice_means}
use Rattle.comparison.specs.Calls as calls

-- ---- one word

module _ (k : ℕ) (w : List ℕ) where
  -- a smallest factorization says what is known of the word's last boundary
  pub fewest_reached : (s : ℕ) (es : List ℕ) → Fewest k w s es → (p : ℕ) × (last_cell k w fewest ≡ reached s p)
  fewest_reached s es F = go (last_cell k w fewest) (last_known k w)
    where
      go : (v : Cell) → Known k w v → (p : ℕ) × (v ≡ reached s p)
      go unreachable A = absurd (A es F.factorization)
      go (reached t q) A = (q, ap (λ (x : ℕ). reached x q) (best_unique smallest (Block held_period k w) (length w) t s (ends_of k w) es A F).0)

  -- so does that there is none
  pub unsplittable_unreachable : Unsplittable k w → last_cell k w fewest ≡ unreachable
  unsplittable_unreachable n = go (last_cell k w fewest) (last_known k w)
    where
      go : (v : Cell) → Known k w v → v ≡ unreachable
      go unreachable A = refl
      go (reached t q) A = absurd (n (ends_of k w) A.factorization)

  -- the end of its first block is one only
  first_end_unique : (s : ℕ) (es : List ℕ) (e : ℕ) → Fewest k w s es → FirstEnd k w e → end_of es 1 ≡ e
  first_end_unique s es e F G =
      ap (λ (x : List ℕ). end_of x 1) (best_unique smallest (Block held_period k w) (length w) s G.0 es G.1.0 F G.1.1.0).1 ∙ sym G.1.1.1

-- ---- which first

module _ (k : ℕ) (a b : List ℕ) (i j : ℕ) where
  pub compared_unique : (o : Outcome) → Compared k a b o → o ≡ which_view (chosen (last_cell k a fewest) (last_cell k b fewest) i j)
  compared_unique o (calls.Compared.neither n m e) = e ∙ rw (unsplittable_unreachable k a n, unsplittable_unreachable k b m) refl
  compared_unique o (calls.Compared.first_wins (calls.Wins.only s es F n) e) = e ∙ rw ((fewest_reached k a s es F).1, unsplittable_unreachable k b n) refl
  compared_unique o (calls.Compared.first_wins (calls.Wins.both s t es fs F G l) e) =
      e ∙ rw ((fewest_reached k a s es F).1, (fewest_reached k b t fs G).1, le-ltb t s l) refl
  compared_unique o (calls.Compared.second_wins (calls.Wins.only t fs G n) e) = e ∙ rw (unsplittable_unreachable k a n, (fewest_reached k b t fs G).1) refl
  compared_unique o (calls.Compared.second_wins (calls.Wins.both t s fs es G F l) e) =
      e ∙ rw ((fewest_reached k a s es F).1, (fewest_reached k b t fs G).1, lt-ltb t s l) refl

cleared_unique : (places : ℕ) (t y z : List ℕ) → Cleared places t y → Cleared places t z → y ≡ z
cleared_unique places t y z C D = ext_get_or 0 y z (C.long ∙ sym D.long) (λ i l. at i (dec_lt i places))
  where
    at : (i : ℕ) → Dec (i < places) → get_or y i 0 ≡ get_or z i 0
    at i (yes l) = C.zero i l ∙ sym (D.zero i l)
    at i (no l) = same_past places y z (C.kept ∙ sym D.kept) i (omega arith)

-- nothing is both answers
pub one_not_two : (o : Outcome) → o ≡ accepted (1 ∷ []) → o ≡ accepted (2 ∷ []) → ⊥
one_not_two o e f = let z : ◌≡◌ {A = ℕ} 1 2 = cc in omega arith

module _ (a b : List ℕ) (edition : ℕ) (t : List ℕ) where
  -- CLAIM: the meaning of which first determines the answer and the working table
  pub which_determined : (o : Outcome) (y : List ℕ) → WhichMeaning a b edition t o y → (o ≡ which_outcome a b edition (length t)) × (y ≡ which_work a b edition t)
  which_determined o y M = go M
    where
      by : {c : Result Chosen Refusal} {z : List ℕ} → o ≡ which_view c → y ≡ z → Promised a b edition t c z → (o ≡ which_outcome a b edition (length t)) × (y ≡ which_work a b edition t)
      by e f P = (e ∙ ap which_view P.choice, f ∙ P.work)

      fits : length a ≤ limit → length b ≤ limit → longer a b ≤ limit
      fits h l = max-le h l

      go : WhichMeaning a b edition t o y → (o ≡ which_outcome a b edition (length t)) × (y ≡ which_work a b edition t)
      go (calls.WhichMeaning.too_long h e f) = by e f (promised_long a b edition t (above_longer limit (length a) (length b) h))
      go (calls.WhichMeaning.bad_edition h l i e f) = by e f (promised_bad_edition a b edition t (fits h l) i)
      go (calls.WhichMeaning.short_table h l i d e f) = by e f (promised_short a b edition t (fits h l) i d)
      go (calls.WhichMeaning.settled R C K) =
          by (compared_unique (turns_of edition) a b (first_end (turns_of edition) a) (first_end (turns_of edition) b) o C) (cleared_unique _ t y _ K (cleared_table _ t R.places))
          (promised_chosen a b edition t (fits R.first_fits R.second_fits) R.edition_known R.places)

  -- ---- first block

  -- of what is chosen, where which first refuses, answers 1 and answers 2
  of_nothing : (c : Result Chosen Refusal) (number i : ℕ) → refused number i ≡ which_view c → (0 ≡ word_in c) × (0 ≡ length_in c)
  of_nothing (Ok (First e)) number i f = absurd (refused_accepted (refused number i) number i _ refl f)
  of_nothing (Ok (Second e)) number i f = absurd (refused_accepted (refused number i) number i _ refl f)
  of_nothing (Err r) number i f = (refl, refl)

  of_one : (c : Result Chosen Refusal) (s : ℕ) (es : List ℕ) → accepted (1 ∷ []) ≡ which_view c → Found (turns_of edition) a b c → Fewest (turns_of edition) a s es → (1 ≡ word_in c) × (end_of es 1 ≡ length_in c)
  of_one (Ok (First e)) s es f F G =
      (refl, first_end_unique (turns_of edition) a s es e G F)
  of_one (Ok (Second e)) s es f F G = absurd (one_not_two _ refl f)
  of_one (Err r) s es f F G = absurd (refused_accepted _ _ _ _ refl (sym f))

  of_two : (c : Result Chosen Refusal) (s : ℕ) (es : List ℕ) → accepted (2 ∷ []) ≡ which_view c → Found (turns_of edition) a b c → Fewest (turns_of edition) b s es → (2 ≡ word_in c) × (end_of es 1 ≡ length_in c)
  of_two (Ok (First e)) s es f F G = absurd (one_not_two _ refl (sym f))
  of_two (Ok (Second e)) s es f F G =
      (refl, first_end_unique (turns_of edition) b s es e G F)
  of_two (Err r) s es f F G = absurd (refused_accepted _ _ _ _ refl (sym f))

  -- CLAIM: the meaning of first block determines the word, the length and the working table
  pub first_determined : (word e : ℕ) (y : List ℕ) → FirstMeaning a b edition t word e y
      → (word ≡ first_which a b edition (length t)) × ((e ≡ first_length a b edition (length t)) × (y ≡ which_work a b edition t))
  first_determined word e y M = go M
    where
      c : Result Chosen Refusal
      c = compared a b edition (length t)

      by : {p q : ℕ} → word ≡ p → e ≡ q → (p ≡ word_in c) × (q ≡ length_in c) → y ≡ which_work a b edition t
          → (word ≡ word_in c) × ((e ≡ length_in c) × (y ≡ which_work a b edition t))
      by f g P h = (f ∙ P.0, (g ∙ P.1, h))

      go : FirstMeaning a b edition t word e y → (word ≡ word_in c) × ((e ≡ length_in c) × (y ≡ which_work a b edition t))
      go (calls.FirstMeaning.nothing number i W f g) =
          let D = which_determined (refused number i) y W in by f g (of_nothing c number i D.0) D.1
      go (calls.FirstMeaning.of_first s es W F f g) =
          let D = which_determined (accepted (1 ∷ [])) y W in by f g (of_one c s es D.0 (choice_means a b edition t).found F) D.1
      go (calls.FirstMeaning.of_second s es W F f g) =
          let D = which_determined (accepted (2 ∷ [])) y W in by f g (of_two c s es D.0 (choice_means a b edition t).found F) D.1

  -- CLAIM: and so the part that is returned
  pub block_determined : (x y : List ℕ) → BlockMeaning a b edition t x y → (x ≡ first_block a b edition (length t)) × (y ≡ which_work a b edition t)
  block_determined x y M =
      let D = first_determined M.word M.end y M.found in
      (M.is ∙ ap (λ (z : ℕ). front a b z M.end) D.0 ∙ ap (λ (z : ℕ). front a b (first_which a b edition (length t)) z) D.1.0, D.1.1)
