-- The meaning of the best split leaves nothing open: only the answer and the tables that the computed definitions give have it, since a best factorization is one
-- only. By cases on the meanings. Assumes nothing.
use mathlib.Core.Path.{◌≡◌, sym, ap, ap₂, ◌∙◌, subst}
use mathlib.Core.Bool.{Bool}
use mathlib.Core.List.{List, [], ◌∷◌, ◌++◌}
use Prim.Native.Nat.{ℕ, ◌+◌, ◌*◌, ◌≤◌, ◌<◌}
use native.Mathlib.Omega.{arith}
use native.Mathlib.Decide.{dec_lt, dec_le}
use lib.ListN.{length, get_or, take, drop}
use lib.Seq.{ext_get_or}
use Rattle.laws.proofs.Stores.{same_past}
use Rattle.answers.specs.Outcome.{Outcome, accepted}
use Rattle.factors.specs.Factorization.{Choice, choice_of, AsGood}
use Rattle.factors.specs.Table.{none, rows}
use Rattle.factors.proofs.Optimal.{as_good_antisym, best_unique}
use Rattle.factorizer.specs.Piece.{Piece, Decides}
use Rattle.factorizer.specs.Best.{Reported, Answered, Settled, Chosen}
use Rattle.factorizer.proofs.BestClaims.{ChosenGiven, chosen_bad_choice, chosen_short, chosen_settled, settled_table}
use Rattle.factorizer.specs.Best as best

-- what is reported of a word
pub reported_unique : (P : List ℕ → Type 0) (c : Choice) (u : List ℕ) (v x : ℕ) → Reported P c u v → Reported P c u x → v ≡ x
reported_unique P c u v x (best.Reported.unsplittable e n) (best.Reported.unsplittable f m) = e ∙ sym f
reported_unique P c u v x (best.Reported.unsplittable e n) (best.Reported.best fs F r i h) = absurd (n fs F)
reported_unique P c u v x (best.Reported.best es E s l g) (best.Reported.unsplittable f m) = absurd (m es E)
reported_unique P c u v x (best.Reported.best es E s l g) (best.Reported.best fs F r i h) =
    as_good_antisym c v x (subst (λ (z : ℕ). AsGood c v z) r (g fs F)) (subst (λ (z : ℕ). AsGood c x z) s (h es E))

-- what is answered of it, and the ends
pub answered_unique : (P : List ℕ → Type 0) (c : Choice) (w e : List ℕ) (v z : ℕ) (o p : Outcome) (x y : List ℕ) → Answered P c w e v o x → Answered P c w e z p y → (o ≡ p) × (x ≡ y)
answered_unique P c w e v z o p x y (best.Answered.no_split n a b) (best.Answered.no_split m d f) = (a ∙ sym d, b ∙ sym f)
answered_unique P c w e v z o p x y (best.Answered.no_split n a b) (best.Answered.too_few fs C l d f) = absurd (n fs C.factorization)
answered_unique P c w e v z o p x y (best.Answered.no_split n a b) (best.Answered.written fs C l d f) = absurd (n fs C.factorization)
answered_unique P c w e v z o p x y (best.Answered.too_few es B g a b) (best.Answered.no_split m d f) = absurd (m es B.factorization)
answered_unique P c w e v z o p x y (best.Answered.too_few es B g a b) (best.Answered.too_few fs C l d f) = (a ∙ sym d, b ∙ sym f)
answered_unique P c w e v z o p x y (best.Answered.too_few es B g a b) (best.Answered.written fs C l d f) =
    absurd (omega (arith, (best_unique c (Piece P w) (length w) v z es fs B C).0))
answered_unique P c w e v z o p x y (best.Answered.written es B g a b) (best.Answered.no_split m d f) = absurd (m es B.factorization)
answered_unique P c w e v z o p x y (best.Answered.written es B g a b) (best.Answered.too_few fs C l d f) =
    absurd (omega (arith, (best_unique c (Piece P w) (length w) v z es fs B C).0))
answered_unique P c w e v z o p x y (best.Answered.written es B g a b) (best.Answered.written fs C l d f) =
    let q = best_unique c (Piece P w) (length w) v z es fs B C in (
      a ∙ ap (λ (s : ℕ). accepted (s ∷ [])) q.0 ∙ sym d,
      b ∙ ap₂ (λ (s : ℕ) (l : List ℕ). l ++ drop s e) q.0 q.1 ∙ sym f,
    )

-- the working table, place by place
pub work_unique : (P : List ℕ → Type 0) (w : List ℕ) (choice : ℕ) (e t : List ℕ) (o p : Outcome) (x u y z : List ℕ) → Settled P w choice e t o x y → Settled P w choice e t p u z → y ≡ z
work_unique P w choice e t o p x u y z S R = ext_get_or 0 y z (S.long ∙ sym R.long) (λ i l. at i (dec_le i (length w)) (dec_lt i k))
  where
    k : ℕ
    k = rows * (length w + 1)

    at : (i : ℕ) → Dec (i ≤ length w) → Dec (i < k) → get_or y i 0 ≡ get_or z i 0
    at i (yes a) d = reported_unique P (choice_of choice) (take i w) (get_or y i 0) (get_or z i 0) (S.prefixes i a) (R.prefixes i a)
    at i (no a) (yes b) = S.cleared i (omega arith) b ∙ sym (R.cleared i (omega arith) b)
    at i (no a) (no b) = same_past k y z (S.kept ∙ sym R.kept) i (omega arith)

-- CLAIM: the meaning determines the answer, the ends and the working table
pub chosen_determined : (P : List ℕ → Type 0) (p : List ℕ → Bool) → Decides P p → (w : List ℕ) (choice : ℕ) (e t : List ℕ) → length w < none → (o : Outcome) (x y : List ℕ)
    → Chosen P w choice e t o x y → ChosenGiven p w choice e t o x y
chosen_determined P p D w choice e t small o x y M = go M
  where
    by : {q : Outcome} {u z : List ℕ} → o ≡ q → x ≡ u → y ≡ z → ChosenGiven p w choice e t q u z → ChosenGiven p w choice e t o x y
    by a b d G = record { answer = a ∙ G.answer; ends = b ∙ G.ends; work = d ∙ G.work }

    go : Chosen P w choice e t o x y → ChosenGiven p w choice e t o x y
    go (best.Chosen.bad_choice n a b d) = by a b d (chosen_bad_choice p w choice e t n)
    go (best.Chosen.short_table c k a b d) = by a b d (chosen_short p w choice e t c k)
    go (best.Chosen.settled c k S) =
        let R = settled_table P p D w choice e t k small in
        let q = answered_unique P (choice_of choice) w e _ _ o _ x _ S.answered R.answered in
        by q.0 q.1 (work_unique P w choice e t o _ x _ y _ S R) (chosen_settled p w choice e t c k)
