-- The verdict on proposed ends, over any test of blocks: "Judge a split: 1; then for each end in turn 3, 4; then 5."
use Rattle.std.specs.Prelude.{◌≡◌, Bool, cond, ◌||◌, List, [], ◌∷◌, ℕ, zero, suc, ◌≤◌, ◌<◌, leb, ltb, eqb, length, get_or}
use Rattle.answers.specs.declared.Refusal.TheVariants.{BadEnd, NotBlock, Unfinished}
use Rattle.answers.specs.Outcome.{Outcome, accepted, refused, refusal}

-- A test of blocks is told the block's number from 1, the boundary that it starts after and its end.

-- "3: an end not above the one before it (0 before the first), or above n." The one before it is i.
abbrev pub bad_end? : ℕ → ℕ → ℕ → Bool
bad_end? n i e = leb e i || ltb n e

-- the verdict on the ends from block number k + 1 on, which starts after boundary i: first 3, then "4: the piece up to this end is not a block", and at last
-- "5: the last end (0 if there are none) is not n." An accepted proposal is answered "with its number of blocks".
abbrev pub verdict_from : (ℕ → ℕ → ℕ → Bool) → ℕ → ℕ → ℕ → List ℕ → Outcome
verdict_from block? n k i [] = cond (eqb i n) (accepted (k ∷ [])) (refusal Unfinished)
verdict_from block? n k i (e ∷ es) =
    cond (bad_end? n i e) (refusal (BadEnd (suc k)))
    (cond (block? (suc k) i e) (verdict_from block? n (suc k) e es) (refusal (NotBlock (suc k))))

unfoldable pub verdict : (ℕ → ℕ → ℕ → Bool) → ℕ → List ℕ → Outcome
verdict block? n ends = verdict_from block? n 0 0 ends

-- ---- what it means

-- the end of block number k, 0 for k = 0
abbrev pub end_of : List ℕ → ℕ → ℕ
end_of ends zero = 0
end_of ends (suc k) = get_or ends k 0

-- end number k is above the one before it and at most n
abbrev pub Rises : ℕ → List ℕ → ℕ → Type 0
Rises n ends zero = Unit {0}
Rises n ends (suc k) = (end_of ends k < end_of ends (suc k)) × (end_of ends (suc k) ≤ n)

-- block number k is a block
abbrev pub IsBlock : (ℕ → ℕ → ℕ → Type 0) → List ℕ → ℕ → Type 0
IsBlock B ends zero = Unit {0}
IsBlock B ends (suc k) = B (suc k) (end_of ends k) (end_of ends (suc k))

-- neither 3 nor 4 is met at the ends before number k
abbrev pub FineBefore : (ℕ → ℕ → ℕ → Type 0) → ℕ → List ℕ → ℕ → Type 0
FineBefore B n ends k = (i : ℕ) → 1 ≤ i → i < k → Rises n ends i × IsBlock B ends i

pub data VerdictMeaning (B : ℕ → ℕ → ℕ → Type 0) (n : ℕ) (ends : List ℕ) (o : Outcome) : Type 0 where
  bad_end : (k : ℕ) → 1 ≤ k → k ≤ length ends → FineBefore B n ends k → (Rises n ends k → ⊥) → o ≡ refused 3 k → VerdictMeaning B n ends o
  no_block : (k : ℕ) → 1 ≤ k → k ≤ length ends → FineBefore B n ends k → Rises n ends k → (IsBlock B ends k → ⊥) → o ≡ refused 4 k → VerdictMeaning B n ends o
  unfinished : FineBefore B n ends (suc (length ends)) → (end_of ends (length ends) ≡ n → ⊥) → o ≡ refused 5 0 → VerdictMeaning B n ends o
  fine : FineBefore B n ends (suc (length ends)) → end_of ends (length ends) ≡ n → o ≡ accepted (length ends ∷ []) → VerdictMeaning B n ends o
