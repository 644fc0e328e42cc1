-- The verdict on proposed ends means what document 01 says: the first end that does not rise, or whose piece is no block, is named; then the last end must be
-- the length (verdict_means). By induction on the ends that are left, with the ends so far known to be fine. An outcome with that meaning is one only
-- (meaning_determines), and a proposal is accepted exactly when it is a factorization (accepted_iff, accepted_factorization). Assumes nothing.
use mathlib.Core.Path.{◌≡◌, refl, sym, ap, ◌∙◌, subst}
use mathlib.Core.Logic.{◌↔◌}
use mathlib.Core.Bool.{Bool, true, false, cond, ◌||◌}
use mathlib.Core.List.{List, [], ◌∷◌, ◌++◌}
use Prim.Native.Nat.{ℕ, suc, ◌+◌, ◌≤◌, ◌<◌}
use native.Mathlib.Omega.{arith}
use native.Mathlib.Decide.{dec_lt, dec_le, ℕ_discrete}
use lib.Dec.{T, leb, ltb}
use lib.ListN.{length, get_or, length-append}
use lib.Seq.{get_or_at, append_snoc}
use borrow.Author.Tests.{le-leb, lt-leb, lt-ltb, le-ltb, eq-eqb, ne_eqb}
use Rattle.laws.proofs.Tests.{T_true}
use Rattle.answers.proofs.Claims.{refused_accepted}
use Rattle.answers.specs.Outcome.{Outcome, accepted, refused}
use Rattle.factors.specs.Factorization.{Chain, Factorization}
use Rattle.factors.specs.Verdict.{verdict_from, verdict, end_of, Rises, IsBlock, FineBefore, VerdictMeaning, bad_end, no_block, unfinished, fine}
use Rattle.factors.proofs.Chains.{length_snoc, chain_map, chain_within}

-- ---- the verdict, one end at a time

module _ (block? : ℕ → ℕ → ℕ → Bool) (n k i : ℕ) where
  pub verdict_unfinished : (i ≡ n → ⊥) → verdict_from block? n k i [] ≡ refused 5 0
  verdict_unfinished h = simp (ne_eqb i n h)

  pub verdict_finished : i ≡ n → verdict_from block? n k i [] ≡ accepted (k ∷ [])
  verdict_finished h = simp (eq-eqb i n h)

  module _ (e : ℕ) (es : List ℕ) where
    pub verdict_low : e ≤ i → verdict_from block? n k i (e ∷ es) ≡ refused 3 (suc k)
    verdict_low h = simp (le-leb e i h)

    pub verdict_high : n < e → verdict_from block? n k i (e ∷ es) ≡ refused 3 (suc k)
    verdict_high h = go (leb e i)
      where
        go : (t : Bool)
            → cond (t || ltb n e) (refused 3 (suc k)) (cond (block? (suc k) i e) (verdict_from block? n (suc k) e es) (refused 4 (suc k))) ≡ refused 3 (suc k)
        go true = refl
        go false = simp (lt-ltb n e h)

    pub verdict_no_block : i < e → e ≤ n → block? (suc k) i e ≡ false → verdict_from block? n k i (e ∷ es) ≡ refused 4 (suc k)
    verdict_no_block l u h = simp (lt-leb e i l, le-ltb n e u, h)

    pub verdict_block : i < e → e ≤ n → block? (suc k) i e ≡ true → verdict_from block? n k i (e ∷ es) ≡ verdict_from block? n (suc k) e es
    verdict_block l u h = simp (lt-leb e i l, le-ltb n e u, h)

-- ---- what it means

module _ (block? : ℕ → ℕ → ℕ → Bool) (B : ℕ → ℕ → ℕ → Type 0) (to : (k i j : ℕ) → T (block? k i j) → B k i j) (of : (k i j : ℕ) → B k i j → T (block? k i j)) (n : ℕ) where
  module _ (ends : List ℕ) where
    fine_none : FineBefore B n ends 1
    fine_none i a b = absurd (omega arith)

    fine_more : (k : ℕ) → FineBefore B n ends (suc k) → Rises n ends (suc k) → IsBlock B ends (suc k) → FineBefore B n ends (suc (suc k))
    fine_more k F r x i a b = go (ℕ_discrete i (suc k))
      where
        go : Dec (i ≡ suc k) → Rises n ends i × IsBlock B ends i
        go (yes z) = subst (λ (j : ℕ). Rises n ends j × IsBlock B ends j) (sym z) (r, x)
        go (no z) = F i a (omega arith)

    -- the first k ends are fine and the others are `rest`
    from : (rest front : List ℕ) (k : ℕ) → ends ≡ front ++ rest → length front ≡ k → FineBefore B n ends (suc k)
        → VerdictMeaning B n ends (verdict_from block? n k (end_of ends k) rest)
    from [] front k e l F = go (ℕ_discrete (end_of ends k) n)
      where
        all : k ≡ length ends
        all = sym l ∙ omega (arith, ap length e, length-append front [])

        go : Dec (end_of ends k ≡ n) → VerdictMeaning B n ends (verdict_from block? n k (end_of ends k) [])
        go (yes z) =
            fine (subst (λ (j : ℕ). FineBefore B n ends (suc j)) all F) (sym (ap (end_of ends) all) ∙ z)
            (verdict_finished block? n k (end_of ends k) z ∙ ap (λ (j : ℕ). accepted (j ∷ [])) all)
        go (no z) =
            unfinished (subst (λ (j : ℕ). FineBefore B n ends (suc j)) all F) (λ x. z (ap (end_of ends) all ∙ x))
            (verdict_unfinished block? n k (end_of ends k) z)
    from (x ∷ rest) front k e l F =
        go (λ v. from rest (front ++ x ∷ []) (suc k) (e ∙ sym (append_snoc front x rest)) (length_snoc front x ∙ ap suc l) v) (dec_lt (end_of ends k) x) (dec_le x n) (block? (suc k) (end_of ends k) x) refl
      where
        end : end_of ends (suc k) ≡ x
        end = ap (λ (t : List ℕ). get_or t k 0) e ∙ get_or_at front x rest 0 k l

        inside : suc k ≤ length ends
        inside = omega (arith, ap length e, length-append front (x ∷ rest))

        go : (FineBefore B n ends (suc (suc k)) → VerdictMeaning B n ends (verdict_from block? n (suc k) (end_of ends (suc k)) rest))
            → Dec (end_of ends k < x) → Dec (x ≤ n) → (t : Bool) → block? (suc k) (end_of ends k) x ≡ t
            → VerdictMeaning B n ends (verdict_from block? n k (end_of ends k) (x ∷ rest))
        go ih (no a) d t z =
            bad_end (suc k) (omega arith) inside F (λ r. omega (arith, end, r.0)) (verdict_low block? n k (end_of ends k) x rest (omega arith))
        go ih (yes a) (no d) t z =
            bad_end (suc k) (omega arith) inside F (λ r. omega (arith, end, r.1)) (verdict_high block? n k (end_of ends k) x rest (omega arith))
        go ih (yes a) (yes d) false z =
            no_block (suc k) (omega arith) inside F (omega (arith, end), omega (arith, end))
            (λ y. subst T z (of (suc k) (end_of ends k) x (subst (λ (j : ℕ). B (suc k) (end_of ends k) j) end y)))
            (verdict_no_block block? n k (end_of ends k) x rest a d z)
        go ih (yes a) (yes d) true z =
            subst (VerdictMeaning B n ends) (sym (verdict_block block? n k (end_of ends k) x rest a d z))
            (subst (λ (j : ℕ). VerdictMeaning B n ends (verdict_from block? n (suc k) j rest)) end
            (ih (fine_more k F (omega (arith, end), omega (arith, end)) (subst (λ (j : ℕ). B (suc k) (end_of ends k) j) (sym end) (to (suc k) (end_of ends k) x (subst T (sym z) tt))))))

  pub verdict_means : (ends : List ℕ) → VerdictMeaning B n ends (verdict block? n ends)
  unfolding verdict
  verdict_means ends = from ends ends [] 0 refl refl (fine_none ends)

-- ---- one outcome only

module _ (B : ℕ → ℕ → ℕ → Type 0) (n : ℕ) (ends : List ℕ) where
  -- end number k is the first that does not rise or whose piece is no block
  record Fails (k : ℕ) : Type 0 where
    low : 1 ≤ k
    high : k ≤ length ends
    before : FineBefore B n ends k
    here : Rises n ends k × IsBlock B ends k → ⊥

  fails_after : (k j : ℕ) → Fails k → Fails j → k < j → ⊥
  fails_after k j X Y l = X.here (Y.before k X.low l)

  fails_once : (k j : ℕ) → Fails k → Fails j → k ≡ j
  fails_once k j X Y = go (dec_lt k j) (dec_lt j k)
    where
      go : Dec (k < j) → Dec (j < k) → k ≡ j
      go (yes a) d = absurd (fails_after k j X Y a)
      go (no a) (yes d) = absurd (fails_after j k Y X d)
      go (no a) (no d) = omega arith

  fails_fine : (k : ℕ) → Fails k → FineBefore B n ends (suc (length ends)) → ⊥
  fails_fine k X F = X.here (F k X.low (omega (arith, X.high)))

  fails_rise : (k : ℕ) → 1 ≤ k → k ≤ length ends → FineBefore B n ends k → (Rises n ends k → ⊥) → Fails k
  fails_rise k a b F r = record { low = a; high = b; before = F; here = λ x. r x.0 }

  fails_block : (k : ℕ) → 1 ≤ k → k ≤ length ends → FineBefore B n ends k → (IsBlock B ends k → ⊥) → Fails k
  fails_block k a b F y = record { low = a; high = b; before = F; here = λ x. y x.1 }

  -- the four cases exclude one another
  pub meaning_determines : {o o' : Outcome} → VerdictMeaning B n ends o → VerdictMeaning B n ends o' → o ≡ o'
  meaning_determines (bad_end k a b F r e) (bad_end j a' b' G s d) =
      e ∙ ap (refused 3) (fails_once k j (fails_rise k a b F r) (fails_rise j a' b' G s)) ∙ sym d
  meaning_determines (bad_end k a b F r e) (no_block j a' b' G s y d) =
      absurd (r (subst (Rises n ends) (fails_once j k (fails_block j a' b' G y) (fails_rise k a b F r)) s))
  meaning_determines (bad_end k a b F r e) (unfinished G z d) = absurd (fails_fine k (fails_rise k a b F r) G)
  meaning_determines (bad_end k a b F r e) (fine G z d) = absurd (fails_fine k (fails_rise k a b F r) G)
  meaning_determines (no_block k a b F r x e) (bad_end j a' b' G s d) =
      absurd (s (subst (Rises n ends) (fails_once k j (fails_block k a b F x) (fails_rise j a' b' G s)) r))
  meaning_determines (no_block k a b F r x e) (no_block j a' b' G s y d) =
      e ∙ ap (refused 4) (fails_once k j (fails_block k a b F x) (fails_block j a' b' G y)) ∙ sym d
  meaning_determines (no_block k a b F r x e) (unfinished G z d) = absurd (fails_fine k (fails_block k a b F x) G)
  meaning_determines (no_block k a b F r x e) (fine G z d) = absurd (fails_fine k (fails_block k a b F x) G)
  meaning_determines (unfinished F z e) (bad_end j a b G s d) = absurd (fails_fine j (fails_rise j a b G s) F)
  meaning_determines (unfinished F z e) (no_block j a b G s y d) = absurd (fails_fine j (fails_block j a b G y) F)
  meaning_determines (unfinished F z e) (unfinished G y d) = e ∙ sym d
  meaning_determines (unfinished F z e) (fine G y d) = absurd (z y)
  meaning_determines (fine F z e) (bad_end j a b G s d) = absurd (fails_fine j (fails_rise j a b G s) F)
  meaning_determines (fine F z e) (no_block j a b G s y d) = absurd (fails_fine j (fails_block j a b G y) F)
  meaning_determines (fine F z e) (unfinished G y d) = absurd (y z)
  meaning_determines (fine F z e) (fine G y d) = e ∙ sym d

-- ---- accepted exactly when it is a factorization

-- for a test that does not look at the block's number
module _ (c : ℕ → ℕ → Bool) (C : ℕ → ℕ → Type 0) (to : (i j : ℕ) → T (c i j) → C i j) (of : (i j : ℕ) → C i j → T (c i j)) (n : ℕ) where
  -- a block that rises within the n symbols
  abbrev Within : ℕ → ℕ → Type 0
  Within i j = (i < j) × (j ≤ n) × C i j

  accepted_chain : (ends : List ℕ) (k i : ℕ) (v : List ℕ) → verdict_from (λ k. c) n k i ends ≡ accepted v → Chain Within i ends n
  accepted_chain [] k i v h = go (ℕ_discrete i n)
    where
      go : Dec (i ≡ n) → i ≡ n
      go (yes z) = z
      go (no z) = absurd (refused_accepted _ 5 0 v (verdict_unfinished (λ k. c) n k i z) h)
  accepted_chain (e ∷ es) k i v h = go (λ g. accepted_chain es (suc k) e v g) (dec_lt i e) (dec_le e n) (c i e) refl
    where
      go : (verdict_from (λ k. c) n (suc k) e es ≡ accepted v → Chain Within e es n) → Dec (i < e) → Dec (e ≤ n) → (t : Bool) → c i e ≡ t → Within i e × Chain Within e es n
      go ih (no a) d t z = absurd (refused_accepted _ 3 (suc k) v (verdict_low (λ k. c) n k i e es (omega arith)) h)
      go ih (yes a) (no d) t z = absurd (refused_accepted _ 3 (suc k) v (verdict_high (λ k. c) n k i e es (omega arith)) h)
      go ih (yes a) (yes d) false z = absurd (refused_accepted _ 4 (suc k) v (verdict_no_block (λ k. c) n k i e es a d z) h)
      go ih (yes a) (yes d) true z = ((a, d, to i e (subst T (sym z) tt)), ih (sym (verdict_block (λ k. c) n k i e es a d z) ∙ h))

  chain_accepted : (ends : List ℕ) (k i : ℕ) → Chain Within i ends n → verdict_from (λ k. c) n k i ends ≡ accepted ((k + length ends) ∷ [])
  chain_accepted [] k i h = verdict_finished (λ k. c) n k i h ∙ ap (λ (x : ℕ). accepted (x ∷ [])) (omega arith)
  chain_accepted (e ∷ es) k i h =
      verdict_block (λ k. c) n k i e es h.0.0 h.0.1 (T_true (c i e) (of i e h.0.2)) ∙ chain_accepted es (suc k) e h.1
      ∙ ap (λ (x : ℕ). accepted (x ∷ [])) (omega arith)

  -- accepted with its number of blocks, exactly when it is a factorization whose ends rise and are at most n
  pub accepted_iff : (ends : List ℕ) → (verdict (λ k. c) n ends ≡ accepted (length ends ∷ [])) ↔ Factorization (λ i j. (i < j) × (j ≤ n) × C i j) n ends
  unfolding verdict
  accepted_iff ends = (accepted_chain ends 0 0 (length ends ∷ []), λ h. chain_accepted ends 0 0 h ∙ ap (λ (x : ℕ). accepted (x ∷ [])) (omega arith))

  -- no other number of blocks is answered
  pub accepted_length : (ends v : List ℕ) → verdict (λ k. c) n ends ≡ accepted v → v ≡ length ends ∷ []
  unfolding verdict
  accepted_length ends v h =
      let e : ◌≡◌ {A = Outcome} (accepted v) (accepted (length ends ∷ [])) = sym h ∙ (accepted_iff ends).1 (accepted_chain ends 0 0 v h) in
      cc

  -- where blocks go up, exactly when it is a factorization
  pub accepted_factorization : ((i j : ℕ) → C i j → i < j) → (ends : List ℕ) → (verdict (λ k. c) n ends ≡ accepted (length ends ∷ [])) ↔ Factorization C n ends
  accepted_factorization up ends = (
    λ h. chain_map Within C (λ i j x. x.2) 0 ends n ((accepted_iff ends).0 h),
    λ h. (accepted_iff ends).1 (chain_within C up 0 ends n h),
  )
