-- The computed factorization is the best one. Cells that satisfy the recurrence (Bellman) hold the best size of every prefix, and the way back over the
-- previous boundaries gives the factorization that wins the tie: by induction on the prefix, with the last block taken off (optimal). The scan satisfies the
-- recurrence, since it takes the first strictly better candidate in rising order (scan_says), so the computed cells do. Hence best_factorization, for every
-- relation of blocks that a test decides and whose blocks go up. Also: a best factorization is one only, the size is at most the prefix, and the scan reads no
-- more than sizes. Assumes nothing.
use mathlib.Core.Path.{◌≡◌, refl, sym, ap, ap₂, ◌∙◌, subst, subst₂}
use mathlib.Core.Logic.{◌⊎◌, inl, inr, ◌≢◌}
use mathlib.Core.Bool.{Bool, true, false, cond}
use mathlib.Core.List.{List, [], ◌∷◌, ◌++◌, reverse}
use Prim.Native.Nat.{ℕ, zero, suc, ◌≤◌, ◌<◌}
use native.Mathlib.Omega.{arith}
use native.Mathlib.Decide.{dec_lt, dec_le, ℕ_discrete}
use lib.Dec.{T}
use lib.ListN.{length, get_or, length-append, get_or-append}
use lib.Seq.{get_or_at}
use borrow.Author.Tests.{ltb-true, ltb-false}
use Rattle.factors.specs.Factorization.{Factorization, size, Choice, smallest, largest, AsGood, block_lengths, FirstGreater, LongerFromEnd, Best, better, Cell, unreachable, reached, offer, scan, cells, cell, follow, ends_from, best_ends}
use Rattle.factors.proofs.Chains.{length_snoc, chain_snoc, Last, chain_last, lengths_back, chain_map}

-- what the cell of boundary m and the ends computed for it say: that no factorization of the first m symbols exists, or the best size with the best
-- factorization
abbrev pub Answers : Choice → (ℕ → ℕ → Type 0) → ℕ → Cell → List ℕ → Type 0
Answers c B m unreachable es = (fs : List ℕ) → Factorization B m fs → ⊥
Answers c B m (reached s p) es = Best c B m s es

-- ---- sizes

pub as_good_refl : (c : Choice) (s : ℕ) → AsGood c s s
as_good_refl smallest s = omega arith
as_good_refl largest s = omega arith

pub as_good_trans : (c : Choice) (s t u : ℕ) → AsGood c s t → AsGood c t u → AsGood c s u
as_good_trans smallest s t u x y = omega arith
as_good_trans largest s t u x y = omega arith

pub as_good_antisym : (c : Choice) (s t : ℕ) → AsGood c s t → AsGood c t s → s ≡ t
as_good_antisym smallest s t x y = omega arith
as_good_antisym largest s t x y = omega arith

as_good_suc : (c : Choice) (s t : ℕ) → AsGood c s t → AsGood c (suc s) (suc t)
as_good_suc smallest s t x = omega arith
as_good_suc largest s t x = omega arith

as_good_pred : (c : Choice) (s t : ℕ) → AsGood c (suc s) (suc t) → AsGood c s t
as_good_pred smallest s t x = omega arith
as_good_pred largest s t x = omega arith

pub better_true : (c : Choice) (s t : ℕ) → better c s t ≡ true → AsGood c s t × (s ≢ t)
better_true smallest s t e = let h = ltb-true s t e in (omega arith, omega arith)
better_true largest s t e = let h = ltb-true t s e in (omega arith, omega arith)

pub better_false : (c : Choice) (s t : ℕ) → better c s t ≡ false → AsGood c t s
better_false smallest s t e = ltb-false s t e
better_false largest s t e = ltb-false t s e

-- ---- the tie

abbrev Wins : List ℕ → List ℕ → Type 0
Wins x y = (x ≡ y) ⊎ LongerFromEnd x y

pub first_greater_asym : (x y : List ℕ) → FirstGreater x y → FirstGreater y x → ⊥
first_greater_asym [] y h k = h
first_greater_asym (a ∷ x) [] h k = h
first_greater_asym (a ∷ x) (b ∷ y) (inl h) (inl k) = omega arith
first_greater_asym (a ∷ x) (b ∷ y) (inl h) (inr k) = omega arith
first_greater_asym (a ∷ x) (b ∷ y) (inr h) (inl k) = omega arith
first_greater_asym (a ∷ x) (b ∷ y) (inr h) (inr k) = first_greater_asym x y h.1 k.1

-- the best factorization is one only, and so is its size
pub best_unique : (c : Choice) (B : ℕ → ℕ → Type 0) (m s t : ℕ) (x y : List ℕ) → Best c B m s x → Best c B m t y → (s ≡ t) × (x ≡ y)
best_unique c B m s t x y X Y = (same, pick (X.wins y Y.factorization (Y.sized ∙ sym same)) (Y.wins x X.factorization (X.sized ∙ same)))
  where
    same : s ≡ t
    same =
        as_good_antisym c s t
        (subst (λ (n : ℕ). AsGood c s n) Y.sized (X.best y Y.factorization))
        (subst (λ (n : ℕ). AsGood c t n) X.sized (Y.best x X.factorization))

    pick : Wins x y → Wins y x → x ≡ y
    pick (inl e) k = e
    pick (inr h) (inl e) = sym e
    pick (inr h) (inr k) = absurd (first_greater_asym (reverse (block_lengths 0 x)) (reverse (block_lengths 0 y)) h k)

module _ (B : ℕ → ℕ → Type 0) where
  -- of two factorizations with one block more up to m, the one with the lower previous boundary has the longer last block
  longer_last : (x y : List ℕ) (m p j : ℕ) → Factorization B p x → Factorization B j y → p < j → j < m → LongerFromEnd (x ++ m ∷ []) (y ++ m ∷ [])
  longer_last x y m p j X Y l u =
      subst₂ FirstGreater (sym (lengths_back B x p m X)) (sym (lengths_back B y j m Y)) (inl (omega arith))

  -- with one previous boundary the tie goes by the blocks before
  wins_snoc : (x y : List ℕ) (m p : ℕ) → Factorization B p x → Factorization B p y → Wins x y → Wins (x ++ m ∷ []) (y ++ m ∷ [])
  wins_snoc x y m p X Y (inl e) = inl (rw e)
  wins_snoc x y m p X Y (inr l) =
      inr (subst₂ FirstGreater (sym (lengths_back B x p m X)) (sym (lengths_back B y p m Y)) (inr (refl, l)))

  -- so the winner of the lowest previous boundary wins
  tie : (x y : List ℕ) (s m p j : ℕ)
      → Factorization B p x → ((fs : List ℕ) → Factorization B p fs → size fs ≡ s → Wins x fs) → Factorization B j y → size y ≡ s → (j < p → ⊥) → j < m → Wins (x ++ m ∷ []) (y ++ m ∷ [])
  tie x y s m p j X wins Y e lowest below = pick (ℕ_discrete j p) (dec_lt j p)
    where
      pick : Dec (j ≡ p) → Dec (j < p) → Wins (x ++ m ∷ []) (y ++ m ∷ [])
      pick (yes z) d = let Z : Factorization B p y = subst (λ (n : ℕ). Factorization B n y) z Y in wins_snoc x y m p X Z (wins y Z e)
      pick (no z) (yes v) = absurd (lowest v)
      pick (no z) (no v) = inr (longer_last x y m p j X Y (omega arith) below)

-- ---- cells that satisfy the recurrence

pub unreachable_reached : (v : Cell) (s p : ℕ) → v ≡ unreachable → v ≡ reached s p → ⊥
unreachable_reached v s p x y = let z : ◌≡◌ {A = ℕ} 0 1 = cc in omega arith

pub reached_same : (v : Cell) (s p t q : ℕ) → v ≡ reached s p → v ≡ reached t q → (s ≡ t) × (p ≡ q)
reached_same v s p t q x y = (cc, cc)

-- both unreachable, or both reached with one size
abbrev pub SameSize : Cell → Cell → Type 0
SameSize unreachable unreachable = Unit {0}
SameSize unreachable (reached t q) = ⊥
SameSize (reached s p) unreachable = ⊥
SameSize (reached s p) (reached t q) = s ≡ t

same_size : (v u : Cell) → v ≡ u → SameSize v u
same_size v u e = subst (SameSize v) e (same v)
  where
    same : (v : Cell) → SameSize v v
    same unreachable = tt
    same (reached s p) = refl

module _ (c : Choice) (b : ℕ → ℕ → Bool) where
  abbrev pub Test : ℕ → ℕ → Type 0
  Test i j = T (b i j)

  -- boundary m has size s by the previous boundary p, which is reached with one block less; no candidate below k is better, and none below p is as good
  pub record Step (table : ℕ → Cell) (m s p k : ℕ) : Type 0 where
    pub below : p < k
    pub block : Test p m
    pub before : ℕ
    pub back : ℕ
    pub from : table p ≡ reached before back
    pub grown : s ≡ suc before
    pub good : (j t r : ℕ) → j < k → Test j m → table j ≡ reached t r → AsGood c s (suc t)
    pub first : (j t r : ℕ) → j < p → Test j m → table j ≡ reached t r → s ≢ suc t

  -- what a cell says of the candidates below k for boundary m
  abbrev pub Says : (ℕ → Cell) → ℕ → ℕ → Cell → Type 0
  Says table m k unreachable = (j : ℕ) → j < k → Test j m → table j ≡ unreachable
  Says table m k (reached s p) = Step table m s p k

  -- the recurrence
  pub record Bellman (table : ℕ → Cell) : Type 0 where
    pub start : table 0 ≡ reached 0 0
    pub says : (m : ℕ) → 0 < m → Says table m m (table m)

  -- what is claimed of a boundary, for the ends computed with any count of steps above m
  abbrev pub Claim : (ℕ → Cell) → ℕ → Cell → Type 0
  Claim table m unreachable = (fs : List ℕ) → Factorization Test m fs → ⊥
  Claim table m (reached s p) = (d : ℕ) → m < d → Best c Test m s (ends_from table d m)

  module _ (up : (i j : ℕ) → Test i j → i < j) (table : ℕ → Cell) (H : Bellman table) where
    factorization_zero : (es : List ℕ) → Factorization Test 0 es → es ≡ []
    factorization_zero es h = go (chain_last Test 0 es 0 h)
      where
        go : ((es ≡ []) × (◌≡◌ {A = ℕ} 0 0)) ⊎ Last Test 0 es 0 → es ≡ []
        go (inl z) = z.0
        go (inr l) = absurd (omega (arith, up l.boundary 0 l.block))

    ends_zero : (d : ℕ) → ends_from table d 0 ≡ []
    ends_zero zero = refl
    ends_zero (suc d) = ap (λ (v : Cell). follow v 0 (λ p. ends_from table d p)) H.start

    at_zero : Claim table 0 (reached 0 0)
    at_zero d h =
        rw (ends_zero d)
        record {
          factorization = refl;
          sized = refl;
          best = λ fs k. rw (factorization_zero fs k) (as_good_refl c 0);
          wins = λ fs k e. inl (sym (factorization_zero fs k));
        }

    at_unreachable : (m : ℕ) → 0 < m → ((j : ℕ) → j < m → Claim table j (table j)) → Says table m m unreachable → Claim table m unreachable
    at_unreachable m z ih says es h = go (chain_last Test 0 es m h)
      where
        go : ((es ≡ []) × (0 ≡ m)) ⊎ Last Test 0 es m → ⊥
        go (inl w) = omega arith
        go (inr l) =
            let u : l.boundary < m = up l.boundary m l.block in
            let e : table l.boundary ≡ unreachable = says l.boundary u l.block in
            let k : Claim table l.boundary unreachable = subst (λ (v : Cell). Claim table l.boundary v) e (ih l.boundary u) in
            k l.front l.chain

    ends_reached : (d m s p : ℕ) → table m ≡ reached (suc s) p → ends_from table (suc d) m ≡ ends_from table d p ++ m ∷ []
    ends_reached d m s p e = ap (λ (v : Cell). follow v m (λ p. ends_from table d p)) e

    at_reached : (m s p : ℕ) → 0 < m → ((j : ℕ) → j < m → Claim table j (table j)) → table m ≡ reached s p → Step table m s p m → Claim table m (reached s p)
    at_reached m s p z ih e S zero h = absurd (omega arith)
    at_reached m s p z ih e S (suc d) h =
        rw (ends_reached d m S.before p (e ∙ ap (λ (x : ℕ). reached x p) S.grown))
        record {
          factorization = chain_snoc Test 0 (ends_from table d p) p m P.factorization S.block;
          sized = length_snoc (ends_from table d p) m ∙ ap suc P.sized ∙ sym S.grown;
          best = λ fs k. best fs (chain_last Test 0 fs m k);
          wins = λ fs k l. wins fs l (chain_last Test 0 fs m k);
        }
      where
        P : Best c Test p S.before (ends_from table d p)
        P = subst (λ (v : Cell). Claim table p v) S.from (ih p S.below) d (omega (arith, S.below))

        known : (j : ℕ) → j < m → (fs : List ℕ) → Factorization Test j fs → (v : Cell) → table j ≡ v → (t : ℕ) × (r : ℕ) × (table j ≡ reached t r) × Best c Test j t (ends_from table (suc j) j)
        known j l fs k unreachable w = absurd (subst (λ (v : Cell). Claim table j v) w (ih j l) fs k)
        known j l fs k (reached t r) w = (t, r, w, subst (λ (v : Cell). Claim table j v) w (ih j l) (suc j) (omega arith))

        best : (fs : List ℕ) → ((fs ≡ []) × (0 ≡ m)) ⊎ Last Test 0 fs m → AsGood c s (size fs)
        best fs (inl w) = absurd (omega arith)
        best fs (inr l) =
            let u : l.boundary < m = up l.boundary m l.block in
            let K = known l.boundary u l.front l.chain (table l.boundary) refl in
            as_good_trans c s (suc K.0) (size fs) (S.good l.boundary K.0 K.1 u l.block K.2)
            (rw (l.is, length_snoc) (as_good_suc c K.0 (size l.front) (K.3.best l.front l.chain)))

        wins : (fs : List ℕ) → size fs ≡ s → ((fs ≡ []) × (0 ≡ m)) ⊎ Last Test 0 fs m → Wins (ends_from table d p ++ m ∷ []) fs
        wins fs w (inl v) = absurd (omega arith)
        wins fs w (inr l) =
            subst (λ (x : List ℕ). Wins (ends_from table d p ++ m ∷ []) x) (sym l.is)
            (tie Test (ends_from table d p) l.front S.before m p l.boundary P.factorization P.wins l.chain
            (omega (arith, S.grown, ap length l.is, length_snoc l.front m)) lowest u)
          where
            u : l.boundary < m
            u = up l.boundary m l.block

            lowest : l.boundary < p → ⊥
            lowest x =
                let K = known l.boundary u l.front l.chain (table l.boundary) refl in
                S.first l.boundary K.0 K.1 x l.block K.2
                (S.grown ∙ ap suc (as_good_antisym c S.before K.0
                (as_good_pred c S.before K.0 (rw S.grown at (S.good l.boundary K.0 K.1 u l.block K.2)))
                (subst (λ (x : ℕ). AsGood c K.0 x) (omega (arith, S.grown, ap length l.is, length_snoc l.front m)) (K.3.best l.front l.chain))))

    every : (d m : ℕ) → m < d → Claim table m (table m)
    every zero m h = absurd (omega arith)
    every (suc d) m h = pick (λ j l. every d j (omega arith)) (ℕ_discrete m 0)
      where
        by_cell : 0 < m → ((j : ℕ) → j < m → Claim table j (table j)) → (v : Cell) → table m ≡ v → Says table m m v → Claim table m v
        by_cell z ih unreachable e S = at_unreachable m z ih S
        by_cell z ih (reached s p) e S = at_reached m s p z ih e S

        pick : ((j : ℕ) → j < m → Claim table j (table j)) → Dec (m ≡ 0) → Claim table m (table m)
        pick ih (yes e) = subst (λ (x : ℕ). Claim table x (table x)) (sym e) (subst (λ (v : Cell). Claim table 0 v) (sym H.start) at_zero)
        pick ih (no e) = let z : 0 < m = omega arith in by_cell z ih (table m) refl (H.says m z)

    -- each cell says whether there is a factorization, and if so the best size, and the way back gives the best one
    pub optimal : (m : ℕ) → Claim table m (table m)
    optimal m = every (suc m) m (omega arith)

  -- ---- the scan satisfies the recurrence

  below_suc : {j k : ℕ} → j < suc k → (j < k) ⊎ (j ≡ k)
  below_suc {j} {k} h = go (dec_lt j k)
    where
      go : Dec (j < k) → (j < k) ⊎ (j ≡ k)
      go (yes x) = inl x
      go (no x) = inr (omega arith)

  module _ (table : ℕ → Cell) (m : ℕ) where
    step_keep : (s p k : ℕ) → Step table m s p k → ((t r : ℕ) → Test k m → table k ≡ reached t r → AsGood c s (suc t)) → Step table m s p (suc k)
    step_keep s p k S h = record {
      below = omega (arith, S.below);
      block = S.block;
      before = S.before;
      back = S.back;
      from = S.from;
      grown = S.grown;
      good = λ j t r l. good j t r (below_suc l);
      first = S.first;
    }
      where
        good : (j t r : ℕ) → (j < k) ⊎ (j ≡ k) → Test j m → table j ≡ reached t r → AsGood c s (suc t)
        good j t r (inl x) = S.good j t r x
        good j t r (inr x) = subst (λ (i : ℕ). Test i m → table i ≡ reached t r → AsGood c s (suc t)) (sym x) (h t r)

    step_new : (s q k : ℕ) → Test k m → table k ≡ reached s q
        → ((j t r : ℕ) → j < k → Test j m → table j ≡ reached t r → AsGood c (suc s) (suc t) × (suc s ≢ suc t)) → Step table m (suc s) k (suc k)
    step_new s q k x e h = record {
      below = omega arith;
      block = x;
      before = s;
      back = q;
      from = e;
      grown = refl;
      good = λ j t r l. good j t r (below_suc l);
      first = λ j t r l y z. (h j t r l y z).1;
    }
      where
        good : (j t r : ℕ) → (j < k) ⊎ (j ≡ k) → Test j m → table j ≡ reached t r → AsGood c (suc s) (suc t)
        good j t r (inl l) y z = (h j t r l y z).0
        good j t r (inr l) y z =
            subst (λ (n : ℕ). AsGood c (suc s) (suc n)) (reached_same (table k) s q t r e (subst (λ (i : ℕ). table i ≡ reached t r) l z)).0 (as_good_refl c (suc s))

    none_keep : (k : ℕ) → Says table m k unreachable → (Test k m → table k ≡ unreachable) → Says table m (suc k) unreachable
    none_keep k S h j l = go (below_suc l)
      where
        go : (j < k) ⊎ (j ≡ k) → Test j m → table j ≡ unreachable
        go (inl x) = S j x
        go (inr x) = subst (λ (i : ℕ). Test i m → table i ≡ unreachable) (sym x) h

    offer_says : (k : ℕ) (known : Cell) → Says table m k known → (t : Bool) → b k m ≡ t → (v : Cell) → table k ≡ v → Says table m (suc k) (offer c k known t v)
    offer_says k unreachable S false e v z = none_keep k S (λ x. absurd (subst T e x))
    offer_says k (reached s₀ q₀) S false e v z = step_keep s₀ q₀ k S (λ t r x. absurd (subst T e x))
    offer_says k unreachable S true e unreachable z = none_keep k S (λ x. z)
    offer_says k (reached s₀ q₀) S true e unreachable z = step_keep s₀ q₀ k S (λ t r x y. absurd (unreachable_reached (table k) t r z y))
    offer_says k unreachable S true e (reached s q) z =
        step_new s q k (subst T (sym e) tt) z (λ j t r l x y. absurd (unreachable_reached (table j) t r (S j l x) y))
    offer_says k (reached s₀ q₀) S true e (reached s q) z = go (better c (suc s) s₀) refl
      where
        go : (u : Bool) → better c (suc s) s₀ ≡ u → Says table m (suc k) (cond u (reached (suc s) k) (reached s₀ q₀))
        go true w =
            let v = better_true c (suc s) s₀ w in
            step_new s q k (subst T (sym e) tt) z (λ j t r l x y. (
              as_good_trans c (suc s) s₀ (suc t) v.0 (S.good j t r l x y),
              λ a. v.1 (as_good_antisym c (suc s) s₀ v.0 (subst (λ (n : ℕ). AsGood c s₀ n) (sym a) (S.good j t r l x y))),
            ))
        go false w =
            step_keep s₀ q₀ k S (λ t r x y. subst (λ (n : ℕ). AsGood c s₀ (suc n)) (reached_same (table k) s q t r z y).0 (better_false c (suc s) s₀ w))

    pub scan_says : (k : ℕ) → Says table m k (scan c b table m k)
    scan_says zero = λ j l. absurd (omega arith)
    scan_says (suc k) = offer_says k (scan c b table m k) (scan_says k) (b k m) refl (table k) refl

    -- ---- the scan, one candidate at a time

    pub scan_more : (j : ℕ) → scan c b table m (suc j) ≡ offer c j (scan c b table m j) (b j m) (table j)
    scan_more j = refl

    pub scan_no_block : (j : ℕ) → b j m ≡ false → scan c b table m (suc j) ≡ scan c b table m j
    scan_no_block j e = rw e

    pub scan_unreachable : (j : ℕ) → table j ≡ unreachable → scan c b table m (suc j) ≡ scan c b table m j
    scan_unreachable j e = go (b j m) (table j) e
      where
        go : (t : Bool) (v : Cell) → v ≡ unreachable → offer c j (scan c b table m j) t v ≡ scan c b table m j
        go false v e = refl
        go true v e = rw e

    pub scan_block : (j s q : ℕ) → b j m ≡ true → table j ≡ reached s q → scan c b table m (suc j) ≡ offer c j (scan c b table m j) true (reached s q)
    scan_block j s q e z = ap₂ (λ (t : Bool) (v : Cell). offer c j (scan c b table m j) t v) e z

  -- ---- the scan reads the cells below only, and only their sizes

  offer-size : (j : ℕ) (known : Cell) (t : Bool) (v u : Cell) → SameSize v u → offer c j known t v ≡ offer c j known t u
  offer-size j known false v u e = refl
  offer-size j known true unreachable unreachable e = refl
  offer-size j known true unreachable (reached s q) e = absurd e
  offer-size j known true (reached s q) unreachable e = absurd e
  offer-size j unreachable true (reached s q) (reached t r) e = ap (λ (x : ℕ). reached (suc x) j) e
  offer-size j (reached s₀ q₀) true (reached s q) (reached t r) e =
      ap (λ (x : ℕ). cond (better c (suc x) s₀) (reached (suc x) j) (reached s₀ q₀)) e

  pub scan-size : (table other : ℕ → Cell) (m k : ℕ) → ((j : ℕ) → j < k → SameSize (table j) (other j)) → scan c b table m k ≡ scan c b other m k
  scan-size table other m zero h = refl
  scan-size table other m (suc k) h =
      ap (λ (x : Cell). offer c k x (b k m) (table k)) (scan-size table other m k (λ j l. h j (omega arith)))
      ∙ offer-size k (scan c b other m k) (b k m) (table k) (other k) (h k (omega arith))

  pub scan_cong : (table other : ℕ → Cell) (m k : ℕ) → ((j : ℕ) → j < k → table j ≡ other j) → scan c b table m k ≡ scan c b other m k
  scan_cong table other m k h = scan-size table other m k (λ j l. same_size (table j) (other j) (h j l))

  -- ---- the computed cells

  pub length-cells : (n : ℕ) → length (cells c b n) ≡ suc n
  length-cells zero = refl
  length-cells (suc n) = length-append (cells c b n) (scan c b (λ j. get_or (cells c b n) j unreachable) (suc n) (suc n) ∷ []) ∙ omega (arith, length-cells n)

  -- a cell stays as it is while the list grows
  pub cells_at : (n j : ℕ) → j ≤ n → get_or (cells c b n) j unreachable ≡ cell c b j
  unfolding cell
  cells_at zero j h = let z : j ≡ 0 = omega arith in rw z
  cells_at (suc n) j h = go (λ l. cells_at n j l) (dec_le j n)
    where
      go : (j ≤ n → get_or (cells c b n) j unreachable ≡ cell c b j) → Dec (j ≤ n) → get_or (cells c b (suc n)) j unreachable ≡ cell c b j
      go ih (yes l) = get_or-append (cells c b n) _ unreachable j (omega (arith, length-cells n)) ∙ ih l
      go ih (no l) = let z : j ≡ suc n = omega arith in rw z

  pub cell-zero : cell c b 0 ≡ reached 0 0
  unfolding cell
  cell-zero = refl

  pub cell-suc : (n : ℕ) → cell c b (suc n) ≡ scan c b (cell c b) (suc n) (suc n)
  cell-suc n =
      sym (cells_at (suc n) (suc n) (omega arith))
      ∙ get_or_at (cells c b n) (scan c b (λ j. get_or (cells c b n) j unreachable) (suc n) (suc n)) [] unreachable (suc n) (length-cells n)
      ∙ scan_cong (λ j. get_or (cells c b n) j unreachable) (cell c b) (suc n) (suc n) (λ j l. cells_at n j (omega arith))

  pub cells_bellman : Bellman (cell c b)
  cells_bellman = record { start = cell-zero; says = says }
    where
      says : (m : ℕ) → 0 < m → Says (cell c b) m m (cell c b m)
      says zero h = absurd (omega arith)
      says (suc n) h = subst (λ (v : Cell). Says (cell c b) (suc n) (suc n) v) (sym (cell-suc n)) (scan_says (cell c b) (suc n) (suc n))

  -- the previous boundary of one that is reached
  pub reached_step : (m s p : ℕ) → 0 < m → cell c b m ≡ reached s p → Step (cell c b) m s p m
  reached_step m s p z e = subst (λ (v : Cell). Says (cell c b) m m v) e (cells_bellman.says m z)

  -- and of one that is reached with a block or more: it is lower, its piece is a block, and it is reached with one block less
  pub reached_suc : (m s p : ℕ) → cell c b m ≡ reached (suc s) p → (0 < m) × (p < m) × T (b p m) × ((q : ℕ) × (cell c b p ≡ reached s q))
  reached_suc m s p e = go (ℕ_discrete m 0)
    where
      go : Dec (m ≡ 0) → (0 < m) × (p < m) × T (b p m) × ((q : ℕ) × (cell c b p ≡ reached s q))
      go (yes z) = absurd (omega (arith, (reached_same (cell c b 0) (suc s) p 0 0 (subst (λ (x : ℕ). cell c b x ≡ reached (suc s) p) z e) cell-zero).0))
      go (no z) =
          let S = reached_step m (suc s) p (omega arith) e in
          let g : S.before ≡ s = omega (arith, S.grown) in
          (omega arith, S.below, S.block, (S.back, S.from ∙ ap (λ (x : ℕ). reached x S.back) g))

  -- only the empty prefix has size 0
  pub reached_zero : (m p : ℕ) → cell c b m ≡ reached 0 p → m ≡ 0
  reached_zero m p e = go (ℕ_discrete m 0)
    where
      go : Dec (m ≡ 0) → m ≡ 0
      go (yes z) = z
      go (no z) = absurd (omega (arith, (reached_step m 0 p (omega arith) e).grown))

  -- a size is at most the length of the prefix
  pub size_bound : (m s p : ℕ) → cell c b m ≡ reached s p → s ≤ m
  size_bound m s p e = bound (suc m) m s p (omega arith) e
    where
      bound : (d m s p : ℕ) → m < d → cell c b m ≡ reached s p → s ≤ m
      bound zero m s p l e = absurd (omega arith)
      bound (suc d) m s p l e = go (λ j t r x y. bound d j t r x y) (ℕ_discrete m 0)
        where
          go : ((j t r : ℕ) → j < d → cell c b j ≡ reached t r → t ≤ j) → Dec (m ≡ 0) → s ≤ m
          go ih (yes z) = omega (arith, (reached_same (cell c b 0) s p 0 0 (subst (λ (x : ℕ). cell c b x ≡ reached s p) z e) cell-zero).0)
          go ih (no z) =
              let S = reached_step m s p (omega arith) e in
              omega (arith, S.grown, S.below, ih p S.before S.back (omega (arith, S.below)) S.from)

  -- the computed ends, by the steps back
  pub best_ends_lem : (m : ℕ) → best_ends c b m ≡ ends_from (cell c b) (suc m) m
  unfolding best_ends
  best_ends_lem m = refl

  -- a boundary that is not reached has none
  pub no_ends : (m : ℕ) → cell c b m ≡ unreachable → best_ends c b m ≡ []
  no_ends m e = best_ends_lem m ∙ ap (λ (v : Cell). follow v m (λ p. ends_from (cell c b) m p)) e

-- the theorem: for a test that decides the relation of blocks, and blocks that go up
pub best_factorization : (c : Choice) (b : ℕ → ℕ → Bool) (B : ℕ → ℕ → Type 0) (to : (i j : ℕ) → T (b i j) → B i j) (of : (i j : ℕ) → B i j → T (b i j)) (up : (i j : ℕ) → T (b i j) → i < j)
    → (m : ℕ) → Answers c B m (cell c b m) (best_ends c b m)
best_factorization c b B to of up m = go (cell c b m) (optimal c b up (cell c b) (cells_bellman c b) m)
  where
    back : (fs : List ℕ) → Factorization B m fs → Factorization (Test c b) m fs
    back fs k = chain_map B (Test c b) of 0 fs m k

    go : (v : Cell) → Claim c b (cell c b) m v → Answers c B m v (best_ends c b m)
    go unreachable h = λ fs k. h fs (back fs k)
    go (reached s p) h =
        let X : Best c (Test c b) m s (best_ends c b m) = subst (Best c (Test c b) m s) (sym (best_ends_lem c b m)) (h (suc m) (omega arith)) in
        record {
          factorization = chain_map (Test c b) B to 0 (best_ends c b m) m X.factorization;
          sized = X.sized;
          best = λ fs k. X.best fs (back fs k);
          wins = λ fs k e. X.wins fs (back fs k) e;
        }
