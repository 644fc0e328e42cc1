-- White nodes: the test decides them, so the numbers of the records that pass it are those of the runs with a node, rising: `nodes_listed`, for any records.
-- By induction on the records. Assumes nothing.
use mathlib.Core.Path.{◌≡◌, refl, sym, ap, ◌∙◌, subst}
use mathlib.Core.Logic.{◌⊎◌, inl, inr}
use mathlib.Core.Bool.{Bool, true, false, cond, ◌&&◌}
use mathlib.Core.List.Memᴰ
use mathlib.Core.List.{List, [], ◌∷◌, ◌++◌, Memᴰ}
use Prim.Native.Nat.{ℕ, zero, suc, ◌+◌, ◌*◌, ◌≤◌}
use native.Mathlib.Omega.{arith}
use lib.Dec.{T, leb, leb→le, le→leb}
use lib.ListN.{length}
use Rattle.laws.proofs.Tests.{and_intro, and_left, and_right}
use Rattle.periods.specs.Period.{held_period}
use Rattle.runs.specs.declared.Record.{Record}
use Rattle.runs.specs.Run.{Entry}
use Rattle.runs.specs.Listing.{node?}
use Rattle.nodes.specs.Node.{White, numbers_where, nodes_at}
use Rattle.runs.specs.Table.{runs_of}
use Rattle.nodes.specs.Calls.{Rising, ListsNodes}

-- ---- the numbers of the records that pass a test

module _ (t : Record → Bool) where
  -- a record that passes, by its number
  numbers_sound : (rs : List Record) (i j : ℕ) → Memᴰ j (numbers_where t i rs) → (m : ℕ) × (r : Record) × (j ≡ i + suc m) × Entry rs (suc m) r × T (t r)
  numbers_sound [] i j h = absurd (Memᴰ.not-nil h)
  numbers_sound (r ∷ rs) i j h = go (λ k. numbers_sound rs (suc i) j k) (t r) refl h
    where
      later : (m : ℕ) × (s : Record) × (j ≡ suc i + suc m) × Entry rs (suc m) s × T (t s) → (m : ℕ) × (s : Record) × (j ≡ i + suc m) × Entry (r ∷ rs) (suc m) s × T (t s)
      later (m, s, e, k, u) = (suc m, s, omega arith, k, u)

      go : (Memᴰ j (numbers_where t (suc i) rs) → (m : ℕ) × (s : Record) × (j ≡ suc i + suc m) × Entry rs (suc m) s × T (t s)) → (u : Bool) → t r ≡ u
          → Memᴰ j (cond u (suc i ∷ []) [] ++ numbers_where t (suc i) rs) → (m : ℕ) × (s : Record) × (j ≡ i + suc m) × Entry (r ∷ rs) (suc m) s × T (t s)
      go ih false e k = later (ih k)
      go ih true e k = pick (Memᴰ.cases_cons k)
        where
          pick : (j ≡ suc i) ⊎ Memᴰ j (numbers_where t (suc i) rs) → (m : ℕ) × (s : Record) × (j ≡ i + suc m) × Entry (r ∷ rs) (suc m) s × T (t s)
          pick (inl z) = (0, r, omega arith, refl, subst T (sym e) tt)
          pick (inr z) = later (ih z)

  numbers_complete : (rs : List Record) (i m : ℕ) (r : Record) → Entry rs (suc m) r → T (t r) → (j : ℕ) → j ≡ i + suc m → Memᴰ j (numbers_where t i rs)
  numbers_complete [] i m r h u j e = absurd h
  numbers_complete (s ∷ rs) i zero r h u j e = go (t s) refl
    where
      go : (v : Bool) → t s ≡ v → Memᴰ j (cond v (suc i ∷ []) [] ++ numbers_where t (suc i) rs)
      go true z = let q : j ≡ suc i = omega arith in Memᴰ.head q
      go false z = absurd (subst T (ap t (sym h) ∙ z) u)
  numbers_complete (s ∷ rs) i (suc m) r h u j e = go (numbers_complete rs (suc i) m r h u j (omega arith)) (t s)
    where
      go : Memᴰ j (numbers_where t (suc i) rs) → (v : Bool) → Memᴰ j (cond v (suc i ∷ []) [] ++ numbers_where t (suc i) rs)
      go k true = Memᴰ.tail k
      go k false = k

  numbers_rising : (i : ℕ) (rs : List Record) → Rising i (numbers_where t i rs)
  numbers_rising i [] = tt
  numbers_rising i (r ∷ rs) = go (numbers_rising (suc i) rs) (t r)
    where
      lower : (j : ℕ) (xs : List ℕ) → i ≤ j → Rising j xs → Rising i xs
      lower j [] l h = tt
      lower j (x ∷ xs) l h = (omega (arith, h.0), h.1)

      go : Rising (suc i) (numbers_where t (suc i) rs) → (u : Bool) → Rising i (cond u (suc i ∷ []) [] ++ numbers_where t (suc i) rs)
      go ih true = (omega arith, ih)
      go ih false = lower (suc i) (numbers_where t (suc i) rs) (omega arith) ih

  pub numbers_at_most : (i : ℕ) (rs : List Record) → length (numbers_where t i rs) ≤ length rs
  numbers_at_most i [] = omega arith
  numbers_at_most i (r ∷ rs) = go (numbers_at_most (suc i) rs) (t r)
    where
      go : length (numbers_where t (suc i) rs) ≤ length rs → (u : Bool) → length (cond u (suc i ∷ []) [] ++ numbers_where t (suc i) rs) ≤ suc (length rs)
      go ih true = omega arith
      go ih false = omega arith

-- ---- CLAIM: the test decides the nodes, of any records

module _ (allowed : ℕ → Bool) (k : ℕ) (rows : List Record) (x : ℕ) where
  node_white : (i : ℕ) (r : Record) → Entry rows i r → T (node? allowed k x r) → White allowed k rows i x
  node_white i r h t =
      let u = and_right (leb (r.first + k * r.period) (x + 1)) (leb x r.last && allowed r.period) t in
      record {
        run = r;
        numbered = h;
        from = leb→le (r.first + k * r.period) (x + 1) (and_left (leb (r.first + k * r.period) (x + 1)) (leb x r.last && allowed r.period) t);
        to = leb→le x r.last (and_left (leb x r.last) (allowed r.period) u);
        permitted = and_right (leb x r.last) (allowed r.period) u;
      }

  white_node : (i : ℕ) (W : White allowed k rows i x) → T (node? allowed k x W.run)
  white_node i W =
      let r = W.run in
      and_intro (leb (r.first + k * r.period) (x + 1)) (leb x r.last && allowed r.period)
      (le→leb (r.first + k * r.period) (x + 1) W.from)
      (and_intro (leb x r.last) (allowed r.period) (le→leb x r.last W.to) W.permitted)

  pub nodes_listed : ListsNodes allowed k rows x (numbers_where (node? allowed k x) 0 rows)
  nodes_listed = record {
    rising = numbers_rising (node? allowed k x) 0 rows;
    sound = λ i h. found i (numbers_sound (node? allowed k x) rows 0 i h);
    complete = complete;
  }
    where
      found : (i : ℕ) → (m : ℕ) × (r : Record) × (i ≡ 0 + suc m) × Entry rows (suc m) r × T (node? allowed k x r) → White allowed k rows i x
      found i (m, r, e, h, t) = subst (λ (j : ℕ). White allowed k rows j x) (omega arith) (node_white (suc m) r h t)

      complete : (i : ℕ) → White allowed k rows i x → Memᴰ i (numbers_where (node? allowed k x) 0 rows)
      complete zero W = absurd W.numbered
      complete (suc m) W = numbers_complete (node? allowed k x) rows 0 m W.run W.numbered (white_node (suc m) W) (suc m) (omega arith)

-- there are no more nodes at a position than runs
pub nodes_at-most : (k : ℕ) (w : List ℕ) (x : ℕ) → length (nodes_at held_period k w x) ≤ length (runs_of w)
unfolding nodes_at
nodes_at-most k w x = numbers_at_most (node? held_period k x) 0 (runs_of w)
