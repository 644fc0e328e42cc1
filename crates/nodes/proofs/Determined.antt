-- The meaning of the nodes call leaves one answer and one table: what means what the documents say is what is computed. Two rising lists of numbers with the
-- same members are one. By induction on both lists, then by the order of the tests. And a place less than there are symbols suffices (`nodes_suffice`), since a
-- word has fewer runs. Assumes nothing.
use mathlib.Core.Path.{◌≡◌, refl, sym, ap, ◌∙◌, subst}
use mathlib.Core.Logic.{◌⊎◌, ◌≢◌, inl, inr}
use mathlib.Core.Bool.{Bool}
use mathlib.Core.List.Memᴰ
use mathlib.Core.List.{List, [], ◌∷◌, ◌++◌, Memᴰ}
use Prim.Native.Nat.{ℕ, ◌-◌, ◌≤◌, ◌<◌}
use native.Mathlib.Omega.{arith}
use lib.ListN.{length, drop}
use Rattle.answers.specs.Outcome.{Outcome, accepted, refused}
use Rattle.answers.proofs.Claims.{refused_accepted, refused_number}
use Rattle.periods.specs.Period.{held_period}
use Rattle.periods.specs.Edition.{turns_of}
use Rattle.runs.specs.declared.Record.{Record}
use Rattle.runs.specs.Run.{Lists}
use Rattle.runs.specs.Table.{runs_of}
use Rattle.nodes.specs.Node.{nodes_at}
use Rattle.nodes.specs.Calls.{nodes_outcome, nodes_table, NodesMeaning, Rising, ListsNodes}
use Rattle.runs.proofs.Listed.{runs_listed}
use Rattle.runs.proofs.Few.{table_at_most}
use Rattle.nodes.proofs.WhiteNodes.{nodes_at-most}
use Rattle.nodes.proofs.CallClaims.{listed_nodes, nodes_too_long, nodes_bad_edition, nodes_outside, nodes_few, nodes_all}
use Rattle.runs.proofs.Determined.{lists_unique}
use Rattle.nodes.specs.Calls as calls

rising_above : (i : ℕ) (xs : List ℕ) → Rising i xs → (n : ℕ) → Memᴰ n xs → i < n
rising_above i [] R n h = absurd (Memᴰ.not-nil h)
rising_above i (x ∷ xs) R n h = go (rising_above x xs R.1 n) (Memᴰ.cases_cons h)
  where
    go : (Memᴰ n xs → x < n) → (n ≡ x) ⊎ Memᴰ n xs → i < n
    go ih (inl e) = omega (arith, R.0)
    go ih (inr k) = omega (arith, R.0, ih k)

-- each member of the first list is one of the second
abbrev Included : List ℕ → List ℕ → Type 0
Included xs ys = (n : ℕ) → Memᴰ n xs → Memᴰ n ys

firsts_same : (x y : ℕ) (xs ys : List ℕ) → Rising x xs → Rising y ys → Included (x ∷ xs) (y ∷ ys) → Included (y ∷ ys) (x ∷ xs) → x ≡ y
firsts_same x y xs ys R U h k = go (Memᴰ.cases_cons (h x (Memᴰ.head refl))) (Memᴰ.cases_cons (k y (Memᴰ.head refl)))
  where
    go : (x ≡ y) ⊎ Memᴰ x ys → (y ≡ x) ⊎ Memᴰ y xs → x ≡ y
    go (inl e) b = e
    go (inr a) (inl e) = sym e
    go (inr a) (inr b) = absurd (omega (arith, rising_above x xs R y b, rising_above y ys U x a))

tail_included : (x y : ℕ) (xs ys : List ℕ) → x ≡ y → Rising x xs → Included (x ∷ xs) (y ∷ ys) → Included xs ys
tail_included x y xs ys e R h n a = go (Memᴰ.cases_cons (h n (Memᴰ.tail a)))
  where
    go : (n ≡ y) ⊎ Memᴰ n ys → Memᴰ n ys
    go (inl f) = absurd (omega (arith, rising_above x xs R n a))
    go (inr b) = b

-- two rising lists with the same members are one
pub rising_unique : (i j : ℕ) (xs ys : List ℕ) → Rising i xs → Rising j ys → Included xs ys → Included ys xs → xs ≡ ys
rising_unique i j [] [] R U h k = refl
rising_unique i j [] (y ∷ ys) R U h k = absurd (Memᴰ.not-nil (k y (Memᴰ.head refl)))
rising_unique i j (x ∷ xs) [] R U h k = absurd (Memᴰ.not-nil (h x (Memᴰ.head refl)))
rising_unique i j (x ∷ xs) (y ∷ ys) R U h k =
    let e = firsts_same x y xs ys R.1 U.1 h k in
    let f = rising_unique x y xs ys R.1 U.1 (tail_included x y xs ys e R.1 h) (tail_included y x ys xs (sym e) U.1 k) in
    ap (λ (z : ℕ). z ∷ xs) e ∙ ap (λ (zs : List ℕ). y ∷ zs) f

-- CLAIM: the nodes at a position are listed in one way
pub nodes_unique : (allowed : ℕ → Bool) (k : ℕ) (rows : List Record) (x : ℕ) (numbers others : List ℕ) → ListsNodes allowed k rows x numbers → ListsNodes allowed k rows x others → numbers ≡ others
nodes_unique allowed k rows x numbers others L M =
    rising_unique 0 0 numbers others L.rising M.rising (λ i h. M.complete i (L.sound i h)) (λ i h. L.complete i (M.sound i h))

-- the numbers of the nodes, for any list of the runs
numbers_same : (w : List ℕ) (edition x : ℕ) (rows : List Record) (numbers : List ℕ) → Lists w rows → ListsNodes held_period (turns_of edition) rows x numbers
    → numbers ≡ nodes_at held_period (turns_of edition) w x
numbers_same w edition x rows numbers L N =
    nodes_unique held_period (turns_of edition) (runs_of w) x numbers (nodes_at held_period (turns_of edition) w x)
    (subst (λ (rs : List Record). ListsNodes held_period (turns_of edition) rs x numbers) (lists_unique w rows (runs_of w) L (runs_listed w)) N)
    (listed_nodes w edition x)

-- CLAIM: the nodes call's answer and table are the only ones that mean what the documents say
pub nodes_determined : (w : List ℕ) (edition x : ℕ) (t : List ℕ) (o : Outcome) (u : List ℕ) → NodesMeaning w edition x t o u
    → (o ≡ nodes_outcome w edition x (length t)) × (u ≡ nodes_table w edition x t)
nodes_determined w edition x t o u (calls.NodesMeaning.too_long h e f) = let g = nodes_too_long w edition x t h in (e ∙ g.0, f ∙ g.1)
nodes_determined w edition x t o u (calls.NodesMeaning.bad_edition h i e f) = let g = nodes_bad_edition w edition x t h i in (e ∙ g.0, f ∙ g.1)
nodes_determined w edition x t o u (calls.NodesMeaning.outside h i k e f) = let g = nodes_outside w edition x t h i k in (e ∙ g.0, f ∙ g.1)
nodes_determined w edition x t o u (calls.NodesMeaning.too_few h i k rows L numbers N l e f) =
    let g = nodes_few w edition x t h i k (subst (λ (ns : List ℕ). length t < length ns) (numbers_same w edition x rows numbers L N) l) in
    (e ∙ g.0, f ∙ g.1)
nodes_determined w edition x t o u (calls.NodesMeaning.listed h i k rows L numbers N l e f) =
    let q = numbers_same w edition x rows numbers L N in
    let g = nodes_all w edition x t h i k (subst (λ (ns : List ℕ). length ns ≤ length t) q l) in (
      e ∙ ap (λ (ns : List ℕ). accepted (length ns ∷ [])) q ∙ g.0,
      f ∙ ap (λ (ns : List ℕ). ns ++ drop (length ns) t) q ∙ g.1,
    )

-- ---- how large the table must be

-- CLAIM: n - 1 places suffice, since a word has fewer runs than symbols: no answer that means what the documents say is 7
pub nodes_suffice : (w : List ℕ) (edition x : ℕ) (t : List ℕ) → length w - 1 ≤ length t → (o : Outcome) (u : List ℕ) → NodesMeaning w edition x t o u → (i : ℕ) → o ≢ refused 7 i
nodes_suffice w edition x t k o u (calls.NodesMeaning.too_long h e f) i y = omega (arith, refused_number o 1 7 0 i e y)
nodes_suffice w edition x t k o u (calls.NodesMeaning.bad_edition h d e f) i y = omega (arith, refused_number o 12 7 0 i e y)
nodes_suffice w edition x t k o u (calls.NodesMeaning.outside h d b e f) i y = omega (arith, refused_number o 6 7 0 i e y)
nodes_suffice w edition x t k o u (calls.NodesMeaning.too_few h d b rows L numbers N l e f) i y =
    omega (arith, ap length (numbers_same w edition x rows numbers L N), nodes_at-most (turns_of edition) w x, table_at_most w)
nodes_suffice w edition x t k o u (calls.NodesMeaning.listed h d b rows L numbers N l e f) i y = refused_accepted o 7 i (length numbers ∷ []) y e
