-- What the nodes call answers and writes means what the documents say, for every word, edition, position and table: `nodes_mean`. One law for each outcome
-- gives both from the tests that lead to it. By the order of the tests in the definitions. Assumes nothing.
use mathlib.Core.Path.{◌≡◌, refl, sym}
use mathlib.Core.Bool.{true, false, ◌||◌, or-true}
use mathlib.Core.List.{List, [], ◌∷◌, ◌++◌}
use Prim.Native.Nat.{ℕ, ◌≤◌, ◌<◌}
use native.Mathlib.Omega.{arith}
use native.Mathlib.Decide.{dec_lt, dec_le}
use borrow.Author.Tests.{lt-ltb, le-ltb}
use lib.Dec.{ltb}
use lib.ListN.{length, drop}
use Rattle.answers.specs.Outcome.{Outcome, accepted, refused, limit}
use Rattle.periods.specs.Period.{held_period}
use Rattle.periods.specs.Edition.{Edition, turns_of}
use Rattle.periods.proofs.Editions.{test_of_edition, test_of_no_edition, edition?}
use Rattle.runs.specs.Table.{runs_of}
use Rattle.nodes.specs.Node.{nodes_at}
use Rattle.nodes.specs.Inner.{listed_outcome, listed_table}
use Rattle.nodes.specs.Calls.{nodes_outcome, nodes_table, NodesMeaning, ListsNodes}
use Rattle.runs.proofs.Listed.{runs_listed}
use Rattle.nodes.proofs.WhiteNodes.{nodes_listed}
use Rattle.nodes.specs.Calls as calls

abbrev pub NodesGive : List ℕ → ℕ → ℕ → List ℕ → Outcome → List ℕ → Type 0
NodesGive w edition x t o u = (o ≡ nodes_outcome w edition x (length t)) × (u ≡ nodes_table w edition x t)

-- the position is one of the word's
abbrev Inside : List ℕ → ℕ → Type 0
Inside w x = (1 ≤ x) × (x ≤ length w)

module _ (w : List ℕ) (edition x : ℕ) where
  outside_tests : (Inside w x → ⊥) → (ltb x 1 || ltb (length w) x) ≡ true
  outside_tests h = go (dec_lt x 1) (dec_lt (length w) x)
    where
      go : Dec (x < 1) → Dec (length w < x) → (ltb x 1 || ltb (length w) x) ≡ true
      go (yes y) z = rw (lt-ltb x 1 y) refl
      go (no y) (yes z) = rw (lt-ltb (length w) x z) (or-true (ltb x 1))
      go (no y) (no z) = absurd (h (omega arith, omega arith))

  within_tests : Inside w x → (ltb x 1 || ltb (length w) x) ≡ false
  within_tests h = simp (le-ltb x 1 h.0, le-ltb (length w) x h.1)

  -- the numbers of the nodes, and how many there are
  abbrev numbers : List ℕ
  numbers = nodes_at held_period (turns_of edition) w x

  pub listed_nodes : ListsNodes held_period (turns_of edition) (runs_of w) x numbers
  unfolding nodes_at
  listed_nodes = nodes_listed held_period (turns_of edition) (runs_of w) x

  module _ (t : List ℕ) where
    pub nodes_too_long : limit < length w → NodesGive w edition x t (refused 1 0) t
    unfolding nodes_outcome nodes_table
    nodes_too_long h = (simp (lt-ltb limit (length w) h), simp (lt-ltb limit (length w) h))

    pub nodes_bad_edition : length w ≤ limit → (Edition edition → ⊥) → NodesGive w edition x t (refused 12 0) t
    unfolding nodes_outcome nodes_table
    nodes_bad_edition h i = (simp (le-ltb limit (length w) h, test_of_no_edition edition i), simp (le-ltb limit (length w) h, test_of_no_edition edition i))

    module _ (h : length w ≤ limit) (i : Edition edition) where
      pub nodes_outside : (Inside w x → ⊥) → NodesGive w edition x t (refused 6 0) t
      unfolding nodes_outcome nodes_table
      nodes_outside k = (
        simp (le-ltb limit (length w) h, test_of_edition edition i, outside_tests k),
        simp (le-ltb limit (length w) h, test_of_edition edition i, outside_tests k),
      )

      -- once the tests are passed, the count decides
      pub nodes_passed : Inside w x → NodesGive w edition x t (listed_outcome numbers (length t)) (listed_table numbers t)
      unfolding nodes_outcome nodes_table
      nodes_passed k = (
        simp (le-ltb limit (length w) h, test_of_edition edition i, within_tests k),
        simp (le-ltb limit (length w) h, test_of_edition edition i, within_tests k),
      )

      pub nodes_few : Inside w x → length t < length numbers → NodesGive w edition x t (refused 7 0) t
      nodes_few k l = rw (lt-ltb (length t) (length numbers) l) at (nodes_passed k)

      pub nodes_all : Inside w x → length numbers ≤ length t → NodesGive w edition x t (accepted (length numbers ∷ [])) (numbers ++ drop (length numbers) t)
      nodes_all k l = rw (le-ltb (length t) (length numbers) l) at (nodes_passed k)

    -- CLAIM: what the nodes call answers and writes means what the documents say
    pub nodes_mean : NodesMeaning w edition x t (nodes_outcome w edition x (length t)) (nodes_table w edition x t)
    nodes_mean = go (dec_lt limit (length w)) (edition? edition)
      where
        known : length w ≤ limit → Edition edition → Dec (1 ≤ x) → Dec (x ≤ length w) → Dec (length t < length numbers)
            → NodesMeaning w edition x t (nodes_outcome w edition x (length t)) (nodes_table w edition x t)
        known h i (no a) b y = let g = nodes_outside h i (λ k. a k.0) in calls.NodesMeaning.outside h i (λ k. a k.0) (sym g.0) (sym g.1)
        known h i (yes a) (no b) y = let g = nodes_outside h i (λ k. b k.1) in calls.NodesMeaning.outside h i (λ k. b k.1) (sym g.0) (sym g.1)
        known h i (yes a) (yes b) (yes y) =
            let g = nodes_few h i (a, b) y in
            calls.NodesMeaning.too_few h i (a, b) (runs_of w) (runs_listed w) numbers listed_nodes y (sym g.0) (sym g.1)
        known h i (yes a) (yes b) (no y) =
            let g = nodes_all h i (a, b) (omega arith) in
            calls.NodesMeaning.listed h i (a, b) (runs_of w) (runs_listed w) numbers listed_nodes (omega arith) (sym g.0) (sym g.1)

        go : Dec (limit < length w) → Dec (Edition edition) → NodesMeaning w edition x t (nodes_outcome w edition x (length t)) (nodes_table w edition x t)
        go (yes h) i = let g = nodes_too_long h in calls.NodesMeaning.too_long h (sym g.0) (sym g.1)
        go (no h) (no i) = let g = nodes_bad_edition (omega arith) i in calls.NodesMeaning.bad_edition (omega arith) i (sym g.0) (sym g.1)
        go (no h) (yes i) = known (omega arith) i (dec_le 1 x) (dec_le x (length w)) (dec_lt (length t) (length numbers))

    pub nodes_given : (o : Outcome) (u : List ℕ) → NodesGive w edition x t o u → NodesMeaning w edition x t o u
    nodes_given o u g = rw (g.0, g.1) nodes_mean
