-- Marks: the numbers of those that are set are those of the runs that pass the test (`marks_picked`), and what one more mark adds to them. By induction on the
-- runs and on the marks. Assumes nothing.
use mathlib.Core.Path.{◌≡◌, refl, sym, ap, ◌∙◌}
use mathlib.Core.Bool.{Bool, true, false, cond}
use mathlib.Core.List.{List, [], ◌∷◌, ◌++◌, append_assoc, append-nil}
use Prim.Native.Nat.{ℕ, suc, ◌+◌, ◌≤◌, ◌<◌}
use native.Mathlib.Omega.{arith}
use native.Mathlib.Numerals.{add-one}
use native.Mathlib.Nat.{zero-add, add-zero}
use lib.Dec.{eqb}
use lib.ListN.{length, get_or, take, drop}
use lib.Seq.{take-suc, take_at, length-take-le}
use Rattle.laws.proofs.Stores.{sets-front}
use Rattle.periods.specs.Period.{held_period}
use Rattle.runs.specs.declared.Record.{Record}
use Rattle.runs.specs.declared.Listing.TheVariants.{Marks}
use Rattle.runs.specs.Table.{runs_of}
use Rattle.runs.specs.Listing.{node?, flat_by}
use Rattle.runs.proofs.Listings.{length-flat_by}
use Rattle.runs.proofs.Few.{table_at_most}
use Rattle.halves.specs.Scratch.{listed}
use Rattle.halves.proofs.Records.{listed_enough}
use Rattle.nodes.specs.Node.{numbers_where, nodes_at}
use Rattle.nodes.specs.Inner.{marked}

-- ---- one more mark

marked_append : (i : ℕ) (ms ns : List ℕ) → marked i (ms ++ ns) ≡ marked i ms ++ marked (i + length ms) ns
marked_append i [] ns = ap (λ (j : ℕ). marked j ns) (sym (add-zero i))
marked_append i (m ∷ ms) ns =
    let e : suc i + length ms ≡ i + suc (length ms) = omega arith in
    ap (λ (l : List ℕ). cond (eqb m 1) (suc i ∷ []) [] ++ l) (marked_append (suc i) ms ns ∙ ap (λ (j : ℕ). marked (suc i) ms ++ marked j ns) e)
    ∙ sym (append_assoc (cond (eqb m 1) (suc i ∷ []) []) (marked (suc i) ms) (marked (i + suc (length ms)) ns))

marked_few : (i : ℕ) (ms : List ℕ) → length (marked i ms) ≤ length ms
marked_few i [] = omega arith
marked_few i (m ∷ ms) = go (marked_few (suc i) ms) (eqb m 1)
  where
    go : length (marked (suc i) ms) ≤ length ms → (u : Bool) → length (cond u (suc i ∷ []) [] ++ marked (suc i) ms) ≤ suc (length ms)
    go ih true = omega arith
    go ih false = omega arith

module _ (marks : List ℕ) (i : ℕ) where
  -- no more are set among the first marks than there are
  pub marked_most : i ≤ length marks → length (marked 0 (take i marks)) ≤ i
  marked_most h = omega (arith, marked_few 0 (take i marks), length-take-le i marks h)

  module _ (h : i < length marks) where
    next : marked 0 (take (i + 1) marks) ≡ marked 0 (take i marks) ++ (cond (eqb (get_or marks i 0) 1) (suc i ∷ []) [] ++ [])
    next =
        ap (λ (j : ℕ). marked 0 (take j marks)) (add-one i)
        ∙ ap (marked 0) (take-suc marks i 0 h)
        ∙ marked_append 0 (take i marks) (get_or marks i 0 ∷ [])
        ∙ ap (λ (j : ℕ). marked 0 (take i marks) ++ marked j (get_or marks i 0 ∷ [])) (zero-add (length (take i marks)) ∙ length-take-le i marks (omega arith))

    pub mark_skip : eqb (get_or marks i 0) 1 ≡ false → marked 0 (take (i + 1) marks) ≡ marked 0 (take i marks)
    mark_skip e = next ∙ rw e (append-nil (marked 0 (take i marks)))

    pub mark_add : eqb (get_or marks i 0) 1 ≡ true → marked 0 (take (i + 1) marks) ≡ marked 0 (take i marks) ++ ((i + 1) ∷ [])
    mark_add e = next ∙ rw (e, add-one i) refl

-- ---- the marks of all runs

-- those that are set are those of the runs with a node
marks_numbers : (k x i : ℕ) (rs : List Record) → marked i (flat_by (Marks k x) rs) ≡ numbers_where (node? held_period k x) i rs
marks_numbers k x i [] = refl
marks_numbers k x i (r ∷ rs) = go (marks_numbers k x (suc i) rs) (node? held_period k x r)
  where
    go : marked (suc i) (flat_by (Marks k x) rs) ≡ numbers_where (node? held_period k x) (suc i) rs
        → (b : Bool) → cond (eqb (cond b 1 0) 1) (suc i ∷ []) [] ++ marked (suc i) (flat_by (Marks k x) rs) ≡ cond b (suc i ∷ []) [] ++ numbers_where (node? held_period k x) (suc i) rs
    go ih true = ap (λ (l : List ℕ). suc i ∷ l) ih
    go ih false = ih

module _ (w t u : List ℕ) (k x count : ℕ) (h : length w ≤ length t) (e : count ≡ length (runs_of w)) (f : u ≡ listed (Marks k x) w t) where
  abbrev marks : List ℕ
  marks = flat_by (Marks k x) (runs_of w)

  -- they stand at the front of a table with a place for each symbol
  front : take count u ≡ marks
  front =
      let l : length marks ≡ count = omega (arith, length-flat_by (Marks k x) (runs_of w)) in
      ap (take count) (f ∙ listed_enough (Marks k x) w t (omega arith) ∙ sets-front t marks (omega (arith, table_at_most w))) ∙ take_at marks (drop (length marks) t) count l

  -- the numbers that are picked among them
  pub marks_picked : marked 0 (take count u) ≡ nodes_at held_period k w x
  unfolding nodes_at
  marks_picked = ap (marked 0) front ∙ marks_numbers k x 0 (runs_of w)
