-- What a filled table holds, for any test of blocks: the sizes in row 0, the previous boundaries in row 1, what follows the four rows as it was; and what is handed
-- out from it, by factors/proofs/TableLaws.antt. Assumes nothing.
use mathlib.Core.Path.{◌≡◌, refl, sym, ap, ◌∙◌}
use mathlib.Core.Bool.{Bool, cond}
use mathlib.Core.List.{List, ◌++◌, append_assoc}
use Prim.Native.Nat.{ℕ, ◌+◌, ◌-◌, ◌*◌, ◌≤◌, ◌<◌}
use native.Mathlib.Omega.{arith}
use borrow.Author.Tests.{ne_eqb}
use lib.Dec.{ltb, eqb}
use lib.ListN.{length, get_or, drop, replicate, length-append, length-drop, length-replicate, replicate-append-replicate, get_or-append}
use lib.Seq.{take_at, drop_at, drop-append-add, drop-drop}
use Rattle.answers.specs.Outcome.{Outcome, limit}
use Rattle.factors.specs.Factorization.{Choice, choice_of, Cell, unreachable, reached, cell, best_ends}
use Rattle.factors.specs.Table.{none, rows, size_in, sizes, previous, filled, ends_back, Linked}
use Rattle.factors.proofs.Optimal.{size_bound}
use Rattle.factors.proofs.TableLaws.{length-sizes, length-previous, sizes_at, previous-agrees, linked, ends_back_lem}
use Rattle.factorizer.specs.Piece.{piece?}
use Rattle.factorizer.specs.Fill.{row_one, Readable, handed_outcome, handed_ends, cleared_row}
use Rattle.factorizer.specs.Best.{size_outcome, size_ends, whole_cell, settled_ends, settled_work}

module _ (c : Choice) (b : ℕ → ℕ → Bool) (n : ℕ) (t : List ℕ) where
  pub filled-size : (m : ℕ) → m ≤ n → get_or (filled c b n t) m 0 ≡ size_in (cell c b m)
  filled-size m h =
      get_or-append (sizes c b n) (previous c b n ++ (replicate (2 * (n + 1)) 0 ++ drop (rows * (n + 1)) t)) 0 m (omega (arith, length-sizes c b n))
      ∙ sizes_at c b n m h

  pub filled_row : row_one n (filled c b n t) ≡ previous c b n
  filled_row =
      let e : n + 1 + (n + 1) - (n + 1) ≡ n + 1 = omega arith in
      rw (e, drop_at (sizes c b n) (previous c b n ++ (replicate (2 * (n + 1)) 0 ++ drop (rows * (n + 1)) t)) (n + 1) (length-sizes c b n ∙ omega arith))
      (take_at (previous c b n) (replicate (2 * (n + 1)) 0 ++ drop (rows * (n + 1)) t) (n + 1) (length-previous c b n ∙ omega arith))

  pub filled_long : rows * (n + 1) ≤ length t → length (filled c b n t) ≡ length t
  filled_long h =
      omega (
        arith,
        length-append (sizes c b n) (previous c b n ++ (replicate (2 * (n + 1)) 0 ++ drop (rows * (n + 1)) t)),
        length-sizes c b n,
        length-append (previous c b n) (replicate (2 * (n + 1)) 0 ++ drop (rows * (n + 1)) t),
        length-previous c b n,
        length-append (replicate (2 * (n + 1)) 0) (drop (rows * (n + 1)) t),
        length-replicate {A = ℕ} (2 * (n + 1)) 0,
        length-drop (rows * (n + 1)) t,
      )

  -- what follows the four rows
  pub filled_past : (m : ℕ) → rows * (n + 1) ≤ m → drop m (filled c b n t) ≡ drop m t
  filled_past m h =
      let S = sizes c b n in
      let P = previous c b n in
      let Z : List ℕ = replicate (2 * (n + 1)) 0 in
      let R = drop (rows * (n + 1)) t in
      let e : m ≡ length S + (length P + (length Z + (m - rows * (n + 1)))) =
      omega (arith, length-sizes c b n, length-previous c b n, length-replicate {A = ℕ} (2 * (n + 1)) 0) in
      let f : rows * (n + 1) + (m - rows * (n + 1)) ≡ m = omega arith in
      ap (λ (x : ℕ). drop x (S ++ (P ++ (Z ++ R)))) e
      ∙ drop-append-add S (P ++ (Z ++ R)) (length P + (length Z + (m - rows * (n + 1))))
      ∙ drop-append-add P (Z ++ R) (length Z + (m - rows * (n + 1)))
      ∙ drop-append-add Z R (m - rows * (n + 1))
      ∙ drop-drop (m - rows * (n + 1)) (rows * (n + 1)) t
      ∙ ap (λ (x : ℕ). drop x t) f

  -- the row of previous boundaries cleared
  pub filled_cleared : cleared_row n (filled c b n t) ≡ sizes c b n ++ (replicate (3 * (n + 1)) 0 ++ drop (rows * (n + 1)) t)
  filled_cleared =
      let S = sizes c b n in
      let P = previous c b n in
      let R = replicate (2 * (n + 1)) 0 ++ drop (rows * (n + 1)) t in
      let e : n + 1 + (n + 1) ≡ length S + (n + 1) = omega (arith, length-sizes c b n) in
      let k : drop (n + 1) (P ++ R) ≡ R = drop_at P R (n + 1) (length-previous c b n ∙ omega arith) in
      let z : n + 1 + 2 * (n + 1) ≡ 3 * (n + 1) = omega arith in
      let d : drop (n + 1 + (n + 1)) (S ++ (P ++ R)) ≡ R = ap (λ (x : ℕ). drop x (S ++ (P ++ R))) e ∙ drop-append-add S (P ++ R) (n + 1) ∙ k in
      rw (take_at S (P ++ R) (n + 1) (length-sizes c b n ∙ omega arith), d)
      (ap (λ (x : List ℕ). S ++ x)
      (sym (append_assoc (replicate (n + 1) 0) (replicate (2 * (n + 1)) 0) (drop (rows * (n + 1)) t))
      ∙ ap (λ (x : List ℕ). x ++ drop (rows * (n + 1)) t) (replicate-append-replicate (n + 1) (2 * (n + 1)) 0 ∙ ap (λ (x : ℕ). replicate x 0) z)))

  small : n < none → (s p : ℕ) → cell c b n ≡ reached s p → s < none
  small h s p e = omega (arith, size_bound c b n s p e)

  -- the way back from the whole word
  filled_linked : n < none → (get_or (filled c b n t) n 0 ≡ none → ⊥) → Linked (row_one n (filled c b n t)) (get_or (filled c b n t) n 0) n
  filled_linked h ne = rw (filled_row, filled-size n (omega arith)) (go (cell c b n) refl (λ e. ne (filled-size n (omega arith) ∙ e)))
    where
      go : (v : Cell) → cell c b n ≡ v → (size_in v ≡ none → ⊥) → Linked (previous c b n) (size_in v) n
      go unreachable e x = absurd (x refl)
      go (reached s p) e x = linked c b (previous c b n) n (omega (arith, length-previous c b n)) (previous-agrees c b n) s p e

  -- what is handed out from it
  pub filled_outcome : n < none → (places : ℕ) → handed_outcome (get_or (filled c b n t) n 0) places ≡ size_outcome (cell c b n) places
  filled_outcome h places = rw (filled-size n (omega arith)) (go (cell c b n) refl)
    where
      go : (v : Cell) → cell c b n ≡ v → handed_outcome (size_in v) places ≡ size_outcome v places
      go unreachable e = refl
      go (reached s p) e = rw (ne_eqb s none (λ x. omega (arith, small h s p e))) refl

  pub filled_ends : n < none → (e : List ℕ) → handed_ends n (filled c b n t) e ≡ size_ends (cell c b n) (best_ends c b n) e
  filled_ends h e = rw (filled_row, filled-size n (omega arith)) (go (cell c b n) refl)
    where
      go : (v : Cell) → cell c b n ≡ v
          → cond (eqb (size_in v) none) e (cond (ltb (length e) (size_in v)) e (ends_back (previous c b n) (size_in v) n ++ drop (size_in v) e)) ≡ size_ends v (best_ends c b n) e
      go unreachable f = refl
      go (reached s p) f =
          rw (
            ne_eqb s none (λ x. omega (arith, small h s p f)),
            ends_back_lem c b (previous c b n) n (omega (arith, length-previous c b n)) (previous-agrees c b n) s p f,
          ) refl

-- `factorizer::inner::finish` on a table x that is filled for the pieces of a word; p is the test of a piece
module _ (p : List ℕ → Bool) (w : List ℕ) (choice : ℕ) (t x : List ℕ) (short : length w ≤ limit) (room : rows * (length w + 1) ≤ length t)
    (is : x ≡ filled (choice_of choice) (piece? p w) (length w) t) where
  -- what it requires holds
  pub given_readable : Readable (length w) x
  given_readable = (
    short,
    omega (arith, ap length is, filled_long (choice_of choice) (piece? p w) (length w) t room),
    rw is (filled_linked (choice_of choice) (piece? p w) (length w) t (omega arith)),
  )

  -- CLAIM: what it ensures is the answer and the tables of the best split
  pub given_finished : (e : List ℕ) (o : Outcome) (f y : List ℕ)
      → (o ≡ handed_outcome (get_or x (length w) 0) (length e)) × ((f ≡ handed_ends (length w) x e) × (y ≡ cleared_row (length w) x))
      → (o ≡ size_outcome (whole_cell p w choice) (length e)) × ((f ≡ settled_ends p w choice e) × (y ≡ settled_work p w choice t))
  given_finished e o f y E = (
    E.0 ∙ rw is (filled_outcome (choice_of choice) (piece? p w) (length w) t (omega arith) (length e)),
    (
      E.1.0 ∙ rw is (filled_ends (choice_of choice) (piece? p w) (length w) t (omega arith) e),
      E.1.1 ∙ rw is (filled_cleared (choice_of choice) (piece? p w) (length w) t),
    ),
  )
