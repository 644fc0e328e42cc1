-- The laws that the functions cite, where n is the word's length as `Word::len` gives it. Each is the law it cites, rewritten by that
-- equation. Assumes nothing.
use mathlib.Core.Path.{◌≡◌, refl}
use mathlib.Core.Logic.{inl}
use mathlib.Core.Bool.{Bool}
use mathlib.Core.List.{List}
use Prim.Native.Nat.{ℕ, min, ◌+◌, ◌-◌, ◌*◌, ◌≤◌, ◌<◌}
use native.Mathlib.Omega.{arith}
use lib.ListN.{length, get_or, take, drop}
use Rattle.answers.specs.Outcome.{Outcome, limit}
use Rattle.periods.specs.Period.{repetition?, held_period}
use Rattle.periods.specs.Part.{part_table}
use Rattle.periods.specs.Edition.{Turns}
use Rattle.factors.specs.Factorization.{Choice, choice_of, cell}
use Rattle.factors.specs.Table.{none, rows, Holds, spread, filled, started}
use Rattle.factors.proofs.Lent.{lent}
use Rattle.factorizer.specs.Piece.{piece?}
use Rattle.factorizer.specs.Fill.{unit_at, UnitsRise, ends_block, Readable, handed_outcome, handed_ends, cleared_row}
use Rattle.factorizer.specs.Window.{window_of, Windowed, RestKept}
use Rattle.factorizer.specs.Best.{size_outcome, whole_cell, settled_ends, settled_work}
use Rattle.factorizer.proofs.FillLaws.{second, third, fourth, zeros, laid, laid_from, laid_rises, begun, begun_from, filled_from}
use Rattle.factorizer.proofs.Visits.{given_offers}
use Rattle.factorizer.proofs.Filled.{given_readable, given_finished}

module _ (w : List ℕ) (n : ℕ) (is : n ≡ length w) where
  pub sized_laid : (j e : ℕ) (t u : List ℕ) → length w ≤ limit → j < e → e ≤ length w → rows * (length w + 1) ≤ length t
      → u ≡ part_table w 1 (j + 1) e (take (third n - second n) (drop (second n) t)) → lent t (second n) (third n) u ≡ laid w j e t
  sized_laid j e t u h l m room f = rw is (laid_from w 1 j e t u h (inl refl) l m room (rw is at f))

  pub sized_rises : (j d : ℕ) (t : List ℕ) → j + d ≤ length w → rows * (length w + 1) ≤ length t → UnitsRise n d (laid w j (j + d) t)
  sized_rises j d t h room =
      let e : j + d - j ≡ d = omega arith in
      rw is (rw e at (laid_rises w j (j + d) t h room))

  pub sized_offers : (c : Choice) (k : ℕ) (turns : Turns k) (j u : ℕ) (t : List ℕ) → length w ≤ limit → j < length w → rows * (length w + 1) ≤ length t
      → Windowed c (piece? (repetition? held_period k) w) w (window_of k) j j u t → (get_or t j 0 ≡ none → ⊥)
      → (d : ℕ) (m r : List ℕ) → d ≡ min (window_of k) (n - j) → m ≡ laid w j (j + d) t → r ≡ spread c n j (get_or t j 0 + 1) (ends_block k n m) d m
      → Windowed c (piece? (repetition? held_period k) w) w (window_of k) (j + 1) j (unit_at n r (d - 1)) r × RestKept (length w) t r
  sized_offers c k turns j u t short inside room S ne d m r e f g =
      rw is (given_offers c k turns w short j u t inside S room ne d m r (rw is at e) f (rw is at g))

  pub sized_begun : (t s z : List ℕ) → s ≡ started n t → z ≡ zeros s (n + 1) (second n) → lent s (n + 1) (second n) z ≡ begun w t
  sized_begun t s z e f = rw is (begun_from w t s z (rw is at e) (rw is at f))

  pub sized_filled : (c : Choice) (b : ℕ → ℕ → Bool) (t r z : List ℕ) → rows * (length w + 1) ≤ length t → RestKept (length w) t r
      → ((m : ℕ) → m ≤ length w → Holds r m (length w + 1 + m) (cell c b m)) → z ≡ zeros r (second n) (fourth n)
      → lent r (second n) (fourth n) z ≡ filled c b (length w) t
  sized_filled c b t r z room kept H f = rw (f, is) (filled_from c b w t r room kept H)

  -- `finish` on a table x that is filled for the pieces of the word; p is the test of a piece
  module _ (p : List ℕ → Bool) (choice : ℕ) (t x : List ℕ) (short : length w ≤ limit) (room : rows * (length w + 1) ≤ length t)
      (full : x ≡ filled (choice_of choice) (piece? p w) (length w) t) where
    pub sized_readable : Readable n x
    sized_readable = rw is (given_readable p w choice t x short room full)

    pub sized_finished : (e : List ℕ) (o : Outcome) (f y : List ℕ) → (o ≡ handed_outcome (get_or x n 0) (length e)) × ((f ≡ handed_ends n x e) × (y ≡ cleared_row n x))
        → (o ≡ size_outcome (whole_cell p w choice) (length e)) × ((f ≡ settled_ends p w choice e) × (y ≡ settled_work p w choice t))
    sized_finished e o f y E = given_finished p w choice t x short room full e o f y (rw is at E)
