-- What passing the blocks on from a window's end to the next boundary leaves (`Windowed` of specs/Window.antt). Before it the place of the window's end holds the best over
-- all boundaries that have offered. All their blocks that reach it go on, or none does, so that the next place holds the same, or nothing. Assumes nothing.
use mathlib.Core.Path.{◌≡◌, refl, sym, ap, ◌∙◌, subst}
use mathlib.Core.Logic.{◌≢◌, ◌⊎◌, inl, inr}
use mathlib.Core.Bool.{Bool, false}
use mathlib.Core.List.{List}
use Prim.Native.Nat.{ℕ, suc, ◌+◌, ◌-◌, ◌*◌, ◌≤◌, ◌<◌}
use native.Mathlib.Omega.{arith}
use native.Mathlib.Numerals.{add-one}
use native.Mathlib.Decide.{dec_le, ℕ_discrete}
use borrow.Author.Tests.{le-leb, lt-leb, eq-eqb, ne_eqb}
use lib.ListN.{length, get_or, set, length-set}
use lib.Seq.{get_or-set_same, get_or-set_other, drop-set-lt}
use Rattle.periods.specs.Period.{part, Period, repetition?, unit_memory, held_period}
use Rattle.periods.specs.Edition.{Turns}
use Rattle.periods.proofs.InPlace.{PeriodIn, symbol, period_piece, period_longer, part_period_in, part_period_out}
use Rattle.factors.specs.Factorization.{Choice, Cell, unreachable, scan, cell}
use Rattle.factors.specs.Table.{rows, Holds}
use Rattle.factors.proofs.Optimal.{cell-suc}
use Rattle.factors.proofs.TableLaws.{holds_same}
use Rattle.factors.proofs.Filling.{scan_same, scan_nothing}
use Rattle.factorizer.specs.Piece.{piece?}
use Rattle.factorizer.specs.Window.{window_of, Windowed, RestKept, passed_on, lengthened}
use Rattle.factorizer.proofs.LongBlocks.{block_goes_on, block_ends, block_shorter}

module _ (c : Choice) (k : ℕ) (turns : Turns k) (w : List ℕ) (j u : ℕ) (t : List ℕ) (room : rows * (length w + 1) ≤ length t)
    (S : Windowed c (piece? (repetition? held_period k) w) w (window_of k) (suc j) j u t) where
  abbrev b : ℕ → ℕ → Bool
  b = piece? (repetition? held_period k) w

  abbrev window : ℕ
  window = window_of k

  -- the end of the window
  abbrev m : ℕ
  m = j + window

  some_window : 2 * unit_memory ≤ window
  some_window = omega (arith, turns.0)

  step : suc j + window ≡ suc m
  step = omega arith

  abbrev Held : Type 0
  Held = (u ≤ unit_memory) × PeriodIn (symbol w) (suc j) (suc m) u

  abbrev None : ℕ → Type 0
  None x = (i : ℕ) → i < suc j → (cell c b i ≡ unreachable → ⊥) → b i x ≡ false

  -- the places of a table r, by those that t holds and the one after the window
  next : (r : List ℕ) → ((x : ℕ) → x ≤ length w → x ≤ j → Holds r x (length w + 1 + x) (cell c b x))
      → ((x : ℕ) → x ≤ length w → j < x → x ≤ m → Holds r x (length w + 1 + x) (scan c b (cell c b) x (suc j)))
      → (m < length w → Holds r (suc m) (length w + 1 + suc m) (scan c b (cell c b) (suc m) (suc j)))
      → ((x : ℕ) → x ≤ length w → suc m < x → Holds r x (length w + 1 + x) unreachable)
      → (m < length w → Held ⊎ None (suc m)) → Windowed c b w window (suc j) (suc j) u r
  next r low mid at high known = record {
    upto = λ x h l. up x h l (dec_le x j);
    near = λ x h l y. near x h l y (dec_le x m);
    far = λ x h l. high x h (omega arith);
    fits = S.fits;
    known = λ h. there h (known (omega arith));
  }
    where
      there : suc j + window < length w → Held ⊎ None (suc m)
          → ((u ≤ unit_memory) × Period (part w (suc j) (suc j + window)) u) ⊎ None (suc j + window)
      there h (inl (low, U)) = inl (low, part_period_out w (suc j) (suc j + window) u (omega arith) (subst (λ (x : ℕ). PeriodIn (symbol w) (suc j) x u) (sym step) U))
      there h (inr none) = inr (λ i l r. ap (b i) step ∙ none i l r)

      up : (x : ℕ) → x ≤ length w → x ≤ suc j → Dec (x ≤ j) → Holds r x (length w + 1 + x) (cell c b x)
      up x h l (yes y) = low x h y
      up x h l (no y) =
          let e : x ≡ suc j = omega arith in
          rw e (subst (λ (v : Cell). Holds r (suc j) (length w + 1 + suc j) v) (sym (cell-suc c b j)) (mid (suc j) (omega arith) (omega arith) (omega (arith, some_window))))

      near : (x : ℕ) → x ≤ length w → suc j < x → x ≤ suc j + window → Dec (x ≤ m) → Holds r x (length w + 1 + x) (scan c b (cell c b) x (suc j))
      near x h l y (yes z) = mid x h (omega arith) z
      near x h l y (no z) =
          let e : x ≡ suc m = omega arith in
          subst (λ (v : ℕ). Holds r v (length w + 1 + v) (scan c b (cell c b) v (suc j))) (sym e) (at (omega arith))

  -- no block from a boundary up to j ends at the next boundary: its place holds nothing, and may stay as it is
  stops : None (suc m) → Windowed c b w window (suc j) (suc j) u t
  stops none =
      next t S.upto S.near
      (λ h. subst (λ (v : Cell). Holds t (suc m) (length w + 1 + suc m) v) (sym (scan_nothing c b (cell c b) (suc m) (suc j) none)) (S.far (suc m) (omega arith) (omega arith)))
      (λ x y z. S.far x y (omega arith)) (λ h. inr none)

  -- the word ends with the window, or before
  ended : length w ≤ m → Windowed c b w window (suc j) (suc j) u t
  ended h = next t S.upto S.near (λ x. absurd (omega arith)) (λ x y z. S.far x y (omega arith)) (λ x. absurd (omega arith))

  -- the place of the window's end is copied: right where the same blocks end at both boundaries
  copies : m < length w → ((i : ℕ) → i < suc j → b i m ≡ b i (suc m)) ⊎ (None m × None (suc m)) → Held ⊎ None (suc m) → Windowed c b w window (suc j) (suc j) u (passed_on (length w) m t)
  copies h same known =
      next r
      (λ x y z. other x (cell c b x) y (omega (arith, some_window)) (S.upto x y z))
      (λ x y z v. other x (scan c b (cell c b) x (suc j)) y (omega arith) (S.near x y z v))
      (λ x. subst (λ (v : Cell). Holds r (suc m) (length w + 1 + suc m) v) (same_cell same) copied)
      (λ x y z. other x unreachable y (omega arith) (S.far x y (omega arith)))
      (λ x. known)
    where
      r : List ℕ
      r = passed_on (length w) m t

      same_cell : ((i : ℕ) → i < suc j → b i m ≡ b i (suc m)) ⊎ (None m × None (suc m)) → scan c b (cell c b) m (suc j) ≡ scan c b (cell c b) (suc m) (suc j)
      same_cell (inl e) = scan_same c b (cell c b) m (suc m) (suc j) e
      same_cell (inr (x, y)) = scan_nothing c b (cell c b) m (suc j) x ∙ sym (scan_nothing c b (cell c b) (suc m) (suc j) y)

      other : (x : ℕ) (v : Cell) → x ≤ length w → x ≢ m + 1 → Holds t x (length w + 1 + x) v → Holds r x (length w + 1 + x) v
      other x v y z H =
          holds_same t x (length w + 1 + x) r v
          (get_or-set_other (set t (m + 1) (get_or t m 0)) (length w + 1 + (m + 1)) x (get_or t (length w + 1 + m) 0) 0 (omega arith)
          ∙ get_or-set_other t (m + 1) x (get_or t m 0) 0 z)
          (get_or-set_other (set t (m + 1) (get_or t m 0)) (length w + 1 + (m + 1)) (length w + 1 + x) (get_or t (length w + 1 + m) 0) 0 (omega arith)
          ∙ get_or-set_other t (m + 1) (length w + 1 + x) (get_or t m 0) 0 (omega arith))
          H

      H : Holds t m (length w + 1 + m) (scan c b (cell c b) m (suc j))
      H = S.near m (omega arith) (omega (arith, some_window)) (omega arith)

      copied : Holds r (suc m) (length w + 1 + suc m) (scan c b (cell c b) m (suc j))
      copied =
          subst (λ (x : ℕ). Holds r x (length w + 1 + x) (scan c b (cell c b) m (suc j))) (add-one m)
          record {
            size =
                get_or-set_other (set t (m + 1) (get_or t m 0)) (length w + 1 + (m + 1)) (m + 1) (get_or t (length w + 1 + m) 0) 0 (omega arith)
                ∙ get_or-set_same t (m + 1) (get_or t m 0) 0 (omega arith) ∙ H.size;
            previous =
                get_or-set_same (set t (m + 1) (get_or t m 0)) (length w + 1 + (m + 1)) (get_or t (length w + 1 + m) 0) 0 (omega (arith, length-set t (m + 1) (get_or t m 0)))
                ∙ H.previous;
            bound = H.bound;
          }

  -- the known period goes on to the next symbol, or not
  module _ (h : m < length w) where
    none_after : None m → None (suc m)
    none_after none i l r = block_shorter unit_memory k w turns.0 (omega arith) j i (omega arith) (none i l r)

    going : symbol w m ≡ symbol w (m - u) → ((u ≤ unit_memory) × Period (part w j m) u) ⊎ None m → Windowed c b w window (suc j) (suc j) u (passed_on (length w) m t)
    going e (inl (low, P)) =
        let U = part_period_in w j m u (omega arith) P in
        copies h (inl (λ i l. block_goes_on unit_memory k w turns.0 j u low U i (omega arith) h e))
        (inl (low, period_piece (symbol w) (period_longer (symbol w) j m u U e) (omega arith) (omega arith) (omega (arith, low, some_window))))
    going e (inr none) = copies h (inr (none, none_after none)) (inr (none_after none))

    ending : (symbol w m ≡ symbol w (m - u) → ⊥) → ((u ≤ unit_memory) × Period (part w j m) u) ⊎ None m → Windowed c b w window (suc j) (suc j) u t
    ending ne (inl (low, P)) = stops (λ i l r. block_ends unit_memory k w turns.0 j u low (part_period_in w j m u (omega arith) P) i (omega arith) ne)
    ending ne (inr none) = stops (none_after none)

  -- CLAIM: so what is known of boundary j after its offers, lengthening makes known of the next
  passed : Windowed c b w window (suc j) (suc j) u (lengthened w m u t) × RestKept (length w) t (lengthened w m u t)
  unfolding lengthened
  passed = by (dec_le (length w) m)
    where
      by_symbol : m < length w → Dec (symbol w m ≡ symbol w (m - u)) → Windowed c b w window (suc j) (suc j) u (lengthened w m u t) × RestKept (length w) t (lengthened w m u t)
      by_symbol h (yes e) =
          rw (lt-leb (length w) m h, eq-eqb (get_or w m 0) (get_or w (m - u) 0) e) (
            going h e (S.known h),
            (
              length-set (set t (m + 1) (get_or t m 0)) (length w + 1 + (m + 1)) (get_or t (length w + 1 + m) 0) ∙ length-set t (m + 1) (get_or t m 0),
              drop-set-lt (rows * (length w + 1)) (set t (m + 1) (get_or t m 0)) (length w + 1 + (m + 1)) (get_or t (length w + 1 + m) 0) (omega arith)
                  ∙ drop-set-lt (rows * (length w + 1)) t (m + 1) (get_or t m 0) (omega arith),
            ),
          )
      by_symbol h (no e) = rw (lt-leb (length w) m h, ne_eqb (get_or w m 0) (get_or w (m - u) 0) e) (ending h e (S.known h), (refl, refl))

      by : Dec (length w ≤ m) → Windowed c b w window (suc j) (suc j) u (lengthened w m u t) × RestKept (length w) t (lengthened w m u t)
      by (yes h) = rw (le-leb (length w) m h) (ended h, (refl, refl))
      by (no h) = by_symbol (omega arith) (ℕ_discrete (symbol w m) (symbol w (m - u)))

-- the same of the table y that lengthening leaves
pub lengthens : (c : Choice) (k : ℕ) → Turns k → (w : List ℕ) (j u : ℕ) (t : List ℕ) → rows * (length w + 1) ≤ length t → (y : List ℕ)
    → Windowed c (piece? (repetition? held_period k) w) w (window_of k) (j + 1) j u t → y ≡ lengthened w (j + window_of k) u t
    → Windowed c (piece? (repetition? held_period k) w) w (window_of k) (j + 1) (j + 1) u y × RestKept (length w) t y
lengthens c k turns w j u t room y S g =
    rw (g, add-one j) (passed c k turns w j u t room (subst (λ (i : ℕ). Windowed c (piece? (repetition? held_period k) w) w (window_of k) i j u t) (add-one j) S))
