-- What taking a boundary leaves (`Windowed` of specs/Window.antt): one that is not reached offers nothing; one that is counts as a candidate in every place of its
-- window. The unit of the window is a period that memory holds, or no block ends where the window ends. Assumes nothing.
use mathlib.Core.Path.{◌≡◌, sym, ap, ap₂, ◌∙◌, subst}
use mathlib.Core.Logic.{◌≢◌, ◌⊎◌, inl, inr}
use mathlib.Core.Bool.{Bool, false}
use mathlib.Core.List.{List}
use Prim.Native.Nat.{ℕ, suc, min, ◌+◌, ◌-◌, ◌*◌, ◌≤◌, ◌<◌}
use native.Mathlib.Omega.{arith}
use native.Mathlib.Numerals.{add-one}
use native.Mathlib.Decide.{dec_lt, dec_le}
use lib.ListN.{length, get_or}
use Rattle.answers.specs.Outcome.{limit}
use Rattle.periods.specs.Period.{part, Period, smallest_period, repetition?, unit_memory, held_period}
use Rattle.periods.specs.Edition.{Turns}
use Rattle.periods.proofs.InPlace.{SmallestIn, symbol, part_period_in, part_period_out}
use Rattle.periods.proofs.Claims.{part_smallest}
use Rattle.factors.specs.Factorization.{Choice, Cell, unreachable, reached, offer, scan, cell}
use Rattle.factors.specs.Table.{none, rows, Holds, spread}
use Rattle.factors.proofs.Optimal.{size_bound, scan_unreachable}
use Rattle.factors.proofs.TableLaws.{holds_none, holds_reached, holds_same}
use Rattle.factors.proofs.Filling.{length-spread, spread-drop, spread_past, spread_outside, spread_inside}
use Rattle.factorizer.specs.Piece.{piece?}
use Rattle.factorizer.specs.Fill.{unit_at, ends_block}
use Rattle.factorizer.specs.Window.{window_of, Windowed, RestKept}
use Rattle.factorizer.proofs.FillLaws.{laid, laid_long, laid_same, laid_kept, laid_unit, laid_decides}
use Rattle.factorizer.proofs.Windows.{window_no_block}

module _ (c : Choice) (k : ℕ) (turns : Turns k) (w : List ℕ) (short : length w ≤ limit) (j u : ℕ) (t : List ℕ) (inside : j < length w)
    (S : Windowed c (piece? (repetition? held_period k) w) w (window_of k) j j u t) where
  abbrev b : ℕ → ℕ → Bool
  b = piece? (repetition? held_period k) w

  abbrev window : ℕ
  window = window_of k

  abbrev Held : ℕ → Type 0
  Held v = (v ≤ unit_memory) × Period (part w j (j + window)) v

  abbrev None : ℕ → Type 0
  None before = (i : ℕ) → i < before → (cell c b i ≡ unreachable → ⊥) → b i (j + window) ≡ false

  -- no block ends where the window ends if none did, and none from j that is reached does
  one_more : ((cell c b j ≡ unreachable → ⊥) → b j (j + window) ≡ false) → None j → None (suc j)
  one_more e none i l r = go (dec_lt i j)
    where
      go : Dec (i < j) → b i (j + window) ≡ false
      go (yes x) = none i x r
      go (no x) = let f : i ≡ j = omega arith in ap (λ (y : ℕ). b y (j + window)) f ∙ e (λ z. r (ap (cell c b) f ∙ z))

  -- a boundary that is not reached
  pub visit_skips : get_or t j 0 ≡ none → Windowed c b w window (j + 1) j u t
  visit_skips e = rw (add-one j) record {
    upto = S.upto;
    near = λ m h l x. subst (λ (v : Cell). Holds t m (length w + 1 + m) v) (sym (scan_unreachable c b (cell c b) m j none_there)) (S.near m h l x);
    far = S.far;
    fits = S.fits;
    known = λ h. go (S.known h);
  }
    where
      none_there : cell c b j ≡ unreachable
      none_there = holds_none t j (length w + 1 + j) (cell c b j) (S.upto j (omega arith) (omega arith)) e

      go : Held u ⊎ None j → Held u ⊎ None (suc j)
      go (inl U) = inl U
      go (inr none) = inr (one_more (λ r. absurd (r none_there)) none)

  -- a boundary that is reached
  module _ (room : rows * (length w + 1) ≤ length t) (ne : get_or t j 0 ≡ none → ⊥) where
    abbrev len : ℕ
    len = min window (length w - j)

    abbrev l : List ℕ
    l = laid w j (j + len) t

    abbrev ends : ℕ → Bool
    ends = ends_block k (length w) l

    abbrev after : List ℕ
    after = spread c (length w) j (get_or t j 0 + 1) ends len l

    some_window : 2 * unit_memory ≤ window
    some_window = omega (arith, turns.0)

    in_word : j + len ≤ length w
    in_word = omega arith

    reached_here : (p : ℕ) × (cell c b j ≡ reached (get_or t j 0) p)
    reached_here = holds_reached t j (length w + 1 + j) (cell c b j) (S.upto j (omega arith) (omega arith)) ne

    size_small : suc (get_or t j 0) < none
    size_small = omega (arith, size_bound c b j (get_or t j 0) reached_here.0 reached_here.1)

    long : length l ≡ length t
    long = laid_long w j (j + len) t in_word room

    on_laid : (m : ℕ) (v : Cell) → m ≤ length w → Holds t m (length w + 1 + m) v → Holds l m (length w + 1 + m) v
    on_laid m v h H =
        holds_same t m (length w + 1 + m) l v (laid_same w j (j + len) t in_word room m (omega arith))
        (laid_same w j (j + len) t in_word room (length w + 1 + m) (omega arith)) H

    outside : (m : ℕ) (v : Cell) → m ≤ length w → ((i : ℕ) → i < len → m ≢ j + (i + 1)) → Holds t m (length w + 1 + m) v → Holds after m (length w + 1 + m) v
    outside m v h o H =
        rw (add-one (get_or t j 0)) (spread_outside c (length w) j (get_or t j 0) 0 ends l (omega (arith, long)) size_small len m v in_word h o (on_laid m v h H))

    within : (i : ℕ) → j + i < length w → i < window → Holds after (j + (i + 1)) (length w + 1 + (j + (i + 1))) (scan c b (cell c b) (j + (i + 1)) (suc j))
    within i h x =
        let v = scan c b (cell c b) (j + (i + 1)) j in
        rw (add-one (get_or t j 0))
        (subst (λ (y : Cell). Holds (spread c (length w) j (suc (get_or t j 0)) ends len l) (j + (i + 1)) (length w + 1 + (j + (i + 1))) y)
        (ap₂ (λ (y : Bool) (z : Cell). offer c j v y z) (laid_decides w j (j + len) t in_word room k turns i (omega arith) x) (sym reached_here.1))
        (spread_inside c (length w) j (get_or t j 0) reached_here.0 ends l (omega (arith, long)) size_small len i v in_word (omega arith)
        (on_laid (j + (i + 1)) v (omega arith) (S.near (j + (i + 1)) (omega arith) (omega arith) (omega arith)))))

    pub visit_kept : RestKept (length w) t after
    visit_kept = (
      length-spread c (length w) j (get_or t j 0 + 1) ends l len ∙ long,
      spread-drop c (length w) j (get_or t j 0 + 1) ends l len (rows * (length w + 1)) in_word (omega arith) ∙ laid_kept w j (j + len) t in_word room,
    )

    -- the unit that is read at last is that of the window
    unit_read : unit_at (length w) after (len - 1) ≡ smallest_period (part w j (j + len))
    unit_read =
        let e : j + (len - 1 + 1) ≡ j + len = omega (arith, some_window) in
        spread_past c (length w) j (get_or t j 0 + 1) ends l len (length w + 1 + (length w + 1) + (len - 1)) in_word (omega arith)
        ∙ laid_unit w j (j + len) t in_word room (len - 1) (omega (arith, some_window))
        ∙ ap (λ (z : ℕ). smallest_period (part w j z)) e

    unit_fits : unit_at (length w) after (len - 1) ≤ len
    unit_fits = omega (arith, unit_read, (part_smallest w j (j + len) in_word (omega (arith, some_window))).period.fits)

    -- where symbols follow the window
    module _ (whole : j + window < length w) where
      unit_smallest : SmallestIn (symbol w) j (j + window) (unit_at (length w) after (len - 1))
      unit_smallest =
          let e : j + len ≡ j + window = omega arith in
          subst (SmallestIn (symbol w) j (j + window)) (sym (unit_read ∙ ap (λ (z : ℕ). smallest_period (part w j z)) e))
          (part_smallest w j (j + window) (omega arith) (omega (arith, some_window)))

      -- memory does not hold the unit: then it holds no period of the window, and no block reaches the end
      none_ends : unit_memory < unit_at (length w) after (len - 1) → None (suc j)
      none_ends above = one_more (λ r. window_no_block k w j (λ p P. omega (arith, unit_smallest.least p P))) (go (S.known whole))
        where
          go : Held u ⊎ None j → None j
          go (inl U) = absurd (omega (arith, U.0, unit_smallest.least u (part_period_in w j (j + window) u (omega arith) U.1)))
          go (inr none) = none

      unit_known : Dec (unit_at (length w) after (len - 1) ≤ unit_memory) → Held (unit_at (length w) after (len - 1)) ⊎ None (suc j)
      unit_known (yes held) = inl (held, part_period_out w j (j + window) (unit_at (length w) after (len - 1)) (omega arith) unit_smallest.period)
      unit_known (no above) = inr (none_ends (omega arith))

    pub visit_offers : Windowed c b w window (j + 1) j (unit_at (length w) after (len - 1)) after
    visit_offers = rw (add-one j) record {
      upto = λ m h x. outside m (cell c b m) h (λ i y. omega arith) (S.upto m h x);
      near = λ m h x y.
          let f : j + (m - j - 1 + 1) ≡ m = omega arith in
          subst (λ (z : ℕ). Holds after z (length w + 1 + z) (scan c b (cell c b) z (suc j))) f (within (m - j - 1) (omega arith) (omega arith));
      far = λ m h x. outside m unreachable h (λ i y. omega arith) (S.far m h x);
      fits = omega (arith, unit_fits);
      known = λ h. unit_known h (dec_le (unit_at (length w) after (len - 1)) unit_memory);
    }

    -- the same of a table r that the offers leave, where d symbols were read and m is the table with their units
    pub given_offers : (d : ℕ) (m r : List ℕ) → d ≡ len → m ≡ laid w j (j + d) t → r ≡ spread c (length w) j (get_or t j 0 + 1) (ends_block k (length w) m) d m
        → Windowed c b w window (j + 1) j (unit_at (length w) r (d - 1)) r × RestKept (length w) t r
    given_offers d m r e f g = rw (g, f, e) (visit_offers, visit_kept)
