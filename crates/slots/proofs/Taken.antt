-- When all runs of the list were taken at boundary e, the starts that were seen are those of all squares that end there, so the best of them gives the cell of e;
-- and what holds between two boundaries holds again (`taken_none`, `taken_reached`). Assumes nothing.
use mathlib.Core.Path.{◌≡◌, refl, sym, ap, ◌∙◌, subst}
use mathlib.Core.Logic.{◌≢◌, ◌⊎◌, inl, inr}
use mathlib.Core.Bool.{Bool}
use mathlib.Core.List.{List}
use Prim.Native.Nat.{ℕ, zero, suc, ◌+◌, ◌*◌, ◌≤◌, ◌<◌}
use native.Mathlib.Omega.{arith}
use native.Mathlib.Numerals.{add-one}
use native.Mathlib.Decide.{dec_lt, ℕ_discrete}
use borrow.Author.Tests.{lt-ltb, le-ltb}
use lib.Dec.{T}
use lib.ListN.{length, get_or}
use Rattle.answers.specs.Outcome.{limit}
use Rattle.periods.specs.Square.{Square, square?}
use Rattle.runs.specs.Table.{runs_of, record_at}
use Rattle.factors.specs.Factorization.{Choice, unreachable, reached}
use Rattle.factors.specs.Table.{none, rows, size_in, Holds, offered}
use Rattle.factors.proofs.Optimal.{size_bound}
use Rattle.factors.proofs.TableLaws.{holds_reached, offered-cell, offered_other, offered_others}
use Rattle.factorizer.specs.Piece.{piece?}
use Rattle.factorizer.proofs.Pieces.{piece_sound, piece_complete}
use Rattle.factorizer.proofs.Rules.{square_decides}
use Rattle.slots.specs.Starts.{rank, Start}
use Rattle.slots.specs.Ready.{start_of, two_of, square_cell, known_cell, Lead, list_row, Ready}
use Rattle.slots.proofs.SquareRuns.{run_square, SquareRun, square_run}
use Rattle.slots.proofs.Cells.{rank-none, rank_worst, top_unreachable, top_reached}
use Rattle.slots.proofs.Tabled.{Tabled}
use Rattle.slots.proofs.Turn.{entry_of, place_of, Holding, Seen, known_rank, Turn}
use Rattle.slots.proofs.Known.{known_below, known_here, known_final}

module _ (c : Choice) (w runs : List ℕ) (R : Tabled w runs) (short : length w ≤ limit) (e : ℕ) (some : 1 ≤ e) (inside : e ≤ length w)
    (lives : ℕ) (t : List ℕ) (S : Ready c w runs (e + 1) e lives t) where
  abbrev n : ℕ
  n = length w

  abbrev b : ℕ → ℕ → Bool
  b = piece? square? w

  -- ---- the starts that were seen

  -- each but e is the start of a square
  seen_square : (m j : ℕ) → m ≤ lives → Seen w runs e t m j → (j ≡ e) ⊎ ((j < e) × T (b j e))
  seen_square zero j h s = inl s
  seen_square (suc m) j h (inl s) = seen_square m j (omega arith) s
  seen_square (suc m) j h (inr (l, s)) =
      let i = entry_of w t m in
      let Q = R.sound i (S.listed m (omega arith)).0 in
      inr (
        s.below,
        piece_complete Square square? square_decides w j e
            (run_square w (record_at runs i).first (record_at runs i).last (record_at runs i).period j e Q (omega (arith, s.from, Q.starts)) l s.below s.multiple),
      )

  -- what stands at a number of the list was seen
  seen_at : (m k j : ℕ) → k < m → e ≤ (record_at runs (entry_of w t k)).last → Start (start_of runs (entry_of w t k)) (two_of runs (entry_of w t k)) e j → Seen w runs e t m j
  seen_at zero k j h l s = absurd (omega arith)
  seen_at (suc m) k j h l s = go (λ x. seen_at m k j x l s) (ℕ_discrete k m)
    where
      go : (k < m → Seen w runs e t m j) → Dec (k ≡ m) → Seen w runs e t (suc m) j
      go ih (no f) = inl (ih (omega arith))
      go ih (yes f) =
          inr (subst (λ (x : ℕ). (e ≤ (record_at runs (entry_of w t x)).last) × Start (start_of runs (entry_of w t x)) (two_of runs (entry_of w t x)) e j) f (l, s))

  -- CLAIM: every square that ends at e was seen
  square_seen : (j : ℕ) → j < e → T (b j e) → Seen w runs e t lives j
  square_seen j h B = go (square_run w j e (piece_sound Square square? square_decides w j e B))
    where
      go : SquareRun w j e → Seen w runs e t lives j
      go Q = by (R.complete Q.run.first Q.run.last Q.unit Q.run.run)
        where
          by : (i : ℕ) × (i < length (runs_of w)) × ((record_at runs i).first ≡ Q.run.first) × ((record_at runs i).last ≡ Q.run.last) × ((record_at runs i).period ≡ Q.unit) → Seen w runs e t lives j
          by (i, l, f, g, u) = at (S.lists i l (omega (arith, Q.run.starts)) (omega (arith, Q.run.ends)))
            where
              start : Start (start_of runs i) (two_of runs i) e j
              start = rw u record { from = omega (arith, Q.run.starts, Q.run.run.starts); below = h; multiple = Q.multiple }

              at : (k : ℕ) × (k < lives) × (entry_of w t k ≡ i) → Seen w runs e t lives j
              at (k, m, z) = seen_at lives k j m (rw z (omega (arith, Q.run.ends))) (rw z start)

  -- ---- the cell of e

  module _ (u : List ℕ) (kept best : ℕ) (U : Turn c w runs e lives t u lives kept lives best) (high : best ≤ e) where
    rank_read : rank c (get_or u best 0) ≡ known_rank c w e best
    rank_read = ap (rank c) (U.knows.known best (omega arith)).size

    bounded : (j s p : ℕ) → j < e → square_cell c w j ≡ reached s p → s < none
    bounded j s p h z = omega (arith, size_bound c b j s p z)

    -- none of the starts is reached
    cell-none : get_or u best 0 ≡ none → square_cell c w e ≡ unreachable
    cell-none z = top_unreachable c b e (omega arith) (omega arith) λ j h B.
        rank_worst c (square_cell c w j) (λ s p f. bounded j s p h f)
        (omega (arith, rank_read, ap (rank c) z, rank-none c, U.top.least j (square_seen j h B), known_final c w e j h))

    -- the best start is reached
    module _ (ne : get_or u best 0 ≡ none → ⊥) where
      start : (best < e) × T (b best e)
      start = go (seen_square lives best (omega arith) U.top.member)
        where
          go : (best ≡ e) ⊎ ((best < e) × T (b best e)) → (best < e) × T (b best e)
          go (inr s) = s
          go (inl f) =
              absurd (ne ((U.knows.known best (omega arith)).size ∙ ap (λ (x : ℕ). size_in (known_cell c w e x)) f ∙ ap size_in (known_here c w e)))

      from : (p : ℕ) × (square_cell c w best ≡ reached (get_or u best 0) p)
      from =
          let q = holds_reached u best (n + 1 + best) (known_cell c w e best) (U.knows.known best (omega arith)) ne in
          (q.0, sym (known_below c w e best start.0) ∙ q.1)

      cell_reached : square_cell c w e ≡ reached (suc (get_or u best 0)) best
      cell_reached =
          top_reached c b e (omega arith) (omega arith) best (get_or u best 0) from.0 start.0 start.1 from.1
          (λ j h B. omega (arith, rank_read, U.top.least j (square_seen j h B), known_final c w e j h))
          (λ j h B l. U.top.lowest j (square_seen j h B) (omega (arith, rank_read, known_final c w e j h)))

    -- ---- the next boundary

    -- what was known, and what is known of e
    known_next : (m : ℕ) → m ≢ e → known_cell c w e m ≡ known_cell c w (suc e) m
    known_next m f = go (dec_lt m e)
      where
        go : Dec (m < e) → known_cell c w e m ≡ known_cell c w (suc e) m
        go (yes x) = rw (lt-ltb m e x, lt-ltb m (suc e) (omega arith)) refl
        go (no x) = rw (le-ltb m e (omega arith), le-ltb m (suc e) (omega arith)) refl

    known_taken : known_cell c w (suc e) e ≡ square_cell c w e
    known_taken = rw (lt-ltb e (suc e) (omega arith)) refl

    -- rows 2 and 3 as they are, rows 0 and 1 with the cell of e
    next_ready : (x : List ℕ) → ((y : ℕ) → n + 1 + (n + 1) ≤ y → get_or x y 0 ≡ get_or u y 0) → ((m : ℕ) → m ≤ n → Holds x m (n + 1 + m) (known_cell c w (suc e) m))
        → Ready c w runs (e + 1) (e + 1) kept x
    next_ready x same knows = rw (add-one e) record { known = knows; listed = listed; lists = lists; slots = slots }
      where
        entry : (y : ℕ) → entry_of w x y ≡ entry_of w u y
        entry y = same (list_row n + y) (omega arith)

        slot : (i y : ℕ) → get_or x (place_of w runs i y) 0 ≡ get_or u (place_of w runs i y) 0
        slot i y = same (place_of w runs i y) (omega arith)

        listed : (y : ℕ) → y < kept → (entry_of w x y < length (runs_of w)) × ((record_at runs (entry_of w x y)).first < suc e)
        listed y l = rw (entry y) ((U.listing.listed y l).0, omega (arith, (U.listing.listed y l).1))

        lists : (i : ℕ) → i < length (runs_of w) → (record_at runs i).first < suc e → suc e ≤ (record_at runs i).last → (k : ℕ) × (k < kept) × (entry_of w x k ≡ i)
        lists i h f g = go (S.lists i h (omega arith) (omega arith))
          where
            go : (k : ℕ) × (k < lives) × (entry_of w t k ≡ i) → (k : ℕ) × (k < kept) × (entry_of w x k ≡ i)
            go (k, l, z) = let q = U.listing.lists k l (rw z (omega arith)) in (q.0, q.1, entry q.0 ∙ q.2 ∙ z)

        slots : (i y : ℕ) → i < length (runs_of w) → suc e ≤ (record_at runs i).last → Holding runs i y → y < suc e → suc e ≤ y + two_of runs i → Lead c w runs i y (get_or x (place_of w runs i y) 0)
        slots i y h g d l f = subst (Lead c w runs i y) (sym (slot i y)) (by (ℕ_discrete y e))
          where
            older : Lead c w runs i y (get_or u (place_of w runs i y) 0) ⊎ ((y + two_of runs i ≡ e) × Lead c w runs i e (get_or u (place_of w runs i y) 0)) → Lead c w runs i y (get_or u (place_of w runs i y) 0)
            older (inl L) = L
            older (inr q) = absurd (omega (arith, q.0))

            here : Holding runs i e → (k : ℕ) × (k < lives) × (entry_of w t k ≡ i) → Lead c w runs i e (get_or u (place_of w runs i e) 0)
            here d (k, m, z) =
                subst (λ (z : ℕ). Lead c w runs z e (get_or u (place_of w runs z e) 0)) z
                (U.slotting.leads k m (S.listed k m).0 (rw z (omega arith)) (subst (λ (z : ℕ). Holding runs z e) (sym z) d))

            by : Dec (y ≡ e) → Lead c w runs i y (get_or u (place_of w runs i y) 0)
            by (no z) = older (U.slotting.slots i y h (omega arith) d (omega arith) (omega arith))
            by (yes z) =
                subst (λ (m : ℕ). Lead c w runs i m (get_or u (place_of w runs i m) 0)) (sym z)
                (here (subst (Holding runs i) z d) (S.lists i h (omega arith) (omega arith)))

    pub taken_none : get_or u best 0 ≡ none → Ready c w runs (e + 1) (e + 1) kept u
    taken_none z = next_ready u (λ y h. refl) λ m h. subst (Holds u m (n + 1 + m)) (go m (ℕ_discrete m e)) (U.knows.known m h)
      where
        go : (m : ℕ) → Dec (m ≡ e) → known_cell c w e m ≡ known_cell c w (suc e) m
        go m (no f) = known_next m f
        go m (yes f) = rw f (known_here c w e ∙ sym (cell-none z) ∙ sym known_taken)

    pub taken_reached : rows * (n + 1) ≤ length t → (ne : get_or u best 0 ≡ none → ⊥) (x : List ℕ) → x ≡ offered c e (n + 1 + e) (get_or u best 0 + 1) best u → Ready c w runs (e + 1) (e + 1) kept x
    taken_reached room ne x is = next_ready x same knows
      where
        same : (y : ℕ) → n + 1 + (n + 1) ≤ y → get_or x y 0 ≡ get_or u y 0
        same y h = ap (λ (z : List ℕ). get_or z y 0) is ∙ offered_other c e (n + 1 + e) (get_or u best 0 + 1) best u y (omega arith) (omega arith)

        size_small : suc (get_or u best 0) < none
        size_small = omega (arith, size_bound c b best (get_or u best 0) (from ne).0 (from ne).1, (start ne).0)

        knows : (m : ℕ) → m ≤ n → Holds x m (n + 1 + m) (known_cell c w (suc e) m)
        knows m h = go (ℕ_discrete m e)
          where
            go : Dec (m ≡ e) → Holds x m (n + 1 + m) (known_cell c w (suc e) m)
            go (no f) =
                rw is (subst (Holds (offered c e (n + 1 + e) (get_or u best 0 + 1) best u) m (n + 1 + m)) (known_next m f)
                (offered_others c e (n + 1 + e) (get_or u best 0 + 1) best u m (n + 1 + m) (known_cell c w e m) f (omega arith) (omega arith) (omega arith) (U.knows.known m h)))
            go (yes f) =
                rw (f, is, add-one (get_or u best 0)) (subst (Holds (offered c e (n + 1 + e) (suc (get_or u best 0)) best u) e (n + 1 + e)) (sym (known_taken ∙ cell_reached ne))
                (offered-cell c e (n + 1 + e) (get_or u best 0) best u (from ne).0 unreachable (omega arith) (omega (arith, U.rest.0)) (omega (arith, U.rest.0)) size_small
                (subst (Holds u e (n + 1 + e)) (known_here c w e) (U.knows.known e inside))))
