-- Taking boundary e, run by run (`Turn` of proofs/Turn.antt): a run that is over leaves the list (`step_over`), another stays in it, has its best start written to its
-- slot and compared with the best so far (`step-take`). When all runs were taken the best start gives the cell of e, since the starts that were seen are those of
-- all squares that end there; and what holds between two boundaries holds again (`turn-ends`). Assumes nothing.
use mathlib.Core.Path.{◌≡◌, refl, sym, ap, ◌∙◌, subst}
use mathlib.Core.Logic.{◌≢◌, ◌⊎◌, inl, inr}
use mathlib.Core.Bool.{Bool, true, false, cond}
use mathlib.Core.List.{List}
use Prim.Native.Nat.{ℕ, zero, suc, ◌+◌, ◌-◌, ◌*◌, ◌≤◌, ◌<◌}
use native.Mathlib.Omega.{arith}
use native.Mathlib.Numerals.{add-one}
use native.Mathlib.Decide.{dec_lt, ℕ_discrete}
use borrow.Author.Tests.{lt-ltb, le-ltb}
use lib.ListN.{length, get_or, set, length-set}
use lib.Seq.{get_or-set_same, get_or-set_other, drop-set-lt}
use Rattle.runs.specs.declared.Record.{Record}
use Rattle.runs.specs.Table.{runs_of, record_at}
use Rattle.factors.specs.Factorization.{Choice}
use Rattle.factors.specs.Table.{rows, size_in, taken, offered}
use Rattle.factorizer.specs.Window.{RestKept}
use Rattle.slots.specs.Starts.{rank, rank_in, preferred, Top, Start, Readable, lead_of}
use Rattle.slots.specs.Ready.{start_of, two_of, square_cell, list_row, Ready, kept_lead, best_with}
use Rattle.slots.proofs.Tops.{multiple_least, preferred_same, top_one, top_same, top_agree, top_both}
use Rattle.slots.proofs.Tabled.{Tabled, run_at}
use Rattle.slots.proofs.Computed.{slot_bound, kept_short, kept_long}
use Rattle.slots.proofs.Turn.{entry_of, place_of, Holding, Knows, Slotting, Listing, Seen, known_rank, Turn, Numbers}
use Rattle.slots.proofs.Slotting.{slotting_else, slotting_skip, readable, lead_is, slotting_write}
use Rattle.slots.proofs.Known.{known_final, in_table, knows_else}

-- what is set within the four rows leaves the rest
pub rest_set : (n : ℕ) (t u : List ℕ) (y v : ℕ) → y < rows * (n + 1) → RestKept n t u → RestKept n t (set u y v)
rest_set n t u y v h (l, d) = (length-set u y v ∙ l, drop-set-lt (rows * (n + 1)) u y v h ∙ d)

pub rest_offered : (c : Choice) (n at back s j : ℕ) (t u : List ℕ) → at < rows * (n + 1) → back < rows * (n + 1) → RestKept n t u → RestKept n t (offered c at back s j u)
unfolding offered
rest_offered c n at back s j t u h l K = go (taken c s (get_or u at 0))
  where
    go : (b : Bool) → RestKept n t (cond b (set (set u at s) back j) u)
    go true = rest_set n t (set u at s) back j l (rest_set n t u at s h K)
    go false = K

-- ---- the list

module _ (w runs : List ℕ) (e lives : ℕ) (t : List ℕ) where
  listing_else : (u : List ℕ) (k kept y v : ℕ) → y < list_row (length w) → Listing w runs e lives t u k kept → Listing w runs e lives t (set u y v) k kept
  listing_else u k kept y v h L = record {
    fewer = L.fewer;
    unread = λ z a b. same z ∙ L.unread z a b;
    listed = λ z a. rw (same z) (L.listed z a);
    lists = λ z a b. let q = L.lists z a b in (q.0, q.1, same q.0 ∙ q.2);
  }
    where
      same : (z : ℕ) → entry_of w (set u y v) z ≡ entry_of w u z
      same z = get_or-set_other u y (list_row (length w) + z) v 0 (omega arith)

  listing_skip : (u : List ℕ) (k kept : ℕ) → (record_at runs (entry_of w t k)).last < e → Listing w runs e lives t u k kept → Listing w runs e lives t u (suc k) kept
  listing_skip u k kept h L = record {
    fewer = omega (arith, L.fewer);
    unread = λ y a b. L.unread y (omega arith) b;
    listed = L.listed;
    lists = λ y l a. go y (ℕ_discrete y k) l a;
  }
    where
      go : (y : ℕ) → Dec (y ≡ k) → y < suc k → e ≤ (record_at runs (entry_of w t y)).last → (z : ℕ) × (z < kept) × (entry_of w u z ≡ entry_of w t y)
      go y (no f) l a = L.lists y (omega arith) a
      go y (yes f) l a = let g : (record_at runs (entry_of w t y)).last ≡ (record_at runs (entry_of w t k)).last = ap (λ (z : ℕ). (record_at runs (entry_of w t z)).last) f in absurd (omega arith)

  listing_push : (u : List ℕ) (k kept : ℕ) → k < lives → list_row (length w) + k < length u → (entry_of w t k < length (runs_of w)) × ((record_at runs (entry_of w t k)).first ≤ e)
      → Listing w runs e lives t u k kept → Listing w runs e lives t (set u (list_row (length w) + kept) (entry_of w t k)) (suc k) (suc kept)
  listing_push u k kept h room fine L = record {
    fewer = omega (arith, L.fewer);
    unread = λ y a b. get_or-set_other u (list_row (length w) + kept) (list_row (length w) + y) (entry_of w t k) 0 (omega (arith, L.fewer)) ∙ L.unread y (omega arith) b;
    listed = λ y l. listed y (ℕ_discrete y kept) l;
    lists = λ y l a. lists y (ℕ_discrete y k) l a;
  }
    where
      v : List ℕ
      v = set u (list_row (length w) + kept) (entry_of w t k)

      new : entry_of w v kept ≡ entry_of w t k
      new = get_or-set_same u (list_row (length w) + kept) (entry_of w t k) 0 (omega (arith, L.fewer))

      old : (y : ℕ) → y ≢ kept → entry_of w v y ≡ entry_of w u y
      old y f = get_or-set_other u (list_row (length w) + kept) (list_row (length w) + y) (entry_of w t k) 0 (omega arith)

      listed : (y : ℕ) → Dec (y ≡ kept) → y < suc kept → (entry_of w v y < length (runs_of w)) × ((record_at runs (entry_of w v y)).first ≤ e)
      listed y (yes f) l = rw (f, new) fine
      listed y (no f) l = rw (old y f) (L.listed y (omega arith))

      lists : (y : ℕ) → Dec (y ≡ k) → y < suc k → e ≤ (record_at runs (entry_of w t y)).last → (z : ℕ) × (z < suc kept) × (entry_of w v z ≡ entry_of w t y)
      lists y (yes f) l a = (kept, omega arith, new ∙ ap (entry_of w t) (sym f))
      lists y (no f) l a = let q = L.lists y (omega arith) a in (q.0, omega (arith, q.1), old q.0 (omega (arith, q.1)) ∙ q.2)

-- ---- one boundary

module _ (c : Choice) (w runs : List ℕ) (R : Tabled w runs) (e : ℕ) (some : 1 ≤ e) (inside : e ≤ length w)
    (lives : ℕ) (few : lives ≤ length w) (t : List ℕ) (room : rows * (length w + 1) ≤ length t) (S : Ready c w runs (e + 1) e lives t) where
  abbrev n : ℕ
  n = length w

  abbrev live : ℕ → ℕ
  live y = entry_of w t y

  abbrev last : ℕ → ℕ
  last i = (record_at runs i).last

  -- before the first run
  pub turn_starts : Turn c w runs e lives t t 0 0 0 e
  turn_starts = record {
    knows = record { known = S.known };
    listing = record { fewer = omega arith; unread = λ y a b. refl; listed = λ y l. absurd (omega arith); lists = λ y l. absurd (omega arith) };
    slotting = record { slots = λ i x a b d f g. inl (S.slots i x a b d f g); leads = λ y l. absurd (omega arith) };
    top = top_one (known_rank c w e) e;
    rest = (refl, refl);
  }

  -- a start that was seen is e or below it
  seen_bound : (m j : ℕ) → Seen w runs e t m j → j ≤ e
  seen_bound zero j s = omega arith
  seen_bound (suc m) j (inl s) = seen_bound m j s
  seen_bound (suc m) j (inr s) = omega (arith, s.1.below)

  pub best_bound : (u : List ℕ) (k kept m best : ℕ) → Turn c w runs e lives t u k kept m best → best ≤ e
  best_bound u k kept m best U = seen_bound m best U.top.member

  module _ (u : List ℕ) (k kept best : ℕ) (U : Turn c w runs e lives t u k kept k best) (h : k < lives) where
    long : length u ≡ length t
    long = U.rest.0

    -- the run at hand
    pub at_hand : get_or u (list_row n + k) 0 ≡ live k
    at_hand = U.listing.unread k (omega arith) h

    pub there : (live k < length (runs_of w)) × ((record_at runs (live k)).first ≤ e)
    there = ((S.listed k h).0, omega (arith, (S.listed k h).1))

    over : last (live k) < e → Turn c w runs e lives t u (suc k) kept (suc k) best
    over l = record {
      knows = U.knows;
      listing = listing_skip w runs e lives t u k kept l U.listing;
      slotting = slotting_skip c w runs R e inside t u k l U.slotting;
      top = top_same (known_rank c w e) (Seen w runs e t k) (Seen w runs e t (suc k)) best (λ j s. inl s) back U.top;
      rest = U.rest;
    }
      where
        back : (j : ℕ) → Seen w runs e t (suc k) j → Seen w runs e t k j
        back j (inl s) = s
        back j (inr s) = absurd (omega (arith, s.0))

    -- not over: it stays in the list
    abbrev v : List ℕ
    v = set u (list_row n + kept) (live k)

    abbrev a : ℕ
    a = start_of runs (live k)

    abbrev two : ℕ
    two = two_of runs (live k)

    pub begun : a < e
    begun = omega (arith, there.1)

    knows : Knows c w e v
    knows = knows_else c w e u (list_row n + kept) (live k) (omega arith) U.knows

    slotting : Slotting c w runs e t v k
    slotting = slotting_else c w runs R e inside t u k (list_row n + kept) (live k) (omega arith) U.slotting

    listing : Listing w runs e lives t v (suc k) (suc kept)
    listing = listing_push w runs e lives t u k kept h (omega (arith, long)) there U.listing

    rest : RestKept n t v
    rest = rest_set n t u (list_row n + kept) (live k) (omega (arith, U.listing.fewer)) U.rest

    pub reads : e ≤ last (live k) → Readable n v a two e
    reads l = readable c w runs R e inside t v k knows slotting (live k) there.0 l

    -- it is taken
    module _ (l : e ≤ last (live k)) where
      lead : a + two ≤ e → Top (λ j. known_rank c w e j) (Start a two e) (lead_of c n v a two e)
      lead m =
          top_agree _ (known_rank c w e) (Start a two e) (lead_of c n v a two e) (λ j s. sym (known_final c w e j s.below))
          (lead_is c w runs R e inside t v k knows slotting (live k) there.0 l m)

      below : a + two ≤ e → lead_of c n v a two e < e
      below m = (lead m).member.below

      top : Top (known_rank c w e) (Seen w runs e t (suc k)) (best_with c n v a two e best)
      unfolding best_with
      top = go (dec_lt (e - a) two)
        where
          none_there : e - a < two → (j : ℕ) → Seen w runs e t (suc k) j → Seen w runs e t k j
          none_there x j (inl s) = s
          none_there x j (inr s) = absurd (omega (arith, s.1.from, s.1.below, multiple_least (e - j) two (omega (arith, s.1.below)) s.1.multiple))

          to : (j : ℕ) → Seen w runs e t k j ⊎ Start a two e j → Seen w runs e t (suc k) j
          to j (inl s) = inl s
          to j (inr s) = inr (l, s)

          of : (j : ℕ) → Seen w runs e t (suc k) j → Seen w runs e t k j ⊎ Start a two e j
          of j (inl s) = inl s
          of j (inr s) = inr s.1

          go : Dec (e - a < two) → Top (known_rank c w e) (Seen w runs e t (suc k)) (best_with c n v a two e best)
          go (yes x) = rw (lt-ltb (e - a) two x) (top_same (known_rank c w e) (Seen w runs e t k) (Seen w runs e t (suc k)) best (λ j s. inl s) (none_there x) U.top)
          go (no x) =
              let q : preferred (rank_in c v) best (lead_of c n v a two e) ≡ preferred (known_rank c w e) best (lead_of c n v a two e) =
              preferred_same (rank_in c v) (known_rank c w e) best (lead_of c n v a two e) (in_table c w e v knows best (omega (arith, best_bound u k kept k best U)))
              (in_table c w e v knows (lead_of c n v a two e) (omega (arith, below (omega (arith, begun))))) in
              rw (le-ltb (e - a) two (omega arith), q)
              (top_same (known_rank c w e) (λ j. Seen w runs e t k j ⊎ Start a two e j) (Seen w runs e t (suc k)) (preferred (known_rank c w e) best (lead_of c n v a two e)) to of
              (top_both (known_rank c w e) (Seen w runs e t k) (Start a two e) best (lead_of c n v a two e) U.top (lead (omega (arith, begun)))))

      with_run : Turn c w runs e lives t (kept_lead c n v a two e) (suc k) (suc kept) (suc k) (best_with c n v a two e best)
      with_run = go (dec_lt (e - a) two)
        where
          -- no slot is written where no square ends at e
          short_run : e - a < two → Slotting c w runs e t v (suc k)
          short_run x = record { slots = slotting.slots; leads = λ y z p q d. by y (ℕ_discrete y k) z p q d }
            where
              by : (y : ℕ) → Dec (y ≡ k) → y < suc k → live y < length (runs_of w) → e ≤ last (live y) → Holding runs (live y) e
                  → Top (λ j. rank c (size_in (square_cell c w j))) (Start (start_of runs (live y)) (two_of runs (live y)) e) (get_or v (place_of w runs (live y) e) 0)
              by y (no f) z p q d = slotting.leads y (omega arith) p q d
              by y (yes f) z p q d = absurd (clash f d)
                where
                  clash : y ≡ k → Holding runs (live y) e → ⊥
                  clash f d = let g : Holding runs (live k) e = subst (λ (z : ℕ). Holding runs (live z) e) f d in omega arith

          go : Dec (e - a < two) → Turn c w runs e lives t (kept_lead c n v a two e) (suc k) (suc kept) (suc k) (best_with c n v a two e best)
          go (yes x) =
              subst (λ (y : List ℕ). Turn c w runs e lives t y (suc k) (suc kept) (suc k) (best_with c n v a two e best)) (kept_short c n v a two e x)
              record { knows = knows; listing = listing; slotting = short_run x; top = top; rest = rest }
          go (no x) =
              let s = lead_of c n v a two e in
              let y = place_of w runs (live k) e in
              let p : y < list_row n = slot_bound n a two e (omega (arith, begun)) inside in
              subst (λ (y : List ℕ). Turn c w runs e lives t y (suc k) (suc kept) (suc k) (best_with c n v a two e best)) (kept_long c n v a two e (omega arith)) record {
                knows = knows_else c w e v y s (omega arith) knows;
                listing = listing_else w runs e lives t v (suc k) (suc kept) y s p listing;
                slotting = slotting_write c w runs R e inside t v k s (omega (arith, rest.0)) slotting there.0 l (omega (arith, begun))
                    (lead_is c w runs R e inside t v k knows slotting (live k) there.0 l (omega (arith, begun)));
                top = top;
                rest = rest_set n t v y s (omega arith) rest;
              }

    -- CLAIM: the steps, by what is read from the table of runs
    pub step_over : (r : Record) → r ≡ record_at runs (get_or u (list_row n + k) 0) → r.last < e → Turn c w runs e lives t u (k + 1) kept (k + 1) best
    step_over r is l = rw (add-one k) (over (subst (λ (i : ℕ). last i < e) at_hand (subst (λ (x : Record). x.last < e) is l)))

    pub step-take : (r : Record) → r ≡ record_at runs (get_or u (list_row n + k) 0) → e ≤ r.last
        → (x : List ℕ) (b : ℕ) → x ≡ kept_lead c n (set u (list_row n + kept) (get_or u (list_row n + k) 0)) (r.first - 1) (2 * r.period) e
        → b ≡ best_with c n (set u (list_row n + kept) (get_or u (list_row n + k) 0)) (r.first - 1) (2 * r.period) e best
        → Turn c w runs e lives t x (k + 1) (kept + 1) (k + 1) b
    step-take r is l x b p q =
        let i : r ≡ record_at runs (live k) = is ∙ ap (record_at runs) at_hand in
        rw (add-one k, add-one kept, p, q, i, at_hand) (with_run (subst (λ (y : Record). e ≤ y.last) i l))

    pub step_reads : (r : Record) → r ≡ record_at runs (get_or u (list_row n + k) 0) → e ≤ r.last
        → Readable n (set u (list_row n + kept) (get_or u (list_row n + k) 0)) (r.first - 1) (2 * r.period) e
    step_reads r is l =
        let i : r ≡ record_at runs (live k) = is ∙ ap (record_at runs) at_hand in
        rw (i, at_hand) (reads (subst (λ (y : Record). e ≤ y.last) i l))

    -- its number, and those of its record
    pub number : get_or u (list_row n + k) 0 < length (runs_of w)
    number = rw at_hand there.0

    pub numbers : (r : Record) → r ≡ record_at runs (get_or u (list_row n + k) 0) → Numbers w e r
    numbers r is = rw (is ∙ ap (record_at runs) at_hand) record {
      starts = (R.sound (live k) there.0).starts;
      begun = there.1;
      ends = (R.sound (live k) there.0).ends;
      unit = (run_at w runs R (live k) there.0).smallest.period.positive;
      small = let I = run_at w runs R (live k) there.0 in omega (arith, I.twice, I.within);
    }
