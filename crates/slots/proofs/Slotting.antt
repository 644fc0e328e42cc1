-- Row 2 while boundary e is taken: what is computed from a slot is the best start for e (`lead_is`), and a run that writes it spoils no slot of another run
-- (`slotting_write`), since a slot that two runs share makes them one. Assumes nothing.
use mathlib.Core.Path.{◌≡◌, sym, ap, ap₂, ◌∙◌, subst, subst₂}
use mathlib.Core.Logic.{◌⊎◌, inl, inr}
use mathlib.Core.List.{List}
use Prim.Native.Nat.{ℕ, suc, ◌+◌, ◌-◌, ◌*◌, ◌%◌, ◌≤◌, ◌<◌}
use native.Mathlib.Omega.{arith}
use native.Mathlib.Decide.{dec_lt, ℕ_discrete}
use native.Mathlib.Nat.{mod-eq-sub-mod}
use borrow.Author.Tests.{lt-ltb, le-ltb}
use lib.ListN.{length, get_or, set}
use lib.Seq.{get_or-set_same, get_or-set_other}
use Rattle.periods.proofs.InPlace.{symbol}
use Rattle.runs.specs.Table.{runs_of, record_at}
use Rattle.factors.specs.Factorization.{Choice}
use Rattle.slots.specs.Starts.{rank_in, preferred, Top, Start, slot_of, Readable, lead_of}
use Rattle.slots.specs.Ready.{start_of, two_of, Lead, list_row}
use Rattle.slots.proofs.Tops.{preferred_same, lead_one, lead_next, lead_again}
use Rattle.slots.proofs.Collisions.{slot_early, slot_one_run, slots_differ}
use Rattle.slots.proofs.Computed.{slot_bound}
use Rattle.slots.proofs.Tabled.{Tabled, run_at, two_some}
use Rattle.slots.proofs.Known.{in_table_final}
use Rattle.slots.proofs.Turn.{Holding, Knows, Slotting, final_rank}

module _ (c : Choice) (w runs : List ℕ) (R : Tabled w runs) (e : ℕ) (inside : e ≤ length w) where
  abbrev n : ℕ
  n = length w

  abbrev count : ℕ
  count = length (runs_of w)

  abbrev last : ℕ → ℕ
  last i = (record_at runs i).last

  -- entry y of the list, and the slot of run i for boundary x
  abbrev live : List ℕ → ℕ → ℕ
  live t y = get_or t (list_row n + y) 0

  abbrev place : ℕ → ℕ → ℕ
  place i x = slot_of n (start_of runs i) (two_of runs i) x

  abbrev ever : ℕ → ℕ
  ever = final_rank c w

  module _ (t : List ℕ) where
    pub slotting_else : (u : List ℕ) (m y v : ℕ) → list_row n ≤ y → Slotting c w runs e t u m → Slotting c w runs e t (set u y v) m
    slotting_else u m y v h S = record {
      slots = λ i x l a b d f. subst (λ (z : ℕ). Lead c w runs i x z ⊎ ((x + two_of runs i ≡ e) × Lead c w runs i e z)) (sym (same i x (omega arith) (omega arith))) (S.slots i x l a b d f);
      leads = λ k l a b d. subst (Lead c w runs (live t k) e) (sym (same (live t k) e (omega arith) inside)) (S.leads k l a b d);
    }
      where
        same : (i x : ℕ) → start_of runs i ≤ x → x ≤ n → get_or (set u y v) (place i x) 0 ≡ get_or u (place i x) 0
        same i x a b = get_or-set_other u y (place i x) v 0 (omega (arith, slot_bound n (start_of runs i) (two_of runs i) x a b))

    -- a run that is over has no slot to keep
    pub slotting_skip : (u : List ℕ) (m : ℕ) → last (live t m) < e → Slotting c w runs e t u m → Slotting c w runs e t u (suc m)
    slotting_skip u m h S = record { slots = S.slots; leads = λ y l a b d. go y (ℕ_discrete y m) l a b d }
      where
        go : (y : ℕ) → Dec (y ≡ m) → y < suc m → live t y < count → e ≤ last (live t y) → Holding runs (live t y) e → Lead c w runs (live t y) e (get_or u (place (live t y) e) 0)
        go y (no f) l a b d = S.leads y (omega arith) a b d
        go y (yes f) l a b d = let g : last (live t y) ≡ last (live t m) = ap (λ (z : ℕ). last (live t z)) f in absurd (omega arith)

    -- ---- the best start of a run

    module _ (u : List ℕ) (m : ℕ) (K : Knows c w e u) (S : Slotting c w runs e t u m) (i : ℕ) (h : i < count) (alive : e ≤ last i) where
      abbrev a : ℕ
      a = start_of runs i

      abbrev two : ℕ
      two = two_of runs i

      shift : two ≤ e - a → (e - two - a) % two ≡ (e - a) % two
      shift l = let y : e - two - a ≡ e - a - two = omega arith in ap (λ (v : ℕ). v % two) y ∙ sym (mod-eq-sub-mod {n = e - a} {m = two} l)

      -- what was kept `two` earlier
      kept_before : a + (two + two) ≤ e → Lead c w runs i (e - two) (get_or u (place i e) 0) ⊎ Lead c w runs i e (get_or u (place i e) 0)
      kept_before l = go (subst (λ (r : ℕ). Lead c w runs i (e - two) (get_or u (n + 1 + (n + 1) + (a + r)) 0) ⊎ ((e - two + two ≡ e) × Lead c w runs i e (get_or u (n + 1 + (n + 1) + (a + r)) 0)))
          (shift (omega arith)) (S.slots i (e - two) h alive (omega arith) (omega (arith, two_some w runs R i h)) (omega arith)))
        where
          go : Lead c w runs i (e - two) (get_or u (place i e) 0) ⊎ ((e - two + two ≡ e) × Lead c w runs i e (get_or u (place i e) 0))
              → Lead c w runs i (e - two) (get_or u (place i e) 0) ⊎ Lead c w runs i e (get_or u (place i e) 0)
          go (inl L) = inl L
          go (inr (z, L)) = inr L

      -- the start that is read is a boundary below e
      slot_below : a + (two + two) ≤ e → get_or u (place i e) 0 < e
      slot_below l = go (kept_before l)
        where
          go : Lead c w runs i (e - two) (get_or u (place i e) 0) ⊎ Lead c w runs i e (get_or u (place i e) 0) → get_or u (place i e) 0 < e
          go (inl L) = omega (arith, L.member.below)
          go (inr L) = L.member.below

      pub readable : Readable n u a two e
      readable l = omega (arith, slot_below l)

      chosen : (old : ℕ) → old < e → preferred (rank_in c u) old (e - two) ≡ preferred ever old (e - two)
      chosen old l = preferred_same (rank_in c u) ever old (e - two) (in_table_final c w e inside u K old l) (in_table_final c w e inside u K (e - two) (omega (arith, two_some w runs R i h)))

      -- CLAIM: what is computed is the best start for e
      pub lead_is : a + two ≤ e → Lead c w runs i e (lead_of c n u a two e)
      unfolding lead_of
      lead_is l = go (dec_lt (e - a) (two + two))
        where
          next : (old : ℕ) → old < e → Lead c w runs i (e - two) old ⊎ Lead c w runs i e old → Lead c w runs i e (preferred (rank_in c u) old (e - two))
          next old b (inl L) = rw (chosen old b) (lead_next ever a two (two_some w runs R i h) e old l L)
          next old b (inr L) = rw (chosen old b) (lead_again ever a two (two_some w runs R i h) e old l L)

          go : Dec (e - a < two + two) → Lead c w runs i e (lead_of c n u a two e)
          go (yes x) = rw (lt-ltb (e - a) (two + two) x) (lead_one ever a two (two_some w runs R i h) e l (omega arith))
          go (no x) = rw (le-ltb (e - a) (two + two) (omega arith)) (next (get_or u (place i e) 0) (slot_below (omega arith)) (kept_before (omega arith)))

    -- ---- no run spoils the slot of another

    -- a slot that the runs i and i' share
    one_run : (i i' x : ℕ) → i < count → i' < count → e ≤ last i → e ≤ last i' → Holding runs i e → Holding runs i' x → x ≤ e → place i' x ≡ place i e
        → (start_of runs i ≡ start_of runs i') × (two_of runs i ≡ two_of runs i')
    one_run i i' x h h' b b' d d' l z =
        let y = start_of runs i + (e - start_of runs i) % two_of runs i in
        let same : y ≡ start_of runs i' + (x - start_of runs i') % two_of runs i' = omega arith in
        let q = slot_one_run (symbol w) n (start_of runs i) (last i) (record_at runs i).period (start_of runs i') (last i') (record_at runs i').period y e
        (run_at w runs R i h) (run_at w runs R i' h') (omega arith) (omega arith) b b'
        (omega (arith, slot_early (start_of runs i) (two_of runs i) e (two_some w runs R i h) d))
        (omega (arith, slot_early (start_of runs i') (two_of runs i') x (two_some w runs R i' h') d')) in
        (q.0, ap (λ (p : ℕ). 2 * p) q.1)

    lead_moved : (i i' x s : ℕ) → (start_of runs i ≡ start_of runs i') × (two_of runs i ≡ two_of runs i') → Lead c w runs i x s → Lead c w runs i' x s
    lead_moved i i' x s (f, g) L = subst₂ (λ (a two : ℕ). Top ever (Start a two x) s) f g L

    -- CLAIM: run number m of the list writes the best start for e, and the slots stay right
    pub slotting_write : (u : List ℕ) (m s : ℕ) → n + 1 + (n + 1) + (n + 1) ≤ length u → Slotting c w runs e t u m → live t m < count → e ≤ last (live t m) → Holding runs (live t m) e → Lead c w runs (live t m) e s
        → Slotting c w runs e t (set u (place (live t m) e) s) (suc m)
    slotting_write u m s room S h alive d L = record { slots = slots; leads = λ y l a b f. leads y (ℕ_discrete y m) l a b f }
      where
        i : ℕ
        i = live t m

        v : List ℕ
        v = set u (place (live t m) e) s

        written : get_or v (place (live t m) e) 0 ≡ s
        written = get_or-set_same u (place (live t m) e) s 0 (omega (arith, slot_bound n (start_of runs (live t m)) (two_of runs (live t m)) e (omega arith) inside))

        slots : (i' x : ℕ) → i' < count → e ≤ last i' → Holding runs i' x → x < e → e ≤ x + two_of runs i'
            → Lead c w runs i' x (get_or v (place i' x) 0) ⊎ ((x + two_of runs i' ≡ e) × Lead c w runs i' e (get_or v (place i' x) 0))
        slots i' x a b f l g = go (ℕ_discrete (place i' x) (place (live t m) e))
          where
            go : Dec (place i' x ≡ place (live t m) e) → Lead c w runs i' x (get_or v (place i' x) 0) ⊎ ((x + two_of runs i' ≡ e) × Lead c w runs i' e (get_or v (place i' x) 0))
            go (no z) =
                subst (λ (y : ℕ). Lead c w runs i' x y ⊎ ((x + two_of runs i' ≡ e) × Lead c w runs i' e y)) (sym (get_or-set_other u (place (live t m) e) (place i' x) s 0 z)) (S.slots i' x a b f l g)
            go (yes z) =
                let q = one_run (live t m) i' x h a alive b d f (omega arith) z in
                inr (due q (dec_lt e (x + two_of runs i')), rw (z, written) (lead_moved (live t m) i' e s q L))
              where
                due : (start_of runs (live t m) ≡ start_of runs i') × (two_of runs (live t m) ≡ two_of runs i') → Dec (e < x + two_of runs i') → x + two_of runs i' ≡ e
                due q (no k) = omega arith
                due q (yes k) =
                    let r : (e - start_of runs (live t m)) % two_of runs (live t m) ≡ (e - start_of runs i') % two_of runs i' = ap₂ (λ (a two : ℕ). (e - a) % two) q.0 q.1 in
                    absurd (slots_differ (start_of runs i') (two_of runs i') x e (omega arith) l k (omega (arith, q.0)))

        leads : (y : ℕ) → Dec (y ≡ m) → y < suc m → live t y < count → e ≤ last (live t y) → Holding runs (live t y) e → Lead c w runs (live t y) e (get_or v (place (live t y) e) 0)
        leads y (yes z) l a b f = subst (λ (k : ℕ). Lead c w runs (live t k) e (get_or v (place (live t k) e) 0)) (sym z) (subst (Lead c w runs (live t m) e) (sym written) L)
        leads y (no z) l a b f = go (ℕ_discrete (place (live t y) e) (place (live t m) e))
          where
            go : Dec (place (live t y) e ≡ place (live t m) e) → Lead c w runs (live t y) e (get_or v (place (live t y) e) 0)
            go (no k) = subst (Lead c w runs (live t y) e) (sym (get_or-set_other u (place (live t m) e) (place (live t y) e) s 0 k)) (S.leads y (omega arith) a b f)
            go (yes k) =
                rw (k, written) (lead_moved (live t m) (live t y) e s (one_run (live t m) (live t y) e h a alive b d f (omega arith) k) L)
