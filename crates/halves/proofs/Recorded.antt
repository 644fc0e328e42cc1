-- What is recorded: of the runs after each boundary exactly those that end at `ends` at the latest, so that a new run is appended to them and the order is that of
-- the definition by itself. When all runs were found, the counts and the table are those of the definition. Assumes nothing.
use mathlib.Core.Path.{◌≡◌, refl, sym, ap, ◌∙◌}
use mathlib.Core.Logic.{◌⊎◌, inl, inr}
use mathlib.Core.Bool.{Bool, true, false}
use mathlib.Core.List.{List, [], ◌∷◌, ◌++◌, append-nil}
use Prim.Native.Nat.{ℕ, zero, suc, ◌+◌, ◌-◌, ◌*◌, ◌≤◌, ◌<◌}
use native.Mathlib.Omega.{arith}
use native.Mathlib.Nat.{mul-le-mul_left}
use native.Mathlib.Decide.{dec_lt, ℕ_discrete}
use lib.Dec.{T}
use lib.ListN.{length, get_or, set, drop, length-append, get_or-append}
use lib.Seq.{sets, length-sets, get_or-set_same, get_or-set_other, get_or-append-add, get_or-drop, ext_get_or}
use Rattle.laws.proofs.Tests.{T_true}
use Rattle.laws.proofs.Stores.{sets-front, sets_in, sets_out}
use Rattle.runs.specs.declared.Record.{Record}
use Rattle.runs.specs.declared.Listing.{Listing}
use Rattle.runs.specs.Table.{run?, root_of, run_between, rows_at, rows_before, runs_of}
use Rattle.runs.specs.Listing.{entry_of, stride_of, flat_by}
use Rattle.runs.proofs.Rows.{rows_skip, rows-add, count_more}
use Rattle.runs.proofs.Listings.{length_entry, length-flat_by, flat_by-append}
use Rattle.halves.specs.Found.{New, Solved}
use Rattle.halves.specs.Kept.{new_record, Starts, Placed, Kept, Room, Keeps}

-- ---- the rows after one boundary

fails : (b : Bool) → (T b → ⊥) → b ≡ false
fails true h = absurd (h tt)
fails false h = refl

-- no run ends in a gap
pub rows_gap : (w : List ℕ) (a e d : ℕ) → ((x : ℕ) → e < x → x ≤ e + d → T (run? w a x) → ⊥) → rows_at w a (e + d - a) ≡ rows_at w a (e - a)
rows_gap w a e zero h = ap (rows_at w a) (omega arith)
rows_gap w a e (suc d) h = go (rows_gap w a e d (λ x y z. h x y (omega arith))) (dec_lt a (e + suc d))
  where
    go : rows_at w a (e + d - a) ≡ rows_at w a (e - a) → Dec (a < e + suc d) → rows_at w a (e + suc d - a) ≡ rows_at w a (e - a)
    go ih (no z) = ap (rows_at w a) (omega arith)
    go ih (yes z) =
        ap (rows_at w a) (omega arith) ∙ rows_skip w a (e + suc d) z (fails (run? w a (e + suc d)) (h (e + suc d) (omega arith) (omega arith)))
        ∙ ap (rows_at w a) (omega arith) ∙ ih

pub rows_new : (w : List ℕ) (a b p : ℕ) (ends : List ℕ) → New w a b p ends → a < b
    → rows_at w a (b - a) ≡ rows_at w a (get_or ends a 0 - a) ++ (new_record w a b p ∷ [])
rows_new w a b p ends N l =
    ap (rows_at w a) (omega arith) ∙ rows-add w a b p (root_of w a p) l N.unit refl (T_true (run? w a b) N.test)
    ∙ ap (λ (x : List Record). x ++ (new_record w a b p ∷ []))
    (ap (rows_at w a) (omega (arith, N.later)) ∙ rows_gap w a e (b - 1 - e) (λ x y z. N.none x y (omega (arith, N.later))))
  where
    e : ℕ
    e = get_or ends a 0

rows_one_more : (w : List ℕ) (a d : ℕ) → length (rows_at w a d) ≤ length (rows_at w a (suc d))
unfolding rows_at
rows_one_more w a d = omega (arith, length-append (rows_at w a d) (run_between w a (a + suc d)))

rows_more : (w : List ℕ) (a d e : ℕ) → length (rows_at w a d) ≤ length (rows_at w a (d + e))
rows_more w a d zero =
    let z : d + 0 ≡ d = omega arith in
    omega (arith, ap (λ (x : ℕ). length (rows_at w a x)) z)
rows_more w a d (suc e) =
    let z : d + suc e ≡ suc (d + e) = omega arith in
    omega (arith, rows_more w a d e, ap (λ (x : ℕ). length (rows_at w a x)) z, rows_one_more w a (d + e))

-- the rows after a boundary come before those after a later one
pub before_fits : (w : List ℕ) (a c e : ℕ) → a < c → e ≤ length w → length (rows_before w a) + length (rows_at w a (e - a)) ≤ length (rows_before w c)
before_fits w a zero e l h = absurd (omega arith)
before_fits w a (suc c) e l h = go (λ x. before_fits w a c e x h) (ℕ_discrete a c)
  where
    more : length (rows_before w (suc c)) ≡ length (rows_before w c) + length (rows_at w c (length w - c))
    more = ap (λ (x : ℕ). length (rows_before w x)) (omega arith) ∙ count_more w c

    go : (a < c → length (rows_before w a) + length (rows_at w a (e - a)) ≤ length (rows_before w c)) → Dec (a ≡ c)
        → length (rows_before w a) + length (rows_at w a (e - a)) ≤ length (rows_before w (suc c))
    go ih (no z) = omega (arith, ih (omega arith), more)
    go ih (yes z) =
        let k : e - c + (length w - c - (e - c)) ≡ length w - c = omega arith in
        rw z (omega (arith, more, rows_more w c (e - c) (length w - c - (e - c)), ap (λ (x : ℕ). length (rows_at w c x)) k))

-- ---- one more record

module _ (f : Listing) (w base t ends next table : List ℕ) (a b p : ℕ) (inside : b ≤ length w) (l : a < b) (le : length w ≤ length ends) (ln : length w ≤ length next) (N : New w a b p ends)
    (K : Kept f w base t ends next table)
  where
    abbrev rows : List Record
    rows = rows_at w a (get_or ends a 0 - a)

    abbrev row : Record
    row = new_record w a b p

    one_more : length (rows_at w a (b - a)) ≡ length rows + 1
    one_more = ap length (rows_new w a b p ends N l) ∙ length-append rows (row ∷ [])

    below : (x : ℕ) → x < length w → Dec (x ≡ a) → get_or (set ends a b) x 0 ≤ length w
    below x h (yes z) = rw z (rw (get_or-set_same ends a b 0 (omega arith)) inside)
    below x h (no z) = rw (get_or-set_other ends a x b 0 z) (K.below x h)

    counted : (x : ℕ) → x < length w → Dec (x ≡ a) → get_or (set next a (get_or next a 0 + 1)) x 0 ≡ get_or base x 0 + length (rows_at w x (get_or (set ends a b) x 0 - x))
    counted x h (yes z) =
        rw z (rw (get_or-set_same next a (get_or next a 0 + 1) 0 (omega arith), get_or-set_same ends a b 0 (omega arith)) (omega (arith, K.counted a (omega arith), one_more)))
    counted x h (no z) = rw (get_or-set_other next a x (get_or next a 0 + 1) 0 z, get_or-set_other ends a x b 0 z) (K.counted x h)

    module _ (S : Starts w base) (room : stride_of f * length (runs_of w) ≤ length t) where
      P : Placed f w base t ends table
      P = K.placed S room

      at_next : get_or next a 0 ≡ length (rows_before w a) + length rows
      at_next = omega (arith, K.counted a (omega arith), S.at a (omega arith))

      -- the number is below that of the first record after a later boundary
      ahead : (c : ℕ) → a < c → get_or next a 0 + 1 ≤ length (rows_before w c)
      ahead c h = omega (arith, before_fits w a c b h inside, at_next, one_more)

      in_all : get_or next a 0 + 1 ≤ length (runs_of w)
      unfolding runs_of
      in_all = ahead (length w) (omega arith)

      abbrev new : List ℕ
      new = sets table (stride_of f * get_or next a 0) (entry_of f (new_record w a b p))

      -- another boundary
      other : (x j : ℕ) → x < length w → (x ≡ a → ⊥) → j < stride_of f * length (rows_at w x (get_or ends x 0 - x)) → get_or new (stride_of f * get_or base x 0 + j) 0 ≡ get_or (flat_by f (rows_at w x (get_or ends x 0 - x))) j 0
      other x j h z k = sets_out table (stride_of f * get_or next a 0) (entry_of f (new_record w a b p)) (stride_of f * get_or base x 0 + j) (go (dec_lt x a)) ∙ P.at x j h k
        where
          go : Dec (x < a) → (stride_of f * get_or base x 0 + j < stride_of f * get_or next a 0) ⊎ (stride_of f * get_or next a 0 + length (entry_of f (new_record w a b p)) ≤ stride_of f * get_or base x 0 + j)
          go (yes c) =
              let before : get_or base x 0 + length (rows_at w x (get_or ends x 0 - x)) ≤ get_or next a 0 = omega (arith, before_fits w x a (get_or ends x 0) c (K.below x h), at_next, S.at x h) in
              inl (omega (arith, mul-le-mul_left (stride_of f) before))
          go (no c) =
              let after : get_or next a 0 + 1 ≤ get_or base x 0 = omega (arith, ahead x (omega arith), S.at x h) in
              inr (omega (arith, mul-le-mul_left (stride_of f) after, length_entry f (new_record w a b p)))

      from_base : stride_of f * get_or next a 0 ≡ stride_of f * get_or base a 0 + stride_of f * length rows
      from_base =
          let e : get_or next a 0 ≡ get_or base a 0 + length rows = omega (arith, at_next, S.at a (omega arith)) in
          omega (arith, ap (λ (x : ℕ). stride_of f * x) e)

      -- the same
      same : (j : ℕ) → j < stride_of f * (length rows + 1) → Dec (j < stride_of f * length rows) → get_or new (stride_of f * get_or base a 0 + j) 0 ≡ get_or (flat_by f rows ++ (entry_of f (new_record w a b p))) j 0
      same j h (yes k) =
          sets_out table (stride_of f * get_or next a 0) (entry_of f (new_record w a b p)) (stride_of f * get_or base a 0 + j) (inl (omega (arith, from_base))) ∙ P.at a j (omega arith) k
          ∙ sym (get_or-append (flat_by f rows) (entry_of f (new_record w a b p)) 0 j (omega (arith, length-flat_by f rows)))
      same j h (no k) =
          ap (λ (i : ℕ). get_or new i 0) (omega (arith, from_base))
          ∙ sets_in table (stride_of f * get_or next a 0) (entry_of f (new_record w a b p)) (j - stride_of f * length rows) (omega (arith, length_entry f (new_record w a b p)))
          (omega (arith, mul-le-mul_left (stride_of f) in_all, P.long, length_entry f (new_record w a b p)))
          ∙ sym (get_or-append-add (flat_by f rows) (entry_of f (new_record w a b p)) (j - stride_of f * length rows) 0)
          ∙ ap (λ (i : ℕ). get_or (flat_by f rows ++ (entry_of f (new_record w a b p))) i 0) (omega (arith, length-flat_by f rows))

      at : (x j : ℕ) → x < length w → Dec (x ≡ a) → j < stride_of f * length (rows_at w x (get_or (set ends a b) x 0 - x))
          → get_or new (stride_of f * get_or base x 0 + j) 0 ≡ get_or (flat_by f (rows_at w x (get_or (set ends a b) x 0 - x))) j 0
      at x j h (no z) = rw (get_or-set_other ends a x b 0 z) (other x j h z)
      at x j h (yes z) = rw z (rw (get_or-set_same ends a b 0 (omega arith), rows_new w a b p ends N l, flat_by-append f rows (row ∷ []), append-nil (entry_of f row), length-append rows (row ∷ [])) (λ k. same j k (dec_lt j (stride_of f * length rows))))

      placed : Placed f w base t (set ends a b) new
      placed = record {
        long = length-sets table (stride_of f * get_or next a 0) (entry_of f (new_record w a b p)) ∙ P.long;
        at = λ x j h k. at x j h (ℕ_discrete x a) k;
        rest = λ k h. sets_out table (stride_of f * get_or next a 0) (entry_of f (new_record w a b p)) k (inr (omega (arith, mul-le-mul_left (stride_of f) in_all, length_entry f (new_record w a b p)))) ∙ P.rest k h;
      }

    pub kept_step : Kept f w base t (set ends a b) (set next a (get_or next a 0 + 1)) (sets table (stride_of f * get_or next a 0) (entry_of f (new_record w a b p)))
    kept_step = record { below = λ x h. below x h (ℕ_discrete x a); counted = λ x h. counted x h (ℕ_discrete x a); placed = λ S room. placed S room }

-- ---- steps

pub keeps_none : (f : Listing) (w ends next table : List ℕ) → Keeps f w ends next table ends next table
keeps_none f w ends next table = record { grows = λ a. omega arith; room = λ R. R; kept = λ base t K. K }

pub keeps_then : (f : Listing) (w e n t e' n' t' e'' n'' t'' : List ℕ) → Keeps f w e n t e' n' t' → Keeps f w e' n' t' e'' n'' t'' → Keeps f w e n t e'' n'' t''
keeps_then f w e n t e' n' t' e'' n'' t'' X Y = record {
  grows = λ a. omega (arith, X.grows a, Y.grows a);
  room = λ R. Y.room (X.room R);
  kept = λ base r K. Y.kept base r (X.kept base r K);
}

pub keeps_new : (f : Listing) (w ends next table : List ℕ) (a b p : ℕ) → b ≤ length w → a < b → length w ≤ length ends → length w ≤ length next → New w a b p ends
    → Keeps f w ends next table (set ends a b) (set next a (get_or next a 0 + 1)) (sets table (stride_of f * get_or next a 0) (entry_of f (new_record w a b p)))
keeps_new f w ends next table a b p inside l le ln N = record {
  grows = λ x. grows x (ℕ_discrete x a);
  room = λ R. record { small = λ x h. room R x h (ℕ_discrete x a) };
  kept = λ base t K. kept_step f w base t ends next table a b p inside l le ln N K;
}
  where
    grows : (x : ℕ) → Dec (x ≡ a) → get_or ends x 0 ≤ get_or (set ends a b) x 0
    grows x (yes z) = rw z (rw (get_or-set_same ends a b 0 (omega arith)) (omega (arith, N.later)))
    grows x (no z) = rw (get_or-set_other ends a x b 0 z) (omega arith)

    room : Room w ends next → (x : ℕ) → x < length w → Dec (x ≡ a) → get_or (set next a (get_or next a 0 + 1)) x 0 + (length w - get_or (set ends a b) x 0) < 4294967296
    room R x h (yes z) =
        rw z (rw (get_or-set_same next a (get_or next a 0 + 1) 0 (omega arith), get_or-set_same ends a b 0 (omega arith)) (omega (arith, R.small a (omega arith), N.later)))
    room R x h (no z) = rw (get_or-set_other next a x (get_or next a 0 + 1) 0 z, get_or-set_other ends a x b 0 z) (R.small x h)

-- ---- the start, and the end

rows_nothing : (w : List ℕ) (a d : ℕ) → d ≡ 0 → rows_at w a d ≡ []
unfolding rows_at
rows_nothing w a d e = rw e refl

-- nothing was found
pub kept_start : (f : Listing) (w base t ends : List ℕ) → ((a : ℕ) → a < length w → get_or ends a 0 ≡ 0) → Kept f w base t ends base t
kept_start f w base t ends z = record {
  below = λ a h. omega (arith, z a h);
  counted = λ a h. omega (arith, ap length (none a h));
  placed = λ S room. record { long = refl; at = λ a j h k. absurd (omega (arith, ap (λ (x : List Record). stride_of f * length x) (none a h))); rest = λ k h. refl };
}
  where
    none : (a : ℕ) → a < length w → rows_at w a (get_or ends a 0 - a) ≡ []
    none a h = rows_nothing w a (get_or ends a 0 - a) (omega (arith, z a h))

module _ (f : Listing) (w base t ends next table : List ℕ) (K : Kept f w base t ends next table) (D : Solved w 0 (length w) ends) where
  all_rows : (a : ℕ) → a < length w → rows_at w a (get_or ends a 0 - a) ≡ rows_at w a (length w - a)
  all_rows a h =
      sym (rows_gap w a (get_or ends a 0) (length w - get_or ends a 0) (λ x y z r. omega (arith, D.found a x r (omega arith) (omega (arith, K.below a h)))))
      ∙ ap (rows_at w a) (omega (arith, K.below a h))

  -- CLAIM: the count after each boundary is that of the definition
  pub all_counted : (a : ℕ) → a < length w → get_or next a 0 ≡ get_or base a 0 + length (rows_at w a (length w - a))
  all_counted a h = omega (arith, K.counted a h, ap length (all_rows a h))

  module _ (S : Starts w base) (room : stride_of f * length (runs_of w) ≤ length t) where
    All : Placed f w base t ends table
    All = K.placed S room

    front : (c : ℕ) → c ≤ length w → (k : ℕ) → k < stride_of f * length (rows_before w c) → get_or table k 0 ≡ get_or (flat_by f (rows_before w c)) k 0
    unfolding rows_before
    front zero h k l = absurd (omega arith)
    front (suc c) h k l = go (front c (omega arith) k) (dec_lt k (stride_of f * length (rows_before w c)))
      where
        old : List Record
        old = rows_before w c

        new : List Record
        new = rows_at w c (length w - c)

        go : (k < stride_of f * length old → get_or table k 0 ≡ get_or (flat_by f old) k 0) → Dec (k < stride_of f * length old) → get_or table k 0 ≡ get_or (flat_by f (old ++ new)) k 0
        go ih (yes z) = rw (flat_by-append f old new) (ih z ∙ sym (get_or-append (flat_by f old) (flat_by f new) 0 k (omega (arith, length-flat_by f old))))
        go ih (no z) =
            rw (flat_by-append f old new) (
            ap (λ (i : ℕ). get_or table i 0) (omega (arith, ap (λ (x : ℕ). stride_of f * x) (S.at c (omega arith))))
            ∙ All.at c (k - stride_of f * length old) (omega arith) (omega (arith, ap (λ (x : List Record). stride_of f * length x) (all_rows c (omega arith)), ap (λ (x : ℕ). stride_of f * x) (length-append old new)))
            ∙ ap (λ (x : List Record). get_or (flat_by f x) (k - stride_of f * length old) 0) (all_rows c (omega arith))
            ∙ sym (get_or-append-add (flat_by f old) (flat_by f new) (k - stride_of f * length old) 0)
            ∙ ap (λ (i : ℕ). get_or (flat_by f old ++ flat_by f new) i 0) (omega (arith, length-flat_by f old))
            )

    -- CLAIM: the table is that of the definition
    pub all_placed : table ≡ sets t 0 (flat_by f (runs_of w))
    unfolding runs_of
    all_placed = ext_get_or 0 table (sets t 0 (flat_by f (rows_before w (length w)))) (All.long ∙ sym (length-sets t 0 (flat_by f (rows_before w (length w))))) (λ k h. go k h (dec_lt k (stride_of f * length (rows_before w (length w)))))
      where
        vs : List ℕ
        vs = flat_by f (rows_before w (length w))

        split : sets t 0 vs ≡ vs ++ drop (length vs) t
        split = sets-front t vs (omega (arith, length-flat_by f (rows_before w (length w))))

        go : (k : ℕ) → k < length table → Dec (k < stride_of f * length (rows_before w (length w))) → get_or table k 0 ≡ get_or (sets t 0 vs) k 0
        go k h (yes z) = rw split (front (length w) (omega arith) k z ∙ sym (get_or-append vs (drop (length vs) t) 0 k (omega (arith, length-flat_by f (rows_before w (length w))))))
        go k h (no z) =
            rw split (
            All.rest k (omega arith) ∙ ap (λ (i : ℕ). get_or t i 0) (omega (arith, length-flat_by f (rows_before w (length w))))
            ∙ sym (get_or-drop (length vs) t (k - length vs) 0) ∙ sym (get_or-append-add vs (drop (length vs) t) (k - length vs) 0)
            ∙ ap (λ (i : ℕ). get_or (vs ++ drop (length vs) t) i 0) (omega (arith, length-flat_by f (rows_before w (length w))))
            )
