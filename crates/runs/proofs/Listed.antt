-- The table of runs has exactly the runs, each with its root, sorted by first and then by period: `runs_listed`. The test for a run decides it in its place; of
-- the runs after one boundary, one that ends later has a greater period, since the smallest periods of prefixes never fall and a run is determined by its first
-- and its period. Assumes nothing.
use mathlib.Core.Path.{◌≡◌, refl, sym, ap, ◌∙◌, subst, subst₂}
use mathlib.Core.Logic.{◌⊎◌, inl, inr, ◌≢◌}
use mathlib.Core.Bool.{Bool, true, false, not, cond, ◌&&◌}
use mathlib.Core.List.{List, [], ◌∷◌, ◌++◌}
use Prim.Native.Nat.{ℕ, zero, suc, ◌+◌, ◌-◌, ◌≤◌, ◌<◌}
use native.Mathlib.Omega.{arith}
use native.Mathlib.Decide.{dec_lt, ℕ_discrete}
use lib.Dec.{T, eqb, eqb→eq, eqb_refl, T_not, not_T}
use lib.ListN.{length}
use Rattle.laws.proofs.Tests.{and_intro, and_left, and_right, or_cases, or_left, or_right}
use Rattle.periods.specs.Period.{part, smallest_period, repetition?, any_period}
use Rattle.periods.proofs.InPlace.{symbol, placed_part, period_piece}
use Rattle.periods.proofs.Claims.{smallest_period_is, smallest_period_unique, repetition_sound, repetition_complete, part_smallest, part_smallest_unique}
use Rattle.runs.specs.declared.Record.{Record}
use Rattle.runs.specs.Run.{Run, Root, Entry, Before, Sorted, Lists}
use Rattle.runs.specs.Table.{left?, right?, run?, root_of, record_of, run_between, rows_at, rows_before, runs_of}
use Rattle.runs.proofs.InPlace.{RunIn, run_in, run_out, run_unique}
use Rattle.runs.proofs.RootClaims.{root_computed}
use Rattle.runs.proofs.Entries.{entry_left, entry_right, entry_cases, sorted_append}

-- ---- the test

differ : (x y : ℕ) → x ≢ y → T (not (eqb x y))
differ x y h = not_T (eqb x y) (λ t. h (eqb→eq x y t))

differs : (x y : ℕ) → T (not (eqb x y)) → x ≢ y
differs x y t e = T_not (eqb x y) t (subst (λ (z : ℕ). T (eqb x z)) e (eqb_refl x))

left_sound : (w : List ℕ) (a p i : ℕ) → T (left? w a p) → suc i ≡ a → symbol w i ≢ symbol w (i + p)
left_sound w zero p i t e = absurd (omega arith)
left_sound w (suc a) p i t e = let z : i ≡ a = omega arith in rw z (differs (symbol w a) (symbol w (a + p)) t)

left_complete : (w : List ℕ) (a p : ℕ) → ((i : ℕ) → suc i ≡ a → symbol w i ≢ symbol w (i + p)) → T (left? w a p)
left_complete w zero p h = tt
left_complete w (suc a) p h = differ (symbol w a) (symbol w (a + p)) (h a refl)

right_sound : (w : List ℕ) (b p : ℕ) → T (right? w b p) → b < length w → symbol w b ≢ symbol w (b - p)
right_sound w b p t l = go (or_cases (eqb b (length w)) (not (eqb (symbol w b) (symbol w (b - p)))) t)
  where
    go : T (eqb b (length w)) ⊎ T (not (eqb (symbol w b) (symbol w (b - p)))) → symbol w b ≢ symbol w (b - p)
    go (inl e) = absurd (omega (arith, eqb→eq b (length w) e))
    go (inr h) = differs (symbol w b) (symbol w (b - p)) h

right_complete : (w : List ℕ) (b p : ℕ) → b ≤ length w → (b < length w → symbol w b ≢ symbol w (b - p)) → T (right? w b p)
right_complete w b p l h = go (dec_lt b (length w))
  where
    go : Dec (b < length w) → T (right? w b p)
    go (yes z) = or_right (eqb b (length w)) (not (eqb (symbol w b) (symbol w (b - p)))) (differ (symbol w b) (symbol w (b - p)) (h z))
    go (no z) =
        let e : length w ≡ b = omega arith in
        or_left (eqb b (length w)) (not (eqb (symbol w b) (symbol w (b - p)))) (subst (λ (x : ℕ). T (eqb b x)) (sym e) (eqb_refl b))

module _ (w : List ℕ) (a b : ℕ) (l : b ≤ length w) where
  pub run_sound : T (run? w a b) → RunIn (symbol w) (length w) a b (smallest_period (part w a b))
  unfolding run?
  run_sound t =
      let p = smallest_period (part w a b) in
      let R = repetition_sound any_period 2 (part w a b) (and_left (repetition? any_period 2 (part w a b)) (left? w a p && right? w b p) t) in
      let u = and_right (repetition? any_period 2 (part w a b)) (left? w a p && right? w b p) t in
      let n = (placed_part w a b l).long in
      let e : R.period ≡ p = sym (smallest_period_unique (part w a b) R.period R.smallest) in
      record {
        smallest = part_smallest w a b l (omega (arith, R.smallest.period.positive, R.smallest.period.fits));
        twice = omega (arith, R.long, R.smallest.period.positive);
        within = l;
        left = λ i z. left_sound w a p i (and_left (left? w a p) (right? w b p) u) z;
        right = right_sound w b p (and_right (left? w a p) (right? w b p) u);
      }

  pub run_complete : (p : ℕ) → RunIn (symbol w) (length w) a b p → (p ≡ smallest_period (part w a b)) × T (run? w a b)
  unfolding run?
  run_complete p R = (
    e,
    and_intro (repetition? any_period 2 (part w a b)) (left? w a q && right? w b q)
        (repetition_complete any_period 2 (part w a b) record {
          period = q;
          smallest = smallest_period_is (part w a b) (omega (arith, n, R.smallest.period.positive, R.smallest.period.fits));
          long = omega (arith, n, e, R.twice);
          permitted = tt;
        })
        (and_intro (left? w a q) (right? w b q)
        (left_complete w a q (subst (λ (x : ℕ). (i : ℕ) → suc i ≡ a → symbol w i ≢ symbol w (i + x)) e R.left))
        (right_complete w b q l (subst (λ (x : ℕ). b < length w → symbol w b ≢ symbol w (b - x)) e R.right))),
  )
    where
      q : ℕ
      q = smallest_period (part w a b)

      e : p ≡ q
      e = sym (part_smallest_unique w a b l p R.smallest)

      n : length (part w a b) ≡ b - a
      n = (placed_part w a b l).long

-- the same where the period is known
pub run_tested : (w : List ℕ) (a b p : ℕ) → b ≤ length w → p ≡ smallest_period (part w a b) → run? w a b ≡ true → RunIn (symbol w) (length w) a b p
run_tested w a b p l e t = rw e (run_sound w a b l (subst T (sym t) tt))

-- ---- the records

-- r is the record of the run between the boundaries a and b
pub record IsRow (w : List ℕ) (a b : ℕ) (r : Record) : Type 0 where
  pub test : T (run? w a b)
  pub is : r ≡ record_of w a b

between_sound : (w : List ℕ) (a b i : ℕ) (r : Record) → Entry (run_between w a b) i r → IsRow w a b r
unfolding run_between
between_sound w a b i r h = go (run? w a b) refl i h
  where
    go : (t : Bool) → run? w a b ≡ t → (i : ℕ) → Entry (cond t (record_of w a b ∷ []) []) i r → IsRow w a b r
    go t e zero h = absurd h
    go true e (suc zero) h = record { test = subst T (sym e) tt; is = sym h }
    go true e (suc (suc i)) h = absurd h
    go false e (suc i) h = absurd h

between_complete : (w : List ℕ) (a b : ℕ) → T (run? w a b) → Entry (run_between w a b) 1 (record_of w a b)
unfolding run_between
between_complete w a b t = go (run? w a b) t
  where
    go : (u : Bool) → T u → Entry (cond u (record_of w a b ∷ []) []) 1 (record_of w a b)
    go true t = refl
    go false t = absurd t

between_sorted : (w : List ℕ) (a b : ℕ) → Sorted (run_between w a b)
unfolding run_between
between_sorted w a b = go (run? w a b)
  where
    go : (u : Bool) → Sorted (cond u (record_of w a b ∷ []) [])
    go true = (λ i r h. none i r h, tt)
      where
        none : (i : ℕ) (r : Record) → Entry [] i r → Before (record_of w a b) r
        none zero r h = absurd h
        none (suc i) r h = absurd h
    go false = tt

-- an entry among the runs after boundary a
pub record RowAt (w : List ℕ) (a d : ℕ) (r : Record) : Type 0 where
  pub end : ℕ
  pub after : a < end
  pub upto : end ≤ a + d
  pub row : IsRow w a end r

pub at_sound : (w : List ℕ) (a d i : ℕ) (r : Record) → Entry (rows_at w a d) i r → RowAt w a d r
unfolding rows_at
at_sound w a zero zero r h = absurd h
at_sound w a zero (suc i) r h = absurd h
at_sound w a (suc d) i r h = go (at_sound w a d) (entry_cases (rows_at w a d) (run_between w a (a + suc d)) i r h)
  where
    go : ((i : ℕ) (r : Record) → Entry (rows_at w a d) i r → RowAt w a d r)
        → Entry (rows_at w a d) i r ⊎ ((j : ℕ) × (i ≡ length (rows_at w a d) + j) × Entry (run_between w a (a + suc d)) j r) → RowAt w a (suc d) r
    go ih (inl k) = let X = ih i r k in record { end = X.end; after = X.after; upto = omega (arith, X.upto); row = X.row }
    go ih (inr (j, e, k)) = record { end = a + suc d; after = omega arith; upto = omega arith; row = between_sound w a (a + suc d) j r k }

pub at_complete : (w : List ℕ) (a d b : ℕ) → a < b → b ≤ a + d → T (run? w a b) → (i : ℕ) × Entry (rows_at w a d) i (record_of w a b)
unfolding rows_at
at_complete w a zero b x y t = absurd (omega arith)
at_complete w a (suc d) b x y t = go (λ z. at_complete w a d b x z t) (ℕ_discrete b (a + suc d))
  where
    go : (b ≤ a + d → (i : ℕ) × Entry (rows_at w a d) i (record_of w a b)) → Dec (b ≡ a + suc d) → (i : ℕ) × Entry (rows_at w a d ++ run_between w a (a + suc d)) i (record_of w a b)
    go ih (yes e) = (
      length (rows_at w a d) + 1,
      entry_right (rows_at w a d) (run_between w a (a + suc d)) 1 (record_of w a b)
          (subst (λ (x : ℕ). Entry (run_between w a x) 1 (record_of w a b)) e (between_complete w a b t)),
    )
    go ih (no e) = let k = ih (omega arith) in (k.0, entry_left (rows_at w a d) (run_between w a (a + suc d)) k.0 (record_of w a b) k.1)

-- of two runs after one boundary, the one that ends later has the greater period
later_greater : (w : List ℕ) (a b c : ℕ) → b < c → c ≤ length w → T (run? w a b) → T (run? w a c) → smallest_period (part w a b) < smallest_period (part w a c)
later_greater w a b c l m t u = go (dec_lt (smallest_period (part w a b)) (smallest_period (part w a c)))
  where
    B : RunIn (symbol w) (length w) a b (smallest_period (part w a b))
    B = run_sound w a b (omega arith) t

    C : RunIn (symbol w) (length w) a c (smallest_period (part w a c))
    C = run_sound w a c m u

    not_above : smallest_period (part w a c) ≤ b - a → smallest_period (part w a b) ≤ smallest_period (part w a c)
    not_above h =
        B.smallest.least (smallest_period (part w a c))
        (period_piece (symbol w) C.smallest.period (omega arith) (omega arith) (omega (arith, B.smallest.period.fits, B.smallest.period.positive)))

    same : smallest_period (part w a b) ≡ smallest_period (part w a c) → ⊥
    same e =
        omega (
          arith,
          (run_unique (symbol w) (length w) a b a c a b (smallest_period (part w a b)) B
              (subst (λ (x : ℕ). RunIn (symbol w) (length w) a c x) (sym e) C) (omega arith) (omega arith) (omega arith) (omega arith) B.smallest.period.fits).1,
        )

    go : Dec (smallest_period (part w a b) < smallest_period (part w a c)) → smallest_period (part w a b) < smallest_period (part w a c)
    go (yes h) = h
    go (no h) = absurd (same (omega (arith, not_above (omega (arith, B.smallest.period.fits, B.smallest.period.positive)))))

at_sorted : (w : List ℕ) (a d : ℕ) → a + d ≤ length w → Sorted (rows_at w a d)
unfolding rows_at
at_sorted w a zero h = tt
at_sorted w a (suc d) h =
    sorted_append (rows_at w a d) (run_between w a (a + suc d)) (at_sorted w a d (omega arith)) (between_sorted w a (a + suc d)) across
  where
    across : (i j : ℕ) (r s : Record) → Entry (rows_at w a d) i r → Entry (run_between w a (a + suc d)) j s → Before r s
    across i j r s x y =
        let X = at_sound w a d i r x in
        let Y = between_sound w a (a + suc d) j s y in
        inr (
          ap (λ (z : Record). z.first) X.row.is ∙ sym (ap (λ (z : Record). z.first) Y.is),
          omega (arith, ap (λ (z : Record). z.period) X.row.is, ap (λ (z : Record). z.period) Y.is, later_greater w a X.end (a + suc d) (omega (arith, X.upto)) h X.row.test Y.test),
        )

-- an entry among the runs after the boundaries below a
pub record RowBefore (w : List ℕ) (a : ℕ) (r : Record) : Type 0 where
  pub start : ℕ
  pub below : start < a
  pub at : RowAt w start (length w - start) r

pub before_sound : (w : List ℕ) (a i : ℕ) (r : Record) → Entry (rows_before w a) i r → RowBefore w a r
unfolding rows_before
before_sound w zero zero r h = absurd h
before_sound w zero (suc i) r h = absurd h
before_sound w (suc a) i r h = go (before_sound w a) (entry_cases (rows_before w a) (rows_at w a (length w - a)) i r h)
  where
    go : ((i : ℕ) (r : Record) → Entry (rows_before w a) i r → RowBefore w a r)
        → Entry (rows_before w a) i r ⊎ ((j : ℕ) × (i ≡ length (rows_before w a) + j) × Entry (rows_at w a (length w - a)) j r) → RowBefore w (suc a) r
    go ih (inl k) = let X = ih i r k in record { start = X.start; below = omega (arith, X.below); at = X.at }
    go ih (inr (j, e, k)) = record { start = a; below = omega arith; at = at_sound w a (length w - a) j r k }

before_complete : (w : List ℕ) (a start b : ℕ) → start < a → start < b → b ≤ length w → T (run? w start b) → (i : ℕ) × Entry (rows_before w a) i (record_of w start b)
unfolding rows_before
before_complete w zero start b x y z t = absurd (omega arith)
before_complete w (suc a) start b x y z t = go (λ l. before_complete w a start b l y z t) (ℕ_discrete start a)
  where
    go : (start < a → (i : ℕ) × Entry (rows_before w a) i (record_of w start b)) → Dec (start ≡ a) → (i : ℕ) × Entry (rows_before w a ++ rows_at w a (length w - a)) i (record_of w start b)
    go ih (yes e) =
        let k = at_complete w start (length w - start) b y (omega arith) t in (
          length (rows_before w a) + k.0,
          entry_right (rows_before w a) (rows_at w a (length w - a)) k.0 (record_of w start b) (subst (λ (x : ℕ). Entry (rows_at w x (length w - x)) k.0 (record_of w start b)) e k.1),
        )
    go ih (no e) = let k = ih (omega arith) in (k.0, entry_left (rows_before w a) (rows_at w a (length w - a)) k.0 (record_of w start b) k.1)

before_sorted : (w : List ℕ) (a : ℕ) → a ≤ length w → Sorted (rows_before w a)
unfolding rows_before
before_sorted w zero h = tt
before_sorted w (suc a) h =
    sorted_append (rows_before w a) (rows_at w a (length w - a)) (before_sorted w a (omega arith)) (at_sorted w a (length w - a) (omega arith)) across
  where
    across : (i j : ℕ) (r s : Record) → Entry (rows_before w a) i r → Entry (rows_at w a (length w - a)) j s → Before r s
    across i j r s x y =
        let X = before_sound w a i r x in
        let Y = at_sound w a (length w - a) j s y in
        inl (omega (arith, ap (λ (z : Record). z.first) X.at.row.is, ap (λ (z : Record). z.first) Y.row.is, X.below))

-- CLAIM: the table of runs has exactly the runs of the word, each with its root, sorted by first and then by period
pub runs_listed : (w : List ℕ) → Lists w (runs_of w)
unfolding runs_of
runs_listed w = record { sorted = before_sorted w (length w) (omega arith); sound = sound; rooted = rooted; complete = complete }
  where
    -- the run of an entry, in its place
    placed : (r : Record) (X : RowBefore w (length w) r) → RunIn (symbol w) (length w) X.start X.at.end (smallest_period (part w X.start X.at.end))
    placed r X = run_sound w X.start X.at.end (omega (arith, X.at.upto, X.below)) X.at.row.test

    sound : (i : ℕ) (r : Record) → Entry (rows_before w (length w)) i r → Run w r.first r.last r.period
    sound i r h =
        let X = before_sound w (length w) i r h in
        subst (λ (x : Record). Run w x.first x.last x.period) (sym X.at.row.is)
        (run_out w X.start X.at.end (smallest_period (part w X.start X.at.end)) (placed r X))

    rooted : (i : ℕ) (r : Record) → Entry (rows_before w (length w)) i r → Root w r.first r.period r.root
    rooted i r h =
        let X = before_sound w (length w) i r h in
        subst (λ (x : Record). Root w x.first x.period x.root) (sym X.at.row.is)
        (root_computed w X.start X.at.end (smallest_period (part w X.start X.at.end)) (placed r X).smallest (placed r X).twice)

    complete : (first last p : ℕ) → Run w first last p
        → (i : ℕ) × (q : ℕ) × Entry (rows_before w (length w)) i record { first = first; last = last; period = p; root = q }
    complete first last p R =
        let I = run_in w first last p R in
        let C = run_complete w (first - 1) last R.ends p I in
        let k = before_complete w (length w) (first - 1) last
        (omega (arith, I.twice, I.smallest.period.positive, R.ends)) (omega (arith, I.twice, I.smallest.period.positive)) R.ends C.1 in
        let q = root_of w (first - 1) (smallest_period (part w (first - 1) last)) in (
          k.0,
          q,
          subst₂ (λ (f u : ℕ). Entry (rows_before w (length w)) k.0 record { first = f; last = last; period = u; root = q })
              (omega (arith, R.starts)) (sym C.0) k.1,
        )
