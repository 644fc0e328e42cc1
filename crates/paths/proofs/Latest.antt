-- The run that encloses a piece of two turns or more and has its unit is the last run with that unit that starts at or before the piece (`latest_run`): a later
-- one would share a unit's length with it at least, and two runs of one period that do so are one. So the number of a block's run, and whether a piece lies in
-- the run with a number, can be told from that last run alone. By induction on the records for the last that passes a test. Assumes nothing.
use mathlib.Core.Path.{◌≡◌, refl, sym, ap, ◌∙◌, subst}
use mathlib.Core.Logic.{◌↔◌}
use mathlib.Core.Bool.{Bool, true, false, cond, ◌&&◌}
use mathlib.Core.List.{List, [], ◌∷◌, ◌++◌}
use Prim.Native.Nat.{ℕ, zero, suc, ◌+◌, ◌-◌, ◌*◌, ◌≤◌}
use native.Mathlib.Omega.{arith}
use native.Mathlib.Nat.{mul-le-mul_right}
use lib.Dec.{T, leb, eqb, leb→le, le→leb, eqb→eq, eqb_refl, eqb-suc-zero}
use lib.ListN.{length}
use Rattle.laws.proofs.Tests.{and_intro, and_left, and_right, same_tests}
use Rattle.periods.specs.Period.{part, smallest_period, Repetition, repetition?}
use Rattle.periods.proofs.InPlace.{symbol}
use Rattle.runs.specs.declared.Record.{Record}
use Rattle.runs.specs.Run.{Entry}
use Rattle.runs.specs.Table.{runs_of}
use Rattle.runs.specs.Number.{run_number}
use Rattle.runs.proofs.InPlace.{RunIn, run_in, run_unique}
use Rattle.runs.proofs.Entries.{no_entry, entry_bounds, sorted_first, entry_same}
use Rattle.runs.proofs.Listed.{runs_listed}
use Rattle.runs.proofs.Number.{Passes}
use Rattle.factorizer.proofs.Pieces.{piece_sound, piece_complete}
use Rattle.factorizer.proofs.Rules.{repetition_decides}
use Rattle.repetitions.specs.Block.{Block, block?}
use Rattle.paths.specs.Graph.{Segment}
use Rattle.paths.specs.LookUp.{entry_of, last_number, starts_by, latest_number}
use Rattle.paths.specs.Calls.{in_run?}
use Rattle.paths.proofs.Encodings.{segment_period, segment_block, block_segment}
use Rattle.paths.proofs.PathClaims.{run_number_segment}
use Rattle.paths.proofs.PathJudgeClaims.{segment_decides}

-- ---- the number of the last record that passes a test

next_suc : (i a : ℕ) → cond (eqb (suc i) 0) a (suc (suc i)) ≡ suc (suc i)
next_suc i a = rw (eqb-suc-zero i) refl

module _ (t : Record → Bool) where
  pub last_none : last_number t [] ≡ 0
  unfolding last_number
  last_none = refl

  -- one more record
  pub last_more : (rs : List Record) (r : Record) → last_number t (rs ++ (r ∷ [])) ≡ cond (t r) (suc (length rs)) (last_number t rs)
  unfolding last_number
  last_more [] r = refl
  last_more (x ∷ xs) r = go (t r) (last_number t (xs ++ (r ∷ []))) (last_more xs r)
    where
      go : (b : Bool) (m : ℕ) → m ≡ cond b (suc (length xs)) (last_number t xs)
          → cond (eqb m 0) (cond (t x) 1 0) (suc m)
          ≡ cond b (suc (suc (length xs))) (cond (eqb (last_number t xs) 0) (cond (t x) 1 0) (suc (last_number t xs)))
      go true m e = rw e (next_suc (length xs) (cond (t x) 1 0))
      go false m e = rw e refl

  -- CLAIM: the number is that of a record that passes
  pub last_sound : (rows : List Record) (i : ℕ) → last_number t rows ≡ suc i → Passes t rows (suc i)
  unfolding last_number
  last_sound [] i e = absurd (omega arith)
  last_sound (r ∷ rs) i e = go (last_number t rs) (λ j. last_sound rs j) (t r) refl e
    where
      go : (m : ℕ) → ((j : ℕ) → m ≡ suc j → Passes t rs (suc j)) → (b : Bool) → t r ≡ b → cond (eqb m 0) (cond b 1 0) (suc m) ≡ suc i → Passes t (r ∷ rs) (suc i)
      go zero h true f x = let y : i ≡ 0 = omega arith in rw y record { row = r; entry = refl; passed = subst T (sym f) tt }
      go zero h false f x = absurd (omega arith)
      go (suc m) h b f x =
          let y : i ≡ suc m = omega (arith, next_suc m (cond b 1 0)) in
          rw y (let P = h m refl in record { row = P.row; entry = P.entry; passed = P.passed })

  -- CLAIM: no record after it passes
  pub last_at_least : (rows : List Record) (i : ℕ) → Passes t rows i → i ≤ last_number t rows
  unfolding last_number
  last_at_least [] i P = absurd (no_entry i P.row P.entry)
  last_at_least (r ∷ rs) i P = go i (λ j. last_at_least rs j) (last_number t rs) refl P.row P.entry P.passed
    where
      first : (m : ℕ) (b : Bool) → T b → 1 ≤ cond (eqb m 0) (cond b 1 0) (suc m)
      first zero true h = omega arith
      first zero false h = absurd h
      first (suc m) b h = omega (arith, next_suc m (cond b 1 0))

      later : (i m : ℕ) → suc i ≤ m → suc (suc i) ≤ cond (eqb m 0) (cond (t r) 1 0) (suc m)
      later i zero h = absurd (omega arith)
      later i (suc m) h = omega (arith, next_suc m (cond (t r) 1 0))

      go : (i : ℕ) → ((j : ℕ) → Passes t rs j → j ≤ last_number t rs) → (m : ℕ) → last_number t rs ≡ m → (s : Record) → Entry (r ∷ rs) i s → T (t s)
          → i ≤ cond (eqb m 0) (cond (t r) 1 0) (suc m)
      go zero ih m e s E p = absurd E
      go (suc zero) ih m e s E p = first m (t r) (subst (λ (y : Record). T (t y)) (sym E) p)
      go (suc (suc i)) ih m e s E p = later i m (omega (arith, e, ih (suc i) record { row = s; entry = E; passed = p }))

-- ---- the last run with the unit of a piece that starts at or before it

module _ (allowed : ℕ → Bool) (k : ℕ) (two : 2 ≤ k) (w : List ℕ) (r i j : ℕ) (S : Segment allowed k w r i j) where
  abbrev unit : ℕ
  unit = smallest_period (part w i j)

  -- the run in its place
  enclosing : RunIn (symbol w) (length w) (S.run.first - 1) S.run.last unit
  enclosing =
      subst (λ (p : ℕ). RunIn (symbol w) (length w) (S.run.first - 1) S.run.last p) (segment_period allowed k w two r i j S)
      (run_in w S.run.first S.run.last S.run.period ((runs_listed w).sound r S.run S.numbered))

  long : i + 2 * unit ≤ j
  long =
      omega (arith, mul-le-mul_right unit two, subst (λ (p : ℕ). i + k * p ≤ j) (segment_period allowed k w two r i j S) S.long)

  passes : Passes (starts_by unit i) (runs_of w) r
  passes = record {
    row = S.run;
    entry = S.numbered;
    passed =
        and_intro (leb S.run.first (i + 1)) (eqb S.run.period unit) (le→leb S.run.first (i + 1) S.starts)
        (subst (λ (p : ℕ). T (eqb S.run.period p)) (segment_period allowed k w two r i j S) (eqb_refl S.run.period));
  }

  -- another that passes, and comes no earlier in the table, is the same
  latest_same : (m : ℕ) → r ≤ m → Passes (starts_by unit i) (runs_of w) m → m ≡ r
  latest_same m h P =
      let q = P.row in
      let e : q.period ≡ unit = eqb→eq q.period unit (and_right (leb q.first (i + 1)) (eqb q.period unit) P.passed) in
      let s : q.first ≤ i + 1 = leb→le q.first (i + 1) (and_left (leb q.first (i + 1)) (eqb q.period unit) P.passed) in
      let f : S.run.first ≤ q.first = sorted_first (runs_of w) (runs_listed w).sorted r m S.run q S.numbered P.entry h in
      let Q = (runs_listed w).sound m q P.entry in
      let R : RunIn (symbol w) (length w) (q.first - 1) q.last unit = subst (λ (p : ℕ). RunIn (symbol w) (length w) (q.first - 1) q.last p) e (run_in w q.first q.last q.period Q) in
      let u = run_unique (symbol w) (length w) (S.run.first - 1) S.run.last (q.first - 1) q.last (q.first - 1) (q.first - 1 + unit) unit enclosing R
      (omega arith) (omega (arith, long, S.ends, Q.starts)) (omega arith) (omega (arith, R.twice)) (omega arith) in
      entry_same (runs_of w) (runs_listed w).sorted m r q S.run P.entry S.numbered
      (omega (arith, u.0, Q.starts, ((runs_listed w).sound r S.run S.numbered).starts)) (e ∙ sym (segment_period allowed k w two r i j S))

  -- CLAIM: the run that a piece of two turns or more lies in, with its unit, is the last run with that unit that starts at or before it
  pub latest_run : latest_number w unit i ≡ r
  unfolding latest_number
  latest_run = go (last_number (starts_by unit i) (runs_of w)) refl
    where
      least : r ≤ last_number (starts_by unit i) (runs_of w)
      least = last_at_least (starts_by unit i) (runs_of w) r passes

      go : (m : ℕ) → last_number (starts_by unit i) (runs_of w) ≡ m → m ≡ r
      go zero e = absurd (omega (arith, least, e, entry_bounds (runs_of w) r S.run S.numbered))
      go (suc m) e = latest_same (suc m) (omega (arith, least, e)) (last_sound (starts_by unit i) (runs_of w) m e)

-- CLAIM: so it has the number of a block's run
pub block_latest : (allowed : ℕ → Bool) (w : List ℕ) (i j p : ℕ) → Block allowed 2 w i j → p ≡ smallest_period (part w i j) → latest_number w p i ≡ run_number w i j
block_latest allowed w i j p K e =
    ap (λ (q : ℕ). latest_number w q i) e ∙ latest_run allowed 2 (omega arith) w (run_number w i j) i j (run_number_segment allowed 2 (omega arith) w i j K)

-- ---- whether a piece lies in the run with a number

-- CLAIM: a piece lies in the run with a number, and is long enough for it, exactly when it is a block and that run is the last with its unit that starts at or
-- before it
pub in_run_latest : (allowed : ℕ → Bool) (k : ℕ) → 2 ≤ k → (w : List ℕ) (r i j : ℕ)
    → in_run? allowed k (entry_of (runs_of w) r) i j ≡ (block? allowed k w i j && eqb (latest_number w (smallest_period (part w i j)) i) r)
in_run_latest allowed k two w r i j = same_tests (in_run? allowed k (entry_of (runs_of w) r) i j) (block && same) (λ h. there (D.0 h)) (λ h. D.1 (back h))
  where
    block : Bool
    block = block? allowed k w i j

    same : Bool
    same = eqb (latest_number w (smallest_period (part w i j)) i) r

    D : T (in_run? allowed k (entry_of (runs_of w) r) i j) ↔ Segment allowed k w r i j
    D = segment_decides allowed k w r i j

    there : Segment allowed k w r i j → T (block && same)
    there S =
        and_intro block same (piece_complete (Repetition allowed k) (repetition? allowed k) (repetition_decides allowed k) w i j (segment_block allowed k w two r i j S))
        (subst (λ (m : ℕ). T (eqb m r)) (sym (latest_run allowed k two w r i j S)) (eqb_refl r))

    back : T (block && same) → Segment allowed k w r i j
    back h =
        let s = block_segment allowed k w two i j (piece_sound (Repetition allowed k) (repetition? allowed k) (repetition_decides allowed k) w i j (and_left block same h)) in
        subst (λ (m : ℕ). Segment allowed k w m i j)
        (sym (latest_run allowed k two w s.0 i j s.1) ∙ eqb→eq (latest_number w (smallest_period (part w i j)) i) r (and_right block same h)) s.1
