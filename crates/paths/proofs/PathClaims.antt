-- Path of a split gives the run numbers of the one path that goes with the split (path_means): there is only one run that encloses a block and has its unit, so
-- the first in the table is that run. A place for every two symbols suffices (path_suffice). Assumes nothing.
use mathlib.Core.Path.{◌≡◌, refl, sym, ap, ◌∙◌, subst}
use mathlib.Core.Bool.{Bool, cond, ◌&&◌}
use mathlib.Core.List.{List, [], ◌∷◌, ◌++◌}
use Prim.Native.Nat.{ℕ, zero, suc, ◌+◌, ◌*◌, ◌/◌, ◌≤◌, ◌<◌}
use native.Mathlib.Omega.{arith}
use native.Mathlib.Decide.{dec_lt}
use borrow.Author.Tests.{lt-ltb, le-ltb}
use lib.Dec.{T, leb, ltb, eqb, leb→le, le→leb, eqb→eq, eqb_refl}
use lib.ListN.{length, drop}
use Rattle.laws.proofs.Tests.{and_intro, and_left, and_right}
use Rattle.answers.specs.Outcome.{Outcome, accepted, refused, table_unless}
use Rattle.periods.specs.Period.{part, smallest_period, held_period}
use Rattle.periods.specs.Edition.{turns_of}
use Rattle.periods.proofs.Editions.{two_turns}
use Rattle.runs.specs.Table.{runs_of}
use Rattle.factors.specs.Factorization.{Chain, Factorization, of_blocks}
use Rattle.repetitions.specs.Block.{Block}
use Rattle.paths.specs.Graph.{Node, black, Path, GoTogether, encoding, runs_of_pairs, ends_of_pairs, Segment, Segments}
use Rattle.repetitions.specs.Judge.{split_outcome, SplitMeaning}
use Rattle.paths.specs.Calls.{run_numbers, path_outcome, path_table, PathMeaning, refused_split, too_few, numbered}
use Rattle.runs.specs.Number.{encloses?, first_number, run_number}
use Rattle.paths.proofs.Encodings.{encodes, encoding_ends, block_segment, segment_one_number, segment_period}
use Rattle.repetitions.proofs.Blocks.{edition_half}
use Rattle.repetitions.proofs.JudgeClaims.{split_means, AcceptedSplit, accepted_split}
use Rattle.runs.proofs.Number.{Passes, first_none, first_sound}

-- ---- the number of the run of a block, which has k turns, two at least

module _ (allowed : ℕ → Bool) (k : ℕ) (two : 2 ≤ k) (w : List ℕ) (i j : ℕ) where
  -- a run that encloses a block and has its unit
  enclosing_segment : Block allowed k w i j → (r : ℕ) → Passes (encloses? i j (smallest_period (part w i j))) (runs_of w) r → Segment allowed k w r i j
  enclosing_segment K r P =
      let p = smallest_period (part w i j) in
      let s = P.row in
      let rest = and_right (leb s.first (i + 1)) (leb j s.last && eqb s.period p) P.passed in
      let S = (block_segment allowed k w two i j K).1 in
      let same : S.run.period ≡ s.period = segment_period allowed k w two _ i j S ∙ sym (eqb→eq s.period p (and_right (leb j s.last) (eqb s.period p) rest)) in
      record {
        run = s;
        numbered = P.entry;
        starts = leb→le s.first (i + 1) (and_left (leb s.first (i + 1)) (leb j s.last && eqb s.period p) P.passed);
        ends = leb→le j s.last (and_left (leb j s.last) (eqb s.period p) rest);
        long = subst (λ (q : ℕ). i + k * q ≤ j) same S.long;
        permitted = subst (λ (q : ℕ). T (allowed q)) same S.permitted;
      }

  segment_encloses : (r : ℕ) → Segment allowed k w r i j → Passes (encloses? i j (smallest_period (part w i j))) (runs_of w) r
  segment_encloses r S =
      let p = smallest_period (part w i j) in
      record {
        row = S.run;
        entry = S.numbered;
        passed =
            and_intro (leb S.run.first (i + 1)) (leb j S.run.last && eqb S.run.period p) (le→leb S.run.first (i + 1) S.starts)
            (and_intro (leb j S.run.last) (eqb S.run.period p) (le→leb j S.run.last S.ends)
            (subst (λ (x : ℕ). T (eqb S.run.period x)) (segment_period allowed k w two r i j S) (eqb_refl S.run.period)));
      }

  -- CLAIM: the number is that of the one run that encloses the block and has its unit
  pub run_number_segment : Block allowed k w i j → Segment allowed k w (run_number w i j) i j
  unfolding run_number
  run_number_segment K = go (first_number (encloses? i j (smallest_period (part w i j))) (runs_of w)) refl
    where
      go : (m : ℕ) → first_number (encloses? i j (smallest_period (part w i j))) (runs_of w) ≡ m → Segment allowed k w m i j
      go zero e =
          let s = block_segment allowed k w two i j K in
          absurd (first_none (encloses? i j (smallest_period (part w i j))) (runs_of w) e s.0 (segment_encloses s.0 s.1))
      go (suc m) e = enclosing_segment K (suc m) (first_sound (encloses? i j (smallest_period (part w i j))) (runs_of w) m e)

  pub run_number_unique : Block allowed k w i j → (r : ℕ) → Segment allowed k w r i j → run_number w i j ≡ r
  run_number_unique K r S = segment_one_number allowed k w two (run_number w i j) r i j (run_number_segment K) S

-- the run numbers and the ends, one after the other
pairs : List ℕ → List ℕ → List ℕ
pairs [] es = []
pairs (r ∷ rs) [] = []
pairs (r ∷ rs) (e ∷ es) = r ∷ e ∷ pairs rs es

-- those of a factorization encode a path
numbers_segments : (allowed : ℕ → Bool) (k : ℕ) → 2 ≤ k → (w : List ℕ) (es : List ℕ) (i : ℕ) → Chain (Block allowed k w) i es (length w)
    → Segments allowed k w i (pairs (run_numbers w i es) es) (length w) × (runs_of_pairs (pairs (run_numbers w i es) es) ≡ run_numbers w i es) × (ends_of_pairs (pairs (run_numbers w i es) es) ≡ es)
unfolding pairs of_blocks
numbers_segments allowed k two w [] i h = (h, refl, refl)
numbers_segments allowed k two w (e ∷ es) i h =
    let r = numbers_segments allowed k two w es e h.1 in
    ((run_number_segment allowed k two w i e h.0, r.0), ap (λ (x : List ℕ). run_number w i e ∷ x) r.1, ap (λ (x : List ℕ). e ∷ x) r.2)

-- CLAIM: the run numbers are those of the one path that goes with the split
pub numbers_path : (allowed : ℕ → Bool) (k : ℕ) → 2 ≤ k → (w ends : List ℕ) → Factorization (Block allowed k w) (length w) ends
    → (xs : List Node) × Path allowed k w (length w) xs × GoTogether xs ends × (runs_of_pairs (encoding (black 0) xs) ≡ run_numbers w 0 ends)
numbers_path allowed k two w ends h =
    let s = numbers_segments allowed k two w ends 0 h in
    let p = encodes allowed k w (length w) (pairs (run_numbers w 0 ends) ends) s.0 in
    (p.0, p.1, sym (encoding_ends (black 0) p.0) ∙ ap ends_of_pairs p.2 ∙ s.2, ap runs_of_pairs p.2 ∙ s.1)

-- ---- path of a split

path_refused : (w : List ℕ) (edition : ℕ) (ends t : List ℕ) (x i : ℕ) → split_outcome w edition ends ≡ refused x i → (refused x i ≡ path_outcome w edition ends (length t)) × (t ≡ path_table w edition ends t)
unfolding path_outcome path_table
path_refused w edition ends t x i e = (rw e refl, rw e refl)

path_accepts : (w : List ℕ) (edition : ℕ) (ends t : List ℕ) (v : List ℕ) → split_outcome w edition ends ≡ accepted v
    → (cond (ltb (length t) (length ends)) (refused 7 0) (accepted (length ends ∷ [])) ≡ path_outcome w edition ends (length t))
    × (table_unless (cond (ltb (length t) (length ends)) (refused 7 0) (accepted (length ends ∷ []))) t (run_numbers w 0 ends ++ drop (length ends) t) ≡ path_table w edition ends t)
unfolding path_outcome path_table
path_accepts w edition ends t v e = (rw e refl, rw e refl)

-- what the call promises
pub record PathPromised (w : List ℕ) (edition : ℕ) (ends t : List ℕ) (o : Outcome) (u : List ℕ) : Type 0 where
  pub answer : o ≡ path_outcome w edition ends (length t)
  pub table : u ≡ path_table w edition ends t

module _ (w : List ℕ) (edition : ℕ) (ends t : List ℕ) where
  pub path_promised_refused : (x i : ℕ) → refused x i ≡ split_outcome w edition ends → PathPromised w edition ends t (refused x i) t
  path_promised_refused x i e = let p = path_refused w edition ends t x i (sym e) in record { answer = p.0; table = p.1 }

  pub path_promised_few : (v : List ℕ) → accepted v ≡ split_outcome w edition ends → length t < length ends → PathPromised w edition ends t (refused 7 0) t
  path_promised_few v e h = let p = path_accepts w edition ends t v (sym e) in record { answer = rw (lt-ltb (length t) (length ends) h) at p.0; table = rw (lt-ltb (length t) (length ends) h) at p.1 }

  pub path_promised_numbered : (v : List ℕ) → accepted v ≡ split_outcome w edition ends → length ends ≤ length t
      → PathPromised w edition ends t (accepted (length ends ∷ [])) (run_numbers w 0 ends ++ drop (length ends) t)
  path_promised_numbered v e h = let p = path_accepts w edition ends t v (sym e) in record { answer = rw (le-ltb (length t) (length ends) h) at p.0; table = rw (le-ltb (length t) (length ends) h) at p.1 }

  -- CLAIM: path of a split says what the documents ask
  pub path_means : PathMeaning w edition ends t (path_outcome w edition ends (length t)) (path_table w edition ends t)
  path_means = go (split_outcome w edition ends) refl
    where
      by : {o : Outcome} {u : List ℕ} → PathPromised w edition ends t o u → PathMeaning w edition ends t o u → PathMeaning w edition ends t (path_outcome w edition ends (length t)) (path_table w edition ends t)
      by P M = rw (← P.answer, ← P.table) M

      go : (o : Outcome) → o ≡ split_outcome w edition ends → PathMeaning w edition ends t (path_outcome w edition ends (length t)) (path_table w edition ends t)
      go (refused x i) e = by (path_promised_refused x i e) (refused_split x i (subst (SplitMeaning w edition ends) (sym e) (split_means w edition ends)) refl refl)
      go (accepted v) e = room (dec_lt (length t) (length ends)) (accepted_split w edition ends v e)
        where
          room : Dec (length t < length ends) → AcceptedSplit w edition ends v
              → PathMeaning w edition ends t (path_outcome w edition ends (length t)) (path_table w edition ends t)
          room (yes h) A = by (path_promised_few v e h) (too_few A.0 A.2 A.3 h refl refl)
          room (no h) A =
              let p = numbers_path held_period (turns_of edition) (two_turns edition) w ends A.3 in
              by (path_promised_numbered v e (omega arith))
              (numbered A.0 A.2 A.3 (omega arith) p.0 p.1 p.2 refl (ap (λ (x : List ℕ). x ++ drop (length ends) t) (sym p.3)))

  pub path_answered : (o : Outcome) (u : List ℕ) → PathPromised w edition ends t o u → (o ≡ path_outcome w edition ends (length t)) × ((u ≡ path_table w edition ends t) × PathMeaning w edition ends t o u)
  path_answered o u P = (P.answer, (P.table, rw (P.answer, P.table) path_means))

  -- CLAIM: with n/2 places path of a split answers just what the judge does, so that 7 never comes
  pub path_suffice : length w / 2 ≤ length t → path_outcome w edition ends (length t) ≡ split_outcome w edition ends
  path_suffice h = go (split_outcome w edition ends) refl
    where
      go : (o : Outcome) → o ≡ split_outcome w edition ends → path_outcome w edition ends (length t) ≡ split_outcome w edition ends
      go (refused x i) e = sym (path_promised_refused x i e).answer ∙ e
      go (accepted v) e =
          let A = accepted_split w edition ends v e in
          sym (path_promised_numbered v e (omega (arith, edition_half edition w (length w) ends A.3))).answer ∙ ap accepted (sym A.1) ∙ e
