-- Judge a path accepts exactly the encodings of the paths of the word's length: the test of a piece decides whether it is a segment of the run with the given
-- number (segment_decides), an accepted proposal is a list of segments and so the encoding of a path (proofs/Encodings.antt), and the verdict says what the
-- first fault is (factors/proofs/VerdictClaims.antt). Assumes nothing.
use mathlib.Core.Path.{◌≡◌, refl, sym, ap, ◌∙◌, subst}
use mathlib.Core.Logic.{◌↔◌}
use mathlib.Core.Bool.{Bool, true, false, ◌&&◌}
use mathlib.Core.List.{List, [], ◌∷◌}
use Prim.Native.Nat.{ℕ, zero, suc, ◌+◌, ◌-◌, ◌*◌, ◌/◌, ◌%◌, ◌≤◌, ◌<◌}
use native.Mathlib.Omega.{arith}
use native.Mathlib.Decide.{dec_lt, dec_le, ℕ_discrete}
use borrow.Author.Tests.{lt-ltb, le-ltb, eq-eqb, ne_eqb}
use lib.Dec.{T, leb, leb→le, le→leb}
use lib.ListN.{length, get_or}
use Rattle.laws.proofs.Tests.{T_true, and_intro, and_left, and_right}
use Rattle.answers.proofs.Claims.{refused_accepted}
use Rattle.answers.specs.Outcome.{Outcome, accepted, refused, limit}
use Rattle.periods.specs.Period.{held_period}
use Rattle.periods.specs.Edition.{Edition, turns_of}
use Rattle.periods.proofs.Editions.{two_turns, test_of_edition, test_of_no_edition, edition?}
use Rattle.runs.specs.declared.Record.{Record}
use Rattle.runs.specs.Table.{runs_of}
use Rattle.paths.specs.LookUp.{entry_of}
use Rattle.paths.proofs.LookUps.{entry_first, entry_of_lem}
use Rattle.factors.specs.Verdict.{verdict, verdict_from}
use Rattle.factors.proofs.VerdictClaims.{verdict_means, verdict_low, verdict_high, verdict_block, verdict_no_block, verdict_finished, verdict_unfinished}
use Rattle.paths.specs.Graph.{Node, black, Path, encoding, runs_of_pairs, ends_of_pairs, Segment, Segments}
use Rattle.paths.specs.Calls.{in_run?, number_given, segment?, path_judged_outcome, PathJudged, PathJudgedMeaning, too_long, bad_edition, odd, judged}
use Rattle.repetitions.proofs.Blocks.{block_up}
use Rattle.paths.proofs.Encodings.{encoded, encodes, segment_within, segment_block}

-- ---- a run number and an end for each block

pub length-ends_of_pairs : (ns : List ℕ) → length (ends_of_pairs ns) ≡ length ns / 2
length-ends_of_pairs [] = refl
length-ends_of_pairs (r ∷ []) = refl
length-ends_of_pairs (r ∷ e ∷ ns) = omega (arith, length-ends_of_pairs ns)

pub run_given : (ns : List ℕ) (k : ℕ) → k + k + 1 < length ns → get_or (runs_of_pairs ns) k 0 ≡ get_or ns (k + k) 0
run_given [] k h = absurd (omega arith)
run_given (r ∷ []) k h = absurd (omega arith)
run_given (r ∷ e ∷ ns) zero h = refl
run_given (r ∷ e ∷ ns) (suc k) h = let f : suc k + suc k ≡ suc (suc (k + k)) = omega arith in rw f (run_given ns k (omega arith))

pub end_given : (ns : List ℕ) (k : ℕ) → k + k + 1 < length ns → get_or (ends_of_pairs ns) k 0 ≡ get_or ns (k + k + 1) 0
end_given [] k h = absurd (omega arith)
end_given (r ∷ []) k h = absurd (omega arith)
end_given (r ∷ e ∷ ns) zero h = refl
end_given (r ∷ e ∷ ns) (suc k) h = let f : suc k + suc k + 1 ≡ suc (suc (k + k + 1)) = omega arith in rw f (end_given ns k (omega arith))

-- ---- the test of a piece

module _ (allowed : ℕ → Bool) (k : ℕ) (w : List ℕ) (r i j : ℕ) where
  in_run_sound : (rows : List Record) → entry_of (runs_of w) r ≡ rows → T (in_run? allowed k rows i j) → Segment allowed k w r i j
  in_run_sound [] e h = absurd h
  in_run_sound (s ∷ rest) e h =
      let c = leb (i + k * s.period) j && allowed s.period in
      let b = leb j s.last && c in
      let hb = and_right (leb s.first (i + 1)) b h in
      let hc = and_right (leb j s.last) c hb in
      record {
        run = s;
        numbered = entry_first (runs_of w) r s rest e;
        starts = leb→le s.first (i + 1) (and_left (leb s.first (i + 1)) b h);
        ends = leb→le j s.last (and_left (leb j s.last) c hb);
        long = leb→le (i + k * s.period) j (and_left (leb (i + k * s.period) j) (allowed s.period) hc);
        permitted = and_right (leb (i + k * s.period) j) (allowed s.period) hc;
      }

  in_run_complete : Segment allowed k w r i j → T (in_run? allowed k (entry_of (runs_of w) r) i j)
  in_run_complete S =
      let s = S.run in
      let c = leb (i + k * s.period) j && allowed s.period in
      subst (λ (rows : List Record). T (in_run? allowed k rows i j)) (sym ((entry_of_lem (runs_of w) r s).1 S.numbered))
      (and_intro (leb s.first (i + 1)) (leb j s.last && c) (le→leb s.first (i + 1) S.starts)
      (and_intro (leb j s.last) c (le→leb j s.last S.ends)
      (and_intro (leb (i + k * s.period) j) (allowed s.period) (le→leb (i + k * s.period) j S.long) S.permitted)))

  -- CLAIM: the test decides whether the piece is a segment of the run with the number
  pub segment_decides : T (in_run? allowed k (entry_of (runs_of w) r) i j) ↔ Segment allowed k w r i j
  segment_decides = (in_run_sound (entry_of (runs_of w) r) refl, in_run_complete)

-- the test of block number k + 1, from the run number that is given for it
pub segment_given : (allowed : ℕ → Bool) (turns : ℕ) (w ns : List ℕ) (k i j : ℕ) → k + k + 1 < length ns
    → segment? allowed turns w ns (suc k) i j ≡ in_run? allowed turns (entry_of (runs_of w) (get_or ns (k + k) 0)) i j
segment_given allowed turns w ns k i j h =
    let f : suc k - 1 ≡ k = omega arith in
    ap (λ (m : ℕ). in_run? allowed turns (entry_of (runs_of w) m) i j) (ap (λ (m : ℕ). get_or (runs_of_pairs ns) m 0) f ∙ run_given ns k h)

-- ---- accepted exactly when the numbers are segments

module _ (allowed : ℕ → Bool) (turns : ℕ) (two : 2 ≤ turns) (w : List ℕ) (t : ℕ → ℕ → ℕ → Bool) where
  -- from block number k + 1 on the test goes by the run numbers of ns
  abbrev Agrees : ℕ → List ℕ → Type 0
  Agrees k ns = (m i j : ℕ) → (T (t (suc (k + m)) i j) ↔ Segment allowed turns w (get_or (runs_of_pairs ns) m 0) i j)

  agrees_first : (k r e : ℕ) (ns : List ℕ) → Agrees k (r ∷ e ∷ ns) → (i j : ℕ) → (T (t (suc k) i j) ↔ Segment allowed turns w r i j)
  agrees_first k r e ns A i j =
      let z : k + 0 ≡ k = omega arith in
      subst (λ (m : ℕ). T (t (suc m) i j) ↔ Segment allowed turns w r i j) z (A 0 i j)

  agrees_rest : (k r e : ℕ) (ns : List ℕ) → Agrees k (r ∷ e ∷ ns) → Agrees (suc k) ns
  agrees_rest k r e ns A m i j =
      let z : k + suc m ≡ suc k + m = omega arith in
      subst (λ (x : ℕ). T (t (suc x) i j) ↔ Segment allowed turns w (get_or (runs_of_pairs ns) m 0) i j) z (A (suc m) i j)

  accepted_segments : (ns : List ℕ) (k i : ℕ) (v : List ℕ) → length ns % 2 ≡ 0 → Agrees k ns → verdict_from t (length w) k i (ends_of_pairs ns) ≡ accepted v
      → Segments allowed turns w i ns (length w)
  accepted_segments [] k i v q A h = go (ℕ_discrete i (length w))
    where
      go : Dec (i ≡ length w) → i ≡ length w
      go (yes z) = z
      go (no z) = absurd (refused_accepted _ 5 0 v (verdict_unfinished t (length w) k i z) h)
  accepted_segments (r ∷ []) k i v q A h = absurd (omega arith)
  accepted_segments (r ∷ e ∷ ns) k i v q A h =
      go (λ g. accepted_segments ns (suc k) e v (omega arith) (agrees_rest k r e ns A) g) (dec_lt i e) (dec_le e (length w)) (t (suc k) i e) refl
    where
      es : List ℕ
      es = ends_of_pairs ns

      go : (verdict_from t (length w) (suc k) e es ≡ accepted v → Segments allowed turns w e ns (length w)) → Dec (i < e) → Dec (e ≤ length w)
          → (b : Bool) → t (suc k) i e ≡ b → Segment allowed turns w r i e × Segments allowed turns w e ns (length w)
      go ih (no a) d b z = absurd (refused_accepted _ 3 (suc k) v (verdict_low t (length w) k i e es (omega arith)) h)
      go ih (yes a) (no d) b z = absurd (refused_accepted _ 3 (suc k) v (verdict_high t (length w) k i e es (omega arith)) h)
      go ih (yes a) (yes d) false z = absurd (refused_accepted _ 4 (suc k) v (verdict_no_block t (length w) k i e es a d z) h)
      go ih (yes a) (yes d) true z =
          ((agrees_first k r e ns A i e).0 (subst T (sym z) tt), ih (sym (verdict_block t (length w) k i e es a d z) ∙ h))

  segments_accepted : (ns : List ℕ) (k i : ℕ) → Agrees k ns → Segments allowed turns w i ns (length w)
      → verdict_from t (length w) k i (ends_of_pairs ns) ≡ accepted ((k + length (ends_of_pairs ns)) ∷ [])
  segments_accepted [] k i A s = verdict_finished t (length w) k i s ∙ ap (λ (x : ℕ). accepted (x ∷ [])) (omega arith)
  segments_accepted (r ∷ []) k i A s = absurd s
  segments_accepted (r ∷ e ∷ ns) k i A s =
      verdict_block t (length w) k i e (ends_of_pairs ns) (block_up allowed turns w i e (segment_block allowed turns w two r i e s.0))
      (segment_within allowed turns w r i e s.0) (T_true (t (suc k) i e) ((agrees_first k r e ns A i e).1 s.0))
      ∙ segments_accepted ns (suc k) e (agrees_rest k r e ns A) s.1 ∙ ap (λ (x : ℕ). accepted (x ∷ [])) (omega arith)

module _ (allowed : ℕ → Bool) (turns : ℕ) (w ns : List ℕ) where
  pub decides : (m i j : ℕ) → (T (segment? allowed turns w ns m i j) ↔ Segment allowed turns w (number_given ns m) i j)
  decides m i j = segment_decides allowed turns w (number_given ns m) i j

  agrees : (two : 2 ≤ turns) → Agrees allowed turns two w (segment? allowed turns w ns) 0 ns
  agrees two m i j =
      let z : suc (0 + m) - 1 ≡ m = omega arith in
      subst (λ (x : ℕ). T (segment? allowed turns w ns (suc (0 + m)) i j) ↔ Segment allowed turns w (get_or (runs_of_pairs ns) x 0) i j) z (decides (suc (0 + m)) i j)

  -- CLAIM: accepted with the number of blocks, exactly when the numbers encode a path of the word's length
  pub path_accepted : 2 ≤ turns → length ns % 2 ≡ 0
      → ((verdict (segment? allowed turns w ns) (length w) (ends_of_pairs ns) ≡ accepted (length ns / 2 ∷ []))
      ↔ ((xs : List Node) × Path allowed turns w (length w) xs × (encoding (black 0) xs ≡ ns)))
  unfolding verdict
  path_accepted two q = (
    (λ h. encodes allowed turns w (length w) ns (accepted_segments allowed turns two w (segment? allowed turns w ns) ns 0 0 (length ns / 2 ∷ []) q (agrees two) h)),
    (λ p.
        segments_accepted allowed turns two w (segment? allowed turns w ns) ns 0 0 (agrees two)
        (subst (λ (ms : List ℕ). Segments allowed turns w 0 ms (length w)) p.2 (encoded allowed turns w (length w) p.0 p.1))
        ∙ ap (λ (x : ℕ). accepted (x ∷ [])) (omega (arith, length-ends_of_pairs ns))),
  )

module _ (w : List ℕ) (edition : ℕ) (ns : List ℕ) where
  pub path_too_long : limit < length w → refused 1 0 ≡ path_judged_outcome w edition ns
  unfolding path_judged_outcome
  path_too_long h = simp (lt-ltb limit (length w) h)

  pub path_bad_edition : length w ≤ limit → (Edition edition → ⊥) → refused 12 0 ≡ path_judged_outcome w edition ns
  unfolding path_judged_outcome
  path_bad_edition h i = simp (le-ltb limit (length w) h, test_of_no_edition edition i)

  pub path_odd : length w ≤ limit → Edition edition → length ns % 2 ≡ 1 → refused 10 0 ≡ path_judged_outcome w edition ns
  unfolding path_judged_outcome
  path_odd h i q = simp (le-ltb limit (length w) h, test_of_edition edition i, eq-eqb (length ns % 2) 1 q)

  pub path_judged : length w ≤ limit → Edition edition → (length ns % 2 ≡ 1 → ⊥)
      → verdict (segment? held_period (turns_of edition) w ns) (length w) (ends_of_pairs ns) ≡ path_judged_outcome w edition ns
  unfolding path_judged_outcome
  path_judged h i q = simp (le-ltb limit (length w) h, test_of_edition edition i, ne_eqb (length ns % 2) 1 q)

  -- CLAIM: judge a path says what the documents ask
  pub path_judged_means : PathJudgedMeaning w edition ns (path_judged_outcome w edition ns)
  path_judged_means = go (dec_lt limit (length w)) (edition? edition) (ℕ_discrete (length ns % 2) 1)
    where
      k : ℕ
      k = turns_of edition

      go : Dec (limit < length w) → Dec (Edition edition) → Dec (length ns % 2 ≡ 1) → PathJudgedMeaning w edition ns (path_judged_outcome w edition ns)
      go (yes h) i d = too_long h (sym (path_too_long h))
      go (no h) (no i) d = bad_edition (omega arith) i (sym (path_bad_edition (omega arith) i))
      go (no h) (yes i) (yes q) = odd (omega arith) i q (sym (path_odd (omega arith) i q))
      go (no h) (yes i) (no q) =
          judged (omega arith) i (omega arith)
          (subst (PathJudged k w ns) (path_judged (omega arith) i q)
          record {
            verdict_on = verdict_means (segment? held_period k w ns) (λ m i j. Segment held_period k w (number_given ns m) i j) (λ m i j. (decides held_period k w ns m i j).0) (λ m i j. (decides held_period k w ns m i j).1) (length w) (ends_of_pairs ns);
            accepts = path_accepted held_period k w ns (two_turns edition) (omega arith);
          })

  pub path_judged_answered : (o : Outcome) → o ≡ path_judged_outcome w edition ns → (o ≡ path_judged_outcome w edition ns) × PathJudgedMeaning w edition ns o
  path_judged_answered o e = (e, subst (PathJudgedMeaning w edition ns) (sym e) path_judged_means)
