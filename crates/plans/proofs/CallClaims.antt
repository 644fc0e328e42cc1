-- What the two calls answer and write means what the documents say, for every input (write_means, read_means); 11 is answered exactly when the bytes are no line
-- (read_eleven); what was written is read back (round_trip); and an answer of the reader is determined by its numbers. By the order of the tests in the
-- definitions, and the claims of a line. Assumes nothing.
use mathlib.Core.Path.{◌≡◌, refl, sym, ap, ap₂, ◌∙◌, subst}
use mathlib.Core.Logic.{◌↔◌}
use mathlib.Core.Bool.{Bool, true, false, cond}
use mathlib.Core.List.{List, [], ◌∷◌, ◌++◌}
use Prim.Native.Nat.{ℕ, ◌+◌, ◌≤◌, ◌<◌}
use native.Mathlib.Omega.{arith}
use native.Mathlib.Decide.{dec_lt}
use borrow.Author.Tests.{lt-ltb, le-ltb}
use lib.Dec.{T, ltb, ltb→lt}
use lib.ListN.{length, drop}
use Rattle.laws.proofs.Tests.{T_true}
use Rattle.std.specs.Prelude.{Result, Ok, Err}
use Rattle.answers.specs.declared.Refusal.{Refusal}
use Rattle.answers.specs.declared.Refusal.TheVariants.{TooFewPlaces, NotPlan}
use Rattle.answers.specs.Outcome.{Outcome, accepted, refused, refusal, counted_view, limit, unless_refused, table_unless}
use Rattle.answers.proofs.Claims.{refused_accepted, refusal_injective}
use Rattle.factors.specs.Factorization.{Chain}
use Rattle.factors.specs.Verdict.{verdict, VerdictMeaning, bad_end, no_block, unfinished, fine}
use Rattle.factors.proofs.VerdictClaims.{verdict_means, accepted_iff, accepted_length}
use Rattle.plans.specs.declared.Plan.{Plan}
use Rattle.plan_lines.specs.Line.{width_of, line_limit, needs_long, greatest, plan_line, Small, IsLineOf, IsLine, long?, line?, number_at, place_of_length, place_of_count, ends_in}
use Rattle.plans.specs.Calls.{any_piece, AnyPiece, plausible, write_outcome, write_table, limit_of, read_outcome_as, read_table_as, read_outcome, read_table, plan_view, WriteMeaning, ReadMeaning}
use Rattle.plans.proofs.Judged.{judge_too_long, judge_verdict}
use Rattle.plan_lines.proofs.LineClaims.{line_numbers, line_is_line, line_read, kind_is}

-- ---- n and ends that are not refused

-- an end after another, at most n
abbrev Up : ℕ → ℕ → ℕ → Type 0
Up n i j = (i < j) × (j ≤ n) × Unit {0}

chain_small : (d n : ℕ) (ends : List ℕ) (i : ℕ) → n ≤ greatest d → Chain (Up n) i ends n → Small d ends
chain_small d n [] i h c = tt
chain_small d n (e ∷ es) i h c = (omega (arith, c.0.1), chain_small d n es e h c.1)

chain_length : (n : ℕ) (ends : List ℕ) (i : ℕ) → Chain (Up n) i ends n → i + length ends ≤ n
chain_length n [] i c = omega arith
chain_length n (e ∷ es) i c = omega (arith, c.0.0, chain_length n es e c.1)

-- n has at most the digits of the kind of its line
kind_fits : (n : ℕ) → n ≤ limit → n ≤ greatest (width_of (needs_long n))
kind_fits n h = go (dec_lt line_limit n)
  where
    go : Dec (line_limit < n) → n ≤ greatest (width_of (needs_long n))
    go (yes l) = subst (λ (b : Bool). n ≤ greatest (width_of b)) (sym (lt-ltb line_limit n l)) (omega arith)
    go (no l) = subst (λ (b : Bool). n ≤ greatest (width_of b)) (sym (le-ltb line_limit n (omega arith))) (omega arith)

module _ (most n : ℕ) (ends : List ℕ) where
  pub plausible_low : (v : List ℕ) → plausible most n ends ≡ accepted v → n ≤ most
  plausible_low v e = go (dec_lt most n)
    where
      go : Dec (most < n) → n ≤ most
      go (yes h) = absurd (refused_accepted (plausible most n ends) 1 0 v (judge_too_long most n ends h) e)
      go (no h) = omega arith

  plausible-verdict : (v : List ℕ) → plausible most n ends ≡ accepted v → verdict any_piece n ends ≡ accepted v
  plausible-verdict v e = sym (judge_verdict most n ends (plausible_low v e)) ∙ e

  -- they are answered with the number of ends
  pub plausible_count : (v : List ℕ) → plausible most n ends ≡ accepted v → v ≡ length ends ∷ []
  plausible_count v e = accepted_length (λ i j. true) (λ i j. Unit {0}) (λ i j t. tt) (λ i j t. tt) n ends v (plausible-verdict v e)

  plausible_chain : (v : List ℕ) → plausible most n ends ≡ accepted v → Chain (Up n) 0 ends n
  plausible_chain v e =
      (accepted_iff (λ i j. true) (λ i j. Unit {0}) (λ i j t. tt) (λ i j t. tt) n ends).0 (plausible-verdict v e ∙ ap accepted (plausible_count v e))

  -- there are at most n ends
  pub plausible-length : (v : List ℕ) → plausible most n ends ≡ accepted v → length ends ≤ n
  plausible-length v e = omega (arith, chain_length n ends 0 (plausible_chain v e))

  -- what the verdict on them means
  pub plausible_means : n ≤ most → VerdictMeaning AnyPiece n ends (plausible most n ends)
  plausible_means h =
      subst (VerdictMeaning AnyPiece n ends) (sym (judge_verdict most n ends h)) (verdict_means any_piece AnyPiece (λ k i j x. tt) (λ k i j x. tt) n ends)

  -- what a judge that counts the ends says
  pub judge_counts : (r : Result ℕ Refusal) (x : ℕ) → counted_view r ≡ plausible most n ends → r ≡ Ok x → (plausible most n ends ≡ accepted (x ∷ [])) × (x ≡ length ends)
  judge_counts r x e f =
      let p : plausible most n ends ≡ accepted (x ∷ []) = sym e ∙ ap counted_view f in
      let c : x ∷ [] ≡ length ends ∷ [] = plausible_count (x ∷ []) p in
      (p, cc)

  pub judge_refuses : (r : Result ℕ Refusal) (f : Refusal) → counted_view r ≡ plausible most n ends → r ≡ Err f → plausible most n ends ≡ refusal f
  judge_refuses r f e g = sym e ∙ ap counted_view g

-- ---- writing

module _ (n : ℕ) (ends : List ℕ) where
  -- so their line has numbers with the digits of its kind only
  pub plausible-line : (v : List ℕ) → plausible limit n ends ≡ accepted v → IsLineOf (needs_long n) (plan_line n ends) n ends
  plausible-line v e =
      let fits : n ≤ greatest (width_of (needs_long n)) = kind_fits n (plausible_low limit n ends v e) in
      record {
        small_length = fits;
        small_count = omega (arith, fits, plausible-length limit n ends v e);
        small_ends = chain_small (width_of (needs_long n)) n ends 0 fits (plausible_chain limit n ends v e);
        needed = λ y. ltb→lt line_limit n (subst T (sym y) tt);
        is = refl;
      }

  module _ (t : List ℕ) where
    -- what the call answers and what it leaves, by the tests
    abbrev Written : Outcome → List ℕ → Type 0
    Written o u = (o ≡ write_outcome n ends (length t)) × (u ≡ write_table n ends t)

    -- where nothing was refused before, the bytes that are lent decide
    abbrev by_bytes : Outcome
    by_bytes = cond (ltb (length t) (length (plan_line n ends))) (refusal TooFewPlaces) (accepted (length (plan_line n ends) ∷ []))

    write_by : (o p : Outcome) → plausible limit n ends ≡ p → unless_refused p by_bytes ≡ o
        → Written o (table_unless o t (plan_line n ends ++ drop (length (plan_line n ends)) t))
    unfolding write_outcome write_table
    write_by o p e f =
        let w : write_outcome n ends (length t) ≡ o = ap (λ (x : Outcome). unless_refused x by_bytes) e ∙ f in
        (sym w, ap (λ (x : Outcome). table_unless x t (plan_line n ends ++ drop (length (plan_line n ends)) t)) (sym w))

    pub write_refused : (x i : ℕ) → plausible limit n ends ≡ refused x i → (refused x i ≡ write_outcome n ends (length t)) × (t ≡ write_table n ends t)
    write_refused x i e = write_by (refused x i) (refused x i) e refl

    pub write_too_few : (v : List ℕ) → plausible limit n ends ≡ accepted v → length t < length (plan_line n ends) → (refused 7 0 ≡ write_outcome n ends (length t)) × (t ≡ write_table n ends t)
    write_too_few v e h = write_by (refused 7 0) (accepted v) e (simp (lt-ltb (length t) (length (plan_line n ends)) h))

    pub write_written : (v : List ℕ) → plausible limit n ends ≡ accepted v → length (plan_line n ends) ≤ length t
        → (accepted (length (plan_line n ends) ∷ []) ≡ write_outcome n ends (length t)) × (plan_line n ends ++ drop (length (plan_line n ends)) t ≡ write_table n ends t)
    write_written v e h = write_by (accepted (length (plan_line n ends) ∷ [])) (accepted v) e (simp (le-ltb (length t) (length (plan_line n ends)) h))

    -- CLAIM: what the writer answers and writes means what document 01 says
    pub write_means : WriteMeaning n ends t (write_outcome n ends (length t)) (write_table n ends t)
    write_means = go (dec_lt limit n)
      where
        by : n ≤ limit → (o : Outcome) → plausible limit n ends ≡ o → VerdictMeaning AnyPiece n ends o → Dec (length t < length (plan_line n ends)) → WriteMeaning n ends t (write_outcome n ends (length t)) (write_table n ends t)
        by h (refused x i) e M d = let w = write_refused x i e in WriteMeaning.implausible h x i M (sym w.0) (sym w.1)
        by h (accepted v) e M (yes d) =
            let w = write_too_few v e d in
            WriteMeaning.too_few h (subst (λ (x : List ℕ). VerdictMeaning AnyPiece n ends (accepted x)) (plausible_count limit n ends v e) M) d (sym w.0) (sym w.1)
        by h (accepted v) e M (no d) =
            let w = write_written v e (omega arith) in
            WriteMeaning.written h (subst (λ (x : List ℕ). VerdictMeaning AnyPiece n ends (accepted x)) (plausible_count limit n ends v e) M) (plausible-line v e) (omega arith) (sym w.0) (sym w.1)

        go : Dec (limit < n) → WriteMeaning n ends t (write_outcome n ends (length t)) (write_table n ends t)
        go (yes h) = let w = write_refused 1 0 (judge_too_long limit n ends h) in WriteMeaning.too_long h (sym w.0) (sym w.1)
        go (no h) = by (omega arith) (plausible limit n ends) refl (plausible_means limit n ends (omega arith)) (dec_lt (length t) (length (plan_line n ends)))

    -- the answer and the bytes with their meaning
    pub write_answered : (o : Outcome) (u : List ℕ) → o ≡ write_outcome n ends (length t) → u ≡ write_table n ends t
        → record { answer : o ≡ write_outcome n ends (length t); written : u ≡ write_table n ends t; meaning : WriteMeaning n ends t o u }
    write_answered o u e f = record {
      answer = e;
      written = f;
      meaning = subst (λ (x : Outcome). WriteMeaning n ends t x u) (sym e) (subst (WriteMeaning n ends t (write_outcome n ends (length t))) (sym f) write_means);
    }

-- ---- reading

module _ (long : Bool) (s t : List ℕ) where
  -- n and the ends, read off their places
  abbrev number : ℕ
  number = number_at (width_of long) s place_of_length

  abbrev ends : List ℕ
  ends = ends_in (width_of long) s (number_at (width_of long) s (place_of_count (width_of long)))

  -- where nothing was refused before, the places that are lent decide
  abbrev by_places : Outcome
  by_places = cond (ltb (length t) (length ends)) (refusal TooFewPlaces) (accepted (number ∷ length ends ∷ []))

  read_by : (o : Outcome) → read_outcome_as long s (length t) ≡ o → (o ≡ read_outcome_as long s (length t)) × (table_unless o t (ends ++ drop (length ends) t) ≡ read_table_as long s t)
  unfolding read_table_as
  read_by o w = (sym w, ap (λ (x : Outcome). table_unless x t (ends ++ drop (length ends) t)) (sym w))

  read_line : T (line? long s) → (p : Outcome) → plausible (limit_of long) number ends ≡ p → read_outcome_as long s (length t) ≡ unless_refused p by_places
  unfolding read_outcome_as
  read_line l p e = ap₂ (λ (b : Bool) (x : Outcome). cond b (unless_refused x by_places) (refusal NotPlan)) (T_true (line? long s) l) e

  pub read_no_line : line? long s ≡ false → (refused 11 0 ≡ read_outcome_as long s (length t)) × (t ≡ read_table_as long s t)
  unfolding read_outcome_as
  read_no_line e = read_by (refused 11 0) (ap (λ (b : Bool). cond b (unless_refused (plausible (limit_of long) number ends) by_places) (refusal NotPlan)) e)

  pub read_refused : T (line? long s) → (x i : ℕ) → plausible (limit_of long) number ends ≡ refused x i → (refused x i ≡ read_outcome_as long s (length t)) × (t ≡ read_table_as long s t)
  read_refused l x i e = read_by (refused x i) (read_line l (refused x i) e)

  pub read_too_few : T (line? long s) → (v : List ℕ) → plausible (limit_of long) number ends ≡ accepted v → length t < length ends → (refused 7 0 ≡ read_outcome_as long s (length t)) × (t ≡ read_table_as long s t)
  read_too_few l v e h = read_by (refused 7 0) (read_line l (accepted v) e ∙ simp (lt-ltb (length t) (length ends) h))

  pub read_plan : T (line? long s) → (v : List ℕ) → plausible (limit_of long) number ends ≡ accepted v → length ends ≤ length t
      → (accepted (number ∷ length ends ∷ []) ≡ read_outcome_as long s (length t)) × (ends ++ drop (length ends) t ≡ read_table_as long s t)
  read_plan l v e h = read_by (accepted (number ∷ length ends ∷ [])) (read_line l (accepted v) e ∙ simp (le-ltb (length t) (length ends) h))

  -- bytes read as a line of the kind that they begin as
  read_means_as : long? s ≡ long → ReadMeaning s t (read_outcome_as long s (length t)) (read_table_as long s t)
  read_means_as k = go (line? long s) refl
    where
      by : IsLineOf long s number ends → T (line? long s) → number ≤ limit_of long → (o : Outcome) → plausible (limit_of long) number ends ≡ o → VerdictMeaning AnyPiece number ends o → Dec (length t < length ends)
          → ReadMeaning s t (read_outcome_as long s (length t)) (read_table_as long s t)
      by L l h (refused x i) e M d = let w = read_refused l x i e in ReadMeaning.implausible long number ends L h x i M (sym w.0) (sym w.1)
      by L l h (accepted v) e M (yes d) =
          let w = read_too_few l v e d in
          ReadMeaning.too_few long number ends L h (subst (λ (x : List ℕ). VerdictMeaning AnyPiece number ends (accepted x)) (plausible_count (limit_of long) number ends v e) M) d (sym w.0) (sym w.1)
      by L l h (accepted v) e M (no d) =
          let w = read_plan l v e (omega arith) in
          ReadMeaning.plan long number ends L h (subst (λ (x : List ℕ). VerdictMeaning AnyPiece number ends (accepted x)) (plausible_count (limit_of long) number ends v e) M) (omega arith) (sym w.0) (sym w.1)

      line : IsLineOf long s number ends → T (line? long s) → Dec (limit_of long < number) → ReadMeaning s t (read_outcome_as long s (length t)) (read_table_as long s t)
      line L l (yes h) = let w = read_refused l 1 0 (judge_too_long (limit_of long) number ends h) in ReadMeaning.too_long long number ends L h (sym w.0) (sym w.1)
      line L l (no h) =
          by L l (omega arith) (plausible (limit_of long) number ends) refl
          (plausible_means (limit_of long) number ends (omega arith))
          (dec_lt (length t) (length ends))

      other : (n : ℕ) (es : List ℕ) → IsLine s n es → line? long s ≡ false → ⊥
      other n es (b, L) e = subst T (ap (λ (x : Bool). line? x s) (sym (kind_is b s n es L) ∙ k) ∙ e) (line_is_line b s n es L)

      go : (b : Bool) → line? long s ≡ b → ReadMeaning s t (read_outcome_as long s (length t)) (read_table_as long s t)
      go false e = let w = read_no_line e in ReadMeaning.no_line (λ n es L. other n es L e) (sym w.0) (sym w.1)
      go true e = let l : T (line? long s) = subst T (sym e) tt in line (line_read long s l) l (dec_lt (limit_of long) number)

  -- what was answered and left for the kind, with its meaning
  pub read_answered : (o : Outcome) (u : List ℕ) → long ≡ long? s → o ≡ read_outcome_as long s (length t) → u ≡ read_table_as long s t
      → record { answer : o ≡ read_outcome s (length t); written : u ≡ read_table s t; meaning : ReadMeaning s t o u }
  read_answered o u k e f = record {
    answer = e ∙ ap (λ (b : Bool). read_outcome_as b s (length t)) k;
    written = f ∙ ap (λ (b : Bool). read_table_as b s t) k;
    meaning = subst (λ (x : Outcome). ReadMeaning s t x u) (sym e) (subst (ReadMeaning s t (read_outcome_as long s (length t))) (sym f) (read_means_as (sym k)));
  }

-- CLAIM: what the reader answers and writes means what the documents say
pub read_means : (s t : List ℕ) → ReadMeaning s t (read_outcome s (length t)) (read_table s t)
read_means s t = read_means_as (long? s) s t refl

-- ---- both

-- CLAIM: a line is judged as its n and ends are for writing, up to the greatest n of its kind: "Read a plan: 11; then as for writing."
pub read_as_writing : (long : Bool) (s : List ℕ) (n : ℕ) (ends : List ℕ) (places : ℕ) → IsLineOf long s n ends
    → read_outcome s places ≡ unless_refused (plausible (limit_of long) n ends) (cond (ltb places (length ends)) (refusal TooFewPlaces) (accepted (n ∷ length ends ∷ [])))
unfolding read_outcome_as
read_as_writing long s n ends places L =
    let d : ℕ = width_of long in
    let a = line_numbers long s n ends L in
    let judged : ℕ → List ℕ → Outcome = λ x l. unless_refused (plausible (limit_of long) x l) (cond (ltb places (length l)) (refusal TooFewPlaces) (accepted (x ∷ length l ∷ []))) in
    ap (λ (b : Bool). read_outcome_as b s places) (kind_is long s n ends L)
    ∙ ap (λ (b : Bool). cond b (judged (number_at d s place_of_length) (ends_in d s (number_at d s (place_of_count d)))) (refusal NotPlan)) (T_true (line? long s) (line_is_line long s n ends L))
    ∙ ap₂ judged a.0 a.2

-- the number that an outcome returns, 0 where it is no refusal
abbrev number_of : Outcome → ℕ
number_of (accepted v) = 0
number_of (refused x i) = x

verdict_number : (n : ℕ) (ends : List ℕ) (o : Outcome) → VerdictMeaning AnyPiece n ends o → number_of o ≤ 5
verdict_number n ends o (bad_end k a b F r e) = omega (arith, ap number_of e)
verdict_number n ends o (no_block k a b F r x e) = omega (arith, ap number_of e)
verdict_number n ends o (unfinished F z e) = omega (arith, ap number_of e)
verdict_number n ends o (fine F z e) = omega (arith, ap number_of e)

plausible_number : (most n : ℕ) (ends : List ℕ) → number_of (plausible most n ends) ≤ 5
plausible_number most n ends = go (dec_lt most n)
  where
    go : Dec (most < n) → number_of (plausible most n ends) ≤ 5
    go (yes h) = omega (arith, ap number_of (judge_too_long most n ends h))
    go (no h) = verdict_number n ends (plausible most n ends) (plausible_means most n ends (omega arith))

-- what comes after 11 has another number
then_number : (p : Outcome) (t : Bool) (v : List ℕ) → number_of p ≤ 5 → number_of (unless_refused p (cond t (refusal TooFewPlaces) (accepted v))) ≤ 7
then_number (refused x i) t v h = omega arith
then_number (accepted w) true v h = omega arith
then_number (accepted w) false v h = omega arith

-- CLAIM: 11 is answered exactly when there are no n and ends of which the bytes are the line
pub read_eleven : (s : List ℕ) (places : ℕ) → (read_outcome s places ≡ refused 11 0) ↔ ((n : ℕ) (ends : List ℕ) → IsLine s n ends → ⊥)
unfolding read_outcome_as
read_eleven s places = (other, λ h. eleven h (line? (long? s) s) refl)
  where
    other : read_outcome s places ≡ refused 11 0 → (n : ℕ) (ends : List ℕ) → IsLine s n ends → ⊥
    other e n ends (long, L) =
        omega (
          arith,
          ap number_of (sym (read_as_writing long s n ends places L) ∙ e),
          then_number (plausible (limit_of long) n ends) (ltb places (length ends)) (n ∷ length ends ∷ []) (plausible_number (limit_of long) n ends),
        )

    eleven : ((n : ℕ) (ends : List ℕ) → IsLine s n ends → ⊥) → (b : Bool) → line? (long? s) s ≡ b → read_outcome s places ≡ refused 11 0
    eleven h true e =
        let d : ℕ = width_of (long? s) in
        absurd (h (number_at d s place_of_length) (ends_in d s (number_at d s (place_of_count d))) (long? s, line_read (long? s) s (subst T (sym e) tt)))
    eleven h false e =
        let d : ℕ = width_of (long? s) in
        let n : ℕ = number_at d s place_of_length in
        let ends : List ℕ = ends_in d s (number_at d s (place_of_count d)) in
        ap (λ (b : Bool). cond b (unless_refused (plausible (limit_of (long? s)) n ends) (cond (ltb places (length ends)) (refusal TooFewPlaces) (accepted (n ∷ length ends ∷ [])))) (refusal NotPlan)) e

-- the writer accepts only what it would not refuse before
accepted_plausible : (p o : Outcome) (v : List ℕ) → unless_refused p o ≡ accepted v → (w : List ℕ) × (p ≡ accepted w)
accepted_plausible (accepted w) o v e = (w, refl)
accepted_plausible (refused x i) o v e = absurd (refused_accepted (refused x i) x i v refl e)

write_plausible : (n : ℕ) (ends : List ℕ) (places : ℕ) (v : List ℕ) → write_outcome n ends places ≡ accepted v → (w : List ℕ) × (plausible limit n ends ≡ accepted w)
unfolding write_outcome
write_plausible n ends places v e =
    accepted_plausible (plausible limit n ends) (cond (ltb places (length (plan_line n ends))) (refusal TooFewPlaces) (accepted (length (plan_line n ends) ∷ []))) v e

-- n is at most the greatest of its kind of line exactly when it is at most that of all
kind_limit : (n : ℕ) → n ≤ limit → n ≤ limit_of (needs_long n)
kind_limit n h = go (dec_lt line_limit n)
  where
    go : Dec (line_limit < n) → n ≤ limit_of (needs_long n)
    go (yes l) = subst (λ (b : Bool). n ≤ limit_of b) (sym (lt-ltb line_limit n l)) h
    go (no l) = subst (λ (b : Bool). n ≤ limit_of b) (sym (le-ltb line_limit n (omega arith))) (omega arith)

-- CLAIM: what was written is read back, in either kind of line
pub round_trip : (n : ℕ) (ends : List ℕ) (places : ℕ) (v t : List ℕ) → write_outcome n ends places ≡ accepted v → length ends ≤ length t
    → (read_outcome (plan_line n ends) (length t) ≡ accepted (n ∷ length ends ∷ [])) × (read_table (plan_line n ends) t ≡ ends ++ drop (length ends) t)
round_trip n ends places v t e h = go (write_plausible n ends places v e)
  where
    go : ((w : List ℕ) × (plausible limit n ends ≡ accepted w)) → (read_outcome (plan_line n ends) (length t) ≡ accepted (n ∷ length ends ∷ [])) × (read_table (plan_line n ends) t ≡ ends ++ drop (length ends) t)
    go (w, p) =
        let long : Bool = needs_long n in
        let s : List ℕ = plan_line n ends in
        let L : IsLineOf long s n ends = plausible-line n ends w p in
        let a = line_numbers long s n ends L in
        let low : n ≤ limit = plausible_low limit n ends w p in
        let q : plausible (limit_of long) (number_at (width_of long) s place_of_length) (ends_in (width_of long) s (number_at (width_of long) s (place_of_count (width_of long)))) ≡ accepted w =
        ap₂ (plausible (limit_of long)) a.0 a.2 ∙ judge_verdict (limit_of long) n ends (kind_limit n low) ∙ sym (judge_verdict limit n ends low) ∙ p in
        let r = read_plan long s t (line_is_line long s n ends L) w q (omega (arith, ap length a.2)) in
        let k : long? s ≡ long = kind_is long s n ends L in (
          ap (λ (b : Bool). read_outcome_as b s (length t)) k ∙ sym r.0 ∙ ap₂ (λ (x : ℕ) (l : List ℕ). accepted (x ∷ length l ∷ [])) a.0 a.2,
          ap (λ (b : Bool). read_table_as b s t) k ∙ sym r.1 ∙ ap (λ (l : List ℕ). l ++ drop (length l) t) a.2,
        )

-- CLAIM: an answer of the reader is determined by its numbers
pub plan_view_injective : (x y : Result Plan Refusal) → plan_view x ≡ plan_view y → x ≡ y
plan_view_injective (Ok p) (Ok q) e =
    let a : p.n ≡ q.n = cc in
    let b : p.count ≡ q.count = cc in
    ap₂ (λ (n k : ℕ). Ok (record { n = n; count = k })) a b
plan_view_injective (Ok p) (Err s) e = absurd (refused_accepted (refusal s) _ _ (p.n ∷ p.count ∷ []) refl (sym e))
plan_view_injective (Err r) (Ok q) e = absurd (refused_accepted (refusal r) _ _ (q.n ∷ q.count ∷ []) refl e)
plan_view_injective (Err r) (Err s) e = ap Err (refusal_injective r s e)
