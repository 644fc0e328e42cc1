-- The meanings of writing and reading a plan determine the answer and the table (write_determined, read_determined). By cases on the meaning: the verdict has
-- one outcome only (meaning_determines), a line has one n and one list of ends (line_numbers), and the laws of each outcome give what the call answers and
-- leaves. Assumes nothing.
use mathlib.Core.Path.{◌≡◌, refl, sym, ap, ap₂, ◌∙◌, subst}
use mathlib.Core.Bool.{Bool, true, false}
use mathlib.Core.List.{List, [], ◌∷◌, ◌++◌}
use Prim.Native.Nat.{ℕ, ◌≤◌, ◌<◌}
use native.Mathlib.Omega.{arith}
use lib.Dec.{T}
use lib.ListN.{length, drop}
use Rattle.answers.specs.Outcome.{Outcome, accepted, refused, limit}
use Rattle.factors.specs.Verdict.{VerdictMeaning}
use Rattle.factors.proofs.VerdictClaims.{meaning_determines}
use Rattle.plan_lines.specs.Line.{width_of, IsLineOf, IsLine, long?, line?, number_at, place_of_length, place_of_count, ends_in}
use Rattle.plans.specs.Calls.{AnyPiece, plausible, write_outcome, write_table, limit_of, read_outcome_as, read_table_as, read_outcome, read_table, WriteMeaning, ReadMeaning}
use Rattle.plans.proofs.Judged.{judge_too_long}
use Rattle.plan_lines.proofs.LineClaims.{line_numbers, line_is_line, line_read, kind_is}
use Rattle.plans.proofs.CallClaims.{plausible_means, write_refused, write_too_few, write_written, read_no_line, read_refused, read_too_few, read_plan}

-- an outcome with the meaning of the verdict is the one that is computed
plausible_determined : (most n : ℕ) (ends : List ℕ) (o : Outcome) → n ≤ most → VerdictMeaning AnyPiece n ends o → plausible most n ends ≡ o
plausible_determined most n ends o h M = meaning_determines AnyPiece n ends (plausible_means most n ends h) M

-- an answer and a table that equal those of a law
by_law : {o p q : Outcome} {u v w : List ℕ} → o ≡ p → u ≡ v → (p ≡ q) × (v ≡ w) → (o ≡ q) × (u ≡ w)
by_law e f l = (e ∙ l.0, f ∙ l.1)

-- CLAIM: the meaning of writing determines the answer and the table
pub write_determined : (n : ℕ) (ends t : List ℕ) (o : Outcome) (u : List ℕ) → WriteMeaning n ends t o u → (o ≡ write_outcome n ends (length t)) × (u ≡ write_table n ends t)
write_determined n ends t o u (WriteMeaning.too_long h e f) = by_law e f (write_refused n ends t 1 0 (judge_too_long limit n ends h))
write_determined n ends t o u (WriteMeaning.implausible h x i M e f) = by_law e f (write_refused n ends t x i (plausible_determined limit n ends (refused x i) h M))
write_determined n ends t o u (WriteMeaning.too_few h M l e f) =
    by_law e f (write_too_few n ends t (length ends ∷ []) (plausible_determined limit n ends (accepted (length ends ∷ [])) h M) l)
write_determined n ends t o u (WriteMeaning.written h M L l e f) =
    by_law e f (write_written n ends t (length ends ∷ []) (plausible_determined limit n ends (accepted (length ends ∷ [])) h M) l)

-- ---- reading

-- bytes that are no line do not pass the test
no_line_fails : (s : List ℕ) → ((n : ℕ) (ends : List ℕ) → IsLine s n ends → ⊥) → line? (long? s) s ≡ false
no_line_fails s h = go (line? (long? s) s) refl
  where
    go : (b : Bool) → line? (long? s) s ≡ b → line? (long? s) s ≡ false
    go true e =
        let d = width_of (long? s) in
        absurd (h (number_at d s place_of_length) (ends_in d s (number_at d s (place_of_count d))) (long? s, line_read (long? s) s (subst T (sym e) tt)))
    go false e = e

-- the laws of reading, over the kind, the n and the ends of the line
module _ (long : Bool) (s t : List ℕ) (n : ℕ) (ends : List ℕ) (L : IsLineOf long s n ends) where
  abbrev d : ℕ
  d = width_of long

  same_number : number_at d s place_of_length ≡ n
  same_number = (line_numbers long s n ends L).0

  same_ends : ends_in d s (number_at d s (place_of_count d)) ≡ ends
  same_ends = (line_numbers long s n ends L).2

  same_plausible : (o : Outcome) → plausible (limit_of long) n ends ≡ o → plausible (limit_of long) (number_at d s place_of_length) (ends_in d s (number_at d s (place_of_count d))) ≡ o
  same_plausible o e = ap₂ (plausible (limit_of long)) same_number same_ends ∙ e

  -- the bytes begin as a line of the kind
  begun : {o : Outcome} {u : List ℕ} → (o ≡ read_outcome_as long s (length t)) × (u ≡ read_table_as long s t) → (o ≡ read_outcome s (length t)) × (u ≡ read_table s t)
  begun (e, f) =
      let k : long ≡ long? s = sym (kind_is long s n ends L) in
      (e ∙ ap (λ (b : Bool). read_outcome_as b s (length t)) k, f ∙ ap (λ (b : Bool). read_table_as b s t) k)

  line_refused : (x i : ℕ) → plausible (limit_of long) n ends ≡ refused x i → (refused x i ≡ read_outcome s (length t)) × (t ≡ read_table s t)
  line_refused x i e = begun (read_refused long s t (line_is_line long s n ends L) x i (same_plausible (refused x i) e))

  line_too_few : (v : List ℕ) → plausible (limit_of long) n ends ≡ accepted v → length t < length ends → (refused 7 0 ≡ read_outcome s (length t)) × (t ≡ read_table s t)
  line_too_few v e h = begun (read_too_few long s t (line_is_line long s n ends L) v (same_plausible (accepted v) e) (omega (arith, ap length same_ends)))

  line_plan : (v : List ℕ) → plausible (limit_of long) n ends ≡ accepted v → length ends ≤ length t
      → (accepted (n ∷ length ends ∷ []) ≡ read_outcome s (length t)) × (ends ++ drop (length ends) t ≡ read_table s t)
  line_plan v e h =
      by_law (sym (ap₂ (λ (x : ℕ) (l : List ℕ). accepted (x ∷ length l ∷ [])) same_number same_ends))
      (sym (ap (λ (l : List ℕ). l ++ drop (length l) t) same_ends))
      (begun (read_plan long s t (line_is_line long s n ends L) v (same_plausible (accepted v) e) (omega (arith, ap length same_ends))))

-- CLAIM: the meaning of reading determines the answer and the table
pub read_determined : (s t : List ℕ) (o : Outcome) (u : List ℕ) → ReadMeaning s t o u → (o ≡ read_outcome s (length t)) × (u ≡ read_table s t)
read_determined s t o u (ReadMeaning.no_line h e f) = by_law e f (read_no_line (long? s) s t (no_line_fails s h))
read_determined s t o u (ReadMeaning.too_long long n ends L h e f) = by_law e f (line_refused long s t n ends L 1 0 (judge_too_long (limit_of long) n ends h))
read_determined s t o u (ReadMeaning.implausible long n ends L h x i M e f) =
    by_law e f (line_refused long s t n ends L x i (plausible_determined (limit_of long) n ends (refused x i) h M))
read_determined s t o u (ReadMeaning.too_few long n ends L h M l e f) =
    by_law e f (line_too_few long s t n ends L (length ends ∷ []) (plausible_determined (limit_of long) n ends (accepted (length ends ∷ [])) h M) l)
read_determined s t o u (ReadMeaning.plan long n ends L h M l e f) =
    by_law e f (line_plan long s t n ends L (length ends ∷ []) (plausible_determined (limit_of long) n ends (accepted (length ends ∷ [])) h M) l)
