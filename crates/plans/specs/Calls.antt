-- Writing and reading a plan line: what the calls answer, what they write, and what that means.
use Rattle.std.specs.Prelude.{◌≡◌, Bool, true, false, cond, List, [], ◌∷◌, ◌++◌, ℕ, ◌≤◌, ◌<◌, ltb, length, drop, Result, Ok, Err}
use Rattle.answers.specs.declared.Refusal.{Refusal}
use Rattle.answers.specs.declared.Refusal.TheVariants.{TooLong, TooFewPlaces, NotPlan}
use Rattle.answers.specs.Outcome.{Outcome, accepted, refused, refusal, limit, unless_refused, table_unless}
use Rattle.factors.specs.Verdict.{verdict, VerdictMeaning}
use Rattle.plans.specs.declared.Plan.{Plan}
use Rattle.plan_lines.specs.Line.{width_of, line_limit, needs_long, plan_line, IsLineOf, IsLine, long?, line?, number_at, place_of_length, place_of_count, ends_in}

-- a plan line carries no passes, so any piece may be a block
abbrev pub any_piece : ℕ → ℕ → ℕ → Bool
any_piece k i j = true

abbrev pub AnyPiece : ℕ → ℕ → ℕ → Type 0
AnyPiece k i j = Unit {0}

-- "Write a plan: 1; 3 for each end; 5; 7." The first three, which reading shares, for n up to a greatest one:
unfoldable pub plausible : ℕ → ℕ → List ℕ → Outcome
plausible most n ends = cond (ltb most n) (refusal TooLong) (verdict any_piece n ends)

-- "giving the count of bytes"; so many bytes are lent
unfoldable pub write_outcome : ℕ → List ℕ → ℕ → Outcome
write_outcome n ends places =
    unless_refused (plausible limit n ends)
    (cond (ltb places (length (plan_line n ends))) (refusal TooFewPlaces) (accepted (length (plan_line n ends) ∷ [])))

-- only these bytes change, and only when accepted
unfoldable pub write_table : ℕ → List ℕ → List ℕ → List ℕ
write_table n ends t = table_unless (write_outcome n ends (length t)) t (plan_line n ends ++ drop (length (plan_line n ends)) t)

-- the greatest n of a line of a kind: "a plan line with n above 4,096 still gives 1"; "1 now means above 70,000 in all other calls and in a long line"
abbrev pub limit_of : Bool → ℕ
limit_of false = line_limit
limit_of true = limit

-- "Read a plan: 11; then as for writing"; "read back to n, the count and the ends". So many places are lent for the ends. Bytes as a line of a kind:
unfoldable pub read_outcome_as : Bool → List ℕ → ℕ → Outcome
read_outcome_as long s places =
    let d = width_of long in
    let n = number_at d s place_of_length in
    let ends = ends_in d s (number_at d s (place_of_count d)) in
    cond (line? long s)
    (unless_refused (plausible (limit_of long) n ends) (cond (ltb places (length ends)) (refusal TooFewPlaces) (accepted (n ∷ length ends ∷ []))))
    (refusal NotPlan)

unfoldable pub read_table_as : Bool → List ℕ → List ℕ → List ℕ
read_table_as long s t =
    let d = width_of long in
    let ends = ends_in d s (number_at d s (place_of_count d)) in
    table_unless (read_outcome_as long s (length t)) t (ends ++ drop (length ends) t)

-- as a line of the kind that they begin as
abbrev pub read_outcome : List ℕ → ℕ → Outcome
read_outcome s places = read_outcome_as (long? s) s places

abbrev pub read_table : List ℕ → List ℕ → List ℕ
read_table s t = read_table_as (long? s) s t

abbrev pub plan_view : Result Plan Refusal → Outcome
plan_view (Ok p) = accepted (p.n ∷ p.count ∷ [])
plan_view (Err r) = refusal r

-- ---- what they mean

-- t is the table at entry, u the table at exit
pub data WriteMeaning (n : ℕ) (ends t : List ℕ) (o : Outcome) (u : List ℕ) : Type 0 where
  too_long : limit < n → o ≡ refused 1 0 → u ≡ t → WriteMeaning n ends t o u
  implausible : n ≤ limit → (x i : ℕ) → VerdictMeaning AnyPiece n ends (refused x i) → o ≡ refused x i → u ≡ t → WriteMeaning n ends t o u
  too_few : n ≤ limit → VerdictMeaning AnyPiece n ends (accepted (length ends ∷ [])) → length t < length (plan_line n ends) → o ≡ refused 7 0 → u ≡ t → WriteMeaning n ends t o u
  written :
      n ≤ limit → VerdictMeaning AnyPiece n ends (accepted (length ends ∷ [])) → IsLineOf (needs_long n) (plan_line n ends) n ends → length (plan_line n ends) ≤ length t
      → o ≡ accepted (length (plan_line n ends) ∷ []) → u ≡ plan_line n ends ++ drop (length (plan_line n ends)) t → WriteMeaning n ends t o u

pub data ReadMeaning (s t : List ℕ) (o : Outcome) (u : List ℕ) : Type 0 where
  no_line : ((n : ℕ) (ends : List ℕ) → IsLine s n ends → ⊥) → o ≡ refused 11 0 → u ≡ t → ReadMeaning s t o u
  too_long : (long : Bool) (n : ℕ) (ends : List ℕ) → IsLineOf long s n ends → limit_of long < n → o ≡ refused 1 0 → u ≡ t → ReadMeaning s t o u
  implausible :
      (long : Bool) (n : ℕ) (ends : List ℕ) → IsLineOf long s n ends → n ≤ limit_of long → (x i : ℕ) → VerdictMeaning AnyPiece n ends (refused x i) → o ≡ refused x i → u ≡ t
      → ReadMeaning s t o u
  too_few :
      (long : Bool) (n : ℕ) (ends : List ℕ) → IsLineOf long s n ends → n ≤ limit_of long → VerdictMeaning AnyPiece n ends (accepted (length ends ∷ [])) → length t < length ends
      → o ≡ refused 7 0 → u ≡ t → ReadMeaning s t o u
  plan :
      (long : Bool) (n : ℕ) (ends : List ℕ) → IsLineOf long s n ends → n ≤ limit_of long → VerdictMeaning AnyPiece n ends (accepted (length ends ∷ [])) → length ends ≤ length t
      → o ≡ accepted (n ∷ length ends ∷ []) → u ≡ ends ++ drop (length ends) t → ReadMeaning s t o u
