-- Reading, with two kinds of line: bytes that do not begin with long and a comma are read as before there were long lines (old_outcome_lem, old_table); bytes that are
-- accepted are the line that is written for the n and the ends read off them (accepted_is_written); so each plan has one line (one_line). By the meaning of the
-- reader, and the claims of a line. Assumes nothing.
use mathlib.Core.Path.{◌≡◌, refl, sym, ap, ap₂, ◌∙◌}
use mathlib.Core.Bool.{Bool, true, false, cond, ◌&&◌}
use mathlib.Core.List.{List, [], ◌∷◌, ◌++◌}
use Prim.Native.Nat.{ℕ, ◌+◌, ◌-◌, ◌*◌, ◌≤◌}
use borrow.Author.Tests.{lt-ltb, le-ltb}
use lib.Dec.{ltb, eqb}
use lib.ListN.{length, get_or, take, drop}
use lib.Seq.{take_at}
use Rattle.answers.specs.declared.Refusal.TheVariants.{TooLong, TooFewPlaces, NotPlan}
use Rattle.answers.specs.Outcome.{Outcome, accepted, refused, refusal, unless_refused, table_unless}
use Rattle.answers.proofs.Claims.{refused_accepted}
use Rattle.decimals.specs.Decimal.{comma, line_end, digits?, value, field}
use Rattle.factors.specs.Verdict.{verdict}
use Rattle.plan_lines.specs.Line.{plan_bytes, line_limit, line, plan_line, IsLineOf, starts_with, long?, line?, ends?, ends_in}
use Rattle.plans.specs.Calls.{any_piece, plausible, limit_of, read_outcome_as, read_table_as, read_outcome, read_table, ReadMeaning}
use Rattle.plans.proofs.CallClaims.{read_means}

-- ---- "Old lines are read as before, and a plan line with n above 4,096 still gives 1"

-- the reader of plan lines with numbers of four digits and n at most 4,096, as it was
module _ (s : List ℕ) where
  abbrev old_number : ℕ → ℕ
  old_number at = value (field s at 4)

  abbrev old_ends : List ℕ
  old_ends = ends_in 4 s (old_number 10)

  abbrev old_line? : Bool
  old_line? =
      starts_with plan_bytes s
      && (digits? (field s 5 4)
      && (eqb (get_or s 9 0) comma
      && digits? (field s 10 4)
      && (eqb (length s) (15 + 5 * old_number 10)
      && (ends? 4 s (old_number 10) && eqb (get_or s (length s - 1) 0) line_end))))

  abbrev old_outcome : ℕ → Outcome
  old_outcome places =
      cond old_line?
      (unless_refused (cond (ltb 4096 (old_number 5)) (refusal TooLong) (verdict any_piece (old_number 5) old_ends))
      (cond (ltb places (length old_ends)) (refusal TooFewPlaces) (accepted (old_number 5 ∷ length old_ends ∷ []))))
      (refusal NotPlan)

  -- CLAIM: bytes that do not begin with long and a comma are answered as before
  pub old_outcome_lem : (places : ℕ) → long? s ≡ false → read_outcome s places ≡ old_outcome places
  unfolding read_outcome_as line? plausible
  old_outcome_lem places e = ap (λ (b : Bool). read_outcome_as b s places) e

  -- CLAIM: and leave the table as before
  pub old_table : (t : List ℕ) → long? s ≡ false → read_table s t ≡ table_unless (old_outcome (length t)) t (old_ends ++ drop (length old_ends) t)
  unfolding read_table_as read_outcome_as line? plausible
  old_table t e = ap (λ (b : Bool). read_table_as b s t) e

-- ---- "Each plan has one line"

-- n of at most the greatest of a kind, above 4,096 for a long line, has a line of that kind
kind_written : (long : Bool) (s : List ℕ) (n : ℕ) (ends : List ℕ) → IsLineOf long s n ends → n ≤ limit_of long → s ≡ plan_line n ends
kind_written false s n ends L h = L.is ∙ ap (λ (b : Bool). line b n ends) (sym (le-ltb line_limit n h))
kind_written true s n ends L h = L.is ∙ ap (λ (b : Bool). line b n ends) (sym (lt-ltb line_limit n (L.needed refl)))

-- what was accepted: n and ends, their place in the answer and the table, and their line
pub record Accepted (s t v u : List ℕ) : Type 0 where
  pub number : ℕ
  pub ends : List ℕ
  pub answer : v ≡ number ∷ length ends ∷ []
  pub table : u ≡ ends ++ drop (length ends) t
  pub is : s ≡ plan_line number ends

accepted_injective : (v w : List ℕ) → accepted v ≡ accepted w → v ≡ w
accepted_injective v w e = ap values e
  where
    values : Outcome → List ℕ
    values (accepted x) = x
    values (refused n i) = []

-- CLAIM: bytes that are accepted are the line that is written for the n and the ends read off them
pub accepted_is_written : (s t v : List ℕ) → read_outcome s (length t) ≡ accepted v → Accepted s t v (read_table s t)
accepted_is_written s t v e = go (read_outcome s (length t)) (read_table s t) (read_means s t) e
  where
    go : (o : Outcome) (u : List ℕ) → ReadMeaning s t o u → o ≡ accepted v → Accepted s t v u
    go o u (ReadMeaning.no_line h f g) a = absurd (refused_accepted o 11 0 v f a)
    go o u (ReadMeaning.too_long long n ends L h f g) a = absurd (refused_accepted o 1 0 v f a)
    go o u (ReadMeaning.implausible long n ends L h x i M f g) a = absurd (refused_accepted o x i v f a)
    go o u (ReadMeaning.too_few long n ends L h M l f g) a = absurd (refused_accepted o 7 0 v f a)
    go o u (ReadMeaning.plan long n ends L h M l f g) a = record {
      number = n;
      ends = ends;
      answer = accepted_injective v (n ∷ length ends ∷ []) (sym a ∙ f);
      table = g;
      is = kind_written long s n ends L h;
    }

-- CLAIM: each plan has one line: bytes that are accepted with the same answer and the same table are equal
pub one_line : (s r t v : List ℕ) → read_outcome s (length t) ≡ accepted v → read_outcome r (length t) ≡ accepted v → read_table s t ≡ read_table r t → s ≡ r
one_line s r t v e f g =
    let A = accepted_is_written s t v e in
    let B = accepted_is_written r t v f in
    let n : A.number ≡ B.number = ap (λ (l : List ℕ). get_or l 0 0) (sym A.answer ∙ B.answer) in
    let k : length A.ends ≡ length B.ends = ap (λ (l : List ℕ). get_or l 1 0) (sym A.answer ∙ B.answer) in
    let ends : A.ends ≡ B.ends =
    sym (take_at A.ends (drop (length A.ends) t) (length A.ends) refl)
    ∙ ap₂ (λ (j : ℕ) (l : List ℕ). take j l) k (sym A.table ∙ g ∙ B.table)
    ∙ take_at B.ends (drop (length B.ends) t) (length B.ends) refl in
    A.is ∙ ap₂ plan_line n ends ∙ sym B.is
