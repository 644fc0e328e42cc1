-- `plans::read_plan` meets its contract: each way out is the case of `read_outcome_as` that its tests lead to, and `read_means` says what that means. Assumes
-- nothing.
use mathlib.Core.Path.{◌≡◌, sym, ap, ap₂, ◌∙◌, subst}
use mathlib.Core.Bool.{Bool, true}
use mathlib.Core.List.{List, [], ◌∷◌, ◌++◌}
use Prim.Native.Nat.{ℕ, ◌+◌, ◌≤◌}
use native.Mathlib.Omega.{arith}
use lib.Dec.{T}
use lib.ListN.{length, drop}
use Rattle.std.specs.Prelude.{Ok}
use Rattle.std.proofs.Common.{rules}
use Rattle.std.proofs.lemmas.Result.{err_from_is_err_and}
use Rattle.answers.specs.Outcome.{Outcome, accepted, counted_view}
use Rattle.decimals.specs.Decimal.{digits?, field}
use Rattle.plan_lines.specs.Line.{width_of, line?, number_at, place_of_length, place_of_count, place_of_end, bytes_for, field?, ends?, ends_in}
use Rattle.plan_lines.specs.Kinds.{is_long}
use Rattle.plan_lines.proofs.Loops.{field-digits, end_inside, end_at, end_stands, ends_length}
use Rattle.plan_lines.proofs.LineClaims.{Parts, line_parts}
use Rattle.plans.specs.Calls.{limit_of, plausible}
use Rattle.plans.proofs.CallClaims.{judge_counts, judge_refuses, read_no_line, read_refused, read_too_few, read_plan, read_answered}
use Rattle.plans.proofs.read_plan.Goals as goal
use Rattle.plans.proofs.read_plan.Goals.{After-number-stated, After-judge}

-- n, the number of ends that is stated, and the ends that stand in the line
abbrev number : Bool → List ℕ → ℕ
number long s = number_at (width_of long) s place_of_length

abbrev count : Bool → List ℕ → ℕ
count long s = number_at (width_of long) s (place_of_count (width_of long))

abbrev ends : Bool → List ℕ → List ℕ
ends long s = ends_in (width_of long) s (count long s)

-- the bytes are a line of the kind
a_line : (long t : Bool) (s : List ℕ) → t ≡ line? long s → t ≡ true → T (line? long s)
a_line long t s e y = subst T (sym y ∙ e) tt

-- the count, where its place was computed
stated : (long : Bool) (s : List ℕ) (at k : ℕ) → at ≡ place_of_count (width_of long) → k ≡ number_at (width_of long) s at → k ≡ count long s
stated long s at k e f = f ∙ ap (number_at (width_of long) s) e

-- what the judge said of what was read is said of n and the ends
verdict_said : (long : Bool) (s : List ℕ) (most n k : ℕ) → most ≡ limit_of long → n ≡ number long s → k ≡ count long s
    → (o : Outcome) → o ≡ plausible most n (ends_in (width_of long) s k) → o ≡ plausible (limit_of long) (number long s) (ends long s)
verdict_said long s most n k greatest length counted o e =
    e
    ∙ ap₂ (λ (x j : ℕ). plausible most x (ends_in (width_of long) s j)) length counted
    ∙ ap (λ (m : ℕ). plausible m (number long s) (ends long s)) greatest

-- where the bytes passed the test
module _ (c : After-number-stated) where
  parts : Parts (is_long c.begun-kind.result) (width_of (is_long c.begun-kind.result)) c.args.s.now
  parts = line_parts _ _ (a_line _ _ _ c.is_line.ensures c.if-not-is_line.false)

  as_stated : c.number-stated.result ≡ count (is_long c.begun-kind.result) c.args.s.now
  as_stated = stated _ _ _ _ c.count_place.ensures c.number-stated.ensures

  room : bytes_for (width_of (is_long c.begun-kind.result)) c.number-stated.result ≤ length c.args.s.now
  room = rw as_stated (omega (arith, parts.sized))

  stand : T (ends? (width_of (is_long c.begun-kind.result)) c.args.s.now c.number-stated.result)
  stand = rw as_stated parts.ends

-- and where the ends were judged
module _ (c : After-judge) where
  abbrev long : Bool
  long = is_long c.begun-kind.result

  abbrev s : List ℕ
  s = c.args.s.now

  line : T (line? long s)
  line = a_line _ _ _ c.is_line.ensures c.if-not-is_line.false

  said : counted_view c.judge.result ≡ plausible (limit_of long) (number long s) (ends long s)
  said =
      verdict_said long s _ _ _ c.limit_of-most.ensures c.number-n.ensures (stated long s _ _ c.count_place.ensures c.number-stated.ensures) _
      (c.judge.ensures (ends_in (width_of long) s c.number-stated.result)
      (ends_length (width_of long) s c.number-stated.result, λ k x l p. let e : x ≡ number_at (width_of long) s (place_of_end (width_of long) k) = search rules in e ∙ sym (end_at (width_of long) s c.number-stated.result k l)))

  counted : (k : ℕ) → c.judge.result ≡ Ok k → (plausible (limit_of long) (number long s) (ends long s) ≡ accepted (k ∷ [])) × (k ≡ count long s)
  counted k e =
      let j = judge_counts (limit_of long) (number long s) (ends long s) c.judge.result k said e in
      (j.0, j.1 ∙ ends_length (width_of long) s (count long s))

pub returns-then-not-is_line : goal.returns-then-not-is_line
returns-then-not-is_line c =
    let long = is_long c.begun-kind.result in
    let g = c.args in
    let w = read_no_line long g.s.now g.table.now (sym c.is_line.ensures ∙ c.if-not-is_line.true) in
    read_answered long g.s.now g.table.now _ _ c.begun-kind.ensures w.0 w.1

pub number-n-requires : goal.number-n-requires
number-n-requires c =
    let P = line_parts _ _ (a_line _ _ _ c.is_line.ensures c.if-not-is_line.false) in
    (omega (arith, P.sized), P.number)

pub number-stated-requires : goal.number-stated-requires
number-stated-requires c =
    let d = width_of (is_long c.begun-kind.result) in
    let s = c.args.s.now in
    let P = line_parts _ _ (a_line _ _ _ c.is_line.ensures c.if-not-is_line.false) in
    let e = c.count_place.ensures in (
      omega (arith, P.sized, e),
      subst (λ (at : ℕ). T (digits? (field s at d))) (sym e) (field-digits d s (place_of_count d) P.count),
    )

pub judge-requires-clause-callable : goal.judge-requires-clause-callable
judge-requires-clause-callable c = λ k l.
    let d : ℕ = width_of (is_long c.begun-kind.result) in
    let b = (goal.at.judge-requires-clause-callable c).After-number-stated in
    let inside : place_of_end d k + d ≤ length c.args.s.now = omega (arith, end_inside d c.number-stated.result k l, room b) in
    let stands : T (field? d c.args.s.now (place_of_end d k)) = end_stands d c.args.s.now c.number-stated.result k (stand b) l in
    search (rules, inside, stands)

pub returns-in_err-count : goal.returns-in_err-count
returns-in_err-count c =
    let b = (goal.at.returns-in_err-count c).After-judge in
    let g = c.args in
    let long = is_long c.begun-kind.result in
    let r = err_from_is_err_and c.from_residual.result c.from_residual.ensures.1 in
    let w = read_refused long g.s.now g.table.now (line b) _ _ (judge_refuses (limit_of long) (number long g.s.now) (ends long g.s.now) c.judge.result c.in_err-count.field-0.0 (said b) c.in_err-count.was) in
    rw (r.1, r.2) (read_answered long g.s.now g.table.now _ _ c.begun-kind.ensures w.0 w.1)

pub returns-then-table-stated : goal.returns-then-table-stated
returns-then-table-stated c =
    let b = (goal.at.returns-then-table-stated c).After-judge in
    let g = c.args in
    let long = is_long c.begun-kind.result in
    let j = counted b c.in_ok-count.count c.in_ok-count.was in
    let w = read_too_few long g.s.now g.table.now (line b) _ j.0 (omega (arith, stated long g.s.now _ _ c.count_place.ensures c.number-stated.ensures, ends_length (width_of long) g.s.now (count long g.s.now))) in
    read_answered long g.s.now g.table.now _ _ c.begun-kind.ensures w.0 w.1

pub read_ends-requires : goal.read_ends-requires
read_ends-requires c = let b = (goal.at.read_ends-requires c).After-number-stated in (room b, stand b, c.if-table-stated.false)

pub returns : goal.returns
returns c =
    let b = (goal.at.returns c).After-judge in
    let s = c.args.s.now in
    let t = c.args.table.now in
    let long = is_long c.begun-kind.result in
    let j = counted b c.in_ok-count.count c.in_ok-count.was in
    let k = stated long s _ _ c.count_place.ensures c.number-stated.ensures in
    let l = ends_length (width_of long) s (count long s) in
    let w = read_plan long s t (line b) _ j.0 (omega (arith, k, l)) in
    read_answered long s t _ _ c.begun-kind.ensures
    (ap₂ (λ (x y : ℕ). accepted (x ∷ y ∷ [])) c.number-n.ensures (j.1 ∙ sym l) ∙ w.0)
    (c.read_ends.ensures
    ∙ ap (λ (y : ℕ). ends_in (width_of long) s y ++ drop y t) k
    ∙ ap (λ (y : ℕ). ends long s ++ drop y t) (sym l)
    ∙ w.1)
