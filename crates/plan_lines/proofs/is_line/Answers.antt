-- `plan_lines::is_line` meets its contract: each way out is a part of the test that fails, and at the last one only the last byte is left. Assumes nothing.
use mathlib.Core.Path.{sym, ap, ◌∙◌, subst}
use Prim.Native.Nat.{ℕ}
use native.Mathlib.Omega.{arith}
use lib.Dec.{T}
use Rattle.plan_lines.specs.Line.{prefix_of, bytes_for, place_of_length, number_at, field?, ends?, needless?}
use Rattle.plan_lines.specs.Kinds.{is_long, width_in}
use Rattle.plan_lines.proofs.LineClaims.{needless_not, first_field, not_line, line_by_last}
use Rattle.plan_lines.proofs.Loops.{begins}
use Rattle.plan_lines.proofs.is_line.Goals as goal

pub returns-then-len-bytes_for : goal.returns-then-len-bytes_for
returns-then-len-bytes_for c =
    not_line (is_long c.args.kind) c.args.s.now (λ P. omega (arith, P.sized, c.bytes_for.ensures))

pub returns-then-not-starts_with : goal.returns-then-not-starts_with
returns-then-not-starts_with c =
    not_line (is_long c.args.kind) c.args.s.now (λ P. subst T (begins c.starts_with.result c.prefix.result (prefix_of (is_long c.args.kind)) c.args.s.now c.starts_with.ensures.value c.prefix.ensures ∙ c.if-not-starts_with.true) P.starts)

pub returns-then-not-field_at : goal.returns-then-not-field_at
returns-then-not-field_at c =
    let s = c.args.s.now in
    not_line (is_long c.args.kind) s (λ P. subst T (sym c.field_at.ensures ∙ c.if-not-field_at.true) (first_field (is_long c.args.kind) s P))

pub returns-then-needless : goal.returns-then-needless
returns-then-needless c =
    let s = c.args.s.now in
    let tested = c.needless.ensures ∙ ap (needless? (is_long c.args.kind)) c.number.ensures in
    not_line (is_long c.args.kind) s
    (λ P. needless_not (is_long c.args.kind) (number_at (width_in c.args.kind) s place_of_length) P.needed (sym tested ∙ c.if-needless.true))

pub returns-then-not-field_at-2 : goal.returns-then-not-field_at-2
returns-then-not-field_at-2 c =
    let s = c.args.s.now in
    let stands = c.field_at-2.ensures ∙ ap (field? (width_in c.args.kind) s) c.count_place-count_at.ensures in
    not_line (is_long c.args.kind) s (λ P. subst T (sym stands ∙ c.if-not-field_at-2.true) P.count)

pub returns-then-len-bytes_for-2 : goal.returns-then-len-bytes_for-2
returns-then-len-bytes_for-2 c =
    let s = c.args.s.now in
    let counted = c.number-count.ensures ∙ ap (number_at (width_in c.args.kind) s) c.count_place-count_at.ensures in
    not_line (is_long c.args.kind) s (λ P. omega (arith, c.bytes_for-2.ensures, P.sized, ap (bytes_for (width_in c.args.kind)) counted))

pub returns-then-not-ends_at : goal.returns-then-not-ends_at
returns-then-not-ends_at c =
    let s = c.args.s.now in
    let counted = c.number-count.ensures ∙ ap (number_at (width_in c.args.kind) s) c.count_place-count_at.ensures in
    not_line (is_long c.args.kind) s (λ P. subst T (ap (ends? (width_in c.args.kind) s) (sym counted) ∙ sym c.ends_at.ensures ∙ c.if-not-ends_at.true) P.ends)

pub returns : goal.returns
returns c =
    let s = c.args.s.now in
    let tested = c.needless.ensures ∙ ap (needless? (is_long c.args.kind)) c.number.ensures in
    let stands = c.field_at-2.ensures ∙ ap (field? (width_in c.args.kind) s) c.count_place-count_at.ensures in
    let counted = c.number-count.ensures ∙ ap (number_at (width_in c.args.kind) s) c.count_place-count_at.ensures in
    line_by_last (is_long c.args.kind) s
    (subst T (sym (begins c.starts_with.result c.prefix.result (prefix_of (is_long c.args.kind)) c.args.s.now c.starts_with.ensures.value c.prefix.ensures ∙ c.if-not-starts_with.false)) tt)
    (subst T (sym c.if-not-field_at.false ∙ c.field_at.ensures) tt)
    (sym tested ∙ c.if-needless.false)
    (subst T (sym c.if-not-field_at-2.false ∙ stands) tt)
    (omega (arith, c.bytes_for-2.ensures, c.if-len-bytes_for-2.false, ap (bytes_for (width_in c.args.kind)) counted))
    (subst (λ (k : ℕ). T (ends? (width_in c.args.kind) s k)) counted (subst T (sym c.if-not-ends_at.false ∙ c.ends_at.ensures) tt))
