-- `plan_lines::inner::write_line` meets its contract: its stores, one after another, are those of the line. Assumes nothing.
use mathlib.Core.Path.{ap, ap₂, ◌∙◌}
use mathlib.Core.List.{List, ◌∷◌}
use Prim.Native.Nat.{ℕ, ◌-◌}
use lib.ListN.{length, set}
use lib.Seq.{sets}
use Rattle.decimals.specs.Decimal.{comma, line_end, digits}
use Rattle.plan_lines.specs.Line.{fields, place_of_length, place_of_end}
use Rattle.plan_lines.specs.Kinds.{is_long, width_in}
use Rattle.plan_lines.proofs.Loops.{write_line_is}
use Rattle.plan_lines.proofs.inner.write_line.Goals as goal

pub returns : goal.returns
returns c =
    let g = c.args in
    let d = width_in g.kind in
    let ends = g.ends.now in
    let e₁ = c.write_prefix.ensures in
    let e₂ = c.write.ensures ∙ ap₂ (λ (t : List ℕ) (w : ℕ). sets t place_of_length (digits w g.n)) e₁ c.width.ensures in
    let e₃ = c.write_field.ensures ∙ ap₂ (λ (t : List ℕ) (at : ℕ). sets t (at - 1) (comma ∷ digits d (length ends))) e₂ c.count_place.ensures in
    let e₄ = c.write_ends.ensures ∙ ap (λ (t : List ℕ). sets t (place_of_end d 0 - 1) (fields d ends)) e₃ in
    ap₂ (λ (t : List ℕ) (at : ℕ). set t (at - 1) line_end) e₄ c.bytes_for.ensures ∙ write_line_is (is_long g.kind) g.out.now g.n ends
