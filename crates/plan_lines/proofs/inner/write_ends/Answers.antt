-- `plan_lines::inner::write_ends` meets its contract: before the turn for end k + 1 the first k ends are stored. Assumes nothing.
use mathlib.Core.Path.{ap₂, ◌∙◌}
use mathlib.Core.List.{List, ◌∷◌}
use Prim.Native.Nat.{ℕ, ◌-◌, ◌+◌, ◌≤◌}
use native.Mathlib.Omega.{arith}
use lib.ListN.{length, get_or}
use lib.Seq.{sets}
use Rattle.decimals.specs.Decimal.{comma, digits}
use Rattle.decimals.proofs.Fields.{at_most_at}
use Rattle.plan_lines.specs.Line.{greatest, step, place_of_end}
use Rattle.plan_lines.specs.Kinds.{width_in}
use Rattle.plan_lines.proofs.Loops.{end_inside, write_ends_more}
use Rattle.plan_lines.proofs.inner.write_ends.Goals as goal

pub write_field-requires : goal.write_field-requires
write_field-requires c =
    let g = c.args in
    let k = c.loop-k.k in
    let b = c.bytes_for.ensures in
    let inside : place_of_end (width_in g.kind) k + step (width_in g.kind) ≤ length g.out.now = omega (arith, end_inside (width_in g.kind) (length g.ends.now) k (omega arith), c.requires.0) in
    (omega (arith, b), omega (arith, b, inside), at_most_at (greatest (width_in g.kind)) g.ends.now k c.requires.1 (omega arith))

pub loop-k-preserved : goal.loop-k-preserved
loop-k-preserved c =
    let g = c.args in
    let l = c.loop-k in
    let D : List ℕ = digits (width_in g.kind) (get_or g.ends.now l.k 0) in (
      c.write_field.auto.out ∙ l.invariant.0,
      c.write_field.ensures
          ∙ ap₂ (λ (t : List ℕ) (at : ℕ). sets t (at - 1) (comma ∷ D)) l.invariant.1 c.bytes_for.ensures
          ∙ write_ends_more (width_in g.kind) g.out.now g.ends.now l.k (omega arith),
    )
