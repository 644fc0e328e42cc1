-- The kinds of line, as the code has them: whether one is a long one, and the digits of its numbers.
use Rattle.std.specs.Prelude.{Bool, true, false, ℕ}
use Rattle.plan_lines.specs.declared.Kind.{Kind}
use Rattle.plan_lines.specs.declared.Kind.TheVariants.{Plain, Long}
use Rattle.plan_lines.specs.Line.{width_of}

abbrev pub is_long : Kind → Bool
is_long Plain = false
is_long Long = true

abbrev pub width_in : Kind → ℕ
width_in kind = width_of (is_long kind)
