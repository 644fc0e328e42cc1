-- `factorizer::inner::lengthen` meets its contract: each way out is what its tests lead to. Assumes nothing.
use mathlib.Core.Path.{◌≡◌, sym, ◌∙◌}
use mathlib.Core.Bool.{true}
use mathlib.Core.List.{List}
use Prim.Native.Nat.{ℕ, ◌+◌, ◌<◌}
use native.Mathlib.Omega.{arith}
use Rattle.std.proofs.lemmas.Bool.Decides.{nat_tests}
use borrow.Author.Tests.{lt-leb}
use lib.ListN.{length, get_or, set}
use lib.Seq.{get_or-set_other}
use Rattle.periods.specs.Width.{symbols}
use Rattle.factorizer.specs.Window.{goes_on, lengthened}
use Rattle.factorizer.proofs.inner.lengthen.Goals as goal

-- the table with both places written, where n is the length of the word; the place read second is not the one written first
passed_on : (w : List ℕ) (n m u : ℕ) (t : List ℕ) → n ≡ length w → m < length w → goes_on w m u ≡ true
    → set (set t (m + 1) (get_or t m 0)) (n + 1 + (m + 1)) (get_or (set t (m + 1) (get_or t m 0)) (n + 1 + m) 0) ≡ lengthened w m u t
unfolding lengthened
passed_on w n m u t is inside on =
    rw (is, get_or-set_other t (m + 1) (length w + 1 + m) (get_or t m 0) 0 (omega arith)) (simp (lt-leb (length w) m inside, on))

pub returns-then-n-m : goal.returns-then-n-m
unfolding lengthened
returns-then-n-m c = grind (arith, nat_tests)

pub returns : goal.returns
returns c =
    let g = c.args in
    let w = symbols g.w in
    passed_on w c.len-n.result g.m g.period g.work.now c.len-n.ensures (omega (arith, c.len-n.ensures)) (sym c.same.ensures ∙ c.if-not-same.false)
