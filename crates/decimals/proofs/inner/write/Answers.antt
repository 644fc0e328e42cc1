-- `decimals::inner::write` meets its contract: before each turn the first i digits stand, and read as the number made so far. Assumes nothing.
use mathlib.Core.Path.{◌≡◌, refl, sym, ap, ◌∙◌}
use Prim.Native.Nat.{ℕ, ◌+◌}
use native.Mathlib.Omega.{arith}
use lib.Seq.{sets}
use Rattle.laws.proofs.Stores.{stored_next}
use Rattle.decimals.specs.Decimal.{digits, made}
use Rattle.decimals.proofs.Claims.{digits-length, made_all}
use Rattle.decimals.proofs.Loops.{none_made, no_digits, digits_more}
use Rattle.decimals.proofs.inner.write.Goals as goal

pub loop-i-init : goal.loop-i-init
loop-i-init c =
    let g = c.args in
    (refl, none_made g.width g.x c.requires.2, ap (sets g.out.now g.at) (sym (no_digits (made g.width 0 g.x))))

pub loop-i-preserved : goal.loop-i-preserved
loop-i-preserved c =
    let d = c.make_digit in
    let l = c.loop-i in
    let g = c.args in
    let y : ℕ = made g.width l.i g.x in (
      d.auto.out ∙ l.invariant.0,
      d.ensures.reads,
      stored_next g.out.now l.out d.new.out g.at (g.at + l.i) _ (digits l.i y) _ l.invariant.2 (ap (λ (k : ℕ). g.at + k) (sym (digits-length l.i y))) d.ensures.stored
          (digits_more g.width l.i g.x (omega arith)),
    )

pub returns : goal.returns
returns c =
    let l = c.loop-i in
    let g = c.args in
    let e : l.i ≡ g.width = omega arith in
    l.invariant.2 ∙ ap (λ (i : ℕ). sets g.out.now g.at (digits i (made g.width i g.x))) e ∙ ap (λ (y : ℕ). sets g.out.now g.at (digits g.width y)) (made_all g.width g.x)
