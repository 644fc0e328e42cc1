-- `page_lines::inner::put_symbols` meets its contract: its loop keeps what is left to store, and spaces are last. Assumes nothing.
use mathlib.Core.Path.{◌≡◌, refl, ap, subst, ◌∙◌}
use mathlib.Core.List.{List, ◌++◌, append_assoc}
use Prim.Native.Nat.{ℕ, ◌+◌, ◌-◌, ◌*◌}
use native.Mathlib.Omega.{arith}
use native.Mathlib.Nat.{mul-zero, mul-suc}
use native.Mathlib.Numerals.{add-one}
use lib.ListN.{length, get_or, drop}
use lib.Seq.{sets}
use Rattle.decimals.proofs.Claims.{digits_in_length}
use Rattle.writers.proofs.Stores.{Left, stored, left_all, left_as, left_less, left_last}
use Rattle.page_lines.specs.Line.{spaces, hex_byte, hex_digits, symbols, left_aligned}
use Rattle.page_lines.proofs.Columns.{symbols-length, symbols_more, symbols_done}
use Rattle.page_lines.proofs.inner.put_symbols.Goals as goal

pub loop-i-init : goal.loop-i-init
loop-i-init c =
    let g = c.args in
    let s = symbols g.digits g.shown.now in
    let ys = s ++ spaces (g.width - g.digits * length g.shown.now) in
    let e = ap (λ (n : ℕ). s ++ spaces (g.width - n)) (symbols-length g.digits g.shown.now) in
    subst (λ (b : ℕ). Left g.out.now g.at (left_aligned g.width s) g.out.now b ys) {x = g.at} {y = g.at + g.digits * 0} (omega (arith, mul-zero g.digits)) (left_all g.out.now g.at (left_aligned g.width s) ys e)

pub loop-i-preserved : goal.loop-i-preserved
loop-i-preserved c =
    let g = c.args in
    let l = c.loop-i in
    let xs = g.shown.now in
    let x = get_or xs l.i 0 in
    let blank = spaces (g.width - g.digits * length xs) in
    let later = symbols g.digits (drop (l.i + 1) xs) in
    let S = stored l.out (g.at + g.digits * l.i) (hex_digits g.digits x) c.put_symbol.new.out (g.at + g.digits * (l.i + 1))
    (omega (arith, digits_in_length 16 hex_byte g.digits x, ap (λ (n : ℕ). g.digits * n) (add-one l.i), mul-suc g.digits l.i), c.put_symbol.ensures) in
    left_less (later ++ blank)
    (left_as _ (ap (λ (s : List ℕ). s ++ blank) (symbols_more g.digits xs l.i (omega arith)) ∙ append_assoc (hex_digits g.digits x) later blank) l.invariant) S

pub returns : goal.returns
returns c =
    let g = c.args in
    let l = c.loop-i in
    let xs = g.shown.now in
    let blank = spaces (g.width - g.digits * length xs) in
    let e : length xs ≡ l.i = omega arith in
    let S = stored l.out (g.at + g.digits * l.i) blank c.fill.new.out (g.at + g.digits * l.i + length blank)
    (refl, c.fill.ensures ∙ ap (λ (i : ℕ). sets l.out (g.at + g.digits * i) blank) e) in
    (left_last (left_as blank (ap (λ (s : List ℕ). s ++ blank) (symbols_done g.digits xs l.i (omega arith))) l.invariant) S).bytes
