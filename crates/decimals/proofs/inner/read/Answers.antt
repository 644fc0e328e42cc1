-- `decimals::inner::read` meets its contract: what is read and the bytes that are left spell the number, if they are digits. Assumes nothing.
use mathlib.Core.Path.{sym, ap, ◌∙◌}
use Prim.Native.Nat.{◌<◌, ◌≤◌}
use native.Mathlib.Omega.{arith}
use Rattle.decimals.specs.Read.{number_in}
use Rattle.decimals.proofs.Loops.{read_first, bytes_are, bytes-length, eight_digits, digit_small}
use Rattle.decimals.proofs.inner.read.Goals as goal
use Rattle.decimals.proofs.inner.read.Goals.{Else-not-is_ascii_digit, After-from}

pub loop-b-init : goal.loop-b-init
loop-b-init c = let g = c.args in (omega arith, ap number_in (bytes_are g.s.now g.at g.width) ∙ read_first _)

-- so far there are at most eight digits
few : (c : Else-not-is_ascii_digit) → c.loop-b.x < 100000000
few c =
    let g = c.args in
    let l = c.loop-b in
    eight_digits l.x l.b-index (omega (arith, bytes-length g.s.now g.at g.width c.requires.0)) l.invariant.0

pub overflow_mul-x : goal.overflow_mul-x
overflow_mul-x c = omega (arith, few c)

-- the number of the digit in hand
digit : (c : After-from) → c.from.result ≤ 9
digit c = rw c.from.ensures (digit_small _ (sym c.is_ascii_digit.ensures.value ∙ c.if-not-is_ascii_digit.false))

pub overflow_add-x : goal.overflow_add-x
overflow_add-x c = let at = goal.at.overflow_add-x c in omega (arith, few at.Else-not-is_ascii_digit, digit at.After-from)
