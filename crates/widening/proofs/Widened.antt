-- Bytes widened into an array of 16-bit symbols are the same list of numbers. Assumes nothing.
use mathlib.Core.Path.{◌≡◌, refl, sym, ap, ◌∙◌}
use mathlib.Core.List.{List, ◌++◌}
use Prim.Native.Nat.{ℕ, suc, ◌+◌, ◌-◌, ◌<◌}
use native.Mathlib.Omega.{arith}
use native.Mathlib.Numerals.{add-one}
use lib.ListN.{length, get_or, set, take, drop}
use lib.Seq.{take-suc, drop-cons, set_at, length-take-le, append_snoc, take-append_seam}

-- one more symbol
pub widen_more : (s d x : List ℕ) (i : ℕ) → x ≡ take i s ++ drop i d → i < length s → i < length d → set x i (get_or s i 0) ≡ take (i + 1) s ++ drop (i + 1) d
widen_more s d x i e h k =
    rw (add-one i)
    (ap (λ (y : List ℕ). set y i (get_or s i 0)) (e ∙ ap (λ (y : List ℕ). take i s ++ y) (drop-cons d i 0 k))
    ∙ set_at (take i s) (get_or d i 0) (drop (suc i) d) (get_or s i 0) i (length-take-le i s (omega arith))
    ∙ sym (append_snoc (take i s) (get_or s i 0) (drop (suc i) d))
    ∙ rw (take-suc s i 0 h) refl)

-- the part that is handed on is the bytes
pub widened : (s d x : List ℕ) → x ≡ s ++ drop (length s) d → take (length s - 0) x ≡ s
widened s d x e =
    let z : length s - 0 ≡ length s = omega arith in
    rw (z, e) (take-append_seam s (drop (length s) d))
