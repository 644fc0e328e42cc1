-- The slots of two runs never collide: at a boundary e in both, a place that is a slot of both for boundaries up to e makes them one run (`slot_one_run`). A slot
-- is a boundary of its run, two units or more before the boundary that it serves; so the stretch from there to e has both units, and a stretch of two units has
-- only one. And in one run, two boundaries less than two units apart have different slots. Assumes nothing.
use mathlib.Core.Path.{◌≡◌, sym, subst}
use mathlib.Core.Logic.{◌≢◌}
use Prim.Native.Nat.{ℕ, suc, ◌+◌, ◌-◌, ◌*◌, ◌/◌, ◌%◌, ◌≤◌, ◌<◌}
use native.Mathlib.Omega.{arith}
use native.Mathlib.Decide.{dec_lt}
use native.Mathlib.Nat.{div-add-mod', mod-lt, mul-le-mul_right, suc-mul}
use Rattle.periods.proofs.InPlace.{smallest_unique}
use Rattle.runs.proofs.InPlace.{RunIn, piece_smallest, run_unique}

-- the slot for a boundary x is `two` before it or earlier
pub slot_early : (a two x : ℕ) → 1 ≤ two → a + two ≤ x → a + (x - a) % two + two ≤ x
slot_early a two x some h = go (dec_lt ((x - a) / two) 1)
  where
    k : (x - a) / two * two + (x - a) % two ≡ x - a
    k = div-add-mod' (x - a) two

    go : Dec ((x - a) / two < 1) → a + (x - a) % two + two ≤ x
    go (yes v) =
        let z : (x - a) / two ≤ 0 = omega arith in
        absurd (omega (arith, k, mod-lt (x - a) some, mul-le-mul_right two z))
    go (no v) = let o : 1 ≤ (x - a) / two = omega arith in omega (arith, k, mul-le-mul_right two o)

-- CLAIM: runs that both contain a stretch of two units of each are one run
pub slot_one_run : (f : ℕ → ℕ) (n A B p A' B' q y e : ℕ) → RunIn f n A B p → RunIn f n A' B' q → A ≤ y → A' ≤ y → e ≤ B → e ≤ B' → y + 2 * p ≤ e → y + 2 * q ≤ e
    → (A ≡ A') × (p ≡ q)
slot_one_run f n A B p A' B' q y e R S a b c d u v =
    let w : p ≡ q = smallest_unique f y e p q (piece_smallest f n A B y e p R a c u) (piece_smallest f n A' B' y e q S b d v) in
    let S' : RunIn f n A' B' p = subst (λ (z : ℕ). RunIn f n A' B' z) (sym w) S in
    ((run_unique f n A B A' B' y e p R S' a c b d (omega arith)).0, w)

-- two boundaries less than two units apart have different slots
pub slots_differ : (a two x e : ℕ) → a ≤ x → x < e → e < x + two → (x - a) % two ≢ (e - a) % two
slots_differ a two x e h l u z = go (dec_lt ((x - a) / two) ((e - a) / two))
  where
    k : (x - a) / two * two + (x - a) % two ≡ x - a
    k = div-add-mod' (x - a) two

    m : (e - a) / two * two + (e - a) % two ≡ e - a
    m = div-add-mod' (e - a) two

    go : Dec ((x - a) / two < (e - a) / two) → ⊥
    go (yes v) =
        let o : suc ((x - a) / two) ≤ (e - a) / two = omega arith in
        omega (arith, k, m, mul-le-mul_right two o, suc-mul ((x - a) / two) two)
    go (no v) =
        let o : (e - a) / two ≤ (x - a) / two = omega arith in
        omega (arith, k, m, mul-le-mul_right two o)
