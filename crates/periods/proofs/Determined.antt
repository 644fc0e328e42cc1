-- The meaning of the part call leaves one answer and one table: what means what the documents say is what is computed. A unit, answered or written, is the
-- smallest period, which is unique; turns and rest are the quotient and the remainder; the flag is decided by the test. Assumes nothing.
use mathlib.Core.Path.{◌≡◌, refl, sym, ap, ◌∙◌}
use mathlib.Core.Bool.{Bool, true, false}
use mathlib.Core.List.{List, [], ◌∷◌, ◌++◌}
use Prim.Native.Nat.{ℕ, suc, ◌+◌, ◌-◌, ◌*◌, ◌/◌, ◌%◌, ◌≤◌, ◌<◌}
use native.Mathlib.Omega.{arith}
use native.Mathlib.Nat.{add-zero, div-eq_of_lt, mod-eq_of_lt, mul-add-div_right, mul-add-mod_self_right}
use lib.Dec.{T}
use lib.ListN.{length, get_or, take, drop, length-take, take-append-drop}
use lib.Seq.{get_or-take, ext_get_or}
use Rattle.answers.specs.Outcome.{Outcome, accepted}
use Rattle.periods.specs.Period.{part, repetition?, held_period, prefix_periods, units_table}
use Rattle.periods.specs.Edition.{turns_of}
use Rattle.periods.specs.Part.{flag, description, part_outcome, part_table, Describes, Grows, PartMeaning, too_long, bad_edition, outside, too_few, described}
use Rattle.periods.proofs.Claims.{smallest_period_unique, prefix_periods-length, prefix_periods_at, repetition_sound, repetition_complete}
use Rattle.periods.proofs.PartClaims.{part_length, part_too_long, part_bad_edition, part_outside, part_too_few, part_described}

-- with a remainder below the divisor, they are the quotient and the remainder of the division
quotient_is : (u t r n : ℕ) → t * u + r ≡ n → r < u → t ≡ n / u
quotient_is u t r n e h = sym (ap (λ (m : ℕ). m / u) (sym e) ∙ mul-add-div_right (omega arith) t r ∙ ap (λ (q : ℕ). t + q) (div-eq_of_lt h) ∙ add-zero t)

remainder_is : (u t r n : ℕ) → t * u + r ≡ n → r < u → r ≡ n % u
remainder_is u t r n e h = sym (ap (λ (m : ℕ). m % u) (sym e) ∙ mul-add-mod_self_right t u r ∙ mod-eq_of_lt h)

-- a number up to 1 that is 1 exactly where a test passes
flag_is : (b : ℕ) (c : Bool) → b ≤ 1 → (b ≡ 1 → T c) → (T c → b ≡ 1) → b ≡ flag c
flag_is b true h f g = g tt
flag_is b false h f g = let n : b ≡ 1 → ⊥ = f in omega (arith, n)

pub description_determined : (k : ℕ) (s : List ℕ) (u t r b : ℕ) → Describes k s u t r b → ◌≡◌ {A = List ℕ} (u ∷ t ∷ r ∷ b ∷ []) (description k s)
unfolding description
description_determined k s u t r b D = rw (
  smallest_period_unique s u D.smallest,
  sym (quotient_is u t r (length s) D.divided D.short),
  sym (remainder_is u t r (length s) D.divided D.short),
  sym block,
) refl
  where
    block : b ≡ flag (repetition? held_period k s)
    block = flag_is b (repetition? held_period k s) D.flagged (λ e. repetition_complete held_period k s (D.is_block.0 e)) (λ p. D.is_block.1 (repetition_sound held_period k s p))

-- a table that grows with the prefixes is the one that the smallest periods were written to
grows_determined : (s t x : List ℕ) (u : ℕ) → Grows s t x u → length s ≤ length t → x ≡ units_table s t
unfolding units_table
grows_determined s t x u G h =
    sym (take-append-drop (length s) x)
    ∙ ap (λ (y : List ℕ). y ++ drop (length s) x) front
    ∙ ap (λ (y : List ℕ). prefix_periods s (length s) ++ y) G.kept
  where
    same : (i : ℕ) → i < length s → get_or (take (length s) x) i 0 ≡ get_or (prefix_periods s (length s)) i 0
    same i l =
        let e : suc i - 1 ≡ i = omega arith in
        get_or-take (length s) x i 0 l
        ∙ sym (smallest_period_unique (take (suc i) s) (get_or x i 0) (rw e at (G.units (suc i) (omega arith) l)))
        ∙ sym (prefix_periods_at s (length s) i l)

    front : take (length s) x ≡ prefix_periods s (length s)
    front =
        ext_get_or 0 (take (length s) x) (prefix_periods s (length s)) (omega (arith, length-take (length s) x, G.long, prefix_periods-length s (length s)))
        (λ i l. same i (omega (arith, length-take (length s) x)))

-- CLAIM: the part call's answer and table are the only ones that mean what the documents say
pub part_determined : (w : List ℕ) (edition first last : ℕ) (t : List ℕ) (o : Outcome) (x : List ℕ) → PartMeaning w edition first last t o x
    → (o ≡ part_outcome w edition first last (length t)) × (x ≡ part_table w edition first last t)
part_determined w edition first last t o x (too_long h e f) = let g = part_too_long w edition first last t h in (e ∙ g.0, f ∙ g.1)
part_determined w edition first last t o x (bad_edition h i e f) = let g = part_bad_edition w edition first last t h i in (e ∙ g.0, f ∙ g.1)
part_determined w edition first last t o x (outside h i k e f) = let g = part_outside w edition first last t h i k in (e ∙ g.0, f ∙ g.1)
part_determined w edition first last t o x (too_few h i k l e f) = let g = part_too_few w edition first last t h i k l in (e ∙ g.0, f ∙ g.1)
part_determined w edition first last t o x (described h i k l u q r b D e G) =
    let s = part w (first - 1) last in
    let g = part_described w edition first last t h i k l in (
      e ∙ ap accepted (description_determined (turns_of edition) s u q r b D) ∙ g.0,
      grows_determined s t x u G (omega (arith, part_length w first last k)) ∙ g.1,
    )
