-- What each way through `attempt` gives: the candidate is too short, was found, can be lengthened, or is new. Assumes nothing.
use mathlib.Core.Path.{◌≡◌, refl, sym, ◌∙◌, subst}
use mathlib.Core.Logic.{◌≢◌}
use mathlib.Core.Bool.{Bool, true, false, not}
use mathlib.Core.List.{List}
use Prim.Native.Nat.{ℕ, zero, suc, ◌+◌, ◌-◌, ◌*◌, ◌≤◌, ◌<◌}
use native.Mathlib.Omega.{arith}
use native.Mathlib.Decide.{dec_lt}
use lib.Dec.{T, eqb, eqb→eq, eqb_refl, T_not}
use lib.ListN.{length, get_or}
use Rattle.periods.specs.Period.{part, smallest_period}
use Rattle.periods.proofs.InPlace.{symbol}
use Rattle.runs.specs.Table.{run?, left?, right?}
use Rattle.runs.proofs.InPlace.{RunIn}
use Rattle.runs.proofs.Listed.{run_sound}
use Rattle.runs.proofs.Rows.{right_end, right_test}
use Rattle.runs.specs.declared.Listing.{Listing}
use Rattle.halves.specs.Scratch.{ends_row, next_row}
use Rattle.halves.specs.Found.{Periodic, Ready, New, Tried}
use Rattle.halves.specs.Kept.{Advances, SamePrefixes}
use Rattle.halves.proofs.ScratchRows.{row_read}
use Rattle.halves.proofs.Candidates.{is_new}
use Rattle.halves.proofs.Recorded.{keeps_none}

-- ---- the two tests

no_clash : true ≡ false → ⊥
no_clash e = subst T e tt

not-false : (b : Bool) → not b ≡ false → T b
not-false true e = tt
not-false false e = absurd (no_clash e)

differ : (x y : ℕ) → not (eqb x y) ≡ true → x ≢ y
differ x y e z = T_not (eqb x y) (subst T (sym e) tt) (subst (λ (k : ℕ). T (eqb x k)) z (eqb_refl x))

left_true : (w : List ℕ) (a p : ℕ) → left? w a p ≡ true → (i : ℕ) → suc i ≡ a → symbol w i ≢ symbol w (i + p)
left_true w zero p h i e = absurd (omega arith)
left_true w (suc a) p h i e = let z : i ≡ a = omega arith in rw z (differ (symbol w a) (symbol w (a + p)) h)

left_false : (w : List ℕ) (a p : ℕ) → left? w a p ≡ false → ((i : ℕ) → suc i ≡ a → symbol w i ≢ symbol w (i + p)) → ⊥
left_false w zero p h d = no_clash h
left_false w (suc a) p h d = d a refl (eqb→eq (symbol w a) (symbol w (a + p)) (not-false (eqb (symbol w a) (symbol w (a + p))) h))

right_true : (w : List ℕ) (b p : ℕ) → right? w b p ≡ true → b < length w → symbol w b ≢ symbol w (b - p)
right_true w b p h l = differ (symbol w b) (symbol w (b - p)) (sym (right_test w b p (λ e. omega arith)) ∙ h)

right_false : (w : List ℕ) (b p : ℕ) → right? w b p ≡ false → b ≤ length w → (b < length w → symbol w b ≢ symbol w (b - p)) → ⊥
right_false w b p h l d = go (dec_lt b (length w))
  where
    go : Dec (b < length w) → ⊥
    go (yes z) = d z (eqb→eq (symbol w b) (symbol w (b - p)) (not-false (eqb (symbol w b) (symbol w (b - p))) (sym (right_test w b p (λ e. omega arith)) ∙ h)))
    go (no z) = no_clash (sym (right_end w b p (omega arith)) ∙ h)

-- ---- the ways

module _ (f : Listing) (w s table : List ℕ) (a b p : ℕ) (P : Periodic w a b p) where
  -- nothing is recorded: either the part is no run, or it was found
  abbrev Stays : Type 0
  Stays = Advances f w s table s table × (SamePrefixes w s s × Tried w a b p (ends_row w s))

  stays : (T (run? w a b) → smallest_period (part w a b) ≡ p → b ≤ get_or (ends_row w s) a 0) → Stays
  stays h = (keeps_none f w (ends_row w s) (next_row w s) table, (record { prefixes = refl; suffixes = refl }, record { found = h }))

  run : T (run? w a b) → smallest_period (part w a b) ≡ p → RunIn (symbol w) (length w) a b p
  run t q = subst (λ (z : ℕ). RunIn (symbol w) (length w) a b z) q (run_sound w a b P.within t)

  pub way_short : b < a + 2 * p → Stays
  way_short h = stays (λ t q. absurd (omega (arith, (run t q).twice)))

  -- the end of its start, as it is read
  end_read : get_or (ends_row w s) a 0 ≡ get_or s (2 * (length w + 1) + a) 0
  end_read = row_read (length w) s (2 * (length w + 1)) a (omega (arith, P.fits, P.within))

  pub way_old : b ≤ get_or s (2 * (length w + 1) + a) 0 → Stays
  way_old h = stays (λ t q. omega (arith, end_read))

  pub way_left : left? w a p ≡ false → Stays
  way_left h = stays (λ t q. absurd (left_false w a p h (run t q).left))

  pub way_right : right? w b p ≡ false → Stays
  way_right h = stays (λ t q. absurd (right_false w b p h P.within (run t q).right))

  -- all tests passed: it is new
  pub way_new : a + 2 * p ≤ b → left? w a p ≡ true → right? w b p ≡ true → Ready w a b p (ends_row w s) → get_or s (2 * (length w + 1) + a) 0 < b → New w a b p (ends_row w s)
  way_new h l r D e = is_new w a b p (ends_row w s) P h (left_true w a p l) (right_true w b p r) D (omega (arith, end_read))
