-- The refusals have the numbers 1 to 12, each once; the index is 0 but for 3 and 4; a refusal's number and index determine it.
-- All by computing with the function back from a number to the refusal. Assumes nothing.
use mathlib.Core.Path.{◌≡◌, refl, sym, ap, ap₂, ◌∙◌}
use mathlib.Core.Bool.{Bool, true, cond, ◌&&◌}
use mathlib.Core.List.{List, [], ◌∷◌}
use Prim.Native.Nat.{ℕ, zero, suc, ◌≤◌, ◌<◌}
use native.Mathlib.Omega.{arith}
use native.Mathlib.Decide.{dec_lt}
use Rattle.laws.proofs.Tests.{and_left, and_right}
use lib.Dec.{T, eqb, eqb→eq, lit≤}
use Rattle.std.specs.Prelude.{Result, Ok, Err}
use Rattle.answers.specs.declared.Refusal.{Refusal}
use Rattle.answers.specs.declared.Refusal.TheVariants.{TooLong, NoFactorization, BadEnd, NotBlock, Unfinished, BadPosition, TooFewPlaces, BadChoice, ShortTable, OddPath, NotPlan, BadEdition}
use Rattle.answers.specs.Outcome.{Outcome, accepted, refused, code_of, refusal, counted_view}

-- how many refusals there are
abbrev pub refusals : ℕ
refusals = 12

-- the refusal with a number and an index
abbrev pub with_code : ℕ → ℕ → Refusal
with_code n i =
    cond (eqb n 1) TooLong
    (cond (eqb n 2) NoFactorization
    (cond (eqb n 3) (BadEnd i)
    (cond (eqb n 4) (NotBlock i)
    (cond (eqb n 5) Unfinished
    (cond (eqb n 6) BadPosition
    (cond (eqb n 7) TooFewPlaces (cond (eqb n 8) BadChoice (cond (eqb n 9) ShortTable (cond (eqb n 10) OddPath (cond (eqb n 11) NotPlan BadEdition))))))))))

with_code_lem : (r : Refusal) → with_code (code_of r).0 (code_of r).1 ≡ r
with_code_lem TooLong = refl
with_code_lem NoFactorization = refl
with_code_lem (BadEnd i) = refl
with_code_lem (NotBlock i) = refl
with_code_lem Unfinished = refl
with_code_lem BadPosition = refl
with_code_lem TooFewPlaces = refl
with_code_lem BadChoice = refl
with_code_lem ShortTable = refl
with_code_lem OddPath = refl
with_code_lem NotPlan = refl
with_code_lem BadEdition = refl

-- a refusal is determined by what it returns
pub refusal_injective : (r s : Refusal) → refusal r ≡ refusal s → r ≡ s
refusal_injective r s e =
    let n : (code_of r).0 ≡ (code_of s).0 = cc in
    let i : (code_of r).1 ≡ (code_of s).1 = cc in
    sym (with_code_lem r) ∙ ap₂ with_code n i ∙ with_code_lem s

-- each number is from 1 to 12
pub number_range : (r : Refusal) → (1 ≤ (code_of r).0) × ((code_of r).0 ≤ refusals)
number_range TooLong = (lit≤ tt, lit≤ tt)
number_range NoFactorization = (lit≤ tt, lit≤ tt)
number_range (BadEnd i) = (lit≤ tt, lit≤ tt)
number_range (NotBlock i) = (lit≤ tt, lit≤ tt)
number_range Unfinished = (lit≤ tt, lit≤ tt)
number_range BadPosition = (lit≤ tt, lit≤ tt)
number_range TooFewPlaces = (lit≤ tt, lit≤ tt)
number_range BadChoice = (lit≤ tt, lit≤ tt)
number_range ShortTable = (lit≤ tt, lit≤ tt)
number_range OddPath = (lit≤ tt, lit≤ tt)
number_range NotPlan = (lit≤ tt, lit≤ tt)
number_range BadEdition = (lit≤ tt, lit≤ tt)

-- the test passes at each number from 1 to n
abbrev up_to : (ℕ → Bool) → ℕ → Bool
up_to t zero = true
up_to t (suc n) = up_to t n && t (suc n)

up_to_lem : (t : ℕ → Bool) (n : ℕ) → T (up_to t n) → (i : ℕ) → 1 ≤ i → i ≤ n → T (t i)
up_to_lem t zero h i a b = absurd (omega arith)
up_to_lem t (suc n) h i a b = go (up_to_lem t n (and_left (up_to t n) (t (suc n)) h) i a) (dec_lt n i)
  where
    go : (i ≤ n → T (t i)) → Dec (n < i) → T (t i)
    go below (yes l) = let e : i ≡ suc n = omega arith in rw e (and_right (up_to t n) (t (suc n)) h)
    go below (no l) = below (omega arith)

-- each number from 1 to 12 is a refusal's
pub number_taken : (n i : ℕ) → 1 ≤ n → n ≤ refusals → (code_of (with_code n i)).0 ≡ n
number_taken n i a b =
    eqb→eq (code_of (with_code n i)).0 n (up_to_lem (λ m. eqb (code_of (with_code m i)).0 m) refusals tt n a b)

-- only 3 and 4 have an index
pub index_zero : (r : Refusal) → ((code_of r).0 ≡ 3 → ⊥) → ((code_of r).0 ≡ 4 → ⊥) → (code_of r).1 ≡ 0
index_zero TooLong a b = refl
index_zero NoFactorization a b = refl
index_zero (BadEnd i) a b = absurd (a refl)
index_zero (NotBlock i) a b = absurd (b refl)
index_zero Unfinished a b = refl
index_zero BadPosition a b = refl
index_zero TooFewPlaces a b = refl
index_zero BadChoice a b = refl
index_zero ShortTable a b = refl
index_zero OddPath a b = refl
index_zero NotPlan a b = refl
index_zero BadEdition a b = refl

-- a refused outcome has one number
pub refused_number : (o : Outcome) (m n i j : ℕ) → o ≡ refused m i → o ≡ refused n j → m ≡ n
refused_number o m n i j e d = cc

-- nothing is both refused and accepted
pub refused_accepted : (o : Outcome) (n i : ℕ) (v : List ℕ) → o ≡ refused n i → o ≡ accepted v → ⊥
refused_accepted o n i v e d = let z : ◌≡◌ {A = ℕ} 0 1 = cc in omega arith

-- an answer that gives one number is determined by what it returns
pub counted_injective : (x y : Result ℕ Refusal) → counted_view x ≡ counted_view y → x ≡ y
counted_injective (Ok m) (Ok n) e = let f : m ≡ n = cc in ap Ok f
counted_injective (Ok m) (Err s) e = absurd (refused_accepted (refusal s) (code_of s).0 (code_of s).1 (m ∷ []) refl (sym e))
counted_injective (Err r) (Ok n) e = absurd (refused_accepted (refusal r) (code_of r).0 (code_of r).1 (n ∷ []) refl e)
counted_injective (Err r) (Err s) e = ap Err (refusal_injective r s e)
