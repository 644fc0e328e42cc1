-- What the loops of `inner` keep: the digits still to be counted and to be read give what is left of the answer; the digits made so far read as the number
-- divided by a power of ten. Assumes nothing.
use mathlib.Core.Path.{◌≡◌, refl, sym, ap, ap₂, ◌∙◌, subst}
use mathlib.Core.Bool.{true, cond}
use mathlib.Core.List.{List, [], ◌∷◌, ◌++◌}
use Prim.Native.Nat.{ℕ, zero, suc, ◌+◌, ◌-◌, ◌*◌, ◌/◌, ◌%◌, ◌^◌, ◌≤◌, ◌<◌}
use native.Mathlib.Omega.{arith}
use native.Mathlib.Decide.{dec_lt}
use native.Mathlib.Numerals.{add-one}
use native.Mathlib.Nat.{pow-suc, pow-succ', pow-le-pow_right, mul_assoc, one-mul}
use borrow.Author.Tests.{lt-ltb, le-ltb}
use lib.Dec.{T, ltb}
use lib.ListN.{length, get_or, set, take, drop, length-drop}
use lib.Seq.{drop-set-add, take-suc-set, length-take-le}
use Rattle.decimals.specs.Decimal.{zero_byte, most_digits, digits_in, decimal_byte, digits, made, digit_count, digit?, digits?, spelled, field}
use Rattle.decimals.specs.Read.{number_in}
use Rattle.decimals.proofs.Claims.{digit_high, number_more, made_none, made_before, count_one, count_more}

-- ---- counting

-- how many digits there are, when k are counted and `rest` is left of the number
abbrev pub counted : ℕ → ℕ → ℕ
counted k rest = cond (ltb 0 rest) (k + digit_count (9 - k) rest) k

pub counted_first : (x : ℕ) → digit_count 9 x ≡ counted 1 (x / 10)
counted_first x = go (dec_lt x 10)
  where
    go : Dec (x < 10) → digit_count 9 x ≡ counted 1 (x / 10)
    go (yes l) = count_one 9 x l ∙ sym (simp (le-ltb 0 (x / 10) (omega arith)))
    go (no l) = count_more 8 x (omega arith) ∙ sym (simp (lt-ltb 0 (x / 10) (omega arith)) (omega arith))

-- what is left has no more digits than are not yet counted
pub rest_falls : (k rest : ℕ) → 0 < rest → rest < 10 ^ (10 - k) → (k ≤ 9) × (rest / 10 < 10 ^ (10 - (k + 1)))
rest_falls k rest p h = go (10 - k) refl
  where
    go : (m : ℕ) → 10 - k ≡ m → (k ≤ 9) × (rest / 10 < 10 ^ (10 - (k + 1)))
    go zero e = absurd (let z : 10 ^ (10 - k) ≡ 1 = ap (λ (j : ℕ). 10 ^ j) e in omega arith)
    go (suc m) e =
        let z : 10 ^ (10 - k) ≡ 10 ^ suc m = ap (λ (j : ℕ). 10 ^ j) e in
        let w : 10 ^ (10 - (k + 1)) ≡ 10 ^ m = ap (λ (j : ℕ). 10 ^ j) {x = 10 - (k + 1)} {y = m} (omega arith) in
        (omega arith, omega (arith, pow-suc 10 m))

pub counted_more : (k rest : ℕ) → 0 < rest → rest < 10 ^ (10 - k) → counted k rest ≡ counted (k + 1) (rest / 10)
counted_more k rest p h = go (9 - k) refl (dec_lt rest 10)
  where
    go : (m : ℕ) → 9 - k ≡ m → Dec (rest < 10) → counted k rest ≡ counted (k + 1) (rest / 10)
    go m e (yes l) = simp (lt-ltb 0 rest p, le-ltb 0 (rest / 10) (omega arith)) (omega (arith, count_one (9 - k) rest l))
    go zero e (no l) =
        let f = rest_falls k rest p h in
        absurd (let z : 10 ^ (10 - (k + 1)) ≡ 1 = ap (λ (j : ℕ). 10 ^ j) {x = 10 - (k + 1)} {y = 0} (omega (arith, f.0)) in omega (arith, f.1))
    go (suc m) e (no l) =
        let d : digit_count (9 - k) rest ≡ suc (digit_count m (rest / 10)) = ap (λ (j : ℕ). digit_count j rest) e ∙ count_more m rest (omega arith) in
        let f : digit_count (9 - (k + 1)) (rest / 10) ≡ digit_count m (rest / 10) = ap (λ (j : ℕ). digit_count j (rest / 10)) {x = 9 - (k + 1)} {y = m} (omega arith) in
        simp (lt-ltb 0 rest p, lt-ltb 0 (rest / 10) (omega arith)) (omega arith)

-- ---- writing

-- the powers of ten from p on
abbrev pub powers : ℕ → ℕ → List ℕ
powers zero p = []
powers (suc n) p = p ∷ powers n (p * 10)

power_at : (n p k : ℕ) → k < n → get_or (powers n p) k 0 ≡ p * 10 ^ k
power_at zero p k h = absurd (omega arith)
power_at (suc n) p zero h = omega arith
power_at (suc n) p (suc k) h = power_at n (p * 10) k (omega arith) ∙ mul_assoc p 10 (10 ^ k) ∙ ap (λ (q : ℕ). p * q) (sym (pow-succ' 10 k))

-- so a table of the powers from 1 on has them
pub powers_are : (k : ℕ) → k < most_digits → get_or (powers most_digits 1) k 0 ≡ 10 ^ k
powers_are k h = power_at most_digits 1 k h ∙ one-mul (10 ^ k)

pub power_positive : (k : ℕ) → 1 ≤ 10 ^ k
power_positive k = pow-le-pow_right {n = 10} (omega arith) {i = 0} {j = k} (omega arith)

-- the number made with a digit is the whole number divided by the digit's power of ten
pub made_quotient : (width i x p : ℕ) → p ≡ 10 ^ (width - 1 - i) → x / p ≡ made width (i + 1) x
unfolding made
made_quotient width i x p e =
    let k : width - 1 - i ≡ width - (i + 1) = omega arith in
    ap (λ (q : ℕ). x / q) (e ∙ ap (λ (j : ℕ). 10 ^ j) k)

-- before the first digit
pub none_made : (width x : ℕ) → x < 10 ^ width → number_in [] ≡ made width 0 x ∷ []
unfolding number_in
none_made width x h = ap (λ (y : ℕ). y ∷ []) (sym (made_none width x h))

pub no_digits : (x : ℕ) → digits 0 x ≡ []
unfolding digits_in
no_digits x = refl

-- a field with one more byte
field-set : (s : List ℕ) (at i b : ℕ) → at + i < length s → field (set s (at + i) b) at (i + 1) ≡ field s at i ++ (b ∷ [])
field-set s at i b h =
    ap₂ (λ (j : ℕ) (l : List ℕ). take j l) (add-one i) (drop-set-add at s i b)
    ∙ take-suc-set (drop at s) i b (omega (arith, length-drop at s))

module _ (width i x : ℕ) (inside : i < width) where
  -- one digit more, as it is read
  pub made_more : (s : List ℕ) (at : ℕ) → at + i < length s → number_in (field s at i) ≡ made width i x ∷ []
      → number_in (field (set s (at + i) (decimal_byte (made width (i + 1) x % 10))) at (i + 1)) ≡ made width (i + 1) x ∷ []
  made_more s at h e =
      let q : ℕ = made width (i + 1) x in
      ap number_in (field-set s at i (decimal_byte (q % 10)) h)
      ∙ number_more (field s at i) (made width i x) (q % 10) e (omega arith)
      ∙ ap (λ (y : ℕ). y ∷ []) (omega (arith, made_before width i x inside))

  -- and as it is stored
  pub digits_more : digits (i + 1) (made width (i + 1) x) ≡ digits i (made width i x) ++ (decimal_byte (made width (i + 1) x % 10) ∷ [])
  unfolding digits_in
  digits_more =
      ap (λ (j : ℕ). digits j (made width (i + 1) x)) (add-one i)
      ∙ ap (λ (y : ℕ). digits i y ++ (decimal_byte (made width (i + 1) x % 10) ∷ [])) (sym (made_before width i x inside))

-- ---- reading

-- the number that bytes spell after a number that is known, where they are all digits
abbrev pub spelled_in : ℕ → List ℕ → List ℕ
spelled_in x bs = cond (digits? bs) (spelled x bs ∷ []) []

pub read_first : (bs : List ℕ) → number_in bs ≡ spelled_in 0 bs
unfolding number_in
read_first bs = refl

pub field-length : (s : List ℕ) (at width : ℕ) → at + width ≤ length s → length (field s at width) ≡ width
field-length s at width h = length-take-le width (drop at s) (omega (arith, length-drop at s))

-- the bytes that are read are the field, and there are as many as it is wide
pub bytes_are : (s : List ℕ) (at width : ℕ) → field s at width ≡ take (at + width - at) (drop at s)
bytes_are s at width = ap (λ (j : ℕ). take j (drop at s)) {x = width} {y = at + width - at} (omega arith)

pub bytes-length : (s : List ℕ) (at width : ℕ) → at + width ≤ length s → length (take (at + width - at) (drop at s)) ≡ width
bytes-length s at width h = ap length (sym (bytes_are s at width)) ∙ field-length s at width h

-- the number of one digit
pub digit_small : (b : ℕ) → digit? b ≡ true → b - zero_byte ≤ 9
digit_small b e = omega (arith, digit_high b (subst T (sym e) tt))

-- a number of at most eight digits
pub eight_digits : (x i : ℕ) → i ≤ 8 → x < 10 ^ i → x < 100000000
eight_digits x i l h = omega (arith, pow-le-pow_right {n = 10} (omega arith) l)
