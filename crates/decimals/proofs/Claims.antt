-- Writing a number in decimal and reading it are inverse to each other, for every width and number; its first digits read as its quotient by a power of ten;
-- and a plain number has as many digits as it needs and no leading zeros. By induction on the width, on the bytes, and on how many digits there may be. Assumes
-- nothing.
use mathlib.Core.Path.{◌≡◌, refl, sym, ap, ap₂, ◌∙◌, subst}
use mathlib.Core.Bool.{Bool, true, false, cond}
use mathlib.Core.List.{List, [], ◌∷◌, ◌++◌, append-nil, nil≢cons, cons≢nil, head-eq_of_cons-eq}
use Prim.Native.Nat.{ℕ, zero, suc, ◌+◌, ◌-◌, ◌*◌, ◌/◌, ◌%◌, ◌^◌, ◌≤◌, ◌<◌}
use native.Mathlib.Omega.{arith}
use native.Mathlib.Decide.{dec_lt}
use native.Mathlib.Nat.{pow-suc, pow-succ', mul-le-mul_right, mul_assoc, lt_of_lt_of_le, zero-add, add-zero, sub_self, sub-zero, div-one, div-eq_of_lt, div-div-eq-div-mul}
use native.Mathlib.Numerals.{add-one}
use borrow.Author.Tests.{lt-ltb, le-ltb, le-leb}
use lib.Dec.{T, leb, ltb, leb→le}
use lib.ListN.{length, take, length-append}
use lib.Seq.{append_snoc, take_all, take-append-le}
use Rattle.laws.proofs.Tests.{and_intro, and_left, and_right, T_true}
use Rattle.decimals.specs.Decimal.{zero_byte, digits_in, decimal_byte, digits, made, digit_count, plain, digit?, digits?, spelled, value}
use Rattle.decimals.specs.Read.{number_in}

-- ---- tests

pub digit_low : (b : ℕ) → T (digit? b) → zero_byte ≤ b
digit_low b h = leb→le zero_byte b (and_left (leb zero_byte b) (leb b (zero_byte + 9)) h)

pub digit_high : (b : ℕ) → T (digit? b) → b ≤ zero_byte + 9
digit_high b h = leb→le b (zero_byte + 9) (and_right (leb zero_byte b) (leb b (zero_byte + 9)) h)

pub is_digit : (b : ℕ) → zero_byte ≤ b → b ≤ zero_byte + 9 → digit? b ≡ true
is_digit b l u = simp (le-leb zero_byte b l, le-leb b (zero_byte + 9) u)

-- ---- digits

-- so many as are asked for, in any base
pub digits_in_length : (base : ℕ) (byte : ℕ → ℕ) (k x : ℕ) → length (digits_in base byte k x) ≡ k
unfolding digits_in
digits_in_length base byte zero x = refl
digits_in_length base byte (suc k) x = omega (arith, length-append (digits_in base byte k (x / base)) (byte (x % base) ∷ []), digits_in_length base byte k (x / base))

pub digits-length : (k x : ℕ) → length (digits k x) ≡ k
digits-length k x = digits_in_length 10 decimal_byte k x

digits_append : (xs ys : List ℕ) → T (digits? xs) → T (digits? ys) → T (digits? (xs ++ ys))
digits_append [] ys a b = b
digits_append (x ∷ xs) ys a b = and_intro (digit? x) (digits? (xs ++ ys)) (and_left (digit? x) (digits? xs) a) (digits_append xs ys (and_right (digit? x) (digits? xs) a) b)

one_digit : (d : ℕ) → d ≤ 9 → T (digits? ((zero_byte + d) ∷ []))
one_digit d h = and_intro (digit? (zero_byte + d)) true (subst T (sym (is_digit (zero_byte + d) (omega arith) (omega arith))) tt) tt

-- CLAIM: what is written is digits
pub digits_are_digits : (k x : ℕ) → T (digits? (digits k x))
unfolding digits_in
digits_are_digits zero x = tt
digits_are_digits (suc k) x = digits_append (digits k (x / 10)) ((zero_byte + x % 10) ∷ []) (digits_are_digits k (x / 10)) (one_digit (x % 10) (omega arith))

spelled_snoc : (a : ℕ) (xs : List ℕ) (b : ℕ) → spelled a (xs ++ b ∷ []) ≡ spelled a xs * 10 + (b - zero_byte)
spelled_snoc a [] b = refl
spelled_snoc a (x ∷ xs) b = spelled_snoc (a * 10 + (x - zero_byte)) xs b

-- CLAIM: what is written reads as the number, if it has no more digits
pub digits_value : (k x : ℕ) → x < 10 ^ k → value (digits k x) ≡ x
unfolding digits_in
digits_value zero x h = omega arith
digits_value (suc k) x h =
    spelled_snoc 0 (digits k (x / 10)) (zero_byte + x % 10)
    ∙ omega (arith, digits_value k (x / 10) (omega (arith, pow-suc 10 k)))

-- the digits of a number and those spelled after it
digits-spelled : (bs : List ℕ) (k x : ℕ) → T (digits? bs) → digits (k + length bs) (spelled x bs) ≡ digits k x ++ bs
unfolding digits_in
digits-spelled [] k x h = ap (λ (j : ℕ). digits j x) (add-zero k) ∙ sym (append-nil (digits k x))
digits-spelled (b ∷ bs) k x h =
    let low : zero_byte ≤ b = digit_low b (and_left (digit? b) (digits? bs) h) in
    let high : b ≤ zero_byte + 9 = digit_high b (and_left (digit? b) (digits? bs) h) in
    let y : ℕ = x * 10 + (b - zero_byte) in
    let front : y / 10 ≡ x = omega arith in
    let last : zero_byte + y % 10 ≡ b = omega arith in
    let more : k + suc (length bs) ≡ suc k + length bs = omega arith in
    ap (λ (j : ℕ). digits j (spelled y bs)) more
    ∙ digits-spelled bs (suc k) y (and_right (digit? b) (digits? bs) h)
    ∙ ap₂ (λ (u v : ℕ). digits k u ++ (v ∷ []) ++ bs) front last
    ∙ append_snoc (digits k x) b bs

-- CLAIM: the digits that spell a number are the ones that are written
pub value-digits : (bs : List ℕ) → T (digits? bs) → digits (length bs) (value bs) ≡ bs
unfolding digits_in
value-digits bs h = ap (λ (j : ℕ). digits j (value bs)) (sym (zero-add (length bs))) ∙ digits-spelled bs 0 0 h

spelled_bound : (bs : List ℕ) (x : ℕ) → T (digits? bs) → spelled x bs < suc x * 10 ^ length bs
spelled_bound [] x h = omega arith
spelled_bound (b ∷ bs) x h =
    let high : b ≤ zero_byte + 9 = digit_high b (and_left (digit? b) (digits? bs) h) in
    let y : ℕ = x * 10 + (b - zero_byte) in
    let power : suc x * 10 * 10 ^ length bs ≡ suc x * 10 ^ suc (length bs) = mul_assoc (suc x) 10 (10 ^ length bs) ∙ ap (λ (p : ℕ). suc x * p) (sym (pow-succ' 10 (length bs))) in
    subst (λ (p : ℕ). spelled y bs < p) power
    (lt_of_lt_of_le (spelled_bound bs y (and_right (digit? b) (digits? bs) h)) (mul-le-mul_right (10 ^ length bs) (omega arith)))

-- CLAIM: so many digits spell a number below that power of ten
pub value_bound : (bs : List ℕ) → T (digits? bs) → value bs < 10 ^ length bs
value_bound bs h = omega (arith, spelled_bound bs 0 h)

-- ---- what the reader says

-- a number that is read is the one that digits spell
pub number_some : (bs : List ℕ) (x : ℕ) → x ∷ [] ≡ number_in bs → (digits? bs ≡ true) × (x ≡ value bs)
unfolding number_in
number_some bs x e = go (digits? bs) refl
  where
    go : (t : Bool) → digits? bs ≡ t → (digits? bs ≡ true) × (x ≡ value bs)
    go true d = (d, head-eq_of_cons-eq (e ∙ ap (λ (t : Bool). cond t (value bs ∷ []) []) d))
    go false d = absurd (cons≢nil (e ∙ ap (λ (t : Bool). cond t (value bs ∷ []) []) d))

-- where none is read they are not all digits
pub number_none : (bs : List ℕ) → [] ≡ number_in bs → digits? bs ≡ false
unfolding number_in
number_none bs e = go (digits? bs) refl
  where
    go : (t : Bool) → digits? bs ≡ t → digits? bs ≡ false
    go true d = absurd (nil≢cons (e ∙ ap (λ (t : Bool). cond t (value bs ∷ []) []) d))
    go false d = d

-- digits that are written are read
pub number_digits : (k x : ℕ) → x < 10 ^ k → number_in (digits k x) ≡ x ∷ []
unfolding number_in
number_digits k x h = rw (T_true (digits? (digits k x)) (digits_are_digits k x), digits_value k x h) refl

-- and one more digit makes ten times the number and that digit
pub number_more : (bs : List ℕ) (x d : ℕ) → number_in bs ≡ x ∷ [] → d ≤ 9 → number_in (bs ++ (zero_byte + d) ∷ []) ≡ (x * 10 + d) ∷ []
unfolding number_in
number_more bs x d e h =
    let s = number_some bs x (sym e) in
    let b : T (digits? (bs ++ (zero_byte + d) ∷ [])) = digits_append bs ((zero_byte + d) ∷ []) (subst T (sym s.0) tt) (one_digit d h) in
    rw (T_true (digits? (bs ++ (zero_byte + d) ∷ [])) b) (ap (λ (y : ℕ). y ∷ []) (spelled_snoc 0 bs (zero_byte + d) ∙ omega (arith, s.1)))

-- ---- digits from the highest down

pub made_all : (width x : ℕ) → made width width x ≡ x
unfolding made
made_all width x = ap (λ (k : ℕ). x / 10 ^ k) (sub_self width) ∙ div-one x

pub made_none : (width x : ℕ) → x < 10 ^ width → made width 0 x ≡ 0
unfolding made
made_none width x h = ap (λ (k : ℕ). x / 10 ^ k) (sub-zero width) ∙ div-eq_of_lt h

-- the number made before is the one made now without its last digit
pub made_before : (width i x : ℕ) → i < width → made width i x ≡ made width (i + 1) x / 10
unfolding made
made_before width i x h =
    let e : width - i ≡ suc (width - (i + 1)) = omega arith in
    ap (λ (k : ℕ). x / 10 ^ k) e
    ∙ ap (λ (p : ℕ). x / p) (pow-suc 10 (width - (i + 1)))
    ∙ sym (div-div-eq-div-mul x (10 ^ (width - (i + 1))) 10)

made_bound : (width i x : ℕ) → x < 10 ^ width → i ≤ width → made width i x < 10 ^ i
made_bound width zero x h l = omega (arith, made_none width x h)
made_bound width (suc i) x h l =
    let e : made width i x ≡ made width (suc i) x / 10 = made_before width i x l ∙ ap (λ (j : ℕ). made width j x / 10) (add-one i) in
    omega (arith, made_bound width i x h (omega arith), e, pow-suc 10 i)

-- the first i digits, when k follow
first_digits : (i k x : ℕ) → take i (digits (i + k) x) ≡ digits i (x / 10 ^ k)
unfolding digits_in
first_digits i zero x = ap (λ (j : ℕ). take i (digits j x)) (add-zero i) ∙ take_all i (digits i x) (omega (arith, digits-length i x)) ∙ ap (digits i) (sym (div-one x))
first_digits i (suc k) x =
    let more : i + suc k ≡ suc (i + k) = omega arith in
    ap (λ (j : ℕ). take i (digits j x)) more
    ∙ take-append-le i (digits (i + k) (x / 10)) ((zero_byte + x % 10) ∷ []) (omega (arith, digits-length (i + k) (x / 10)))
    ∙ first_digits i k (x / 10)
    ∙ ap (digits i) (div-div-eq-div-mul x 10 (10 ^ k) ∙ ap (λ (p : ℕ). x / p) (sym (pow-succ' 10 k)))

-- CLAIM: the first i digits of a number, read as a number, are the number made so far
pub made_digits : (width i x : ℕ) → i ≤ width → x < 10 ^ width → number_in (take i (digits width x)) ≡ made width i x ∷ []
unfolding made
made_digits width i x l h =
    let e : i + (width - i) ≡ width = omega arith in
    ap (λ (j : ℕ). number_in (take i (digits j x))) (sym e)
    ∙ ap number_in (first_digits i (width - i) x)
    ∙ number_digits i (made width i x) (made_bound width i x h l)

-- ---- the number of digits

pub count_positive : (most x : ℕ) → 1 ≤ digit_count most x
unfolding digit_count
count_positive zero x = omega arith
count_positive (suc most) x = go (ltb x 10)
  where
    go : (t : Bool) → 1 ≤ cond t 1 (suc (digit_count most (x / 10)))
    go true = omega arith
    go false = omega arith

pub count_one : (most x : ℕ) → x < 10 → digit_count most x ≡ 1
unfolding digit_count
count_one zero x h = refl
count_one (suc most) x h = simp (lt-ltb x 10 h)

pub count_more : (most x : ℕ) → 10 ≤ x → digit_count (suc most) x ≡ suc (digit_count most (x / 10))
unfolding digit_count
count_more most x h = simp (le-ltb x 10 h)

-- the number is below the power of ten of its count, if it may have so many
pub count_fits : (most x : ℕ) → x < 10 ^ suc most → x < 10 ^ digit_count most x
unfolding digit_count
count_fits zero x h = h
count_fits (suc most) x h = go (count_fits most (x / 10) (omega (arith, pow-suc 10 (suc most)))) (dec_lt x 10)
  where
    go : x / 10 < 10 ^ digit_count most (x / 10) → Dec (x < 10) → x < 10 ^ cond (ltb x 10) 1 (suc (digit_count most (x / 10)))
    go ih (yes l) = simp (lt-ltb x 10 l) (omega arith)
    go ih (no l) = simp (le-ltb x 10 (omega arith)) (omega (arith, pow-suc 10 (digit_count most (x / 10))))

-- and at least the power of ten below
pub count_shortest : (most x : ℕ) → 1 ≤ x → 10 ^ (digit_count most x - 1) ≤ x
unfolding digit_count
count_shortest zero x h = h
count_shortest (suc most) x h = go (λ l. count_shortest most (x / 10) l) (dec_lt x 10)
  where
    go : (1 ≤ x / 10 → 10 ^ (digit_count most (x / 10) - 1) ≤ x / 10) → Dec (x < 10) → 10 ^ (cond (ltb x 10) 1 (suc (digit_count most (x / 10))) - 1) ≤ x
    go ih (yes l) = simp (lt-ltb x 10 l) (omega arith)
    go ih (no l) =
        let d : ℕ = digit_count most (x / 10) in
        let e : 10 ^ (suc d - 1) ≡ 10 ^ suc (d - 1) = ap (λ (j : ℕ). 10 ^ j) {x = suc d - 1} {y = suc (d - 1)} (omega (arith, count_positive most (x / 10))) in
        simp (le-ltb x 10 (omega arith)) (omega (arith, ih (omega arith), pow-suc 10 (d - 1)))

-- CLAIM: a plain number has enough digits
pub plain_fits : (x : ℕ) → x < 10 ^ 10 → x < 10 ^ digit_count 9 x
plain_fits x h = count_fits 9 x h

-- CLAIM: and no leading zero
pub plain-shortest : (x : ℕ) → 1 ≤ x → 10 ^ (digit_count 9 x - 1) ≤ x
plain-shortest x h = count_shortest 9 x h

-- CLAIM: so it reads as the number
pub plain_value : (x : ℕ) → x < 10 ^ 10 → value (plain x) ≡ x
plain_value x h = digits_value (digit_count 9 x) x (plain_fits x h)
