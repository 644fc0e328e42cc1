-- What the loops of this crate keep, and that each step keeps it: bytes that are stored from a place on, a prefix that is compared, ends that are judged,
-- tested and read one after another. Assumes nothing.
use mathlib.Core.Path.{◌≡◌, refl, sym, ap, ◌∙◌, subst}
use mathlib.Core.Bool.{Bool, true, false}
use mathlib.Core.List.{List, [], ◌∷◌, ◌++◌, append-nil, append_assoc}
use Prim.Native.Nat.{ℕ, zero, suc, ◌+◌, ◌-◌, ◌*◌, ◌≤◌, ◌<◌}
use native.Mathlib.Omega.{arith}
use native.Mathlib.Decide.{ℕ_discrete}
use native.Mathlib.Nat.{mul-zero, mul-suc, mul-le-mul_left, mul-le-mul_right}
use native.Mathlib.Numerals.{add-one}
use borrow.Author.Tests.{eq-eqb}
use lib.Dec.{T, eqb, eqb→eq}
use lib.Pointwise.{pointwise}
use Rattle.std.specs.Prelude.{◌&&◌, Option, Some, None, is_some, IsSome}
use lib.ListN.{length, get_or, set, take, drop, length-append, get_or-append}
use lib.Seq.{sets, take-suc, drop-cons, set_at, append_snoc, length-take-le, get_or_at}
use Rattle.laws.proofs.Tests.{and_left, and_right}
use Rattle.laws.proofs.Stores.{sets-append}
use Rattle.decimals.specs.Decimal.{comma, line_end, digits, digits?, field}
use Rattle.decimals.specs.Read.{number_view, number_in}
use Rattle.decimals.proofs.Claims.{digits-length, number_some, number_none}
use Rattle.plan_lines.specs.Line.{prefix_of, width_of, widest, fields, line, starts_with, step, place_of_length, place_of_count, place_of_end, bytes_for, number_at, field?, ends?, ends_in}

-- ---- bytes that are stored

sets_then : (xs ys l : List ℕ) (i j : ℕ) → i + length xs ≡ j → sets l i (xs ++ ys) ≡ sets (sets l i xs) j ys
sets_then xs ys l i j e = sets-append l i xs ys ∙ ap (λ (k : ℕ). sets (sets l i xs) k ys) e

-- ---- numbers of d digits

module _ (d : ℕ) where
  pub fields_append : (xs ys : List ℕ) → fields d (xs ++ ys) ≡ fields d xs ++ fields d ys
  fields_append [] ys = refl
  fields_append (x ∷ xs) ys = ap (λ (l : List ℕ). comma ∷ l) (ap (λ (l : List ℕ). digits d x ++ l) (fields_append xs ys) ∙ sym (append_assoc (digits d x) (fields d xs) (fields d ys)))

  pub fields_length : (xs : List ℕ) → length (fields d xs) ≡ step d * length xs
  fields_length [] = sym (mul-zero (step d))
  fields_length (x ∷ xs) = omega (arith, length-append (digits d x) (fields d xs), digits-length d x, fields_length xs, mul-suc (step d) (length xs))

  pub fields_take : (xs : List ℕ) (k : ℕ) → k ≤ length xs → length (fields d (take k xs)) ≡ step d * k
  fields_take xs k h = fields_length (take k xs) ∙ ap (λ (j : ℕ). step d * j) (length-take-le k xs h)

  -- one more number after a comma
  pub fields_more : (xs : List ℕ) (k : ℕ) → k < length xs → fields d (take (suc k) xs) ≡ fields d (take k xs) ++ comma ∷ digits d (get_or xs k 0)
  fields_more xs k h =
      ap (fields d) (take-suc xs k 0 h) ∙ fields_append (take k xs) (get_or xs k 0 ∷ [])
      ∙ ap (λ (l : List ℕ). fields d (take k xs) ++ comma ∷ l) (append-nil (digits d (get_or xs k 0)))

  pub write_ends_more : (l ends : List ℕ) (k : ℕ) → k < length ends
      → sets (sets l (place_of_end d 0 - 1) (fields d (take k ends))) (place_of_end d k - 1) (comma ∷ digits d (get_or ends k 0)) ≡ sets l (place_of_end d 0 - 1) (fields d (take (k + 1) ends))
  write_ends_more l ends k h =
      let x : ℕ = get_or ends k 0 in
      let e : (place_of_end d 0 - 1) + length (fields d (take k ends)) ≡ place_of_end d k - 1 = omega (arith, fields_take ends k (omega arith)) in
      sym (ap (sets l (place_of_end d 0 - 1)) (ap (λ (j : ℕ). fields d (take j ends)) (add-one k) ∙ fields_more ends k h)
      ∙ sets-append l (place_of_end d 0 - 1) (fields d (take k ends)) (comma ∷ digits d x)
      ∙ ap (λ (j : ℕ). sets (sets l (place_of_end d 0 - 1) (fields d (take k ends))) j (comma ∷ digits d x)) e)

  -- an end's digits stand before the end of the line
  pub end_inside : (count k : ℕ) → k < count → place_of_end d k + step d ≤ bytes_for d count
  end_inside count k h = omega (arith, mul-le-mul_left (step d) h, mul-suc (step d) k)

  -- ---- a number after a comma

  module _ (s : List ℕ) (at : ℕ) where
    pub field_is : (t : Bool) → get_or s (at - 1) 0 ≡ comma → digits? (field s at d) ≡ t → t ≡ field? d s at
    field_is t e q = sym (simp (eq-eqb (get_or s (at - 1) 0) comma e) q)

    pub field-digits : T (field? d s at) → T (digits? (field s at d))
    field-digits h = and_right (eqb (get_or s (at - 1) 0) comma) (digits? (field s at d)) h

    pub field-comma : T (field? d s at) → get_or s (at - 1) 0 ≡ comma
    field-comma h = eqb→eq (get_or s (at - 1) 0) comma (and_left (eqb (get_or s (at - 1) 0) comma) (digits? (field s at d)) h)

  -- ---- ends that stand in a line

  pub ends_length : (s : List ℕ) (k : ℕ) → length (ends_in d s k) ≡ k
  unfolding ends_in
  ends_length s zero = refl
  ends_length s (suc k) = omega (arith, length-append (ends_in d s k) (number_at d s (place_of_end d k) ∷ []), ends_length s k)

  pub end_at : (s : List ℕ) (count k : ℕ) → k < count → get_or (ends_in d s count) k 0 ≡ number_at d s (place_of_end d k)
  unfolding ends_in
  end_at s zero k h = absurd (omega arith)
  end_at s (suc count) k h = go (end_at s count k) (ℕ_discrete k count)
    where
      go : (k < count → get_or (ends_in d s count) k 0 ≡ number_at d s (place_of_end d k)) → Dec (k ≡ count) → get_or (ends_in d s count ++ number_at d s (place_of_end d count) ∷ []) k 0 ≡ number_at d s (place_of_end d k)
      go ih (yes e) = get_or_at (ends_in d s count) (number_at d s (place_of_end d count)) [] 0 k (ends_length s count ∙ sym e) ∙ ap (λ (j : ℕ). number_at d s (place_of_end d j)) (sym e)
      go ih (no e) = get_or-append (ends_in d s count) (number_at d s (place_of_end d count) ∷ []) 0 k (omega (arith, ends_length s count)) ∙ ih (omega arith)

  -- each of them stands at its place
  pub end_stands : (s : List ℕ) (count k : ℕ) → T (ends? d s count) → k < count → T (field? d s (place_of_end d k))
  unfolding ends?
  end_stands s zero k t h = absurd (omega arith)
  end_stands s (suc count) k t h = go (end_stands s count k (and_left (ends? d s count) (field? d s (place_of_end d count)) t)) (ℕ_discrete k count)
    where
      go : (k < count → T (field? d s (place_of_end d k))) → Dec (k ≡ count) → T (field? d s (place_of_end d k))
      go ih (yes e) = subst (λ (j : ℕ). T (field? d s (place_of_end d j))) (sym e) (and_right (ends? d s count) (field? d s (place_of_end d count)) t)
      go ih (no e) = ih (omega arith)

  -- one more stands at its place, or does not
  pub ends_none : (s : List ℕ) → ends? d s 0 ≡ true
  unfolding ends?
  ends_none s = refl

  pub ends_more : (s : List ℕ) (k : ℕ) → ends? d s k ≡ true → field? d s (place_of_end d k) ≡ true → ends? d s (k + 1) ≡ true
  unfolding ends?
  ends_more s k e f = rw (add-one k, e) f

  pub ends_fail : (s : List ℕ) (count k : ℕ) → k < count → field? d s (place_of_end d k) ≡ false → ends? d s count ≡ false
  ends_fail s count k h f = go (ends? d s count) refl
    where
      go : (t : Bool) → ends? d s count ≡ t → ends? d s count ≡ false
      go true e = absurd (subst T f (end_stands s count k (subst T (sym e) tt) h))
      go false e = e

  -- one more is read into a table
  pub read_ends_more : (s t : List ℕ) (k : ℕ) → k < length t → set (ends_in d s k ++ drop k t) k (number_at d s (place_of_end d k)) ≡ ends_in d s (k + 1) ++ drop (k + 1) t
  unfolding ends_in
  read_ends_more s t k h =
      ap (λ (l : List ℕ). set (ends_in d s k ++ l) k (number_at d s (place_of_end d k))) (drop-cons t k 0 h)
      ∙ set_at (ends_in d s k) (get_or t k 0) (drop (suc k) t) (number_at d s (place_of_end d k)) k (ends_length s k)
      ∙ rw (add-one k) (sym (append_snoc (ends_in d s k) (number_at d s (place_of_end d k)) (drop (suc k) t)))

  pub read_ends_none : (s t : List ℕ) → t ≡ ends_in d s 0 ++ drop 0 t
  unfolding ends_in
  read_ends_none s t = refl

-- ---- what the reader of digits gave, where it was given the digits of a kind

module _ (d w : ℕ) (s : List ℕ) (at : ℕ) where
  pub is_read : (r : Option ℕ) → w ≡ d → number_view r ≡ number_in (field s at w) → digits? (field s at d) ≡ is_some r
  is_read (Some x) e h = (number_some (field s at d) x (h ∙ ap (λ (k : ℕ). number_in (field s at k)) e)).0
  is_read None e h = number_none (field s at d) (h ∙ ap (λ (k : ℕ). number_in (field s at k)) e)

  pub some_read : (r : Option ℕ) → w ≡ d → number_view r ≡ number_in (field s at w) → T (digits? (field s at d)) → IsSome r
  some_read (Some x) e h t = refl
  some_read None e h t = absurd (subst T (is_read None e h) t)

  pub value_read : (x : ℕ) → w ≡ d → x ∷ [] ≡ number_in (field s at w) → x ≡ number_at d s at
  value_read x e h = (number_some (field s at d) x (h ∙ ap (λ (k : ℕ). number_in (field s at k)) e)).1

-- ---- a line of a kind

pub prefix_length : (long : Bool) → length (prefix_of long) ≡ place_of_length
prefix_length false = refl
prefix_length true = refl

pub width_bound : (long : Bool) → width_of long ≤ widest
width_bound false = omega arith
width_bound true = omega arith

pub step_bound : (d k : ℕ) → d ≤ widest → step d * k ≤ step widest * k
step_bound d k h = mul-le-mul_right k (omega arith)

-- the stores of a whole line
module _ (long : Bool) (l : List ℕ) (n : ℕ) (ends : List ℕ) where
  abbrev d : ℕ
  d = width_of long

  pub write_line_is :
      set (sets (sets (sets (sets l 0 (prefix_of long)) place_of_length (digits d n)) (place_of_count d - 1) (comma ∷ digits d (length ends))) (place_of_end d 0 - 1) (fields d ends)) (bytes_for d (length ends) - 1) line_end
      ≡ sets l 0 (line long n ends)
  unfolding line
  write_line_is =
      let c : List ℕ = digits d (length ends) in
      let E : List ℕ = line_end ∷ [] in
      let A : List ℕ = sets l 0 (prefix_of long) in
      let B : List ℕ = sets A place_of_length (digits d n) in
      let D : List ℕ = sets B (place_of_count d - 1) (comma ∷ c) in
      sym (sets_then (prefix_of long) (digits d n ++ (fields d (length ends ∷ ends) ++ E)) l 0 place_of_length (omega (arith, prefix_length long))
      ∙ ap (λ (t : List ℕ). sets A place_of_length (digits d n ++ comma ∷ t)) (append_assoc c (fields d ends) E)
      ∙ sets_then (digits d n) (comma ∷ (c ++ (fields d ends ++ E))) A place_of_length (place_of_count d - 1) (omega (arith, digits-length d n))
      ∙ sets_then (comma ∷ c) (fields d ends ++ E) B (place_of_count d - 1) (place_of_end d 0 - 1) (omega (arith, digits-length d (length ends)))
      ∙ sets_then (fields d ends) E D (place_of_end d 0 - 1) (bytes_for d (length ends) - 1) (omega (arith, fields_length d ends)))

-- ---- a prefix that is compared

-- by the library's test or by that of the specs
pub std_starts : (p s : List ℕ) → pointwise eqb p (take (length p) s) ≡ starts_with p s
unfolding starts_with
std_starts [] s = refl
std_starts (b ∷ p) [] = refl
std_starts (b ∷ p) (c ∷ s) = ap (λ (t : Bool). eqb b c && t) (std_starts p s)

pub begins : (r : Bool) (p q s : List ℕ) → r ≡ pointwise eqb p (take (length p) s) → p ≡ q → starts_with q s ≡ r
begins r p q s h e = sym (h ∙ std_starts p s ∙ ap (λ (l : List ℕ). starts_with l s) e)
