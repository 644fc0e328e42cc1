-- The test of a line of a kind says exactly when bytes are one: what is read off the places of a line of n and ends is n and ends (line_is_line, line_numbers),
-- and bytes that pass the test are the line of what is read off them (line_read). So a line has one kind (one_kind), one n and one list of ends (line_unique).
-- By cutting the bytes at the places of the numbers. And the digits of a number, from the thousands down, read as its quotients by 1,000, 100, 10 and 1
-- (four_quotients). Assumes nothing.
use mathlib.Core.Path.{◌≡◌, refl, sym, ap, ap₂, ◌∙◌, subst}
use mathlib.Core.Bool.{Bool, true, false, not, ◌&&◌}
use mathlib.Core.List.{List, [], ◌∷◌, ◌++◌, append-nil, append_assoc}
use Prim.Native.Nat.{ℕ, zero, suc, ◌+◌, ◌-◌, ◌/◌, ◌^◌, ◌≤◌, ◌<◌}
use native.Mathlib.Omega.{arith}
use native.Mathlib.Nat.{mul-suc}
use native.Mathlib.Decide.{ℕ_discrete, dec_lt}
use borrow.Author.Tests.{eq-eqb, ne_eqb, le-leb, lt-leb}
use lib.Dec.{T, eqb, eqb→eq}
use lib.ListN.{length, get_or, take, drop, length-append, drop_of_length-le, take-append-drop}
use lib.Seq.{take-suc, take-length, drop-cons, take_at, drop_at, drop-drop, get_or_at, split_at, append_snoc}
use Rattle.laws.proofs.Tests.{T_true, and_intro, and_left, and_right}
use Rattle.decimals.specs.Decimal.{comma, line_end, digits, made, digits?, value, field}
use Rattle.decimals.specs.Read.{number_in}
use Rattle.decimals.proofs.Claims.{digits-length, digits_are_digits, digits_value, value-digits, value_bound, made_digits}
use Rattle.decimals.proofs.Fields.{at_most_at}
use Rattle.decimals.proofs.Loops.{field-length, power_positive}
use Rattle.plan_lines.specs.Line.{prefix_of, width_of, line_limit, greatest, fields, line, Small, IsLineOf, IsLine, place_of_length, place_of_count, step, bytes_for, place_of_end, number_at, field?, ends?, starts_with, long?, needless?, line?, ends_in}
use Rattle.plan_lines.proofs.Loops.{fields_append, fields_length, fields_take, prefix_length, field_is, field-digits, field-comma, ends_length}

-- CLAIM: the four digits of a number, from the thousands down: those made so far, read as a number, are the whole number divided by 1,000, 100, 10 and then
-- 1, rounded down
pub four_quotients : (x : ℕ) → x ≤ greatest (width_of false)
    → (number_in (take 1 (digits (width_of false) x)) ≡ x / 1000 ∷ []) × (number_in (take 2 (digits (width_of false) x)) ≡ x / 100 ∷ [])
    × (number_in (take 3 (digits (width_of false) x)) ≡ x / 10 ∷ []) × (number_in (take 4 (digits (width_of false) x)) ≡ x / 1 ∷ [])
unfolding made
four_quotients x h = (quotient 1 (omega arith), quotient 2 (omega arith), quotient 3 (omega arith), quotient 4 (omega arith))
  where
    quotient : (i : ℕ) → i ≤ width_of false → number_in (take i (digits (width_of false) x)) ≡ made (width_of false) i x ∷ []
    quotient i l = made_digits (width_of false) i x l (omega arith)

-- ---- the parts of the test

-- of bytes with numbers of d digits
pub record Parts (long : Bool) (d : ℕ) (s : List ℕ) : Type 0 where
  pub starts : T (starts_with (prefix_of long) s)
  pub number : T (digits? (field s place_of_length d))
  pub needed : long ≡ true → line_limit < number_at d s place_of_length
  pub count : T (field? d s (place_of_count d))
  pub sized : length s ≡ bytes_for d (number_at d s (place_of_count d))
  pub ends : T (ends? d s (number_at d s (place_of_count d)))
  pub last : get_or s (length s - 1) 0 ≡ line_end

-- a line that is not needless
pub needed_holds : (long : Bool) (n : ℕ) → T (not (needless? long n)) → long ≡ true → line_limit < n
needed_holds false n t e = absurd (subst T (sym e) tt)
needed_holds true n t e = go (dec_lt line_limit n)
  where
    go : Dec (line_limit < n) → line_limit < n
    go (yes h) = h
    go (no h) = absurd (subst (λ (b : Bool). T (not b)) (le-leb n line_limit (omega arith)) t)

needed_passes : (long : Bool) (n : ℕ) → (long ≡ true → line_limit < n) → T (not (needless? long n))
needed_passes false n h = tt
needed_passes true n h = subst (λ (b : Bool). T (not b)) (sym (lt-leb n line_limit (h refl))) tt

pub needless_not : (long : Bool) (n : ℕ) → (long ≡ true → line_limit < n) → needless? long n ≡ true → ⊥
needless_not long n h e = subst (λ (b : Bool). T (not b)) e (needed_passes long n h)

module _ (long : Bool) (s : List ℕ) where
  abbrev d : ℕ
  d = width_of long

  abbrev count : ℕ
  count = number_at d s (place_of_count d)

  abbrev last? : Bool
  last? = eqb (get_or s (length s - 1) 0) line_end

  abbrev after_sized : Bool
  after_sized = ends? d s count && last?

  abbrev sized? : Bool
  sized? = eqb (length s) (bytes_for d count)

  abbrev after_count : Bool
  after_count = sized? && after_sized

  abbrev after_needed : Bool
  after_needed = field? d s (place_of_count d) && after_count

  abbrev needed? : Bool
  needed? = not (needless? long (number_at d s place_of_length))

  abbrev after_number : Bool
  after_number = needed? && after_needed

  abbrev after_start : Bool
  after_start = digits? (field s place_of_length d) && after_number

  pub line_parts : T (line? long s) → Parts long d s
  unfolding line?
  line_parts t =
      let a : T after_start = and_right (starts_with (prefix_of long) s) after_start t in
      let b : T after_number = and_right (digits? (field s place_of_length d)) after_number a in
      let c : T after_needed = and_right needed? after_needed b in
      let e : T after_count = and_right (field? d s (place_of_count d)) after_count c in
      let f : T after_sized = and_right sized? after_sized e in
      record {
        starts = and_left (starts_with (prefix_of long) s) after_start t;
        number = and_left (digits? (field s place_of_length d)) after_number a;
        needed = needed_holds long (number_at d s place_of_length) (and_left needed? after_needed b);
        count = and_left (field? d s (place_of_count d)) after_count c;
        sized = eqb→eq (length s) (bytes_for d count) (and_left sized? after_sized e);
        ends = and_left (ends? d s count) last? f;
        last = eqb→eq (get_or s (length s - 1) 0) line_end (and_right (ends? d s count) last? f);
      }

  pub parts_line : Parts long d s → T (line? long s)
  unfolding line?
  parts_line P =
      and_intro (starts_with (prefix_of long) s) after_start P.starts
      (and_intro (digits? (field s place_of_length d)) after_number P.number
      (and_intro needed? after_needed (needed_passes long (number_at d s place_of_length) P.needed)
      (and_intro (field? d s (place_of_count d)) after_count P.count
      (and_intro sized? after_sized (subst T (sym (eq-eqb (length s) (bytes_for d count) P.sized)) tt)
      (and_intro (ends? d s count) last? P.ends (subst T (sym (eq-eqb (get_or s (length s - 1) 0) line_end P.last)) tt))))))

-- ---- numbers of d digits between other bytes

module _ (d : ℕ) where
  -- bytes that have a number in d digits after a comma at a place
  module _ (s front : List ℕ) (x : ℕ) (back : List ℕ) (at : ℕ) (is : s ≡ front ++ comma ∷ (digits d x ++ back)) (front_long : suc (length front) ≡ at) where
    shown_comma : get_or s (at - 1) 0 ≡ comma
    shown_comma = ap (λ (t : List ℕ). get_or t (at - 1) 0) is ∙ get_or_at front comma (digits d x ++ back) 0 (at - 1) (omega arith)

    shown_digits : field s at d ≡ digits d x
    shown_digits =
        ap (take d)
        (ap (λ (t : List ℕ). drop at t) (is ∙ sym (append_snoc front comma (digits d x ++ back)))
        ∙ drop_at (front ++ comma ∷ []) (digits d x ++ back) at (length-append front (comma ∷ []) ∙ omega arith))
        ∙ take_at (digits d x) back d (digits-length d x)

    pub shown_field : T (field? d s at)
    shown_field =
        and_intro (eqb (get_or s (at - 1) 0) comma) (digits? (field s at d)) (subst T (sym (eq-eqb (get_or s (at - 1) 0) comma shown_comma)) tt)
        (subst (λ (t : List ℕ). T (digits? t)) (sym shown_digits) (digits_are_digits d x))

    pub shown_number : x ≤ greatest d → number_at d s at ≡ x
    shown_number h = ap value shown_digits ∙ digits_value d x (omega (arith, power_positive d))

  small_snoc : (xs : List ℕ) (x : ℕ) → Small d xs → x ≤ greatest d → Small d (xs ++ x ∷ [])
  small_snoc [] x S h = (h, tt)
  small_snoc (y ∷ xs) x S h = (S.0, small_snoc xs x S.1 h)

  module _ (s : List ℕ) (at : ℕ) (inside : at + d ≤ length s) where
    number_cut : T (digits? (field s at d)) → drop at s ≡ digits d (number_at d s at) ++ drop (at + d) s
    number_cut t =
        sym (take-append-drop d (drop at s))
        ∙ ap₂ (λ (x y : List ℕ). x ++ y)
        (sym (value-digits (field s at d) t) ∙ ap (λ (k : ℕ). digits k (number_at d s at)) (field-length s at d inside))
        (drop-drop d at s)

    number_small : T (digits? (field s at d)) → number_at d s at ≤ greatest d
    number_small t = omega (arith, subst (λ (k : ℕ). number_at d s at < 10 ^ k) (field-length s at d inside) (value_bound (field s at d) t))

    field_cut : 1 ≤ at → T (field? d s at) → drop (at - 1) s ≡ comma ∷ (digits d (number_at d s at) ++ drop (at + d) s)
    field_cut h t =
        let e : suc (at - 1) ≡ at = omega arith in
        drop-cons s (at - 1) 0 (omega arith)
        ∙ ap₂ (λ (x : ℕ) (l : List ℕ). x ∷ l) (field-comma d s at t) (ap (λ (k : ℕ). drop k s) e ∙ number_cut (field-digits d s at t))

  module _ (s : List ℕ) where
    ends_cut : (k : ℕ) → bytes_for d k ≤ length s → T (ends? d s k) → drop (place_of_end d 0 - 1) s ≡ fields d (ends_in d s k) ++ drop (place_of_end d k - 1) s
    unfolding ends? ends_in
    ends_cut zero h t = refl
    ends_cut (suc k) h t =
        let x : ℕ = number_at d s (place_of_end d k) in
        let next : place_of_end d k + d ≡ place_of_end d (suc k) - 1 = omega (arith, mul-suc (step d) k) in
        ends_cut k (omega (arith, mul-suc (step d) k)) (and_left (ends? d s k) (field? d s (place_of_end d k)) t)
        ∙ ap (λ (l : List ℕ). fields d (ends_in d s k) ++ l)
        (field_cut s (place_of_end d k) (omega (arith, mul-suc (step d) k)) (omega arith) (and_right (ends? d s k) (field? d s (place_of_end d k)) t)
        ∙ ap (λ (j : ℕ). comma ∷ (digits d x ++ drop j s)) next)
        ∙ sym (append_assoc (fields d (ends_in d s k)) (comma ∷ digits d x) (drop (place_of_end d (suc k) - 1) s))
        ∙ ap (λ (l : List ℕ). l ++ drop (place_of_end d (suc k) - 1) s)
        (ap (λ (l : List ℕ). fields d (ends_in d s k) ++ comma ∷ l) (sym (append-nil (digits d x))) ∙ sym (fields_append d (ends_in d s k) (x ∷ [])))

    ends_small : (k : ℕ) → bytes_for d k ≤ length s → T (ends? d s k) → Small d (ends_in d s k)
    unfolding ends? ends_in
    ends_small zero h t = tt
    ends_small (suc k) h t =
        small_snoc (ends_in d s k) (number_at d s (place_of_end d k)) (ends_small k (omega (arith, mul-suc (step d) k)) (and_left (ends? d s k) (field? d s (place_of_end d k)) t))
        (number_small s (place_of_end d k) (omega (arith, mul-suc (step d) k)) (field-digits d s (place_of_end d k) (and_right (ends? d s k) (field? d s (place_of_end d k)) t)))

-- ---- the bytes that a line begins with

line_starts : (long : Bool) (n : ℕ) (ends : List ℕ) → T (starts_with (prefix_of long) (line long n ends))
unfolding line starts_with
line_starts false n ends = tt
line_starts true n ends = tt

prefix_comma : (long : Bool) (l : List ℕ) → get_or (prefix_of long ++ l) (place_of_length - 1) 0 ≡ comma
prefix_comma false l = refl
prefix_comma true l = refl

starts_cut : (p s : List ℕ) → T (starts_with p s) → s ≡ p ++ drop (length p) s
unfolding starts_with
starts_cut [] s t = refl
starts_cut (b ∷ p) [] t = absurd t
starts_cut (b ∷ p) (c ∷ s) t =
    ap₂ (λ (x : ℕ) (l : List ℕ). x ∷ l) (sym (eqb→eq b c (and_left (eqb b c) (starts_with p s) t))) (starts_cut p s (and_right (eqb b c) (starts_with p s) t))

-- ---- a line of a kind

module _ (long : Bool) where
  abbrev e : ℕ
  e = width_of long

  -- the bytes before the numbers of the ends
  abbrev head : ℕ → ℕ → List ℕ
  head n count = prefix_of long ++ (digits e n ++ (comma ∷ digits e count))

  head_length : (n count : ℕ) → length (head n count) ≡ place_of_end e 0 - 1
  head_length n count = omega (arith, length-append (prefix_of long) (digits e n ++ comma ∷ digits e count), prefix_length long, length-append (digits e n) (comma ∷ digits e count), digits-length e n, digits-length e count)

  line_cut : (n : ℕ) (ends : List ℕ) → line long n ends ≡ head n (length ends) ++ (fields e ends ++ line_end ∷ [])
  unfolding line
  line_cut n ends =
      let c : List ℕ = digits e (length ends) in
      ap (λ (t : List ℕ). prefix_of long ++ (digits e n ++ comma ∷ t)) (append_assoc c (fields e ends) (line_end ∷ []))
      ∙ ap (λ (t : List ℕ). prefix_of long ++ t) (sym (append_assoc (digits e n) (comma ∷ c) (fields e ends ++ line_end ∷ [])))
      ∙ sym (append_assoc (prefix_of long) (digits e n ++ comma ∷ c) (fields e ends ++ line_end ∷ []))

  -- CLAIM: with numbers of four digits a line has 15 bytes and 5 for each end, with six digits 19 and 7
  pub length-line : (n : ℕ) (ends : List ℕ) → length (line long n ends) ≡ bytes_for e (length ends)
  length-line n ends =
      ap length (line_cut n ends)
      ∙ omega (arith, length-append (head n (length ends)) (fields e ends ++ line_end ∷ []), length-append (fields e ends) (line_end ∷ []), head_length n (length ends), fields_length e ends)

  module _ (s : List ℕ) (n : ℕ) (ends : List ℕ) (L : IsLineOf long s n ends) where
    -- the number of the ends stands at its place
    count_cut : s ≡ (prefix_of long ++ digits e n) ++ comma ∷ (digits e (length ends) ++ (fields e ends ++ line_end ∷ []))
    unfolding line
    count_cut =
        L.is
        ∙ ap (λ (t : List ℕ). prefix_of long ++ (digits e n ++ comma ∷ t)) (append_assoc (digits e (length ends)) (fields e ends) (line_end ∷ []))
        ∙ sym (append_assoc (prefix_of long) (digits e n) (comma ∷ (digits e (length ends) ++ (fields e ends ++ line_end ∷ []))))

    -- so does each end
    end_cut : (k : ℕ) → k < length ends → s ≡ (head n (length ends) ++ fields e (take k ends)) ++ comma ∷ (digits e (get_or ends k 0) ++ (fields e (drop (suc k) ends) ++ line_end ∷ []))
    end_cut k h =
        let F : List ℕ = fields e (take k ends) in
        let G : List ℕ = fields e (drop (suc k) ends) in
        let D : List ℕ = digits e (get_or ends k 0) in
        let E : List ℕ = line_end ∷ [] in
        let cut : fields e ends ≡ F ++ comma ∷ (D ++ G) = ap (fields e) (split_at ends k 0 h) ∙ fields_append e (take k ends) (get_or ends k 0 ∷ drop (suc k) ends) in
        L.is
        ∙ line_cut n ends
        ∙ ap (λ (t : List ℕ). head n (length ends) ++ (t ++ E)) cut
        ∙ ap (λ (t : List ℕ). head n (length ends) ++ t) (append_assoc F (comma ∷ (D ++ G)) E ∙ ap (λ (t : List ℕ). F ++ comma ∷ t) (append_assoc D G E))
        ∙ sym (append_assoc (head n (length ends)) F (comma ∷ (D ++ (G ++ E))))

    front_long : (k : ℕ) → k < length ends → suc (length (head n (length ends) ++ fields e (take k ends))) ≡ place_of_end e k
    front_long k h =
        omega (arith, length-append (head n (length ends)) (fields e (take k ends)), head_length n (length ends), fields_take e ends k (omega arith))

    ends_stand : (k : ℕ) → k ≤ length ends → T (ends? e s k)
    unfolding ends?
    ends_stand zero h = tt
    ends_stand (suc k) h =
        and_intro (ends? e s k) (field? e s (place_of_end e k)) (ends_stand k (omega arith))
        (shown_field e s (head n (length ends) ++ fields e (take k ends)) (get_or ends k 0) (fields e (drop (suc k) ends) ++ line_end ∷ []) (place_of_end e k) (end_cut k h) (front_long k h))

    ends_read : (k : ℕ) → k ≤ length ends → ends_in e s k ≡ take k ends
    unfolding ends_in
    ends_read zero h = refl
    ends_read (suc k) h =
        ap₂ (λ (l : List ℕ) (x : ℕ). l ++ x ∷ []) (ends_read k (omega arith))
        (shown_number e s (head n (length ends) ++ fields e (take k ends)) (get_or ends k 0) (fields e (drop (suc k) ends) ++ line_end ∷ []) (place_of_end e k) (end_cut k h) (front_long k h) (at_most_at (greatest e) ends k L.small_ends h))
        ∙ sym (take-suc ends k 0 h)

    count_long : suc (length (prefix_of long ++ digits e n)) ≡ place_of_count e
    count_long = omega (arith, length-append (prefix_of long) (digits e n), prefix_length long, digits-length e n)

    number_shown : field s place_of_length e ≡ digits e n
    unfolding line
    number_shown =
        ap (λ (t : List ℕ). field t place_of_length e) L.is
        ∙ ap (take e) (drop_at (prefix_of long) (digits e n ++ (fields e (length ends ∷ ends) ++ line_end ∷ [])) place_of_length (prefix_length long))
        ∙ take_at (digits e n) (fields e (length ends ∷ ends) ++ line_end ∷ []) e (digits-length e n)

    count_shown : number_at e s (place_of_count e) ≡ length ends
    count_shown = shown_number e s (prefix_of long ++ digits e n) (length ends) (fields e ends ++ line_end ∷ []) (place_of_count e) count_cut count_long L.small_count

    line_long : length s ≡ bytes_for e (length ends)
    line_long = ap length L.is ∙ length-line n ends

    last_shown : get_or s (length s - 1) 0 ≡ line_end
    last_shown =
        ap (λ (t : List ℕ). get_or t (length s - 1) 0) (L.is ∙ line_cut n ends ∙ sym (append_assoc (head n (length ends)) (fields e ends) (line_end ∷ [])))
        ∙ get_or_at (head n (length ends) ++ fields e ends) line_end [] 0 (length s - 1)
        (omega (arith, length-append (head n (length ends)) (fields e ends), head_length n (length ends), fields_length e ends, line_long))

    -- CLAIM: what is read off the places of a line
    pub line_numbers : (number_at e s place_of_length ≡ n) × (number_at e s (place_of_count e) ≡ length ends) × (ends_in e s (number_at e s (place_of_count e)) ≡ ends)
    line_numbers = (
      ap value number_shown ∙ digits_value e n (omega (arith, L.small_length, power_positive e)),
      count_shown,
      ap (ends_in e s) count_shown ∙ ends_read (length ends) (omega arith) ∙ take-length ends,
    )

    -- CLAIM: a line passes the test
    pub line_is_line : T (line? long s)
    line_is_line = parts_line long s record {
      starts = subst (λ (t : List ℕ). T (starts_with (prefix_of long) t)) (sym L.is) (line_starts long n ends);
      number = subst (λ (t : List ℕ). T (digits? t)) (sym number_shown) (digits_are_digits e n);
      needed = λ y. subst (λ (m : ℕ). line_limit < m) (sym line_numbers.0) (L.needed y);
      count = shown_field e s (prefix_of long ++ digits e n) (length ends) (fields e ends ++ line_end ∷ []) (place_of_count e) count_cut count_long;
      sized = line_long ∙ ap (bytes_for e) (sym count_shown);
      ends = subst (λ (k : ℕ). T (ends? e s k)) (sym count_shown) (ends_stand (length ends) (omega arith));
      last = last_shown;
    }

  -- with one n and one list of ends
  line_unique_of : (s : List ℕ) (n : ℕ) (ends : List ℕ) (m : ℕ) (fs : List ℕ) → IsLineOf long s n ends → IsLineOf long s m fs → (n ≡ m) × (ends ≡ fs)
  line_unique_of s n ends m fs L M =
      let a = line_numbers s n ends L in
      let b = line_numbers s m fs M in
      (sym a.0 ∙ b.0, sym a.2 ∙ b.2)

  module _ (s : List ℕ) where
    -- CLAIM: bytes that pass the test are the line of what is read off them
    pub line_read : T (line? long s) → IsLineOf long s (number_at e s place_of_length) (ends_in e s (number_at e s (place_of_count e)))
    unfolding line
    line_read t =
        let P : Parts long e s = line_parts long s t in
        let n : ℕ = number_at e s place_of_length in
        let k : ℕ = number_at e s (place_of_count e) in
        let count : length (ends_in e s k) ≡ k = ends_length e s k in
        let before : place_of_length + e ≡ place_of_count e - 1 = omega arith in
        let after : place_of_count e + e ≡ place_of_end e 0 - 1 = omega arith in
        let end : drop (place_of_end e k - 1) s ≡ line_end ∷ [] =
        ap (λ (j : ℕ). drop j s) {x = place_of_end e k - 1} {y = length s - 1} (omega (arith, P.sized))
        ∙ drop-cons s (length s - 1) 0 (omega (arith, P.sized))
        ∙ ap₂ (λ (x : ℕ) (l : List ℕ). x ∷ l) P.last (drop_of_length-le s {i = suc (length s - 1)} (omega arith)) in
        record {
          small_length = number_small e s place_of_length (omega (arith, P.sized)) P.number;
          small_count = omega (arith, number_small e s (place_of_count e) (omega (arith, P.sized)) (field-digits e s (place_of_count e) P.count));
          small_ends = ends_small e s k (omega (arith, P.sized)) P.ends;
          needed = P.needed;
          is =
              starts_cut (prefix_of long) s P.starts
              ∙ ap (λ (j : ℕ). prefix_of long ++ drop j s) (prefix_length long)
              ∙ ap (λ (l : List ℕ). prefix_of long ++ l) (number_cut e s place_of_length (omega (arith, P.sized)) P.number)
              ∙ ap (λ (l : List ℕ). prefix_of long ++ (digits e n ++ l)) (ap (λ (j : ℕ). drop j s) before ∙ field_cut e s (place_of_count e) (omega (arith, P.sized)) (omega arith) P.count)
              ∙ ap (λ (l : List ℕ). prefix_of long ++ (digits e n ++ comma ∷ l))
              (ap (λ (l : List ℕ). digits e k ++ l) (ap (λ (j : ℕ). drop j s) after ∙ ends_cut e s k (omega (arith, P.sized)) P.ends ∙ ap (λ (l : List ℕ). fields e (ends_in e s k) ++ l) end)
              ∙ sym (append_assoc (digits e k) (fields e (ends_in e s k)) (line_end ∷ []))
              ∙ ap (λ (j : ℕ). digits e j ++ fields e (ends_in e s k) ++ line_end ∷ []) (sym count));
        }

-- ---- the two kinds

-- the first byte tells the kind
first_byte : (long : Bool) (n : ℕ) (ends : List ℕ) → get_or (line long n ends) 0 0 ≡ get_or (prefix_of long) 0 0
unfolding line
first_byte false n ends = refl
first_byte true n ends = refl

-- CLAIM: no bytes are a line of both kinds
pub one_kind : (s : List ℕ) (n : ℕ) (ends : List ℕ) (m : ℕ) (fs : List ℕ) → IsLineOf false s n ends → IsLineOf true s m fs → ⊥
one_kind s n ends m fs L M = omega (arith, ap (λ (t : List ℕ). get_or t 0 0) (sym L.is ∙ M.is), first_byte false n ends, first_byte true m fs)

-- the kind of a line is the one that it begins as
pub kind_is : (long : Bool) (s : List ℕ) (n : ℕ) (ends : List ℕ) → IsLineOf long s n ends → long? s ≡ long
unfolding starts_with line
kind_is false s n ends L = ap long? L.is
kind_is true s n ends L = ap long? L.is

-- CLAIM: a line has one n and one list of ends
pub line_unique : (s : List ℕ) (n : ℕ) (ends : List ℕ) (m : ℕ) (fs : List ℕ) → IsLine s n ends → IsLine s m fs → (n ≡ m) × (ends ≡ fs)
line_unique s n ends m fs (false, L) (false, M) = line_unique_of false s n ends m fs L M
line_unique s n ends m fs (false, L) (true, M) = absurd (one_kind s n ends m fs L M)
line_unique s n ends m fs (true, L) (false, M) = absurd (one_kind s m fs n ends M L)
line_unique s n ends m fs (true, L) (true, M) = line_unique_of true s n ends m fs L M

-- ---- the test, one part after another

module _ (long : Bool) (s : List ℕ) where
  abbrev w : ℕ
  w = width_of long

  pub first_field : Parts long w s → T (field? w s place_of_length)
  first_field P =
      let first : get_or s (place_of_length - 1) 0 ≡ comma = ap (λ (l : List ℕ). get_or l (place_of_length - 1) 0) (starts_cut (prefix_of long) s P.starts) ∙ prefix_comma long _ in
      subst T (field_is w s place_of_length true first (T_true (digits? (field s place_of_length w)) P.number)) tt

  pub not_line : (Parts long w s → ⊥) → false ≡ line? long s
  not_line h = go (line? long s) refl
    where
      go : (t : Bool) → line? long s ≡ t → false ≡ line? long s
      go true f = absurd (h (line_parts long s (subst T (sym f) tt)))
      go false f = sym f

  -- where the other parts hold, the last byte decides
  pub line_by_last : T (starts_with (prefix_of long) s) → T (field? w s place_of_length) → needless? long (number_at w s place_of_length) ≡ false → T (field? w s (place_of_count w))
      → length s ≡ bytes_for w (number_at w s (place_of_count w)) → T (ends? w s (number_at w s (place_of_count w)))
      → eqb (get_or s (length s - 1) 0) line_end ≡ line? long s
  line_by_last a b n c l f = go (ℕ_discrete (get_or s (length s - 1) 0) line_end)
    where
      go : Dec (get_or s (length s - 1) 0 ≡ line_end) → eqb (get_or s (length s - 1) 0) line_end ≡ line? long s
      go (yes x) =
          let P : Parts long w s =
          record {
            starts = a;
            number = field-digits w s place_of_length b;
            needed = needed_holds long (number_at w s place_of_length) (subst (λ (t : Bool). T (not t)) (sym n) tt);
            count = c;
            sized = l;
            ends = f;
            last = x;
          } in
          eq-eqb (get_or s (length s - 1) 0) line_end x ∙ sym (T_true (line? long s) (parts_line long s P))
      go (no x) = ne_eqb (get_or s (length s - 1) 0) line_end x ∙ not_line (λ P. x P.last)
