-- What the part call answers and writes means what the documents say, for every word, edition, first, last and table: `part_means`. One law for each outcome
-- gives both from the tests that lead to it. Answers are told apart by their numbers. By the order of the tests in the definitions. Assumes nothing.
use mathlib.Core.Path.{◌≡◌, refl, sym, ap, ◌∙◌, subst}
use mathlib.Core.Bool.{Bool, true, false, ◌||◌, or-true}
use mathlib.Core.List.{List, [], ◌∷◌}
use Prim.Native.Nat.{ℕ, suc, ◌+◌, ◌-◌, ◌/◌, ◌%◌, ◌≤◌, ◌<◌}
use native.Mathlib.Omega.{arith}
use native.Mathlib.Decide.{dec_lt, dec_le}
use native.Mathlib.Nat.{div-add-mod', mod-lt}
use borrow.Author.Tests.{lt-ltb, le-ltb}
use lib.Dec.{T, ltb}
use lib.ListN.{length, get_or, take, length-take}
use Rattle.answers.specs.Outcome.{Outcome, accepted, refused, refusal, limit}
use Rattle.answers.proofs.Claims.{refused_accepted, refusal_injective}
use Rattle.std.specs.Prelude.{Result, Ok, Err}
use Rattle.answers.specs.declared.Refusal.{Refusal}
use Rattle.periods.specs.declared.Description.{Description}
use Rattle.periods.specs.Period.{part, SmallestPeriod, smallest_period, repetition?, held_period, block_of?, units_table}
use Rattle.periods.specs.Edition.{Edition, turns_of}
use Rattle.periods.specs.Part.{flag, part_view, description, part_outcome, part_table, Within, Describes, Grows, PartMeaning, too_long, bad_edition, outside, too_few, described}
use Rattle.periods.proofs.InPlace.{placed_part}
use Rattle.periods.proofs.Claims.{smallest_period_is, repetition_by_unit, repetition_sound, repetition_complete}
use Rattle.periods.proofs.UnitsTable.{units_length, units_at, units_last, units_rest}
use Rattle.periods.proofs.Editions.{test_of_edition, test_of_no_edition, edition?}

-- ---- the description

flag_le : (b : Bool) → flag b ≤ 1
flag_le true = omega arith
flag_le false = omega arith

flag_true : (b : Bool) → flag b ≡ 1 → T b
flag_true true e = tt
flag_true false e = absurd (omega arith)

true_flag : (b : Bool) → T b → flag b ≡ 1
true_flag true t = refl
true_flag false t = absurd t

pub describes : (k : ℕ) (s : List ℕ) → 0 < length s → Describes k s (smallest_period s) (length s / smallest_period s) (length s % smallest_period s) (flag (repetition? held_period k s))
describes k s h =
    let S = smallest_period_is s h in
    record {
      smallest = S;
      divided = div-add-mod' (length s) (smallest_period s);
      short = mod-lt (length s) S.period.positive;
      flagged = flag_le (repetition? held_period k s);
      is_block = (
        λ e. repetition_sound held_period k s (flag_true (repetition? held_period k s) e),
        λ R. true_flag (repetition? held_period k s) (repetition_complete held_period k s R),
      );
    }

-- a description from the unit, the length and the test of both
pub described_by : (k : ℕ) (s : List ℕ) (u n : ℕ) (b : Bool) → 0 < n → n ≡ length s → u ≡ smallest_period s → b ≡ block_of? k n u
    → ◌≡◌ {A = List ℕ} (u ∷ n / u ∷ n % u ∷ flag b ∷ []) (description k s)
unfolding description
described_by k s u n b h e f g = rw (g, f, e, repetition_by_unit held_period k s (subst (λ (x : ℕ). 0 < x) e h))

pub part_length : (w : List ℕ) (first last : ℕ) → Within w first last → length (part w (first - 1) last) ≡ last - (first - 1)
part_length w first last h = (placed_part w (first - 1) last h.2).long

-- ---- the call

outside_tests : (w : List ℕ) (first last : ℕ) → (Within w first last → ⊥) → (ltb first 1 || (ltb (length w) last || ltb last first)) ≡ true
outside_tests w first last h = go (dec_lt first 1) (dec_lt (length w) last) (dec_lt last first)
  where
    go : Dec (first < 1) → Dec (length w < last) → Dec (last < first) → (ltb first 1 || (ltb (length w) last || ltb last first)) ≡ true
    go (yes x) y z = rw (lt-ltb first 1 x) refl
    go (no x) (yes y) z = rw (lt-ltb (length w) last y) (or-true (ltb first 1))
    go (no x) (no y) (yes z) = rw (lt-ltb last first z, or-true (ltb (length w) last)) (or-true (ltb first 1))
    go (no x) (no y) (no z) = absurd (h (omega arith, omega arith, omega arith))

within_tests : (w : List ℕ) (first last : ℕ) → Within w first last → (ltb first 1 || (ltb (length w) last || ltb last first)) ≡ false
within_tests w first last h = simp (le-ltb first 1 h.0, le-ltb (length w) last h.2, le-ltb last first h.1)

-- CLAIM: the table holds the unit of every non-empty prefix, and the last of them is the word's own
pub grows : (s t : List ℕ) → 0 < length s → length s ≤ length t → Grows s t (units_table s t) (smallest_period s)
grows s t h k = record { units = units; last = units_last s t h; kept = units_rest s t; long = units_length s t k }
  where
    units : (m : ℕ) → 1 ≤ m → m ≤ length s → SmallestPeriod (take m s) (get_or (units_table s t) (m - 1) 0)
    units m a b =
        let e : suc (m - 1) ≡ m = omega arith in
        rw (units_at s t (m - 1) (omega arith), e) (smallest_period_is (take m s) (omega (arith, length-take m s)))

-- what the call answers and leaves; t is the table at entry, x the table at exit
abbrev pub PartGives : List ℕ → ℕ → ℕ → ℕ → List ℕ → Outcome → List ℕ → Type 0
PartGives w edition first last t o x = (o ≡ part_outcome w edition first last (length t)) × (x ≡ part_table w edition first last t)

module _ (w : List ℕ) (edition first last : ℕ) (t : List ℕ) where
  pub part_too_long : limit < length w → PartGives w edition first last t (refused 1 0) t
  unfolding part_outcome part_table
  part_too_long h = (simp (lt-ltb limit (length w) h), simp (lt-ltb limit (length w) h))

  pub part_bad_edition : length w ≤ limit → (Edition edition → ⊥) → PartGives w edition first last t (refused 12 0) t
  unfolding part_outcome part_table
  part_bad_edition h e = (simp (le-ltb limit (length w) h, test_of_no_edition edition e), simp (le-ltb limit (length w) h, test_of_no_edition edition e))

  module _ (h : length w ≤ limit) (e : Edition edition) where
    pub part_outside : (Within w first last → ⊥) → PartGives w edition first last t (refused 6 0) t
    unfolding part_outcome part_table
    part_outside k = (
      simp (le-ltb limit (length w) h, test_of_edition edition e, outside_tests w first last k),
      simp (le-ltb limit (length w) h, test_of_edition edition e, outside_tests w first last k),
    )

    module _ (k : Within w first last) where
      pub part_too_few : length t < last - first + 1 → PartGives w edition first last t (refused 7 0) t
      unfolding part_outcome part_table
      part_too_few l = (
        simp (le-ltb limit (length w) h, test_of_edition edition e, within_tests w first last k, lt-ltb (length t) (last - first + 1) l),
        simp (le-ltb limit (length w) h, test_of_edition edition e, within_tests w first last k, lt-ltb (length t) (last - first + 1) l),
      )

      pub part_described : last - first + 1 ≤ length t
          → PartGives w edition first last t (accepted (description (turns_of edition) (part w (first - 1) last))) (units_table (part w (first - 1) last) t)
      unfolding part_outcome part_table
      part_described l = (
        simp (le-ltb limit (length w) h, test_of_edition edition e, within_tests w first last k, le-ltb (length t) (last - first + 1) l),
        simp (le-ltb limit (length w) h, test_of_edition edition e, within_tests w first last k, le-ltb (length t) (last - first + 1) l),
      )

  -- CLAIM: what the part call answers and writes means what the documents say
  pub part_means : PartMeaning w edition first last t (part_outcome w edition first last (length t)) (part_table w edition first last t)
  unfolding description
  part_means = go (dec_lt limit (length w)) (edition? edition)
    where
      Means : Type 0
      Means = PartMeaning w edition first last t (part_outcome w edition first last (length t)) (part_table w edition first last t)

      inside : length w ≤ limit → Edition edition → Within w first last → Dec (length t < last - first + 1) → Means
      inside h e k (yes l) = let g = part_too_few h e k l in too_few h e k l (sym g.0) (sym g.1)
      inside h e k (no l) =
          let s = part w (first - 1) last in
          let n : length s ≡ last - first + 1 = part_length w first last k ∙ omega (arith, k) in
          let g = part_described h e k (omega arith) in
          described h e k (omega arith) (smallest_period s) (length s / smallest_period s) (length s % smallest_period s) (flag (repetition? held_period (turns_of edition) s))
          (describes (turns_of edition) s (omega arith)) (sym g.0) (subst (λ (x : List ℕ). Grows s t x (smallest_period s)) g.1 (grows s t (omega arith) (omega arith)))

      out : length w ≤ limit → Edition edition → (Within w first last → ⊥) → Means
      out h e k = let g = part_outside h e k in outside h e k (sym g.0) (sym g.1)

      known : length w ≤ limit → Edition edition → Dec (1 ≤ first) → Dec (first ≤ last) → Dec (last ≤ length w) → Means
      known h e (no x) y z = out h e (λ k. x k.0)
      known h e (yes x) (no y) z = out h e (λ k. y k.1)
      known h e (yes x) (yes y) (no z) = out h e (λ k. z k.2)
      known h e (yes x) (yes y) (yes z) = inside h e (x, y, z) (dec_lt (length t) (last - first + 1))

      go : Dec (limit < length w) → Dec (Edition edition) → Means
      go (yes h) e = let g = part_too_long h in too_long h (sym g.0) (sym g.1)
      go (no h) (no e) = let g = part_bad_edition (omega arith) e in bad_edition (omega arith) e (sym g.0) (sym g.1)
      go (no h) (yes e) = known (omega arith) e (dec_le 1 first) (dec_le first last) (dec_le last (length w))

  -- the answer and the table with their meaning
  pub part_answered : (o : Outcome) (x : List ℕ) → PartGives w edition first last t o x
      → (o ≡ part_outcome w edition first last (length t)) × ((x ≡ part_table w edition first last t) × PartMeaning w edition first last t o x)
  part_answered o x g = (g.0, (g.1, rw (g.0, g.1) part_means))

-- ---- CLAIM: an answer is determined by its numbers

flag_injective : (b c : Bool) → flag b ≡ flag c → b ≡ c
flag_injective true true e = refl
flag_injective true false e = absurd (omega arith)
flag_injective false true e = absurd (omega arith)
flag_injective false false e = refl

pub part-view_injective : (x y : Result Description Refusal) → part_view x ≡ part_view y → x ≡ y
part-view_injective (Ok d) (Ok e) p = ap Ok (λ i. record { period = a i; exponent = b i; remainder = f i; repetition = g i })
  where
    a : d.period ≡ e.period
    a = cc

    b : d.exponent ≡ e.exponent
    b = cc

    f : d.remainder ≡ e.remainder
    f = cc

    h : flag d.repetition ≡ flag e.repetition
    h = cc

    g : d.repetition ≡ e.repetition
    g = flag_injective d.repetition e.repetition h
part-view_injective (Ok d) (Err s) p = absurd (refused_accepted (refusal s) _ _ _ refl (sym p))
part-view_injective (Err r) (Ok e) p = absurd (refused_accepted (refusal r) _ _ _ refl p)
part-view_injective (Err r) (Err s) p = ap Err (refusal_injective r s p)
