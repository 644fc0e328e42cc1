-- Which first and first block mean what the document says, for every pair of words, edition and table: `which_means`, `first_means`. One law for each outcome
-- says what the definitions give; the sizes and ends are those of the words' smallest factorizations (repetitions/proofs/BestClaims.antt, `word_answers`).
-- Assumes nothing.
use mathlib.Core.Path.{◌≡◌, refl, sym, ap, ◌∙◌, subst}
use mathlib.Core.Logic.{◌⊎◌, inl, inr}
use mathlib.Core.List.{List, [], ◌∷◌, ◌++◌}
use Prim.Native.Nat.{ℕ, ◌+◌, ◌*◌, ◌≤◌, ◌<◌, max}
use native.Mathlib.Nat.{le-max_left, le-max_right, max-le}
use native.Mathlib.Omega.{arith}
use native.Mathlib.Decide.{dec_lt}
use borrow.Author.Tests.{lt-ltb, le-ltb}
use lib.ListN.{length, drop, replicate, length-append, length-drop, length-replicate, get_or-replicate, get_or-append}
use lib.Seq.{drop_at}
use Rattle.answers.specs.declared.Refusal.TheVariants.{TooLong, ShortTable, BadEdition}
use Rattle.answers.specs.Outcome.{Outcome, limit}
use Rattle.periods.specs.Period.{held_period}
use Rattle.periods.specs.Edition.{Edition, turns_of}
use Rattle.periods.proofs.Editions.{test_of_edition, test_of_no_edition, edition?}
use Rattle.factors.specs.Factorization.{Factorization, fewest, smallest, Cell, unreachable, reached, best_ends}
use Rattle.factors.specs.Table.{rows}
use Rattle.factors.specs.Verdict.{end_of}
use Rattle.factors.proofs.Optimal.{Answers}
use Rattle.repetitions.specs.Block.{Block, block?}
use Rattle.repetitions.specs.BestSplit.{last_cell}
use Rattle.repetitions.proofs.BestClaims.{word_answers}
use Rattle.comparison.specs.declared.Chosen.{Chosen}
use Rattle.std.specs.Prelude.{Result, Ok, Err}
use Rattle.answers.specs.declared.Refusal.{Refusal}
use Rattle.comparison.specs.declared.Chosen.TheVariants.{First, Second}
use Rattle.comparison.specs.Measure.{first_end}
use Rattle.comparison.specs.Calls.{longer, chosen, tested, compared, which_view, which_outcome, which_work, word_in, length_in, front, first_which, first_length, first_block, start_in, Fewest, only, both, Cleared, Compared, neither, first_wins, second_wins, WhichMeaning, too_long, bad_edition, short_table, settled, FirstMeaning, nothing, of_first, of_second, BlockMeaning}

-- ---- the longer of two words

pub longer_above : (m x y : ℕ) → m < max x y → (m < x) ⊎ (m < y)
longer_above m x y h = go (dec_lt m x) (dec_lt m y)
  where
    go : Dec (m < x) → Dec (m < y) → (m < x) ⊎ (m < y)
    go (yes a) d = inl a
    go (no a) (yes b) = inr b
    go (no a) (no b) = absurd (omega (arith, max-le {a = x} {b = y} {k = m} (omega arith) (omega arith)))

pub above_longer : (m x y : ℕ) → (m < x) ⊎ (m < y) → m < max x y
above_longer m x y (inl a) = omega (arith, le-max_left x y)
above_longer m x y (inr b) = omega (arith, le-max_right x y)

-- ---- a cleared table

pub cleared_table : (places : ℕ) (t : List ℕ) → places ≤ length t → Cleared places t (replicate places 0 ++ drop places t)
cleared_table places t h = record {
  zero = λ i l. get_or-append (replicate places 0) (drop places t) 0 i (omega (arith, length-replicate {A = ℕ} places 0)) ∙ get_or-replicate places i 0 0 l;
  kept = drop_at (replicate places 0) (drop places t) places (length-replicate places 0);
  long = omega (arith, length-append (replicate places 0) (drop places t), length-replicate {A = ℕ} places 0, length-drop places t);
}

-- ---- the calls, by their tests

module _ (n edition places : ℕ) where
  tested_long : {A : Type 0} (x y z r : A) → limit < n → x ≡ tested n edition places x y z r
  tested_long x y z r h = rw (lt-ltb limit n h) refl

  tested_bad_edition : {A : Type 0} (x y z r : A) → n ≤ limit → (Edition edition → ⊥) → y ≡ tested n edition places x y z r
  tested_bad_edition x y z r h i = rw (le-ltb limit n h, test_of_no_edition edition i) refl

  module _ (h : n ≤ limit) (i : Edition edition) where
    tested_short : {A : Type 0} (x y z r : A) → places < rows * (n + 1) → z ≡ tested n edition places x y z r
    tested_short x y z r l = simp (le-ltb limit n h, test_of_edition edition i, lt-ltb places (rows * (n + 1)) l)

    tested_fine : {A : Type 0} (x y z r : A) → rows * (n + 1) ≤ places → r ≡ tested n edition places x y z r
    tested_fine x y z r l = simp (le-ltb limit n h, test_of_edition edition i, le-ltb places (rows * (n + 1)) l)

module _ (a b : List ℕ) (edition : ℕ) (t : List ℕ) where
  n : ℕ
  n = longer a b

  -- the two promises: what is chosen, and the working table
  pub record Promised (c : Result Chosen Refusal) (y : List ℕ) : Type 0 where
    pub choice : c ≡ compared a b edition (length t)
    pub work : y ≡ which_work a b edition t

  pub promised_long : limit < longer a b → Promised (Err TooLong) t
  unfolding compared which_work
  promised_long h = record { choice = tested_long _ _ _ _ _ _ _ h; work = tested_long _ _ _ _ _ _ _ h }

  pub promised_bad_edition : longer a b ≤ limit → (Edition edition → ⊥) → Promised (Err BadEdition) t
  unfolding compared which_work
  promised_bad_edition h i = record { choice = tested_bad_edition _ _ _ _ _ _ _ h i; work = tested_bad_edition _ _ _ _ _ _ _ h i }

  pub promised_short : longer a b ≤ limit → Edition edition → length t < rows * (longer a b + 1) → Promised (Err ShortTable) t
  unfolding compared which_work
  promised_short h i l = record { choice = tested_short _ _ _ h i _ _ _ _ l; work = tested_short _ _ _ h i _ _ _ _ l }

  pub promised_chosen : longer a b ≤ limit → Edition edition → rows * (longer a b + 1) ≤ length t
      → Promised (chosen (last_cell (turns_of edition) a fewest) (last_cell (turns_of edition) b fewest) (first_end (turns_of edition) a) (first_end (turns_of edition) b)) (replicate (rows * (longer a b + 1)) 0 ++ drop (rows * (longer a b + 1)) t)
  unfolding compared which_work
  promised_chosen h i l = record { choice = tested_fine _ _ _ h i _ _ _ _ l; work = tested_fine _ _ _ h i _ _ _ _ l }

-- ---- what is chosen

module _ (k : ℕ) (w : List ℕ) where
  -- the ends of a word's smallest factorization
  abbrev pub ends_of : List ℕ
  ends_of = best_ends smallest (block? held_period k w) (length w)

  -- what is known of its last boundary is right
  abbrev pub Known : Cell → Type 0
  Known v = Answers smallest (Block held_period k w) (length w) v ends_of

  pub last_known : Known (last_cell k w fewest)
  last_known = word_answers held_period k smallest w (length w)

  -- e is the end of the first block of that factorization
  abbrev pub FirstEnd : ℕ → Type 0
  FirstEnd e = (s : ℕ) × ((es : List ℕ) × (Fewest k w s es × (e ≡ end_of es 1)))

-- it lies within the word
first_end_within : (k : ℕ) (w : List ℕ) (e : ℕ) → FirstEnd k w e → e ≤ length w
first_end_within k w e F = go F.1.0 F.1.1.0.factorization F.1.1.1
  where
    go : (es : List ℕ) → Factorization (Block held_period k w) (length w) es → e ≡ end_of es 1 → e ≤ length w
    go [] C q = omega arith
    go (x ∷ xs) C q = omega (arith, C.0.0)

module _ (a b : List ℕ) where
  -- the end that goes with a choice lies within the word that is chosen
  abbrev pub Within : Result Chosen Refusal → Type 0
  Within (Ok (First e)) = e ≤ length a
  Within (Ok (Second e)) = e ≤ length b
  Within (Err r) = Unit {0}

module _ (k : ℕ) (a b : List ℕ) where
  -- the answer compares the sizes of the two factorizations
  pub chosen_compared : (i j : ℕ) → Compared k a b (which_view (chosen (last_cell k a fewest) (last_cell k b fewest) i j))
  chosen_compared i j = go (last_cell k a fewest) (last_cell k b fewest) (last_known k a) (last_known k b)
    where
      go : (u v : Cell) → Known k a u → Known k b v → Compared k a b (which_view (chosen u v i j))
      go unreachable unreachable A B = neither A B refl
      go (reached s p) unreachable A B = first_wins (only s (ends_of k a) A B) refl
      go unreachable (reached t q) A B = second_wins (only t (ends_of k b) B A) refl
      go (reached s p) (reached t q) A B = by (dec_lt t s)
        where
          by : Dec (t < s) → Compared k a b (which_view (chosen (reached s p) (reached t q) i j))
          by (yes l) = second_wins (both t s (ends_of k b) (ends_of k a) B A l) (rw (lt-ltb t s l) refl)
          by (no l) = first_wins (both s t (ends_of k a) (ends_of k b) A B (omega arith)) (rw (le-ltb t s (omega arith)) refl)

  -- a choice goes with the end of the first block of that word's smallest factorization
  abbrev pub Found : Result Chosen Refusal → Type 0
  Found (Ok (First e)) = FirstEnd k a e
  Found (Ok (Second e)) = FirstEnd k b e
  Found (Err r) = Unit {0}

  pub found_within : (c : Result Chosen Refusal) → Found c → Within a b c
  found_within (Ok (First e)) F = first_end_within k a e F
  found_within (Ok (Second e)) F = first_end_within k b e F
  found_within (Err r) F = tt

  pub chosen_found : Found (chosen (last_cell k a fewest) (last_cell k b fewest) (first_end k a) (first_end k b))
  chosen_found = go (last_cell k a fewest) (last_cell k b fewest) (last_known k a) (last_known k b)
    where
      go : (u v : Cell) → Known k a u → Known k b v → Found (chosen u v (first_end k a) (first_end k b))
      go unreachable unreachable A B = tt
      go (reached s p) unreachable A B = (s, (ends_of k a, (A, refl)))
      go unreachable (reached t q) A B = (t, (ends_of k b, (B, refl)))
      go (reached s p) (reached t q) A B = by (dec_lt t s)
        where
          by : Dec (t < s) → Found (chosen (reached s p) (reached t q) (first_end k a) (first_end k b))
          by (yes l) = rw (lt-ltb t s l) (t, (ends_of k b, (B, refl)))
          by (no l) = rw (le-ltb t s (omega arith)) (s, (ends_of k a, (A, refl)))

-- ---- what the calls mean

module _ (a b : List ℕ) (edition : ℕ) (t : List ℕ) where
  -- what is chosen, with the table y, means what which first says and goes with the end that first block gives
  pub record Meant (c : Result Chosen Refusal) (y : List ℕ) : Type 0 where
    pub which : WhichMeaning a b edition t (which_view c) y
    pub found : Found (turns_of edition) a b c

  pub choice_means : Meant (compared a b edition (length t)) (which_work a b edition t)
  choice_means = go (dec_lt limit (longer a b)) (edition? edition) (dec_lt (length t) (rows * (longer a b + 1)))
    where
      by : {c : Result Chosen Refusal} {y : List ℕ} → Promised a b edition t c y → Meant c y → Meant (compared a b edition (length t)) (which_work a b edition t)
      by P M = rw (← P.choice, ← P.work) M

      left : longer a b ≤ limit → length a ≤ limit
      left h = omega (arith, le-max_left (length a) (length b))

      right : longer a b ≤ limit → length b ≤ limit
      right h = omega (arith, le-max_right (length a) (length b))

      go : Dec (limit < longer a b) → Dec (Edition edition) → Dec (length t < rows * (longer a b + 1)) → Meant (compared a b edition (length t)) (which_work a b edition t)
      go (yes h) i d = by (promised_long a b edition t h) record { which = too_long (longer_above limit (length a) (length b) h) refl refl; found = tt }
      go (no h) (no i) d = by (promised_bad_edition a b edition t (omega arith) i) record { which = bad_edition (left (omega arith)) (right (omega arith)) i refl refl; found = tt }
      go (no h) (yes i) (yes d) =
          by (promised_short a b edition t (omega arith) i d) record { which = short_table (left (omega arith)) (right (omega arith)) i d refl refl; found = tt }
      go (no h) (yes i) (no d) =
          by (promised_chosen a b edition t (omega arith) i (omega arith)) record {
            which =
                settled record { first_fits = left (omega arith); second_fits = right (omega arith); edition_known = i; places = omega arith }
                (chosen_compared (turns_of edition) a b (first_end (turns_of edition) a) (first_end (turns_of edition) b)) (cleared_table (rows * (longer a b + 1)) t (omega arith));
            found = chosen_found (turns_of edition) a b;
          }

  -- CLAIM: which first answers for the word with fewer blocks in its fewest split
  pub which_means : WhichMeaning a b edition t (which_outcome a b edition (length t)) (which_work a b edition t)
  which_means = choice_means.which

  -- CLAIM: first block gives the end of the first block of that split
  pub first_means : FirstMeaning a b edition t (first_which a b edition (length t)) (first_length a b edition (length t)) (which_work a b edition t)
  first_means = go (compared a b edition (length t)) choice_means.which choice_means.found
    where
      go : (c : Result Chosen Refusal) → WhichMeaning a b edition t (which_view c) (which_work a b edition t) → Found (turns_of edition) a b c → FirstMeaning a b edition t (word_in c) (length_in c) (which_work a b edition t)
      go (Ok (First e)) W F = of_first F.0 F.1.0 W F.1.1.0 refl F.1.1.1
      go (Ok (Second e)) W F = of_second F.0 F.1.0 W F.1.1.0 refl F.1.1.1
      go (Err r) W F = nothing _ _ W refl refl

  -- what the calls ensure, from what is chosen
  pub which_answered : (o : Outcome) (y : List ℕ) → o ≡ which_outcome a b edition (length t) → y ≡ which_work a b edition t
      → (o ≡ which_outcome a b edition (length t)) × ((y ≡ which_work a b edition t) × WhichMeaning a b edition t o y)
  which_answered o y e f = (e, (f, rw (e, f) which_means))

  -- p and q are where the words start, s is where the part x starts
  pub block_answered : {P : Type 0} (p q : P) (c : Result Chosen Refusal) (x : List ℕ) (s : P) (y : List ℕ) → c ≡ compared a b edition (length t) → x ≡ front a b (word_in c) (length_in c) → s ≡ start_in p q (word_in c)
      → y ≡ which_work a b edition t → (x ≡ first_block a b edition (length t)) × ((s ≡ start_in p q (first_which a b edition (length t))) × ((y ≡ which_work a b edition t) × BlockMeaning a b edition t x y))
  block_answered p q c x s y e f g h =
      let is : x ≡ first_block a b edition (length t) = f ∙ ap (λ (d : Result Chosen Refusal). front a b (word_in d) (length_in d)) e in (
        is,
        (
          g ∙ ap (λ (d : Result Chosen Refusal). start_in p q (word_in d)) e,
          (h, record { word = first_which a b edition (length t); end = first_length a b edition (length t); found = rw h first_means; is = is }),
        ),
      )

  -- a first block lies within the word that is chosen
  pub choice_within : (c d : Result Chosen Refusal) → c ≡ compared a b edition (length t) → c ≡ d → Within a b d
  choice_within c d e f = subst (Within a b) (sym e ∙ f) (found_within (turns_of edition) a b (compared a b edition (length t)) choice_means.found)
