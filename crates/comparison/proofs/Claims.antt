-- What follows for hosts from the meaning of the two calls: what swapping the words does (swap_turns), that a first block is a block of the edition
-- (first_block_repeats) and when it is empty (first_block_empty). By cases on what is chosen, and on what is known of the words' last boundaries. Assumes
-- nothing.
use mathlib.Core.Path.{◌≡◌, refl, sym, ap, ◌∙◌, subst}
use mathlib.Core.Logic.{◌↔◌}
use mathlib.Core.Bool.{Bool, true, false, cond}
use mathlib.Core.List.{List, [], ◌∷◌, map}
use Prim.Native.Nat.{ℕ, ◌+◌, ◌*◌, ◌<◌}
use native.Mathlib.Nat.{max_comm, max-le, sub-zero}
use native.Mathlib.Omega.{arith}
use native.Mathlib.Decide.{dec_lt}
use borrow.Author.Tests.{lt-ltb, le-ltb}
use lib.Dec.{ltb, eqb}
use lib.ListN.{length, take, length-take}
use lib.Seq.{take-nil}
use Rattle.answers.specs.declared.Refusal.TheVariants.{TooLong, ShortTable, BadEdition}
use Rattle.answers.specs.Outcome.{Outcome, accepted, refused, limit}
use Rattle.answers.proofs.Claims.{refused_accepted}
use Rattle.periods.specs.Period.{held_period, Repetition}
use Rattle.periods.specs.Edition.{bad_edition?, turns_of}
use Rattle.factors.specs.Factorization.{Factorization, fewest, Cell, unreachable, reached}
use Rattle.factors.specs.Table.{rows}
use Rattle.factors.specs.Verdict.{end_of}
use Rattle.repetitions.specs.Block.{Block}
use Rattle.repetitions.specs.BestSplit.{last_cell}
use Rattle.repetitions.proofs.Blocks.{block_up}
use Rattle.comparison.specs.declared.Chosen.{Chosen}
use Rattle.std.specs.Prelude.{Result, Ok, Err}
use Rattle.answers.specs.declared.Refusal.{Refusal}
use Rattle.comparison.specs.declared.Chosen.TheVariants.{First, Second}
use Rattle.comparison.specs.Measure.{first_end}
use Rattle.comparison.specs.Calls.{longer, chosen, tested, compared, which_view, which_outcome, which_work, word_in, length_in, front, first_length, first_block, Fewest, Comparable}
use Rattle.comparison.proofs.CallClaims.{promised_chosen, Known, last_known, FirstEnd, Within, Found, choice_means, choice_within}
use Rattle.comparison.proofs.Determined.{fewest_reached, one_not_two}

-- ---- the words swapped

-- the other word is chosen
abbrev pub turned : Result Chosen Refusal → Result Chosen Refusal
turned (Ok (First e)) = Ok (Second e)
turned (Ok (Second e)) = Ok (First e)
turned (Err r) = Err r

-- 1 in the place of 2, and 2 in the place of 1; refusals stay
abbrev pub other : ℕ → ℕ
other word = cond (eqb word 1) 2 1

abbrev pub swapped : Outcome → Outcome
swapped (accepted v) = accepted (map other v)
swapped (refused number i) = refused number i

-- both words have a split, and their fewest splits have equally many blocks
pub record Tied (k : ℕ) (a b : List ℕ) : Type 0 where
  pub blocks : ℕ
  pub first_ends : List ℕ
  pub second_ends : List ℕ
  pub first : Fewest k a blocks first_ends
  pub second : Fewest k b blocks second_ends

tested_map : {A B : Type 0} (f : A → B) (n edition places : ℕ) (x y z r : A) → f (tested n edition places x y z r) ≡ tested n edition places (f x) (f y) (f z) (f r)
tested_map f n edition places x y z r = go (ltb limit n) (bad_edition? edition) (ltb places (rows * (n + 1)))
  where
    go : (p q s : Bool) → f (cond p x (cond q y (cond s z r))) ≡ cond p (f x) (cond q (f y) (cond s (f z) (f r)))
    go true q s = refl
    go false true s = refl
    go false false true = refl
    go false false false = refl

-- by what is known of the two words
chosen_turned : (u v : Cell) (i j : ℕ) → ((s p q : ℕ) → u ≡ reached s p → v ≡ reached s q → ⊥) → chosen v u j i ≡ turned (chosen u v i j)
chosen_turned unreachable unreachable i j n = refl
chosen_turned unreachable (reached t q) i j n = refl
chosen_turned (reached s p) unreachable i j n = refl
chosen_turned (reached s p) (reached t q) i j n = go (dec_lt t s) (dec_lt s t)
  where
    go : Dec (t < s) → Dec (s < t) → chosen (reached t q) (reached s p) j i ≡ turned (chosen (reached s p) (reached t q) i j)
    go (yes l) d = rw (lt-ltb t s l, le-ltb s t (omega arith)) refl
    go (no l) (yes m) = rw (le-ltb t s (omega arith), lt-ltb s t m) refl
    go (no l) (no m) = let e : t ≡ s = omega arith in absurd (n s p q refl (ap (λ (x : ℕ). reached x q) e))

module _ (a b : List ℕ) (edition places : ℕ) where
  abbrev k : ℕ
  k = turns_of edition

  -- a fewest split from what is known
  known_fewest : (w : List ℕ) (s p : ℕ) → last_cell k w fewest ≡ reached s p → (es : List ℕ) × Fewest k w s es
  known_fewest w s p e = (_, subst (Known k w) e (last_known k w))

  tied : (s p q : ℕ) → last_cell k a fewest ≡ reached s p → last_cell k b fewest ≡ reached s q → Tied k a b
  tied s p q e f = record {
    blocks = s;
    first_ends = (known_fewest a s p e).0;
    second_ends = (known_fewest b s q f).0;
    first = (known_fewest a s p e).1;
    second = (known_fewest b s q f).1;
  }

  -- CLAIM: swapping the words swaps what is chosen, unless their fewest splits are equally large
  pub swap_turns : (Tied (turns_of edition) a b → ⊥) → compared b a edition places ≡ turned (compared a b edition places)
  unfolding compared
  swap_turns n =
      rw (max_comm (length b) (length a))
      (ap (λ (r : Result Chosen Refusal). tested (longer a b) edition places (Err TooLong) (Err BadEdition) (Err ShortTable) r) (chosen_turned (last_cell k a fewest) (last_cell k b fewest) (first_end k a) (first_end k b) untied)
      ∙ sym (tested_map turned (longer a b) edition places _ _ _ _))
    where
      untied : (s p q : ℕ) → last_cell k a fewest ≡ reached s p → last_cell k b fewest ≡ reached s q → ⊥
      untied s p q e f = n (tied s p q e f)

  -- CLAIM: so it swaps the answers 1 and 2 of which first, and first block stays the same
  pub swap_answers : (Tied (turns_of edition) a b → ⊥) → which_outcome b a edition places ≡ swapped (which_outcome a b edition places)
  swap_answers n = ap which_view (swap_turns n) ∙ go (compared a b edition places)
    where
      go : (c : Result Chosen Refusal) → which_view (turned c) ≡ swapped (which_view c)
      go (Ok (First e)) = refl
      go (Ok (Second e)) = refl
      go (Err r) = refl

  pub swap_block : (Tied (turns_of edition) a b → ⊥) → first_block b a edition places ≡ first_block a b edition places
  swap_block n = rw (swap_turns n) (go (compared a b edition places))
    where
      go : (c : Result Chosen Refusal) → front b a (word_in (turned c)) (length_in (turned c)) ≡ front a b (word_in c) (length_in c)
      go (Ok (First e)) = refl
      go (Ok (Second e)) = refl
      go (Err r) = refl

-- CLAIM: where they are equally large, the first word is the answer
pub tie_first : (a b : List ℕ) (edition : ℕ) (t : List ℕ) → Comparable a b edition t → Tied (turns_of edition) a b → which_outcome a b edition (length t) ≡ accepted (1 ∷ [])
tie_first a b edition t C T =
    sym (ap which_view (promised_chosen a b edition t (max-le C.first_fits C.second_fits) C.edition_known C.places).choice)
    ∙ rw (
      (fewest_reached (turns_of edition) a T.blocks T.first_ends T.first).1,
      (fewest_reached (turns_of edition) b T.blocks T.second_ends T.second).1,
      le-ltb T.blocks T.blocks (omega arith),
    ) refl

-- CLAIM: the working table does not depend on the order
pub swap_work : (a b : List ℕ) (edition : ℕ) (t : List ℕ) → which_work b a edition t ≡ which_work a b edition t
unfolding which_work
swap_work a b edition t = rw (max_comm (length b) (length a)) refl

-- ---- the first block

-- a word that is not empty has a first block, which is a block of k turns from its start on
first_end_block : (k : ℕ) (w : List ℕ) (e : ℕ) → FirstEnd k w e → 0 < length w → Block held_period k w 0 e
first_end_block k w e F h = go F.1.0 F.1.1.0.factorization F.1.1.1
  where
    go : (es : List ℕ) → Factorization (Block held_period k w) (length w) es → e ≡ end_of es 1 → Block held_period k w 0 e
    go [] C q = absurd (omega (arith, C))
    go (x ∷ xs) C q = subst (Block held_period k w 0) (sym q) C.0

first_end_repeats : (k : ℕ) (w : List ℕ) (e : ℕ) → FirstEnd k w e → 0 < length w → Repetition held_period k (take e w)
first_end_repeats k w e F h = subst (λ (x : ℕ). Repetition held_period k (take x w)) (sub-zero e) (first_end_block k w e F h).1

-- it is not empty
first_end_some : (k : ℕ) (w : List ℕ) (e : ℕ) → FirstEnd k w e → 0 < length w → 0 < length (take e w)
first_end_some k w e F h =
    let B = first_end_block k w e F h in omega (arith, B.0, block_up held_period k w 0 e B, length-take e w)

-- why a first block is empty
pub data NoBlock (a b : List ℕ) (o : Outcome) : Type 0 where
  which_first_refuses : (number i : ℕ) → o ≡ refused number i → NoBlock a b o
  first_is_empty : o ≡ accepted (1 ∷ []) → a ≡ [] → NoBlock a b o
  second_is_empty : o ≡ accepted (2 ∷ []) → b ≡ [] → NoBlock a b o

no_symbols : (w : List ℕ) → (0 < length w → ⊥) → w ≡ []
no_symbols [] n = refl
no_symbols (x ∷ w) n = absurd (n (omega arith))

module _ (a b : List ℕ) (edition : ℕ) (t : List ℕ) where
  -- CLAIM: a first block is empty exactly when which first refuses or the word chosen is empty
  pub first_block_empty : (first_block a b edition (length t) ≡ []) ↔ NoBlock a b (which_outcome a b edition (length t))
  first_block_empty = (to (compared a b edition (length t)) (choice_means a b edition t).found, of (compared a b edition (length t)))
    where
      to : (c : Result Chosen Refusal) → Found (turns_of edition) a b c → front a b (word_in c) (length_in c) ≡ [] → NoBlock a b (which_view c)
      to (Ok (First e)) F q = first_is_empty refl (no_symbols a (λ h. omega (arith, first_end_some (turns_of edition) a e F h, ap length q)))
      to (Ok (Second e)) F q = second_is_empty refl (no_symbols b (λ h. omega (arith, first_end_some (turns_of edition) b e F h, ap length q)))
      to (Err r) F q = which_first_refuses _ _ refl

      of : (c : Result Chosen Refusal) → NoBlock a b (which_view c) → front a b (word_in c) (length_in c) ≡ []
      of (Ok (First e)) (which_first_refuses m i q) = absurd (refused_accepted _ _ _ _ q refl)
      of (Ok (First e)) (first_is_empty q z) = rw z (take-nil e)
      of (Ok (First e)) (second_is_empty q z) = absurd (one_not_two _ refl q)
      of (Ok (Second e)) (which_first_refuses m i q) = absurd (refused_accepted _ _ _ _ q refl)
      of (Ok (Second e)) (first_is_empty q z) = absurd (one_not_two _ q refl)
      of (Ok (Second e)) (second_is_empty q z) = rw z (take-nil e)
      of (Err r) M = refl

  -- CLAIM: it has as many symbols as a host is told, so the word that a host is told has at least so many
  pub first_block-length : length (first_block a b edition (length t)) ≡ first_length a b edition (length t)
  first_block-length = go (compared a b edition (length t)) (choice_within a b edition t _ _ refl refl)
    where
      go : (c : Result Chosen Refusal) → Within a b c → length (front a b (word_in c) (length_in c)) ≡ length_in c
      go (Ok (First e)) h = length-take e a ∙ omega arith
      go (Ok (Second e)) h = length-take e b ∙ omega arith
      go (Err r) h = refl

  -- CLAIM: any other is a block of the edition
  pub first_block_repeats : (first_block a b edition (length t) ≡ [] → ⊥) → Repetition held_period (turns_of edition) (first_block a b edition (length t))
  first_block_repeats n = go (compared a b edition (length t)) (choice_means a b edition t).found n
    where
      some : (w : List ℕ) (e : ℕ) → (take e w ≡ [] → ⊥) → 0 < length w
      some [] e n = absurd (n (take-nil e))
      some (x ∷ w) e n = omega arith

      go : (c : Result Chosen Refusal) → Found (turns_of edition) a b c → (front a b (word_in c) (length_in c) ≡ [] → ⊥) → Repetition held_period (turns_of edition) (front a b (word_in c) (length_in c))
      go (Ok (First e)) F n = first_end_repeats (turns_of edition) a e F (some a e n)
      go (Ok (Second e)) F n = first_end_repeats (turns_of edition) b e F (some b e n)
      go (Err r) F n = absurd (n refl)
