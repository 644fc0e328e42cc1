-- Which of two words to wind first, and its first block: what the calls answer, what they leave in the working table, and what that means. "Errors: 1 for
-- either, then 12, 9 for the longer, and 2 if neither splits." a and b are the words, k is the turn number of the edition.
use Rattle.std.specs.Prelude.{◌≡◌, ◌⊎◌, cond, List, [], ◌∷◌, ◌++◌, ℕ, ◌+◌, ◌*◌, ◌≤◌, ◌<◌, max, ltb, eqb, length, get_or, take, drop, replicate, Result, Ok, Err}
use Rattle.answers.specs.declared.Refusal.{Refusal}
use Rattle.answers.specs.declared.Refusal.TheVariants.{TooLong, NoFactorization, ShortTable, BadEdition}
use Rattle.answers.specs.Outcome.{Outcome, accepted, refused, refusal, limit}
use Rattle.periods.specs.Period.{held_period}
use Rattle.periods.specs.Edition.{Edition, bad_edition?, turns_of}
use Rattle.factors.specs.Factorization.{fewest, smallest, Best, Cell, unreachable, reached}
use Rattle.factors.specs.Table.{rows}
use Rattle.factors.specs.Verdict.{end_of}
use Rattle.repetitions.specs.Block.{Block}
use Rattle.repetitions.specs.BestSplit.{last_cell, Unsplittable}
use Rattle.comparison.specs.declared.Chosen.{Chosen}
use Rattle.comparison.specs.declared.Chosen.TheVariants.{First, Second}
use Rattle.comparison.specs.Measure.{first_end}

-- ---- computed

-- "one call answers 1 or 2"
abbrev pub first : ℕ
first = 1

abbrev pub second : ℕ
second = 2

-- "n the longer length"
abbrev pub longer : List ℕ → List ℕ → ℕ
longer a b = max (length a) (length b)

-- "the one that has fewer blocks in its fewest split"; "The first lay-up wins a tie. If only one can be split it is that one." By what is known of the two
-- words' last boundaries; i and j are the ends of their first blocks.
abbrev pub chosen : Cell → Cell → ℕ → ℕ → Result Chosen Refusal
chosen unreachable unreachable i j = Err NoFactorization
chosen (reached s p) unreachable i j = Ok (First i)
chosen unreachable (reached t q) i j = Ok (Second j)
chosen (reached s p) (reached t q) i j = cond (ltb t s) (Ok (Second j)) (Ok (First i))

-- 1, 12 and 9 for words of which the longer has n symbols, where so many places are lent: one of these is met, or the rest decides
abbrev pub tested : {A : Type 0} → ℕ → ℕ → ℕ → A → A → A → A → A
tested n edition places long unknown short rest =
    cond (ltb limit n) long (cond (bad_edition? edition) unknown (cond (ltb places (rows * (n + 1))) short rest))

-- the word to wind first and the end of its first block, or the refusal
unfoldable pub compared : List ℕ → List ℕ → ℕ → ℕ → Result Chosen Refusal
compared a b edition places =
    tested (longer a b) edition places (Err TooLong) (Err BadEdition) (Err ShortTable)
    (chosen (last_cell (turns_of edition) a fewest) (last_cell (turns_of edition) b fewest) (first_end (turns_of edition) a) (first_end (turns_of edition) b))

-- the number of the word that is chosen
abbrev pub number_in : Chosen → ℕ
number_in (First e) = first
number_in (Second e) = second

-- the length of its first block
abbrev pub first_in : Chosen → ℕ
first_in (First e) = e
first_in (Second e) = e

-- the answer of which first
abbrev pub which_view : Result Chosen Refusal → Outcome
which_view (Ok x) = accepted (number_in x ∷ [])
which_view (Err r) = refusal r

abbrev pub which_outcome : List ℕ → List ℕ → ℕ → ℕ → Outcome
which_outcome a b edition places = which_view (compared a b edition places)

-- "In both calls the working table's first 4×(n+1) places, n the longer length, end as 0, also after 2; where the first call gives another refusal, both keep
-- the table."
unfoldable pub which_work : List ℕ → List ℕ → ℕ → List ℕ → List ℕ
which_work a b edition t =
    tested (longer a b) edition (length t) t t t (replicate (rows * (longer a b + 1)) 0 ++ drop (rows * (longer a b + 1)) t)

-- the word that first block gives a part of, 0 for none, and the length of that part
abbrev pub word_in : Result Chosen Refusal → ℕ
word_in (Ok x) = number_in x
word_in (Err r) = 0

abbrev pub length_in : Result Chosen Refusal → ℕ
length_in (Ok x) = first_in x
length_in (Err r) = 0

-- the first so many symbols of the word with a number; nothing where there is no such word
abbrev pub front : List ℕ → List ℕ → ℕ → ℕ → List ℕ
front a b word e = cond (eqb word first) (take e a) (cond (eqb word second) (take e b) [])

abbrev pub first_which : List ℕ → List ℕ → ℕ → ℕ → ℕ
first_which a b edition places = word_in (compared a b edition places)

abbrev pub first_length : List ℕ → List ℕ → ℕ → ℕ → ℕ
first_length a b edition places = length_in (compared a b edition places)

-- "the first block of the one with fewer blocks in its fewest split, as part of the caller's own bytes, and an empty part, instead of a number, where the
-- first call refuses"
abbrev pub first_block : List ℕ → List ℕ → ℕ → ℕ → List ℕ
first_block a b edition places = front a b (first_which a b edition places) (first_length a b edition places)

-- where that part starts: where the word starts that it is a part of, which is the first where it is a part of none
abbrev pub start_in : {A : Type 0} → A → A → ℕ → A
start_in p q word = cond (eqb word second) q p

-- ---- what they mean

-- es are the ends of a word's fewest split, of s blocks
abbrev pub Fewest : ℕ → List ℕ → ℕ → List ℕ → Type 0
Fewest k w s es = Best smallest (Block held_period k w) (length w) s es

-- word u wins over word v: "If only one can be split it is that one", else the sizes of their fewest splits stand in a relation
pub data Wins (R : ℕ → ℕ → Type 0) (k : ℕ) (u v : List ℕ) : Type 0 where
  only : (s : ℕ) (es : List ℕ) → Fewest k u s es → Unsplittable k v → Wins R k u v
  both : (s t : ℕ) (es fs : List ℕ) → Fewest k u s es → Fewest k v t fs → R s t → Wins R k u v

-- neither 1 nor 12 nor 9 is met; t is the working table at entry
pub record Comparable (a b : List ℕ) (edition : ℕ) (t : List ℕ) : Type 0 where
  pub first_fits : length a ≤ limit
  pub second_fits : length b ≤ limit
  pub edition_known : Edition edition
  pub places : rows * (longer a b + 1) ≤ length t

-- the working table at exit, y: so many places are 0, the others as they were
pub record Cleared (places : ℕ) (t y : List ℕ) : Type 0 where
  pub zero : (i : ℕ) → i < places → get_or y i 0 ≡ 0
  pub kept : drop places y ≡ drop places t
  pub long : length y ≡ length t

-- "The first lay-up wins a tie."
pub data Compared (k : ℕ) (a b : List ℕ) (o : Outcome) : Type 0 where
  neither : Unsplittable k a → Unsplittable k b → o ≡ refused 2 0 → Compared k a b o
  first_wins : Wins ◌≤◌ k a b → o ≡ accepted (1 ∷ []) → Compared k a b o
  second_wins : Wins ◌<◌ k b a → o ≡ accepted (2 ∷ []) → Compared k a b o

pub data WhichMeaning (a b : List ℕ) (edition : ℕ) (t : List ℕ) (o : Outcome) (y : List ℕ) : Type 0 where
  too_long : (limit < length a) ⊎ (limit < length b) → o ≡ refused 1 0 → y ≡ t → WhichMeaning a b edition t o y
  bad_edition : length a ≤ limit → length b ≤ limit → (Edition edition → ⊥) → o ≡ refused 12 0 → y ≡ t → WhichMeaning a b edition t o y
  short_table :
      length a ≤ limit → length b ≤ limit → Edition edition → length t < rows * (longer a b + 1) → o ≡ refused 9 0 → y ≡ t → WhichMeaning a b edition t o y
  settled : Comparable a b edition t → Compared (turns_of edition) a b o → Cleared (rows * (longer a b + 1)) t y → WhichMeaning a b edition t o y

-- first block: of the word that which first answers, the end of the first block of its fewest split (0 where that has no block), and no word where which first
-- refuses
pub data FirstMeaning (a b : List ℕ) (edition : ℕ) (t : List ℕ) (word e : ℕ) (y : List ℕ) : Type 0 where
  nothing : (number i : ℕ) → WhichMeaning a b edition t (refused number i) y → word ≡ 0 → e ≡ 0 → FirstMeaning a b edition t word e y
  of_first :
      (s : ℕ) (es : List ℕ) → WhichMeaning a b edition t (accepted (1 ∷ [])) y → Fewest (turns_of edition) a s es → word ≡ 1 → e ≡ end_of es 1
      → FirstMeaning a b edition t word e y
  of_second :
      (s : ℕ) (es : List ℕ) → WhichMeaning a b edition t (accepted (2 ∷ [])) y → Fewest (turns_of edition) b s es → word ≡ 2 → e ≡ end_of es 1
      → FirstMeaning a b edition t word e y

-- x is the part that is returned
pub record BlockMeaning (a b : List ℕ) (edition : ℕ) (t x y : List ℕ) : Type 0 where
  pub word : ℕ
  pub end : ℕ
  pub found : FirstMeaning a b edition t word end y
  pub is : x ≡ front a b word end
