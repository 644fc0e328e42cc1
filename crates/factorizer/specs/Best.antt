-- The best split into pieces with a property: what is answered, what is left in both tables, and what that means. What best split and best squares share: "8, 9,
-- 2, 7", once the word is known to be within the limit.
use Rattle.std.specs.Prelude.{◌≡◌, ◌⊎◌, Bool, cond, List, [], ◌∷◌, ◌++◌, ℕ, ◌+◌, ◌*◌, ◌≤◌, ◌<◌, ltb, length, get_or, take, drop, replicate}
use Rattle.answers.specs.declared.Refusal.TheVariants.{NoFactorization, TooFewPlaces, BadChoice, ShortTable}
use Rattle.answers.specs.Outcome.{Outcome, accepted, refused, refusal}
use Rattle.factors.specs.Factorization.{Factorization, size, Choice, choice_of, bad_choice?, AsGood, Best, Cell, unreachable, reached, cell, best_ends}
use Rattle.factors.specs.Table.{none, rows, sizes}
use Rattle.factorizer.specs.Piece.{Piece, piece?}

-- ---- computed

-- the answer where the boundary is known, and so many places are lent for the ends
abbrev pub size_outcome : Cell → ℕ → Outcome
size_outcome unreachable places = refusal NoFactorization
size_outcome (reached s p) places = cond (ltb places s) (refusal TooFewPlaces) (accepted (s ∷ []))

-- the ends' table: only an accepted answer changes it, and only its first places
abbrev pub size_ends : Cell → List ℕ → List ℕ → List ℕ
size_ends unreachable best e = e
size_ends (reached s p) best e = cond (ltb (length e) s) e (best ++ drop s e)

-- the whole word's boundary; p is the test of a piece
abbrev pub whole_cell : (List ℕ → Bool) → List ℕ → ℕ → Cell
whole_cell p w choice = cell (choice_of choice) (piece? p w) (length w)

-- the ends' table and the working table, where no refusal but 2 and 7 is met: "The working table afterwards holds in its first n+1 places the best size of
-- each leading length 0 to n, 4,294,967,295 where none exists; the following 3×(n+1) places hold 0." Also after 2 and 7.
abbrev pub settled_ends : (List ℕ → Bool) → List ℕ → ℕ → List ℕ → List ℕ
settled_ends p w choice e = size_ends (whole_cell p w choice) (best_ends (choice_of choice) (piece? p w) (length w)) e

abbrev pub settled_work : (List ℕ → Bool) → List ℕ → ℕ → List ℕ → List ℕ
settled_work p w choice t =
    sizes (choice_of choice) (piece? p w) (length w) ++ (replicate (3 * (length w + 1)) 0 ++ drop (rows * (length w + 1)) t)

-- "8: a choice other than 1 or 2. 9: a working table under 4×(n+1) places." One of these is met, or the rest decides; n is the word's length.
abbrev pub tested : {A : Type 0} → ℕ → ℕ → ℕ → A → A → A → A
tested n choice space bad short rest =
    cond (bad_choice? choice) bad (cond (ltb space (rows * (n + 1))) short rest)

-- e and t are the lent tables for the ends and for the work
unfoldable pub chosen_outcome : (List ℕ → Bool) → List ℕ → ℕ → List ℕ → List ℕ → Outcome
chosen_outcome p w choice e t =
    tested (length w) choice (length t) (refusal BadChoice) (refusal ShortTable) (size_outcome (whole_cell p w choice) (length e))

unfoldable pub chosen_ends : (List ℕ → Bool) → List ℕ → ℕ → List ℕ → List ℕ → List ℕ
chosen_ends p w choice e t = tested (length w) choice (length t) e e (settled_ends p w choice e)

unfoldable pub chosen_work : (List ℕ → Bool) → List ℕ → ℕ → List ℕ → List ℕ
chosen_work p w choice t = tested (length w) choice (length t) t t (settled_work p w choice t)

-- ---- demand 3

-- a word has no split into pieces with the property
abbrev pub Unfactorizable : (List ℕ → Type 0) → List ℕ → Type 0
Unfactorizable P w = (es : List ℕ) → Factorization (Piece P w) (length w) es → ⊥

-- what is reported of a prefix, taken as a word of its own: "none exactly when it has no split. Otherwise the fewest we report is the size of one of its
-- splits, and every split of it has at least as many blocks; the most we report is the size of one too, and every split of it has at most as many."
pub data Reported (P : List ℕ → Type 0) (c : Choice) (u : List ℕ) (v : ℕ) : Type 0 where
  unsplittable : v ≡ none → Unfactorizable P u → Reported P c u v
  best :
      (es : List ℕ) → Factorization (Piece P u) (length u) es → size es ≡ v → v < none
      → ((fs : List ℕ) → Factorization (Piece P u) (length u) fs → AsGood c v (size fs)) → Reported P c u v

-- what is answered of the whole; e and x are the ends' table at entry and at exit, v what is reported of the whole
pub data Answered (P : List ℕ → Type 0) (c : Choice) (w : List ℕ) (e : List ℕ) (v : ℕ) (o : Outcome) (x : List ℕ) : Type 0 where
  no_split : Unfactorizable P w → o ≡ refused 2 0 → x ≡ e → Answered P c w e v o x
  too_few : (es : List ℕ) → Best c (Piece P w) (length w) v es → length e < v → o ≡ refused 7 0 → x ≡ e → Answered P c w e v o x
  written : (es : List ℕ) → Best c (Piece P w) (length w) v es → v ≤ length e → o ≡ accepted (v ∷ []) → x ≡ es ++ drop v e → Answered P c w e v o x

-- t and y are the working table at entry and at exit
pub record Settled (P : List ℕ → Type 0) (w : List ℕ) (choice : ℕ) (e t : List ℕ) (o : Outcome) (x y : List ℕ) : Type 0 where
  pub prefixes : (m : ℕ) → m ≤ length w → Reported P (choice_of choice) (take m w) (get_or y m 0)
  pub cleared : (i : ℕ) → length w < i → i < rows * (length w + 1) → get_or y i 0 ≡ 0
  pub kept : drop (rows * (length w + 1)) y ≡ drop (rows * (length w + 1)) t
  pub long : length y ≡ length t
  pub answered : Answered P (choice_of choice) w e (get_or y (length w) 0) o x

-- what a best split means where the word is within the limit: "8, 9", and then the answer, 2 or 7 with both tables
pub data Chosen (P : List ℕ → Type 0) (w : List ℕ) (choice : ℕ) (e t : List ℕ) (o : Outcome) (x y : List ℕ) : Type 0 where
  bad_choice : ((choice ≡ 1) ⊎ (choice ≡ 2) → ⊥) → o ≡ refused 8 0 → x ≡ e → y ≡ t → Chosen P w choice e t o x y
  short_table : (choice ≡ 1) ⊎ (choice ≡ 2) → length t < rows * (length w + 1) → o ≡ refused 9 0 → x ≡ e → y ≡ t → Chosen P w choice e t o x y
  settled : (choice ≡ 1) ⊎ (choice ≡ 2) → rows * (length w + 1) ≤ length t → Settled P w choice e t o x y → Chosen P w choice e t o x y
