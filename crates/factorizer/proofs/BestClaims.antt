-- The best split into pieces with a property that a test decides says all of demand 3, for every word within the limit, choice and tables: `chosen_means`. A filled
-- table says for each prefix length whether it has a factorization, and if so the best size (factors/proofs/Optimal.antt); the previous boundaries lead back over
-- the ends that win the tie; and the factorizations of a prefix in place are those that it has as a word of its own. Where there are at most half as many pieces
-- as symbols, so many places for the ends suffice (`chosen_suffice`). Assumes nothing.
use mathlib.Core.Path.{◌≡◌, refl, sym, ap, ◌∙◌, subst}
use mathlib.Core.Logic.{◌≢◌}
use mathlib.Core.Bool.{Bool}
use mathlib.Core.List.{List, [], ◌∷◌, ◌++◌}
use Prim.Native.Nat.{ℕ, suc, ◌+◌, ◌-◌, ◌*◌, ◌/◌, ◌≤◌, ◌<◌}
use native.Mathlib.Omega.{arith}
use native.Mathlib.Decide.{dec_lt}
use borrow.Author.Tests.{lt-ltb, le-ltb}
use lib.ListN.{length, get_or, take, drop, replicate, length-append, length-take, length-drop, length-replicate, get_or-replicate, get_or-append}
use lib.Seq.{drop_at, get_or-append-add, drop-append-add}
use Rattle.laws.proofs.OneOrTwo.{OneOrTwo, one_or_two?, test_of_one_or_two, test_of_other}
use Rattle.answers.specs.Outcome.{Outcome, refused}
use Rattle.answers.proofs.Claims.{refused_accepted, refused_number}
use Rattle.factors.specs.Factorization.{Factorization, size, Choice, choice_of, Cell, unreachable, reached, cell, best_ends}
use Rattle.factors.specs.Table.{none, rows, size_in, sizes}
use Rattle.factors.proofs.Optimal.{Answers, best_factorization, size_bound}
use Rattle.factors.proofs.TableLaws.{length-sizes, sizes_at}
use Rattle.factorizer.specs.Piece.{Piece, piece?, Decides}
use Rattle.factorizer.specs.Best.{size_outcome, size_ends, whole_cell, settled_ends, settled_work, tested, chosen_outcome, chosen_ends, chosen_work, Reported, unsplittable, best, Answered, no_split, too_few, written, Settled, Chosen, bad_choice, short_table, settled}
use Rattle.factorizer.proofs.Pieces.{piece_sound, piece_complete, piece_test_up, prefix_factorizations}

-- ---- demand 3

module _ (P : List ℕ → Type 0) (p : List ℕ → Bool) (D : Decides P p) (c : Choice) (w : List ℕ) where
  -- CLAIM: the theorem of factors, for pieces with any property that a test decides
  pub piece_answers : (m : ℕ) → Answers c (Piece P w) m (cell c (piece? p w) m) (best_ends c (piece? p w) m)
  piece_answers m = best_factorization c (piece? p w) (Piece P w) (piece_sound P p D w) (piece_complete P p D w) (piece_test_up P p D w) m

  -- what is reported of each prefix, as a word of its own
  pub prefix_reported : (m : ℕ) → m ≤ length w → length w < none → Reported P c (take m w) (size_in (cell c (piece? p w) m))
  prefix_reported m h small = go (cell c (piece? p w) m) refl (piece_answers m)
    where
      long : length (take m w) ≡ m
      long = length-take m w ∙ omega arith

      own : (es : List ℕ) → Factorization (Piece P (take m w)) (length (take m w)) es → Factorization (Piece P w) m es
      own es f = (prefix_factorizations P p D w m es h).0 (subst (λ (x : ℕ). Factorization (Piece P (take m w)) x es) long f)

      go : (v : Cell) → cell c (piece? p w) m ≡ v → Answers c (Piece P w) m v (best_ends c (piece? p w) m) → Reported P c (take m w) (size_in v)
      go unreachable e A = unsplittable refl (λ es f. A es (own es f))
      go (reached s q) e A =
          best (best_ends c (piece? p w) m)
          (subst (λ (x : ℕ). Factorization (Piece P (take m w)) x (best_ends c (piece? p w) m)) (sym long)
          ((prefix_factorizations P p D w m (best_ends c (piece? p w) m) h).1 A.factorization))
          A.sized
          (omega (arith, size_bound c (piece? p w) m s q e))
          (λ fs f. A.best fs (own fs f))

  -- what is answered of the whole
  pub piece_answered : (e : List ℕ)
      → Answered P c w e (size_in (cell c (piece? p w) (length w))) (size_outcome (cell c (piece? p w) (length w)) (length e))
      (size_ends (cell c (piece? p w) (length w)) (best_ends c (piece? p w) (length w)) e)
  piece_answered e = go (cell c (piece? p w) (length w)) (piece_answers (length w))
    where
      es : List ℕ
      es = best_ends c (piece? p w) (length w)

      go : (v : Cell) → Answers c (Piece P w) (length w) v es → Answered P c w e (size_in v) (size_outcome v (length e)) (size_ends v es e)
      go unreachable A = no_split A refl refl
      go (reached s q) A = by (dec_lt (length e) s)
        where
          by : Dec (length e < s) → Answered P c w e s (size_outcome (reached s q) (length e)) (size_ends (reached s q) es e)
          by (yes x) = too_few es A x (rw (lt-ltb (length e) s x) refl) (rw (lt-ltb (length e) s x) refl)
          by (no x) = written es A (omega arith) (rw (le-ltb (length e) s (omega arith)) refl) (rw (le-ltb (length e) s (omega arith)) refl)

-- ---- by the tests

module _ (n choice space : ℕ) where
  tested_bad_choice : {A : Type 0} (b d r : A) → (OneOrTwo choice → ⊥) → tested n choice space b d r ≡ b
  tested_bad_choice b d r x = simp (test_of_other choice x)

  tested_short : {A : Type 0} (b d r : A) → OneOrTwo choice → space < rows * (n + 1) → tested n choice space b d r ≡ d
  tested_short b d r x z = simp (test_of_one_or_two choice x, lt-ltb space (rows * (n + 1)) z)

  tested_fine : {A : Type 0} (b d r : A) → OneOrTwo choice → rows * (n + 1) ≤ space → tested n choice space b d r ≡ r
  tested_fine b d r x z = simp (test_of_one_or_two choice x, le-ltb space (rows * (n + 1)) z)

module _ (p : List ℕ → Bool) (w : List ℕ) (choice : ℕ) (e t : List ℕ) where
  -- the three promises: the answer, the ends and the work
  pub record ChosenGiven (o : Outcome) (x y : List ℕ) : Type 0 where
    pub answer : o ≡ chosen_outcome p w choice e t
    pub ends : x ≡ chosen_ends p w choice e t
    pub work : y ≡ chosen_work p w choice t

  -- as a call ensures them
  abbrev pub Ensured : Outcome → List ℕ → List ℕ → Type 0
  Ensured o x y = (o ≡ chosen_outcome p w choice e t) × ((x ≡ chosen_ends p w choice e t) × (y ≡ chosen_work p w choice t))

  pub chosen_ensured : (o : Outcome) (x y : List ℕ) → ChosenGiven o x y → Ensured o x y
  chosen_ensured o x y G = (G.answer, (G.ends, G.work))

  pub chosen_given : (o : Outcome) (x y : List ℕ) → Ensured o x y → ChosenGiven o x y
  chosen_given o x y E = record { answer = E.0; ends = E.1.0; work = E.1.1 }

  pub chosen_bad_choice : (OneOrTwo choice → ⊥) → ChosenGiven (refused 8 0) e t
  unfolding chosen_outcome chosen_ends chosen_work
  chosen_bad_choice x = record {
    answer = sym (tested_bad_choice (length w) choice (length t) _ _ _ x);
    ends = sym (tested_bad_choice (length w) choice (length t) _ _ _ x);
    work = sym (tested_bad_choice (length w) choice (length t) _ _ _ x);
  }

  pub chosen_short : OneOrTwo choice → length t < rows * (length w + 1) → ChosenGiven (refused 9 0) e t
  unfolding chosen_outcome chosen_ends chosen_work
  chosen_short x k = record {
    answer = sym (tested_short (length w) choice (length t) _ _ _ x k);
    ends = sym (tested_short (length w) choice (length t) _ _ _ x k);
    work = sym (tested_short (length w) choice (length t) _ _ _ x k);
  }

  pub chosen_settled : OneOrTwo choice → rows * (length w + 1) ≤ length t → ChosenGiven (size_outcome (whole_cell p w choice) (length e)) (settled_ends p w choice e) (settled_work p w choice t)
  unfolding chosen_outcome chosen_ends chosen_work
  chosen_settled x k = record {
    answer = sym (tested_fine (length w) choice (length t) _ _ _ x k);
    ends = sym (tested_fine (length w) choice (length t) _ _ _ x k);
    work = sym (tested_fine (length w) choice (length t) _ _ _ x k);
  }

  -- the same of an answer and tables that are so
  pub settled_ensured : OneOrTwo choice → rows * (length w + 1) ≤ length t → (o : Outcome) (x y : List ℕ)
      → (o ≡ size_outcome (whole_cell p w choice) (length e)) × ((x ≡ settled_ends p w choice e) × (y ≡ settled_work p w choice t)) → Ensured o x y
  settled_ensured i k o x y E = let G = chosen_settled i k in (E.0 ∙ G.answer, (E.1.0 ∙ G.ends, E.1.1 ∙ G.work))

module _ (P : List ℕ → Type 0) (p : List ℕ → Bool) (D : Decides P p) (w : List ℕ) (choice : ℕ) (e t : List ℕ) where
  -- the tables after an answer, 2 and 7
  pub settled_table : rows * (length w + 1) ≤ length t → length w < none → Settled P w choice e t (size_outcome (whole_cell p w choice) (length e)) (settled_ends p w choice e) (settled_work p w choice t)
  settled_table room small = record {
    prefixes = λ m h. subst (λ (v : ℕ). Reported P c (take m w) v) (sym (at m h)) (prefix_reported P p D c w m h small);
    cleared = cleared;
    kept = kept;
    long = long;
    answered = subst (λ (v : ℕ). Answered P c w e v (size_outcome (whole_cell p w choice) (length e)) (settled_ends p w choice e)) (sym (at (length w) (omega arith))) (piece_answered P p D c w e);
  }
    where
      c : Choice
      c = choice_of choice

      S : List ℕ
      S = sizes (choice_of choice) (piece? p w) (length w)

      Z : List ℕ
      Z = replicate (3 * (length w + 1)) 0

      R : List ℕ
      R = drop (rows * (length w + 1)) t

      first : length S ≡ suc (length w)
      first = length-sizes c (piece? p w) (length w)

      zero_long : length Z ≡ 3 * (length w + 1)
      zero_long = length-replicate {A = ℕ} (3 * (length w + 1)) 0

      at : (m : ℕ) → m ≤ length w → get_or (S ++ (Z ++ R)) m 0 ≡ size_in (cell c (piece? p w) m)
      at m h = get_or-append S (Z ++ R) 0 m (omega (arith, first)) ∙ sizes_at c (piece? p w) (length w) m h

      cleared : (i : ℕ) → length w < i → i < rows * (length w + 1) → get_or (S ++ (Z ++ R)) i 0 ≡ 0
      cleared i h k =
          let f : i ≡ length S + (i - suc (length w)) = omega (arith, first) in
          ap (λ (x : ℕ). get_or (S ++ (Z ++ R)) x 0) f
          ∙ get_or-append-add S (Z ++ R) (i - suc (length w)) 0
          ∙ get_or-append Z R 0 (i - suc (length w)) (omega (arith, zero_long))
          ∙ get_or-replicate (3 * (length w + 1)) (i - suc (length w)) 0 0 (omega arith)

      kept : drop (rows * (length w + 1)) (S ++ (Z ++ R)) ≡ R
      kept =
          let f : rows * (length w + 1) ≡ length S + 3 * (length w + 1) = omega (arith, first) in
          ap (λ (x : ℕ). drop x (S ++ (Z ++ R))) f ∙ drop-append-add S (Z ++ R) (3 * (length w + 1)) ∙ drop_at Z R (3 * (length w + 1)) zero_long

      long : length (S ++ (Z ++ R)) ≡ length t
      long = omega (arith, length-append S (Z ++ R), first, length-append Z R, zero_long, length-drop (rows * (length w + 1)) t)

  -- CLAIM: the best split into such pieces says all of demand 3
  pub chosen_means : length w < none → Chosen P w choice e t (chosen_outcome p w choice e t) (chosen_ends p w choice e t) (chosen_work p w choice t)
  chosen_means small = go (one_or_two? choice) (dec_lt (length t) (rows * (length w + 1)))
    where
      by : {o : Outcome} {x y : List ℕ} → ChosenGiven p w choice e t o x y → Chosen P w choice e t o x y
          → Chosen P w choice e t (chosen_outcome p w choice e t) (chosen_ends p w choice e t) (chosen_work p w choice t)
      by G M = rw (← G.answer, ← G.ends, ← G.work) M

      go : Dec (OneOrTwo choice) → Dec (length t < rows * (length w + 1)) → Chosen P w choice e t (chosen_outcome p w choice e t) (chosen_ends p w choice e t) (chosen_work p w choice t)
      go (no x) d = by (chosen_bad_choice p w choice e t x) (bad_choice x refl refl refl)
      go (yes x) (yes d) = by (chosen_short p w choice e t x d) (short_table x d refl refl refl)
      go (yes x) (no d) = by (chosen_settled p w choice e t x (omega arith)) (settled x (omega arith) (settled_table (omega arith) small))

-- CLAIM: where no split of the word has more pieces than half its symbols, so many places for the ends suffice: no answer that means what the documents say is 7
module _ (P : List ℕ → Type 0) (w : List ℕ) (choice : ℕ) (e t : List ℕ) (half : (es : List ℕ) → Factorization (Piece P w) (length w) es → size es ≤ length w / 2)
    (room : length w / 2 ≤ length e) where
  answered_suffice : (v : ℕ) (o : Outcome) (x : List ℕ) → Answered P (choice_of choice) w e v o x → (i : ℕ) → o ≢ refused 7 i
  answered_suffice v o x (no_split n f g) i y = omega (arith, refused_number o 2 7 0 i f y)
  answered_suffice v o x (too_few es B l f g) i y = omega (arith, half es B.factorization, B.sized)
  answered_suffice v o x (written es B l f g) i y = refused_accepted o 7 i (v ∷ []) y f

  pub chosen_suffice : (o : Outcome) (x y : List ℕ) → Chosen P w choice e t o x y → (i : ℕ) → o ≢ refused 7 i
  chosen_suffice o x y (bad_choice n f g h) i z = omega (arith, refused_number o 8 7 0 i f z)
  chosen_suffice o x y (short_table c l f g h) i z = omega (arith, refused_number o 9 7 0 i f z)
  chosen_suffice o x y (settled c l S) i z = answered_suffice (get_or y (length w) 0) o x S.answered i z
