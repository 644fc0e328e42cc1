-- The blocks of a chain taken one after the other, as a loop over the ends takes them: the next block, its number in a list of one number a block, and its text
-- in a text of one piece a block. By induction on the ends. Assumes nothing.
use mathlib.Core.Path.{◌≡◌, refl, sym, ap, ◌∙◌, subst}
use mathlib.Core.List.{List, [], ◌∷◌, ◌++◌, head-eq_of_cons-eq, tail-eq_of_cons-eq}
use Prim.Native.Nat.{ℕ, suc, ◌+◌, ◌≤◌, ◌<◌}
use native.Mathlib.Omega.{arith}
use native.Mathlib.Numerals.{add-one}
use lib.ListN.{length, get_or, drop, drop_of_length-le, get_or-append}
use lib.Seq.{drop-cons}
use Rattle.factors.specs.Factorization.{Chain, of_blocks, text_of_blocks}

pub of_blocks-length : (number : ℕ → ℕ → ℕ) (i : ℕ) (es : List ℕ) → length (of_blocks number i es) ≡ length es
unfolding of_blocks
of_blocks-length number i [] = refl
of_blocks-length number i (e ∷ es) = ap suc (of_blocks-length number e es)

-- k blocks are taken, up to boundary i: the others join up to m, and what is left of any list of one number a block is theirs
pub record Taken (B : ℕ → ℕ → Type 0) (es : List ℕ) (m k i : ℕ) : Type 0 where
  pub within : k ≤ length es
  pub chain : Chain B i (drop k es) m
  pub left : (number : ℕ → ℕ → ℕ) → drop k (of_blocks number 0 es) ≡ of_blocks number i (drop k es)

pub none_taken : {B : ℕ → ℕ → Type 0} {es : List ℕ} {m : ℕ} → Chain B 0 es m → Taken B es m 0 0
none_taken h = record { within = omega arith; chain = h; left = λ number. refl }

module _ {B : ℕ → ℕ → Type 0} {es : List ℕ} {m k i : ℕ} (P : Taken B es m k i) (l : k < length es) where
  next : B i (get_or es k 0) × Chain B (get_or es k 0) (drop (suc k) es) m
  next = subst (λ (fs : List ℕ). Chain B i fs m) (drop-cons es k 0 l) P.chain

  pub next_block : B i (get_or es k 0)
  next_block = next.0

  numbers : (number : ℕ → ℕ → ℕ) → get_or (of_blocks number 0 es) k 0 ∷ drop (suc k) (of_blocks number 0 es) ≡ number i (get_or es k 0) ∷ of_blocks number (get_or es k 0) (drop (suc k) es)
  unfolding of_blocks
  numbers number =
      sym (drop-cons (of_blocks number 0 es) k 0 (omega (arith, of_blocks-length number 0 es)))
      ∙ P.left number
      ∙ ap (of_blocks number i) (drop-cons es k 0 l)

  pub next_number : (number : ℕ → ℕ → ℕ) → get_or (of_blocks number 0 es) k 0 ≡ number i (get_or es k 0)
  next_number number = head-eq_of_cons-eq (numbers number)

  -- the same at the front of a table
  pub next_in_table : (number : ℕ → ℕ → ℕ) (t rest : List ℕ) → t ≡ of_blocks number 0 es ++ rest → get_or t k 0 ≡ number i (get_or es k 0)
  next_in_table number t rest e =
      ap (λ (x : List ℕ). get_or x k 0) e
      ∙ get_or-append (of_blocks number 0 es) rest 0 k (omega (arith, of_blocks-length number 0 es))
      ∙ next_number number

  pub one_more_taken : Taken B es m (k + 1) (get_or es k 0)
  one_more_taken = record {
    within = omega arith;
    chain = rw (add-one k) next.1;
    left = λ number. rw (add-one k) (tail-eq_of_cons-eq (numbers number));
  }

-- the text of the ends that are left, from place k on
module _ (text : ℕ → ℕ → ℕ → List ℕ) (es : List ℕ) (k i : ℕ) where
  pub text_more : k < length es → text_of_blocks text k i (drop k es) ≡ text (k + 1) i (get_or es k 0) ++ text_of_blocks text (k + 1) (get_or es k 0) (drop (k + 1) es)
  unfolding text_of_blocks
  text_more h = ap (text_of_blocks text k i) (drop-cons es k 0 h) ∙ rw (add-one k) refl

  pub text_done : length es ≤ k → text_of_blocks text k i (drop k es) ≡ []
  unfolding text_of_blocks
  text_done h = rw (drop_of_length-le es {i = k} h) refl
