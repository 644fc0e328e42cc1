-- The working table and what it means. What start and offer leave at each place, and that the length stays; that a place which holds a cell holds the cell with
-- one more candidate after an offer (offered-cell); and that a row of previous boundaries that agrees with the cells leads back to boundary 0 and gives the
-- best ends (linked, ends_back_lem). By cases on the test of the offer, and by induction on the count of blocks. Assumes nothing.
use mathlib.Core.Path.{◌≡◌, refl, sym, ap, ◌∙◌, subst}
use mathlib.Core.Logic.{◌≢◌}
use mathlib.Core.Bool.{Bool, true, false, cond, ◌||◌}
use mathlib.Core.List.{List, [], ◌∷◌, ◌++◌, map, append_assoc}
use Prim.Native.Nat.{ℕ, zero, suc, ◌+◌, ◌-◌, ◌≤◌, ◌<◌}
use native.Mathlib.Omega.{arith}
use native.Mathlib.Numerals.{sub-one}
use lib.Dec.{T}
use lib.ListN.{length, get_or, set, take, drop, replicate, length-append, length-set, length-drop, length-replicate, get_or-replicate, length-map, get_or-append, get_or-map}
use lib.Seq.{get_or-set_same, get_or-set_other, get_or-append-add, get_or-take, get_or-drop, drop-cons, drop-set-lt, drop-append-add, drop-drop, ext_get_or}
use borrow.Author.Tests.{ne_eqb}
use borrow.Rule.Slice.PartMut.{put_mid}
use Rattle.factors.specs.Factorization.{Choice, better, Cell, unreachable, reached, offer, cells, cell, follow, ends_from, best_ends}
use Rattle.factors.specs.Table.{none, size_in, previous_in, Holds, sizes, previous, started, taken, offered, ends_back, Linked}
use Rattle.factors.specs.Verdict.{end_of}
use Rattle.factors.proofs.Chains.{length_snoc}
use Rattle.factors.proofs.Optimal.{reached_same, reached_suc, reached_zero, best_ends_lem, length-cells, cells_at}

-- ---- row 0 before any offer

module _ (n : ℕ) (t : List ℕ) where
  pub length-started : n < length t → length (started n t) ≡ length t
  unfolding started
  length-started h =
      omega (arith, length-append (replicate n none) (drop (suc n) t), length-replicate n none, length-drop (suc n) t)

  pub started-zero : get_or (started n t) 0 0 ≡ 0
  unfolding started
  started-zero = refl

  pub started_within : (k : ℕ) → 1 ≤ k → k ≤ n → get_or (started n t) k 0 ≡ none
  unfolding started
  started_within zero a b = absurd (omega arith)
  started_within (suc k) a b =
      get_or-append (replicate n none) (drop (suc n) t) 0 k (omega (arith, length-replicate n none)) ∙ get_or-replicate n k none 0 (omega arith)

  pub started_past : (k : ℕ) → n < k → get_or (started n t) k 0 ≡ get_or t k 0
  unfolding started
  started_past zero a = absurd (omega arith)
  started_past (suc k) a =
      let e : k ≡ length (replicate n none) + (k - n) = omega (arith, length-replicate n none) in
      ap (λ (i : ℕ). get_or (replicate n none ++ drop (suc n) t) i 0) e
      ∙ get_or-append-add (replicate n none) (drop (suc n) t) (k - n) 0
      ∙ get_or-drop (suc n) t (k - n) 0
      ∙ ap (λ (i : ℕ). get_or t i 0) (omega arith)

  pub started-drop : (k : ℕ) → n < k → drop k (started n t) ≡ drop k t
  unfolding started
  started-drop zero a = absurd (omega arith)
  started-drop (suc k) a =
      let e : k ≡ length (replicate n none) + (k - n) = omega (arith, length-replicate n none) in
      let f : suc n + (k - n) ≡ suc k = omega arith in
      ap (λ (i : ℕ). drop i (replicate n none ++ drop (suc n) t)) e
      ∙ drop-append-add (replicate n none) (drop (suc n) t) (k - n)
      ∙ drop-drop (k - n) (suc n) t
      ∙ ap (λ (i : ℕ). drop i t) f

-- row 0 as it is filled: the first place is set, and the next n are written over
pub started_put : (n : ℕ) (t new : List ℕ) → n < length t → new ≡ replicate n none → put_mid 1 n (set t 0 0) new ≡ started n t
unfolding started
started_put n [] new h e = absurd (omega arith)
started_put n (x ∷ t) new h e = rw e

-- ---- an offer

module _ (c : Choice) (at back s j : ℕ) (t : List ℕ) where
  pub offered_takes : taken c s (get_or t at 0) ≡ true → offered c at back s j t ≡ set (set t at s) back j
  unfolding offered
  offered_takes e = ap (λ (u : Bool). cond u (set (set t at s) back j) t) e

  pub offered_keeps : taken c s (get_or t at 0) ≡ false → offered c at back s j t ≡ t
  unfolding offered
  offered_keeps e = ap (λ (u : Bool). cond u (set (set t at s) back j) t) e

  pub length-offered : length (offered c at back s j t) ≡ length t
  unfolding offered
  length-offered = go (taken c s (get_or t at 0))
    where
      go : (u : Bool) → length (cond u (set (set t at s) back j) t) ≡ length t
      go true = length-set (set t at s) back j ∙ length-set t at s
      go false = refl

  pub offered_at : at ≢ back → at < length t → get_or (offered c at back s j t) at 0 ≡ cond (taken c s (get_or t at 0)) s (get_or t at 0)
  unfolding offered
  offered_at n h = go (taken c s (get_or t at 0))
    where
      go : (u : Bool) → get_or (cond u (set (set t at s) back j) t) at 0 ≡ cond u s (get_or t at 0)
      go true = get_or-set_other (set t at s) back at j 0 n ∙ get_or-set_same t at s 0 h
      go false = refl

  pub offered_back : back < length t → get_or (offered c at back s j t) back 0 ≡ cond (taken c s (get_or t at 0)) j (get_or t back 0)
  unfolding offered
  offered_back h = go (taken c s (get_or t at 0))
    where
      go : (u : Bool) → get_or (cond u (set (set t at s) back j) t) back 0 ≡ cond u j (get_or t back 0)
      go true = get_or-set_same (set t at s) back j 0 (omega (arith, length-set t at s))
      go false = refl

  pub offered_other : (k : ℕ) → k ≢ at → k ≢ back → get_or (offered c at back s j t) k 0 ≡ get_or t k 0
  unfolding offered
  offered_other k x y = go (taken c s (get_or t at 0))
    where
      go : (u : Bool) → get_or (cond u (set (set t at s) back j) t) k 0 ≡ get_or t k 0
      go true = get_or-set_other (set t at s) back k j 0 y ∙ get_or-set_other t at k s 0 x
      go false = refl

-- ---- places that hold a cell

module _ (t : List ℕ) (at back : ℕ) where
  -- the size says whether the boundary is reached
  pub holds_none : (v : Cell) → Holds t at back v → get_or t at 0 ≡ none → v ≡ unreachable
  holds_none unreachable H e = refl
  holds_none (reached s p) H e = absurd (omega (arith, H.size, H.bound s p refl))

  pub holds_reached : (v : Cell) → Holds t at back v → get_or t at 0 ≢ none → (p : ℕ) × (v ≡ reached (get_or t at 0) p)
  holds_reached unreachable H n = absurd (n H.size)
  holds_reached (reached s p) H n = (p, ap (λ (x : ℕ). reached x p) (sym H.size))

  -- what stands at the two places is all that counts
  pub holds_same : (u : List ℕ) (v : Cell) → get_or u at 0 ≡ get_or t at 0 → get_or u back 0 ≡ get_or t back 0 → Holds t at back v → Holds u at back v
  holds_same u v x y H = record { size = x ∙ H.size; previous = y ∙ H.previous; bound = H.bound }

module _ (c : Choice) (at back s j : ℕ) (t : List ℕ) where
  -- an offer to a boundary whose places hold a cell
  pub offered-cell : (q : ℕ) (known : Cell) → at ≢ back → at < length t → back < length t → suc s < none → Holds t at back known
      → Holds (offered c at back (suc s) j t) at back (offer c j known true (reached s q))
  offered-cell q known n a b l H = by known H
    where
      put : Holds (set (set t at (suc s)) back j) at back (reached (suc s) j)
      put = record {
        size = get_or-set_other (set t at (suc s)) back at j 0 n ∙ get_or-set_same t at (suc s) 0 a;
        previous = get_or-set_same (set t at (suc s)) back j 0 (omega (arith, length-set t at (suc s)));
        bound = λ u p e. omega (arith, (reached_same (reached (suc s) j) (suc s) j u p refl e).0);
      }

      by : (known : Cell) → Holds t at back known → Holds (offered c at back (suc s) j t) at back (offer c j known true (reached s q))
      by unreachable H =
          subst (λ (u : List ℕ). Holds u at back (reached (suc s) j)) (sym (offered_takes c at back (suc s) j t (ap (taken c (suc s)) H.size))) put
      by (reached s₀ q₀) H = go (better c (suc s) s₀) refl
        where
          test : taken c (suc s) (get_or t at 0) ≡ better c (suc s) s₀
          test = ap (taken c (suc s)) H.size ∙ ap (λ (u : Bool). u || better c (suc s) s₀) (ne_eqb s₀ none (λ e. omega (arith, H.bound s₀ q₀ refl)))

          go : (u : Bool) → better c (suc s) s₀ ≡ u → Holds (offered c at back (suc s) j t) at back (cond u (reached (suc s) j) (reached s₀ q₀))
          go true e = subst (λ (u : List ℕ). Holds u at back (reached (suc s) j)) (sym (offered_takes c at back (suc s) j t (test ∙ e))) put
          go false e = subst (λ (u : List ℕ). Holds u at back (reached s₀ q₀)) (sym (offered_keeps c at back (suc s) j t (test ∙ e))) H

  -- the places of the other boundaries hold what they held
  pub offered_others : (at' back' : ℕ) (v : Cell) → at' ≢ at → at' ≢ back → back' ≢ at → back' ≢ back → Holds t at' back' v → Holds (offered c at back s j t) at' back' v
  offered_others at' back' v x y z w H =
      holds_same t at' back' (offered c at back s j t) v (offered_other c at back s j t at' x y) (offered_other c at back s j t back' z w) H

-- ---- the way back

-- the row of previous boundaries agrees with the cells up to m
abbrev pub Agrees : Choice → (ℕ → ℕ → Bool) → List ℕ → ℕ → Type 0
Agrees c b prev m = (k s p : ℕ) → k ≤ m → cell c b k ≡ reached (suc s) p → get_or prev k 0 ≡ p

module _ (c : Choice) (b : ℕ → ℕ → Bool) (prev : List ℕ) (m : ℕ) (inside : m < length prev) (agrees : Agrees c b prev m) where
  linked_from : (s k p : ℕ) → k ≤ m → cell c b k ≡ reached s p → Linked prev s k
  linked_from zero k p l e = reached_zero c b k p e
  linked_from (suc s) k p l e = go (reached_suc c b k s p e) (agrees k s p l e) (λ i q x y. linked_from s i q x y)
    where
      go : (0 < k) × (p < k) × T (b p k) × ((q : ℕ) × (cell c b p ≡ reached s q)) → get_or prev k 0 ≡ p → ((i q : ℕ) → i ≤ m → cell c b i ≡ reached s q → Linked prev s i) → Linked prev (suc s) k
      go P a ih = (P.0, omega arith, omega (arith, P.1), subst (Linked prev s) (sym a) (ih p P.3.0 (omega (arith, P.1)) P.3.1))

  ends_from_lem : (s k p d : ℕ) → k ≤ m → k < d → cell c b k ≡ reached s p → ends_back prev s k ≡ ends_from (cell c b) d k
  unfolding ends_back
  ends_from_lem s k p zero l h e = absurd (omega arith)
  ends_from_lem zero k p (suc d) l h e = sym (ap (λ (v : Cell). follow v k (λ p. ends_from (cell c b) d p)) e)
  ends_from_lem (suc s) k p (suc d) l h e = go (reached_suc c b k s p e) (agrees k s p l e) (λ i q x y z. ends_from_lem s i q d x y z)
    where
      go : (0 < k) × (p < k) × T (b p k) × ((q : ℕ) × (cell c b p ≡ reached s q)) → get_or prev k 0 ≡ p
          → ((i q : ℕ) → i ≤ m → i < d → cell c b i ≡ reached s q → ends_back prev s i ≡ ends_from (cell c b) d i) → ends_back prev s (get_or prev k 0) ++ k ∷ [] ≡ ends_from (cell c b) (suc d) k
      go P a ih =
          ap (λ (i : ℕ). ends_back prev s i ++ k ∷ []) a
          ∙ ap (λ (x : List ℕ). x ++ k ∷ []) (ih p P.3.0 (omega (arith, P.1)) (omega (arith, P.1)) P.3.1)
          ∙ sym (ap (λ (v : Cell). follow v k (λ p. ends_from (cell c b) d p)) e)

  -- it leads back from m to 0 in as many steps as there are blocks
  pub linked : (s p : ℕ) → cell c b m ≡ reached s p → Linked prev s m
  linked s p e = linked_from s m p (omega arith) e

  -- over the ends of the best factorization
  pub ends_back_lem : (s p : ℕ) → cell c b m ≡ reached s p → ends_back prev s m ≡ best_ends c b m
  ends_back_lem s p e = ends_from_lem s m p (suc m) (omega arith) (omega arith) e ∙ sym (best_ends_lem c b m)

-- a row of the table agrees where its places hold the cells
pub holds_agrees : (c : Choice) (b : ℕ → ℕ → Bool) (t : List ℕ) (row places m : ℕ) → m < places → ((k : ℕ) → k ≤ m → Holds t k (row + k) (cell c b k)) → Agrees c b (take places (drop row t)) m
holds_agrees c b t row places m h H k s p l e = get_or-take places (drop row t) k 0 (omega arith) ∙ get_or-drop row t k 0 ∙ (H k l).previous ∙ ap previous_in e

-- ---- the rows of a table whose places hold the cells

-- within a list the default is never read
get_d_within : (l : List ℕ) (i d e : ℕ) → i < length l → get_or l i d ≡ get_or l i e
get_d_within [] i d e h = absurd (omega arith)
get_d_within (x ∷ l) zero d e h = refl
get_d_within (x ∷ l) (suc i) d e h = get_d_within l i d e (omega arith)

module _ (c : Choice) (b : ℕ → ℕ → Bool) (n : ℕ) where
  row_at : (f : Cell → ℕ) (i : ℕ) → i ≤ n → get_or (map f (cells c b n)) i 0 ≡ f (cell c b i)
  row_at f i k =
      get_d_within (map f (cells c b n)) i 0 (f unreachable) (omega (arith, length-map (cells c b n) f, length-cells c b n))
      ∙ get_or-map f (cells c b n) i unreachable
      ∙ ap f (cells_at c b n i k)

  -- a row of n + 1 numbers is that of the cells if each of its places is
  row_is : (f : Cell → ℕ) (r : List ℕ) → length r ≡ suc n → ((k : ℕ) → k ≤ n → get_or r k 0 ≡ f (cell c b k)) → r ≡ map f (cells c b n)
  row_is f r l h =
      ext_get_or 0 r (map f (cells c b n)) (l ∙ sym (length-map (cells c b n) f ∙ length-cells c b n))
      (λ i k. h i (omega arith) ∙ sym (row_at f i (omega arith)))

  pub sizes_are : (r : List ℕ) → length r ≡ suc n → ((k : ℕ) → k ≤ n → get_or r k 0 ≡ size_in (cell c b k)) → r ≡ sizes c b n
  unfolding sizes
  sizes_are r l h = row_is size_in r l h

  pub previous_are : (r : List ℕ) → length r ≡ suc n → ((k : ℕ) → k ≤ n → get_or r k 0 ≡ previous_in (cell c b k)) → r ≡ previous c b n
  unfolding previous
  previous_are r l h = row_is previous_in r l h

  pub sizes_at : (k : ℕ) → k ≤ n → get_or (sizes c b n) k 0 ≡ size_in (cell c b k)
  unfolding sizes
  sizes_at k h = row_at size_in k h

  pub previous-agrees : Agrees c b (previous c b n) n
  unfolding previous
  previous-agrees k s p h e = row_at previous_in k h ∙ ap previous_in e

  pub length-sizes : length (sizes c b n) ≡ suc n
  unfolding sizes
  length-sizes = length-map (cells c b n) size_in ∙ length-cells c b n

  pub length-previous : length (previous c b n) ≡ suc n
  unfolding previous
  length-previous = length-map (cells c b n) previous_in ∙ length-cells c b n

-- ---- for the writer of the ends

pub linked_zero : (prev : List ℕ) (count : ℕ) → Linked prev count 0 → count ≡ 0
linked_zero prev zero h = refl
linked_zero prev (suc count) h = absurd (omega arith)

-- a boundary above 0, which has a block or more up to it, has a previous one
pub record Link (prev : List ℕ) (count j : ℕ) : Type 0 where
  pub some : 0 < count
  pub inside : j < length prev
  pub falls : get_or prev j 0 < j
  pub rest : Linked prev (count - 1) (get_or prev j 0)

pub linked_more : (prev : List ℕ) (count j : ℕ) → 0 < count → Linked prev count j → Link prev count j
linked_more prev zero j z h = absurd (omega arith)
linked_more prev (suc count) j z h = record { some = omega arith; inside = h.1; falls = h.2; rest = rw sub-one h.3 }

pub linked_step : (prev : List ℕ) (count j : ℕ) → (j ≡ 0 → ⊥) → Linked prev count j → Link prev count j
linked_step prev zero j n h = absurd (n h)
linked_step prev (suc count) j n h = linked_more prev (suc count) j (omega arith) h

pub length-ends_back : (prev : List ℕ) (count j : ℕ) → length (ends_back prev count j) ≡ count
unfolding ends_back
length-ends_back prev zero j = refl
length-ends_back prev (suc count) j = length_snoc (ends_back prev count (get_or prev j 0)) j ∙ ap suc (length-ends_back prev count (get_or prev j 0))

pub ends_back-zero : (prev : List ℕ) (j : ℕ) → ends_back prev 0 j ≡ []
unfolding ends_back
ends_back-zero prev j = refl

-- the last end stored, then the ends up to the previous boundary written before it
pub ends_back_more : (prev E : List ℕ) (count j : ℕ) → 0 < count → count ≤ length E
    → ends_back prev (count - 1) (get_or prev j 0) ++ drop (count - 1) (set E (count - 1) j) ≡ ends_back prev count j ++ drop count E
unfolding ends_back
ends_back_more prev E zero j h l = absurd (omega arith)
ends_back_more prev E (suc count) j h l =
    rw (sub-one, drop-cons (set E count j) count 0 (omega (arith, length-set E count j)), get_or-set_same E count j 0 (omega arith), drop-set-lt (suc count) E count j (omega arith), append_assoc)

-- ---- for the reader of the first end

-- at most one block: its end is the boundary itself
pub first_end_here : (prev : List ℕ) (count j : ℕ) → count ≤ 1 → Linked prev count j → j ≡ end_of (ends_back prev count j) 1
unfolding ends_back
first_end_here prev zero j h l = l
first_end_here prev (suc zero) j h l = refl
first_end_here prev (suc (suc count)) j h l = absurd (omega arith)

-- more than one: that of the blocks up to the previous boundary
pub first_end_back : (prev : List ℕ) (count j : ℕ) → 1 < count → end_of (ends_back prev (count - 1) (get_or prev j 0)) 1 ≡ end_of (ends_back prev count j) 1
unfolding ends_back
first_end_back prev zero j h = absurd (omega arith)
first_end_back prev (suc count) j h =
    rw sub-one
    (sym (get_or-append (ends_back prev count (get_or prev j 0)) (j ∷ []) 0 0 (omega (arith, length-ends_back prev count (get_or prev j 0)))))
