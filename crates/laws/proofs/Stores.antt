-- What a table holds after numbers are stored in it one after the other; a store past the end does nothing. By induction on the numbers. And tables that are
-- the same from a place on. Assumes nothing.
use mathlib.Core.Path.{◌≡◌, refl, sym, ap, ◌∙◌}
use mathlib.Core.Logic.{◌⊎◌, inl, inr}
use mathlib.Core.List.{List, [], ◌∷◌, ◌++◌}
use Prim.Native.Nat.{ℕ, zero, suc, ◌+◌, ◌-◌, ◌≤◌, ◌<◌}
use native.Mathlib.Omega.{arith}
use native.Mathlib.Nat.{add-zero, zero-add}
use lib.ListN.{length, get_or, set, drop, replicate, length-set, length-replicate}
use lib.Seq.{sets, sets-eq, set_out, get_or-drop, get_or-set_same, get_or-set_other}

pub sets-append : (t : List ℕ) (i : ℕ) (xs ys : List ℕ) → sets t i (xs ++ ys) ≡ sets (sets t i xs) (i + length xs) ys
sets-append t i [] ys = ap (λ (k : ℕ). sets t k ys) (sym (add-zero i))
sets-append t i (x ∷ xs) ys =
    let e : suc i + length xs ≡ i + suc (length xs) = omega arith in
    sets-append (set t i x) (suc i) xs ys ∙ ap (λ (k : ℕ). sets (sets (set t i x) (suc i) xs) k ys) e

-- a place that nothing is stored in
pub sets_out : (t : List ℕ) (i : ℕ) (vs : List ℕ) (k : ℕ) → (k < i) ⊎ (i + length vs ≤ k) → get_or (sets t i vs) k 0 ≡ get_or t k 0
sets_out t i [] k h = refl
sets_out t i (v ∷ vs) k (inl h) = sets_out (set t i v) (suc i) vs k (inl (omega arith)) ∙ get_or-set_other t i k v 0 (λ e. omega arith)
sets_out t i (v ∷ vs) k (inr h) = sets_out (set t i v) (suc i) vs k (inr (omega arith)) ∙ get_or-set_other t i k v 0 (λ e. omega arith)

-- and a place that has one of the numbers
pub sets_in : (t : List ℕ) (i : ℕ) (vs : List ℕ) (j : ℕ) → j < length vs → i + length vs ≤ length t → get_or (sets t i vs) (i + j) 0 ≡ get_or vs j 0
sets_in t i [] j l h = absurd (omega arith)
sets_in t i (v ∷ vs) zero l h =
    let e : i + 0 ≡ i = omega arith in
    rw e (sets_out (set t i v) (suc i) vs i (inl (omega arith)) ∙ get_or-set_same t i v 0 (omega arith))
sets_in t i (v ∷ vs) (suc j) l h =
    let e : i + suc j ≡ suc i + j = omega arith in
    rw e (sets_in (set t i v) (suc i) vs j (omega arith) (omega (arith, length-set t i v)))

-- past the end nothing is stored
pub sets_past : (t : List ℕ) (i : ℕ) (vs : List ℕ) → length t ≤ i → sets t i vs ≡ t
sets_past t i [] h = refl
sets_past t i (v ∷ vs) h = ap (λ (x : List ℕ). sets x (suc i) vs) (set_out t i v h) ∙ sets_past t (suc i) vs (omega arith)

-- nothing is stored in a table with no places
pub sets-none : (i : ℕ) (vs : List ℕ) → sets [] i vs ≡ []
sets-none i [] = refl
sets-none i (v ∷ vs) = sets-none (suc i) vs

-- where there is room, the numbers stand at the front and the rest stays
pub sets-front : (t vs : List ℕ) → length vs ≤ length t → sets t 0 vs ≡ vs ++ drop (length vs) t
sets-front t vs h = sets-eq vs t 0 (omega arith) ∙ ap (λ (k : ℕ). vs ++ drop k t) (zero-add (length vs))

-- what is stored in no places
pub stored_nowhere : (t e vs : List ℕ) (i : ℕ) → e ≡ sets [] i vs → e ++ t ≡ t
stored_nowhere t e vs i h = ap (λ (x : List ℕ). x ++ t) (h ∙ sets-none i vs)

-- numbers that are stored at the front of a table with room for them
pub stored_front : (t u v vs : List ℕ) (n : ℕ) → u ≡ t → v ≡ sets u 0 vs → n ≡ length vs → n ≤ length t → v ≡ vs ++ drop n t
stored_front t u v vs n e f g h = f ∙ rw e (sets-front t vs (omega arith)) ∙ ap (λ (k : ℕ). vs ++ drop k t) (sym g)

-- one more number, stored behind those that were stored
pub stored_next : (t u v : List ℕ) (at place x : ℕ) (vs ws : List ℕ) → u ≡ sets t at vs → place ≡ at + length vs → v ≡ set u place x → ws ≡ vs ++ (x ∷ []) → v ≡ sets t at ws
stored_next t u v at place x vs ws e f g h = g ∙ rw (e, f, h) (sym (sets-append t at vs (x ∷ [])))

-- tables that are the same from a place on hold the same at each place there
pub same_past : (k : ℕ) (y z : List ℕ) → drop k y ≡ drop k z → (i : ℕ) → k ≤ i → get_or y i 0 ≡ get_or z i 0
same_past k y z e i h =
    let q : k + (i - k) ≡ i = omega arith in
    ap (λ (j : ℕ). get_or y j 0) (sym q) ∙ sym (get_or-drop k y (i - k) 0) ∙ ap (λ (l : List ℕ). get_or l (i - k) 0) e ∙ get_or-drop k z (i - k) 0 ∙ ap (λ (j : ℕ). get_or z j 0) q

-- a table of n zeros that was lent is as long as it was
pub lent_long : (n : ℕ) (u : List ℕ) → length u ≡ length {A = ℕ} (replicate n 0) → length u ≡ n
lent_long n u e = e ∙ length-replicate {A = ℕ} n 0
