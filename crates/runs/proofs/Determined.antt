-- The meaning of the runs call leaves one answer and one table: what means what the documents say is what is computed. Two sorted lists of records with the same
-- entries are one, and a run has one root. By induction on both lists, then by the order of the tests. Assumes nothing.
use mathlib.Core.Path.{◌≡◌, refl, sym, ap, ◌∙◌, subst}
use mathlib.Core.Logic.{◌⊎◌, inl, inr}
use mathlib.Core.List.{List, [], ◌∷◌, ◌++◌}
use Prim.Native.Nat.{ℕ, zero, suc, ◌*◌, ◌≤◌, ◌<◌}
use native.Mathlib.Omega.{arith}
use lib.ListN.{length, drop}
use Rattle.answers.specs.Outcome.{Outcome, accepted}
use Rattle.runs.specs.declared.Record.{Record}
use Rattle.runs.specs.Run.{Entry, Before, Sorted, Lists}
use Rattle.runs.specs.Table.{runs_of, stride, flat}
use Rattle.runs.specs.Calls.{runs_outcome, runs_table, RunsMeaning}
use Rattle.runs.proofs.Entries.{no_entry, not_before}
use Rattle.runs.proofs.RootClaims.{root_unique}
use Rattle.runs.proofs.Listed.{runs_listed}
use Rattle.runs.proofs.CallClaims.{runs_too_long, runs_short, runs_all}
use Rattle.runs.specs.Calls as calls

-- ---- sorted lists of records

before_asymmetric : (r s : Record) → Before r s → Before s r → ⊥
before_asymmetric r s (inl h) (inl k) = omega arith
before_asymmetric r s (inl h) (inr k) = omega arith
before_asymmetric r s (inr h) (inl k) = omega arith
before_asymmetric r s (inr h) (inr k) = omega arith

-- an entry is the head or an entry of the tail
entry_head_or_tail : (x : Record) (xs : List Record) (i : ℕ) (r : Record) → Entry (x ∷ xs) i r → (x ≡ r) ⊎ ((j : ℕ) × Entry xs j r)
entry_head_or_tail x xs zero r h = absurd h
entry_head_or_tail x xs (suc zero) r h = inl h
entry_head_or_tail x xs (suc (suc i)) r h = inr (suc i, h)

entry_tail : (x : Record) (xs : List Record) (i : ℕ) (r : Record) → Entry xs i r → Entry (x ∷ xs) (suc i) r
entry_tail x xs zero r h = absurd h
entry_tail x xs (suc i) r h = h

-- each entry of the first list stands in the second
abbrev Among : List Record → List Record → Type 0
Among xs ys = (i : ℕ) (r : Record) → Entry xs i r → (j : ℕ) × Entry ys j r

heads_same : (x y : Record) (xs ys : List Record) → Sorted (x ∷ xs) → Sorted (y ∷ ys) → Among (x ∷ xs) (y ∷ ys) → Among (y ∷ ys) (x ∷ xs) → x ≡ y
heads_same x y xs ys S U h k = go (entry_head_or_tail y ys (h 1 x refl).0 x (h 1 x refl).1) (entry_head_or_tail x xs (k 1 y refl).0 y (k 1 y refl).1)
  where
    go : (y ≡ x) ⊎ ((j : ℕ) × Entry ys j x) → (x ≡ y) ⊎ ((j : ℕ) × Entry xs j y) → x ≡ y
    go (inl e) b = sym e
    go (inr a) (inl e) = e
    go (inr a) (inr b) = absurd (before_asymmetric x y (S.0 b.0 y b.1) (U.0 a.0 x a.1))

tail_among : (x y : Record) (xs ys : List Record) → x ≡ y → Sorted (x ∷ xs) → Among (x ∷ xs) (y ∷ ys) → Among xs ys
tail_among x y xs ys e S h i r a =
    let k = h (suc i) r (entry_tail x xs i r a) in
    go (entry_head_or_tail y ys k.0 r k.1)
  where
    go : (y ≡ r) ⊎ ((j : ℕ) × Entry ys j r) → (j : ℕ) × Entry ys j r
    go (inl f) = absurd (not_before r r refl refl (subst (λ (z : Record). Before z r) (e ∙ f) (S.0 i r a)))
    go (inr b) = b

-- two sorted lists with the same entries are one
pub sorted_unique : (xs ys : List Record) → Sorted xs → Sorted ys → Among xs ys → Among ys xs → xs ≡ ys
sorted_unique [] [] S U h k = refl
sorted_unique [] (y ∷ ys) S U h k = absurd (no_entry (k 1 y refl).0 y (k 1 y refl).1)
sorted_unique (x ∷ xs) [] S U h k = absurd (no_entry (h 1 x refl).0 x (h 1 x refl).1)
sorted_unique (x ∷ xs) (y ∷ ys) S U h k =
    let e = heads_same x y xs ys S U h k in
    let f = sorted_unique xs ys S.1 U.1 (tail_among x y xs ys e S h) (tail_among y x ys xs (sym e) U k) in
    ap (λ (z : Record). z ∷ xs) e ∙ ap (λ (zs : List Record). y ∷ zs) f

-- CLAIM: the runs of a word are listed in one way
pub lists_unique : (w : List ℕ) (rows others : List Record) → Lists w rows → Lists w others → rows ≡ others
lists_unique w rows others L M = sorted_unique rows others L.sorted M.sorted (among rows others L M) (among others rows M L)
  where
    among : (xs ys : List Record) → Lists w xs → Lists w ys → Among xs ys
    among xs ys X Y i r h =
        let R = X.sound i r h in
        let k = Y.complete r.first r.last r.period R in
        let e = root_unique w r.first r.last r.period R k.1 r.root (Y.rooted k.0 _ k.2) (X.rooted i r h) in
        (k.0, subst (λ (q : ℕ). Entry ys k.0 record { first = r.first; last = r.last; period = r.period; root = q }) e k.2)

-- ---- the calls

-- CLAIM: the runs call's answer and table are the only ones that mean what the documents say
pub runs_determined : (w t : List ℕ) (o : Outcome) (u : List ℕ) → RunsMeaning w t o u → (o ≡ runs_outcome w (length t)) × (u ≡ runs_table w t)
runs_determined w t o u (calls.RunsMeaning.too_long h e f) = let g = runs_too_long w t h in (e ∙ g.0, f ∙ g.1)
runs_determined w t o u (calls.RunsMeaning.too_few h rows L k e f) =
    let q = lists_unique w rows (runs_of w) L (runs_listed w) in
    let g = runs_short w t h (subst (λ (rs : List Record). length t < stride * length rs) q k) in
    (e ∙ g.0, f ∙ g.1)
runs_determined w t o u (calls.RunsMeaning.listed h rows L k e f) =
    let q = lists_unique w rows (runs_of w) L (runs_listed w) in
    let g = runs_all w t h (subst (λ (rs : List Record). stride * length rs ≤ length t) q k) in (
      e ∙ ap (λ (rs : List Record). accepted (length rs ∷ [])) q ∙ g.0,
      f ∙ ap (λ (rs : List Record). flat rs ++ drop (stride * length rs) t) q ∙ g.1,
    )
