-- The record with a number is the entry of that number, and there is none exactly where there is no such entry. By induction on the list. Assumes nothing.
use mathlib.Core.Path.{◌≡◌, refl, sym, ap, ◌∙◌}
use mathlib.Core.Logic.{◌↔◌}
use mathlib.Core.List.{List, [], ◌∷◌, nil≢cons}
use Prim.Native.Nat.{ℕ, zero, suc}
use Rattle.runs.specs.declared.Record.{Record}
use Rattle.runs.specs.Run.{Entry}
use Rattle.paths.specs.LookUp.{entry_of}

pub entry_first : (rows : List Record) (i : ℕ) (r : Record) (rest : List Record) → entry_of rows i ≡ r ∷ rest → Entry rows i r
unfolding entry_of
entry_first rows zero r rest e = absurd (nil≢cons e)
entry_first [] (suc i) r rest e = absurd (nil≢cons e)
entry_first (x ∷ xs) (suc zero) r rest e = cc
entry_first (x ∷ xs) (suc (suc i)) r rest e = entry_first xs (suc i) r rest e

entry_of_complete : (rows : List Record) (i : ℕ) (r : Record) → Entry rows i r → entry_of rows i ≡ r ∷ []
unfolding entry_of
entry_of_complete rows zero r h = absurd h
entry_of_complete [] (suc i) r h = absurd h
entry_of_complete (x ∷ xs) (suc zero) r h = ap (λ (y : Record). y ∷ []) h
entry_of_complete (x ∷ xs) (suc (suc i)) r h = entry_of_complete xs (suc i) r h

-- CLAIM: the record with a number is the entry with that number
pub entry_of_lem : (rows : List Record) (i : ℕ) (r : Record) → (entry_of rows i ≡ r ∷ []) ↔ Entry rows i r
entry_of_lem rows i r = (entry_first rows i r [], entry_of_complete rows i r)

no_entry : (rows : List Record) (i : ℕ) → ((r : Record) → Entry rows i r → ⊥) → entry_of rows i ≡ []
unfolding entry_of
no_entry rows zero h = refl
no_entry [] (suc i) h = refl
no_entry (x ∷ xs) (suc zero) h = absurd (h x refl)
no_entry (x ∷ xs) (suc (suc i)) h = no_entry xs (suc i) h

-- CLAIM: there is none exactly where no entry has the number
pub entry_of-none : (rows : List Record) (i : ℕ) → (entry_of rows i ≡ []) ↔ ((r : Record) → Entry rows i r → ⊥)
entry_of-none rows i = (λ e r h. nil≢cons (sym e ∙ entry_of_complete rows i r h), no_entry rows i)
