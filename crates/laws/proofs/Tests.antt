-- Laws of the Boolean tests that definitions are made of. By cases on the tests. Assumes nothing.
use mathlib.Core.Path.{◌≡◌, refl, subst}
use mathlib.Core.Logic.{◌⊎◌, inl, inr}
use mathlib.Core.Bool.{Bool, true, false, ◌&&◌, ◌||◌}
use lib.Dec.{T}

pub and_intro : (x y : Bool) → T x → T y → T (x && y)
and_intro true y p q = q
and_intro false y p q = p

pub and_left : (x y : Bool) → T (x && y) → T x
and_left true y p = tt
and_left false y p = p

pub and_right : (x y : Bool) → T (x && y) → T y
and_right true y p = p
and_right false y p = absurd p

pub or_cases : (x y : Bool) → T (x || y) → T x ⊎ T y
or_cases true y t = inl tt
or_cases false y t = inr t

pub or_left : (x y : Bool) → T x → T (x || y)
or_left true y t = tt
or_left false y t = absurd t

pub or_right : (x y : Bool) → T y → T (x || y)
or_right true y t = tt
or_right false y t = t

pub T_true : (b : Bool) → T b → b ≡ true
T_true true h = refl
T_true false h = absurd h

-- two tests that imply each other are equal
pub same_tests : (x y : Bool) → (T x → T y) → (T y → T x) → x ≡ y
same_tests true true f g = refl
same_tests true false f g = absurd (f tt)
same_tests false true f g = absurd (g tt)
same_tests false false f g = refl

pub test_fails : (x : Bool) → (T x → ⊥) → x ≡ false
test_fails true f = absurd (f tt)
test_fails false f = refl

pub T_false : (x : Bool) → x ≡ false → T x → ⊥
T_false true e h = subst T e h
T_false false e h = h
