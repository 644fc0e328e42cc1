-- The sequences that the examples of the documents speak of, as words.
use mathlib.Core.List.{List, [], ◌∷◌}
use Prim.Native.Nat.{ℕ}
use lib.ListN.{replicate}

abbrev pub word_empty : List ℕ
word_empty = []

abbrev pub word_a : List ℕ
word_a = 97 ∷ []

abbrev pub word_ab : List ℕ
word_ab = 97 ∷ 98 ∷ []

abbrev pub word_aa : List ℕ
word_aa = 97 ∷ 97 ∷ []

abbrev pub word_aaa : List ℕ
word_aaa = 97 ∷ 97 ∷ 97 ∷ []

abbrev pub word_aaaa : List ℕ
word_aaaa = 97 ∷ 97 ∷ 97 ∷ 97 ∷ []

abbrev pub word_aaaaa : List ℕ
word_aaaaa = 97 ∷ 97 ∷ 97 ∷ 97 ∷ 97 ∷ []

abbrev pub word_aaaaaa : List ℕ
word_aaaaaa = 97 ∷ 97 ∷ 97 ∷ 97 ∷ 97 ∷ 97 ∷ []

abbrev pub word_ababa : List ℕ
word_ababa = 97 ∷ 98 ∷ 97 ∷ 98 ∷ 97 ∷ []

abbrev pub word_abababab : List ℕ
word_abababab = 97 ∷ 98 ∷ 97 ∷ 98 ∷ 97 ∷ 98 ∷ 97 ∷ 98 ∷ []

abbrev pub word_baa : List ℕ
word_baa = 98 ∷ 97 ∷ 97 ∷ []

abbrev pub word_aabb : List ℕ
word_aabb = 97 ∷ 97 ∷ 98 ∷ 98 ∷ []

abbrev pub word_aabaabaa : List ℕ
word_aabaabaa = 97 ∷ 97 ∷ 98 ∷ 97 ∷ 97 ∷ 98 ∷ 97 ∷ 97 ∷ []

abbrev pub word_abaabaababaabaabababa : List ℕ
word_abaabaababaabaabababa = 97 ∷ 98 ∷ 97 ∷ 97 ∷ 98 ∷ 97 ∷ 97 ∷ 98 ∷ 97 ∷ 98 ∷ 97 ∷ 97 ∷ 98 ∷ 97 ∷ 97 ∷ 98 ∷ 97 ∷ 98 ∷ 97 ∷ 98 ∷ 97 ∷ []

abbrev pub word_aabaabaacbbcbbcbb : List ℕ
word_aabaabaacbbcbbcbb = 97 ∷ 97 ∷ 98 ∷ 97 ∷ 97 ∷ 98 ∷ 97 ∷ 97 ∷ 99 ∷ 98 ∷ 98 ∷ 99 ∷ 98 ∷ 98 ∷ 99 ∷ 98 ∷ 98 ∷ []

abbrev pub word_abaababaabbbaabbbb : List ℕ
word_abaababaabbbaabbbb = 97 ∷ 98 ∷ 97 ∷ 97 ∷ 98 ∷ 97 ∷ 98 ∷ 97 ∷ 97 ∷ 98 ∷ 98 ∷ 98 ∷ 97 ∷ 97 ∷ 98 ∷ 98 ∷ 98 ∷ 98 ∷ []

-- "One pass of code 1 and 256 of code 0": the same with so many of code 0
abbrev pub one_and : ℕ → List ℕ
one_and zeros = 1 ∷ replicate zeros 0
