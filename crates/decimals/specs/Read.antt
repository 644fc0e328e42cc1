-- What reading a number gives.
use Rattle.std.specs.Prelude.{cond, List, [], ◌∷◌, ℕ, Option, Some, None}
use Rattle.decimals.specs.Decimal.{digits?, value}

-- the number, where there is one
abbrev pub number_view : Option ℕ → List ℕ
number_view (Some x) = x ∷ []
number_view None = []

-- the number that bytes spell, where they are all digits
unfoldable pub number_in : List ℕ → List ℕ
number_in bs = cond (digits? bs) (value bs ∷ []) []
