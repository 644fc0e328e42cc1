-- Factorizations (splits) of a prefix (leading part), for any relation of blocks between boundaries (joints). Nothing here knows what a repetition is.
use Rattle.std.specs.Prelude.{◌≡◌, ◌⊎◌, Bool, true, false, cond, ◌||◌, List, [], ◌∷◌, ◌++◌, reverse, ℕ, zero, suc, ◌-◌, ◌≤◌, ◌<◌, ltb, eqb, length, get_or}

-- the ends join up from boundary i to boundary m, each piece a block
abbrev pub Chain : (ℕ → ℕ → Type 0) → ℕ → List ℕ → ℕ → Type 0
Chain B i [] m = i ≡ m
Chain B i (e ∷ es) m = B i e × Chain B e es m

-- a split of the first m symbols: "Blocks that join up to the sequence, given by their ends, increasing, the last equal to n. The empty sequence has one split,
-- of 0 blocks."
abbrev pub Factorization : (ℕ → ℕ → Type 0) → ℕ → List ℕ → Type 0
Factorization B m es = Chain B 0 es m

-- "A split's size is its number of blocks."
abbrev pub size : List ℕ → ℕ
size es = length es

-- "Choice 1 is fewest, 2 is most."
pub data Choice : Type 0 where
  smallest largest : Choice

abbrev pub fewest : ℕ
fewest = 1

abbrev pub most : ℕ
most = 2

abbrev pub choice_of : ℕ → Choice
choice_of c = cond (eqb c fewest) smallest largest

-- "8: a choice other than 1 or 2."
abbrev pub bad_choice? : ℕ → Bool
bad_choice? c = ltb c fewest || ltb most c

-- a size s is as good as t, or better
abbrev pub AsGood : Choice → ℕ → ℕ → Type 0
AsGood smallest s t = s ≤ t
AsGood largest s t = t ≤ s

-- the lengths of the blocks after boundary i that have these ends
abbrev pub block_lengths : ℕ → List ℕ → List ℕ
block_lengths i [] = []
block_lengths i (e ∷ es) = (e - i) ∷ block_lengths e es

-- a number for each of the blocks after boundary i that have these ends
unfoldable pub of_blocks : (ℕ → ℕ → ℕ) → ℕ → List ℕ → List ℕ
of_blocks number i [] = []
of_blocks number i (e ∷ es) = number i e ∷ of_blocks number e es

-- a text for each of them, which is told the block's number, from k + 1 on, and its two boundaries
unfoldable pub text_of_blocks : (ℕ → ℕ → ℕ → List ℕ) → ℕ → ℕ → List ℕ → List ℕ
text_of_blocks text k i [] = []
text_of_blocks text k i (e ∷ es) = text (suc k) i e ++ text_of_blocks text (suc k) e es

-- at the first difference the left list has the greater number
abbrev pub FirstGreater : List ℕ → List ℕ → Type 0
FirstGreater [] ys = ⊥
FirstGreater (x ∷ xs) [] = ⊥
FirstGreater (x ∷ xs) (y ∷ ys) = (y < x) ⊎ ((x ≡ y) × FirstGreater xs ys)

-- "Splits are compared from the end by the lengths of their last blocks, then of the ones before, and so on": x has the longer block at the first difference
abbrev pub LongerFromEnd : List ℕ → List ℕ → Type 0
LongerFromEnd x y = FirstGreater (reverse (block_lengths 0 x)) (reverse (block_lengths 0 y))

-- a factorization of the first m symbols that has the best size s, and wins the tie: "Among splits of the best size, the last block is longest, then the one
-- before it, and so on."
pub record Best (c : Choice) (B : ℕ → ℕ → Type 0) (m s : ℕ) (es : List ℕ) : Type 0 where
  pub factorization : Factorization B m es
  pub sized : size es ≡ s
  pub best : (fs : List ℕ) → Factorization B m fs → AsGood c s (size fs)
  pub wins : (fs : List ℕ) → Factorization B m fs → size fs ≡ s → (es ≡ fs) ⊎ LongerFromEnd es fs

-- ---- the same, computed, for a relation that a test decides

-- the test: strictly better
abbrev pub better : Choice → ℕ → ℕ → Bool
better smallest s t = ltb s t
better largest s t = ltb t s

-- what is known of a boundary: that no factorization reaches it, or the best size and the previous boundary
pub data Cell : Type 0 where
  unreachable : Cell
  reached : ℕ → ℕ → Cell

-- one more candidate j for the previous boundary: what is known so far, whether the piece is a block, what is known of j
abbrev pub offer : Choice → ℕ → Cell → Bool → Cell → Cell
offer c j known false from = known
offer c j known true unreachable = known
offer c j unreachable true (reached s q) = reached (suc s) j
offer c j (reached s₀ q₀) true (reached s q) = cond (better c (suc s) s₀) (reached (suc s) j) (reached s₀ q₀)

-- the candidates below k for boundary m
abbrev pub scan : Choice → (ℕ → ℕ → Bool) → (ℕ → Cell) → ℕ → ℕ → Cell
scan c b cells m zero = unreachable
scan c b cells m (suc j) = offer c j (scan c b cells m j) (b j m) (cells j)

-- the cells of the boundaries 0 to n
abbrev pub cells : Choice → (ℕ → ℕ → Bool) → ℕ → List Cell
cells c b zero = reached 0 0 ∷ []
cells c b (suc n) = let t = cells c b n in t ++ (scan c b (λ j. get_or t j unreachable) (suc n) (suc n) ∷ [])

unfoldable pub cell : Choice → (ℕ → ℕ → Bool) → ℕ → Cell
cell c b m = get_or (cells c b m) m unreachable

-- the ends, from the last boundary back to boundary 0
abbrev pub follow : Cell → ℕ → (ℕ → List ℕ) → List ℕ
follow unreachable m k = []
follow (reached zero p) m k = []
follow (reached (suc s) p) m k = k p ++ (m ∷ [])

abbrev pub ends_from : (ℕ → Cell) → ℕ → ℕ → List ℕ
ends_from cells zero m = []
ends_from cells (suc d) m = follow (cells m) m (λ p. ends_from cells d p)

unfoldable pub best_ends : Choice → (ℕ → ℕ → Bool) → ℕ → List ℕ
best_ends c b m = ends_from (cell c b) (suc m) m
