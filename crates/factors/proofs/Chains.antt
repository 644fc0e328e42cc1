-- Chains of blocks: a chain with one block more at its end, the last block of a chain, one relation of blocks for another, and, where a block's end is above
-- its start, that the boundaries rise and how many blocks there can be. Also the block lengths of a chain with one block more, from the end. All by induction
-- on the ends. Assumes nothing.
use mathlib.Core.Path.{◌≡◌, refl, ap, ◌∙◌}
use mathlib.Core.Logic.{◌⊎◌, inl, inr}
use mathlib.Core.List.{List, [], ◌∷◌, ◌++◌, reverse, reverse-append}
use Prim.Native.Nat.{ℕ, suc, ◌+◌, ◌-◌, ◌*◌, ◌/◌, ◌≤◌, ◌<◌}
use native.Mathlib.Omega.{arith}
use native.Mathlib.Nat.{suc-mul}
use lib.ListN.{length, length-append}
use Rattle.factors.specs.Factorization.{Chain, Factorization, size, block_lengths}

pub length_snoc : (x : List ℕ) (m : ℕ) → length (x ++ m ∷ []) ≡ suc (length x)
length_snoc x m = length-append x (m ∷ []) ∙ omega arith

module _ (B : ℕ → ℕ → Type 0) where
  -- a chain up to j and a block from j to m
  pub chain_snoc : (i : ℕ) (es : List ℕ) (j m : ℕ) → Chain B i es j → B j m → Chain B i (es ++ m ∷ []) m
  chain_snoc i [] j m h k = (rw h k, refl)
  chain_snoc i (e ∷ es) j m h k = (h.0, chain_snoc e es j m h.1 k)

  -- the last block of a chain: the ends before it, and the boundary that they lead to
  pub record Last (i : ℕ) (es : List ℕ) (m : ℕ) : Type 0 where
    pub front : List ℕ
    pub boundary : ℕ
    pub is : es ≡ front ++ m ∷ []
    pub chain : Chain B i front boundary
    pub block : B boundary m

  -- a chain has no block, or a last one
  pub chain_last : (i : ℕ) (es : List ℕ) (m : ℕ) → Chain B i es m → ((es ≡ []) × (i ≡ m)) ⊎ Last i es m
  chain_last i [] m h = inl (refl, h)
  chain_last i (e ∷ es) m h = inr (go (chain_last e es m h.1))
    where
      go : ((es ≡ []) × (e ≡ m)) ⊎ Last e es m → Last i (e ∷ es) m
      go (inl z) = record { front = []; boundary = i; is = cc (z.0, z.1); chain = refl; block = rw z.1 at h.0 }
      go (inr l) = record {
        front = e ∷ l.front;
        boundary = l.boundary;
        is = ap (λ (x : List ℕ). e ∷ x) l.is;
        chain = (h.0, l.chain);
        block = l.block;
      }

  -- the length of a block more stands at the end of the block lengths
  pub lengths_snoc : (i : ℕ) (es : List ℕ) (j m : ℕ) → Chain B i es j → block_lengths i (es ++ m ∷ []) ≡ block_lengths i es ++ (m - j) ∷ []
  lengths_snoc i [] j m h = rw h
  lengths_snoc i (e ∷ es) j m h = ap (λ (x : List ℕ). (e - i) ∷ x) (lengths_snoc e es j m h.1)

  -- and comes first from the end
  pub lengths_back : (es : List ℕ) (j m : ℕ) → Factorization B j es → reverse (block_lengths 0 (es ++ m ∷ [])) ≡ (m - j) ∷ reverse (block_lengths 0 es)
  lengths_back es j m h = ap reverse (lengths_snoc 0 es j m h) ∙ reverse-append (block_lengths 0 es) ((m - j) ∷ [])

  -- where each block takes d symbols or more, so many blocks take d times as many
  pub chain_long : (d : ℕ) → ((i j : ℕ) → B i j → i + d ≤ j) → (i : ℕ) (es : List ℕ) (m : ℕ) → Chain B i es m → i + size es * d ≤ m
  chain_long d long i [] m h = omega arith
  chain_long d long i (e ∷ es) m h = omega (arith, suc-mul (size es) d, long i e h.0, chain_long d long e es m h.1)

  -- with two symbols or more a block, a factorization of the first m symbols has at most m / 2 blocks, rounded down
  pub size_half : ((i j : ℕ) → B i j → i + 2 ≤ j) → (m : ℕ) (es : List ℕ) → Factorization B m es → size es ≤ m / 2
  size_half two m es h = omega (arith, chain_long 2 two 0 es m h)

  module _ (up : (i j : ℕ) → B i j → i < j) where
    -- each block takes a symbol or more
    pub chain_size : (i : ℕ) (es : List ℕ) (m : ℕ) → Chain B i es m → i + size es ≤ m
    chain_size i es m h = omega (arith, chain_long 1 (λ a b k. omega (arith, up a b k)) i es m h)

    pub chain_le : (i : ℕ) (es : List ℕ) (m : ℕ) → Chain B i es m → i ≤ m
    chain_le i es m h = omega (arith, chain_size i es m h)

    -- a factorization of the first m symbols has at most m blocks
    pub size_le : (m : ℕ) (es : List ℕ) → Factorization B m es → size es ≤ m
    size_le m es h = omega (arith, chain_size 0 es m h)

    -- each block of a chain up to m goes up and ends at m or before
    pub chain_within : (i : ℕ) (es : List ℕ) (m : ℕ) → Chain B i es m → Chain (λ a b. (a < b) × (b ≤ m) × B a b) i es m
    chain_within i [] m h = h
    chain_within i (e ∷ es) m h = ((up i e h.0, chain_le e es m h.1, h.0), chain_within e es m h.1)

-- one relation of blocks for another
pub chain_map : (B C : ℕ → ℕ → Type 0) → ((i j : ℕ) → B i j → C i j) → (i : ℕ) (es : List ℕ) (m : ℕ) → Chain B i es m → Chain C i es m
chain_map B C h i [] m k = k
chain_map B C h i (e ∷ es) m k = (h i e k.0, chain_map B C h e es m k.1)
