-- The blocks of a word: a block goes up, and its smallest period is the one that it has in its place (`block_in`, `block_out`); with two turns or more a
-- factorization has at most half as many blocks as symbols. Assumes nothing.
use mathlib.Core.Path.{◌≡◌}
use mathlib.Core.Bool.{Bool}
use mathlib.Core.List.{List}
use Prim.Native.Nat.{ℕ, ◌+◌, ◌*◌, ◌/◌, ◌≤◌, ◌<◌}
use native.Mathlib.Omega.{arith}
use native.Mathlib.Nat.{mul-le-mul_right}
use lib.Dec.{T}
use lib.ListN.{length}
use Rattle.periods.specs.Period.{part, smallest_period, held_period, Repetition, repetition?}
use Rattle.periods.specs.Edition.{turns_of}
use Rattle.periods.proofs.Editions.{two_turns}
use Rattle.periods.proofs.InPlace.{SmallestIn, symbol, placed_part, part_smallest_in, part_smallest_out}
use Rattle.periods.proofs.Claims.{part_smallest}
use Rattle.factors.specs.Factorization.{Factorization, size}
use Rattle.factors.proofs.Chains.{chain_map, size_half}
use Rattle.factorizer.proofs.Pieces.{piece_up}
use Rattle.factorizer.proofs.Rules.{repetition_decides}
use Rattle.repetitions.specs.Block.{Block}

-- a block in its place, between the boundaries i and j
pub record BlockIn (allowed : ℕ → Bool) (k : ℕ) (w : List ℕ) (i j : ℕ) : Type 0 where
  pub period : ℕ
  pub within : j ≤ length w
  pub smallest : SmallestIn (symbol w) i j period
  pub long : i + k * period ≤ j
  pub permitted : T (allowed period)

module _ (allowed : ℕ → Bool) (k : ℕ) (w : List ℕ) (i j : ℕ) where
  -- a block has k turns of its smallest period
  pub block_long : (K : Block allowed k w i j) → i + k * K.1.period ≤ j
  block_long K =
      let S = K.1.smallest.period in
      omega (arith, (placed_part w i j K.0).long, S.positive, S.fits, K.1.long)

  pub block_in : Block allowed k w i j → BlockIn allowed k w i j
  block_in K = record {
    period = K.1.period;
    within = K.0;
    smallest = part_smallest_in w i j K.1.period K.0 K.1.smallest;
    long = block_long K;
    permitted = K.1.permitted;
  }

  pub block_out : BlockIn allowed k w i j → Block allowed k w i j
  block_out K = (
    K.within,
    record {
      period = K.period;
      smallest = part_smallest_out w i j K.period K.within K.smallest;
      long = omega (arith, (placed_part w i j K.within).long);
      permitted = K.permitted;
    },
  )

  -- a block goes up
  pub block_up : Block allowed k w i j → i < j
  block_up = piece_up (Repetition allowed k) (repetition? allowed k) (repetition_decides allowed k) w i j

  -- its unit is not 0 and fits into it
  pub block_unit_lem : Block allowed k w i j → (p : ℕ) → p ≡ smallest_period (part w i j) → (1 ≤ p) × (i + p ≤ j)
  block_unit_lem K p e = let S = (part_smallest w i j K.0 (block_up K)).period in (omega (arith, e, S.positive), omega (arith, e, S.fits))

-- ---- fewer turns

-- a block of more turns is one of fewer, and so are those of a factorization
pub block_fewer_turns : (allowed : ℕ → Bool) (m k : ℕ) (w : List ℕ) (i j : ℕ) → m ≤ k → Block allowed k w i j → Block allowed m w i j
block_fewer_turns allowed m k w i j h K = (
  K.0,
  record { period = K.1.period; smallest = K.1.smallest; long = omega (arith, mul-le-mul_right K.1.period h, K.1.long); permitted = K.1.permitted },
)

factorization_fewer_turns : (allowed : ℕ → Bool) (m k : ℕ) (w : List ℕ) (n : ℕ) (es : List ℕ) → m ≤ k → Factorization (Block allowed k w) n es
    → Factorization (Block allowed m w) n es
factorization_fewer_turns allowed m k w n es h = chain_map (Block allowed k w) (Block allowed m w) (λ i j. block_fewer_turns allowed m k w i j h) 0 es n

-- an edition's blocks have two turns at least
pub edition_two_turns : (edition : ℕ) (w : List ℕ) (n : ℕ) (es : List ℕ) → Factorization (Block held_period (turns_of edition) w) n es → Factorization (Block held_period 2 w) n es
edition_two_turns edition w n es = factorization_fewer_turns held_period 2 (turns_of edition) w n es (two_turns edition)

-- ---- the number of blocks

-- CLAIM: "a split has at most n/2 blocks, rounded down", of any turn number from two up, whatever periods are allowed, and of either edition
pub blocks_half : (allowed : ℕ → Bool) (k : ℕ) (w : List ℕ) → 2 ≤ k → (m : ℕ) (es : List ℕ) → Factorization (Block allowed k w) m es → size es ≤ m / 2
blocks_half allowed k w two = size_half (Block allowed k w) long
  where
    long : (a b : ℕ) → Block allowed k w a b → a + 2 ≤ b
    long a b K = omega (arith, mul-le-mul_right K.1.period two, block_long allowed k w a b K, K.1.smallest.period.positive)

pub edition_half : (edition : ℕ) (w : List ℕ) (m : ℕ) (es : List ℕ) → Factorization (Block held_period (turns_of edition) w) m es → size es ≤ m / 2
edition_half edition w = blocks_half held_period (turns_of edition) w (two_turns edition)
