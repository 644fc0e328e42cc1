-- The paths of length t in the repetition graph of a word and the factorizations of its prefix of length t go together one to one, and the weight of a path is
-- the size of its factorization, for any turn number k from 2 up. A path and its encoding go together one to one, a block has one segment, and the prefix has
-- its factorizations in its place. There is no path beyond the end of the word. Assumes nothing.
use mathlib.Core.Path.{◌≡◌, refl, sym, ap, ◌∙◌, subst}
use mathlib.Core.Bool.{Bool}
use mathlib.Core.List.{List, [], ◌∷◌}
use Prim.Native.Nat.{ℕ, ◌+◌, ◌≤◌, ◌<◌}
use native.Mathlib.Omega.{arith}
use lib.ListN.{length, take}
use Rattle.periods.specs.Period.{held_period, Repetition, repetition?}
use Rattle.periods.specs.Edition.{turns_of}
use Rattle.periods.proofs.Editions.{two_turns}
use Rattle.factors.specs.Factorization.{Factorization}
use Rattle.repetitions.specs.Block.{Block}
use Rattle.paths.specs.Graph.{Node, black, white, Exists, Walk, Path, total, drops, encoding, GoTogether, ends_of_pairs, Segments}
use Rattle.factorizer.proofs.Pieces.{prefix_factorizations}
use Rattle.factorizer.proofs.Rules.{repetition_decides}
use Rattle.paths.proofs.Encodings.{white_black, encoding_ends, encoded, encodes, encoding_one_path, segments_chain, chain_segments, segments_same}

-- CLAIM: paths of length t, and factorizations of the prefix of length t as a word of its own
pub record OneToOne (allowed : ℕ → Bool) (k : ℕ) (w : List ℕ) (t : ℕ) : Type 0 where
  -- the drops of a path are a factorization
  pub factorization : (xs : List Node) → Path allowed k w t xs → Factorization (Block allowed k (take t w)) t (drops (black 0) xs)
  -- of one only
  pub one_factorization : (xs : List Node) (es fs : List ℕ) → GoTogether xs es → GoTogether xs fs → es ≡ fs
  -- each factorization has a path
  pub path : (es : List ℕ) → Factorization (Block allowed k (take t w)) t es → (xs : List Node) × Path allowed k w t xs × GoTogether xs es
  -- and one only
  pub one_path : (xs ys : List Node) → Path allowed k w t xs → Path allowed k w t ys → drops (black 0) xs ≡ drops (black 0) ys → xs ≡ ys
  -- whose weight is its size
  pub weighs : (xs : List Node) → Path allowed k w t xs → total (black 0) xs ≡ length (drops (black 0) xs)

module _ (allowed : ℕ → Bool) (k : ℕ) (w : List ℕ) where
  -- ---- the weight of a path

  walk_weighs : (t : ℕ) (xs : List Node)
      → ((j : ℕ) → Walk allowed k w (black j) xs (black t) → total (black j) xs ≡ length (drops (black j) xs))
      × ((i x : ℕ) → Walk allowed k w (white i x) xs (black t) → total (white i x) xs + 1 ≡ length (drops (white i x) xs))
  walk_weighs t [] = (λ j v. refl, λ i x v. absurd (white_black i x t v))
  walk_weighs t (black e ∷ xs) = (λ j v. absurd v.0.2, λ i x v. omega (arith, (walk_weighs t xs).0 e v.1))
  walk_weighs t (white h y ∷ xs) = (λ j v. omega (arith, (walk_weighs t xs).1 h y v.1), λ i x v. omega (arith, (walk_weighs t xs).1 h y v.1))

  -- ---- no path beyond the word

  walk_within : (t : ℕ) (xs : List Node) (u : Node) → Exists allowed k w u → Walk allowed k w u xs (black t) → t ≤ length w
  walk_within t [] u N v = subst (Exists allowed k w) v N
  walk_within t (x ∷ xs) u N v = walk_within t xs x v.0.1 v.1

  pub no_path_beyond : (t : ℕ) → length w < t → (xs : List Node) → Path allowed k w t xs → ⊥
  no_path_beyond t l xs v = omega (arith, walk_within t xs (black 0) (omega arith) v)

  -- ---- paths and factorizations in their place

  module _ (two : 2 ≤ k) (t : ℕ) where
    path_chain : (xs : List Node) → Path allowed k w t xs → Factorization (Block allowed k w) t (drops (black 0) xs)
    path_chain xs v =
        subst (λ (es : List ℕ). Factorization (Block allowed k w) t es) (encoding_ends (black 0) xs)
        (segments_chain allowed k w two t (encoding (black 0) xs) 0 (encoded allowed k w t xs v))

    chain_path : (es : List ℕ) → Factorization (Block allowed k w) t es → (xs : List Node) × Path allowed k w t xs × GoTogether xs es
    chain_path es c = segments (chain_segments allowed k w two t es 0 c)
      where
        walked : (ns : List ℕ) → ends_of_pairs ns ≡ es → (xs : List Node) × Path allowed k w t xs × (encoding (black 0) xs ≡ ns)
            → (xs : List Node) × Path allowed k w t xs × GoTogether xs es
        walked ns q (xs, v, e) = (xs, v, sym (encoding_ends (black 0) xs) ∙ ap ends_of_pairs e ∙ q)

        segments : (ns : List ℕ) × Segments allowed k w 0 ns t × (ends_of_pairs ns ≡ es) → (xs : List Node) × Path allowed k w t xs × GoTogether xs es
        segments (ns, s, q) = walked ns q (encodes allowed k w t ns s)

    same_path : (xs ys : List Node) → Path allowed k w t xs → Path allowed k w t ys → drops (black 0) xs ≡ drops (black 0) ys → xs ≡ ys
    same_path xs ys v z q =
        encoding_one_path allowed k w t xs ys v z
        (segments_same allowed k w two t (encoding (black 0) xs) (encoding (black 0) ys) 0 (encoded allowed k w t xs v) (encoded allowed k w t ys z)
        (encoding_ends (black 0) xs ∙ q ∙ sym (encoding_ends (black 0) ys)))

    pub one_to_one : t ≤ length w → OneToOne allowed k w t
    one_to_one h = record {
      factorization = λ xs v. (prefix_factorizations (Repetition allowed k) (repetition? allowed k) (repetition_decides allowed k) w t (drops (black 0) xs) h).1 (path_chain xs v);
      one_factorization = λ xs es fs a b. sym a ∙ b;
      path = λ es c. chain_path es ((prefix_factorizations (Repetition allowed k) (repetition? allowed k) (repetition_decides allowed k) w t es h).0 c);
      one_path = same_path;
      weighs = λ xs v. (walk_weighs t xs).0 0 v;
    }

-- CLAIM: the instance for the graph of an edition, in which a block has that edition's turns and a unit that memory holds. turns_of 1 is 2 and turns_of 2 is 3; it
-- holds for any other number too, of which no call makes use
pub edition_one_to_one : (edition : ℕ) (w : List ℕ) (t : ℕ) → t ≤ length w → OneToOne held_period (turns_of edition) w t
edition_one_to_one edition w t h = one_to_one held_period (turns_of edition) w (two_turns edition) t h
