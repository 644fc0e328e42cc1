-- The repetition graph of a word (source document 001, section 3.1), for any turn number k and only the allowed periods; its paths.
use Rattle.std.specs.Prelude.{◌≡◌, Bool, List, [], ◌∷◌, ℕ, ◌+◌, ◌*◌, ◌≤◌, T, length}
use Rattle.runs.specs.declared.Record.{Record}
use Rattle.runs.specs.Run.{Entry}
use Rattle.nodes.specs.Node.{White}
use Rattle.runs.specs.Table.{runs_of}

-- "Black nodes are the joints 0 to n." A white node has its run's number and its position.
pub data Node : Type 0 where
  black : ℕ → Node
  white : ℕ → ℕ → Node

-- the nodes that there are
abbrev pub Exists : (ℕ → Bool) → ℕ → List ℕ → Node → Type 0
Exists allowed k w (black j) = j ≤ length w
Exists allowed k w (white i x) = White allowed k (runs_of w) i x

-- "A diagonal edge of weight 1 goes from joint j to the white node of run i at j+2×unit, where there is one", and in edition 2 it "spans 3 × unit".
pub record Diagonal (k : ℕ) (w : List ℕ) (j i x : ℕ) : Type 0 where
  pub run : Record
  pub numbered : Entry (runs_of w) i run
  pub span : x ≡ j + k * run.period

-- "A flat edge of weight 0 goes between white nodes of one run at neighbouring positions, rightward. A drop of weight 0 goes from a white node to the joint at
-- its position."
abbrev pub Joined : ℕ → List ℕ → Node → Node → Type 0
Joined k w (black j) (black e) = ⊥
Joined k w (black j) (white i x) = Diagonal k w j i x
Joined k w (white i x) (white h y) = (i ≡ h) × (y ≡ x + 1)
Joined k w (white i x) (black e) = x ≡ e

-- an edge joins two nodes that there are
abbrev pub Edge : (ℕ → Bool) → ℕ → List ℕ → Node → Node → Type 0
Edge allowed k w u v = Exists allowed k w u × Exists allowed k w v × Joined k w u v

abbrev pub weight : Node → Node → ℕ
weight (black j) (black e) = 0
weight (black j) (white i x) = 1
weight (white i x) (white h y) = 0
weight (white i x) (black e) = 0

-- a walk from u by the nodes of the list to v
abbrev pub Walk : (ℕ → Bool) → ℕ → List ℕ → Node → List Node → Node → Type 0
Walk allowed k w u [] v = u ≡ v
Walk allowed k w u (x ∷ xs) v = Edge allowed k w u x × Walk allowed k w x xs v

-- "A path of length t goes from joint 0 to joint t; length 0 has the empty path." Given by its nodes after joint 0.
abbrev pub Path : (ℕ → Bool) → ℕ → List ℕ → ℕ → List Node → Type 0
Path allowed k w t xs = Walk allowed k w (black 0) xs (black t)

-- the sum of the weights of the edges
abbrev pub total : Node → List Node → ℕ
total u [] = 0
total u (x ∷ xs) = weight u x + total x xs

-- "the joints that the path drops to": the targets of its drop edges, in order
abbrev pub drops : Node → List Node → List ℕ
drops u [] = []
drops (black j) (v ∷ xs) = drops v xs
drops (white i x) (white h y ∷ xs) = drops (white h y) xs
drops (white i x) (black e ∷ xs) = e ∷ drops (black e) xs

-- "for each block a run number and then an end": for each drop edge, the run number of the white node that it leaves and the joint that it reaches
abbrev pub encoding : Node → List Node → List ℕ
encoding u [] = []
encoding (black j) (v ∷ xs) = encoding v xs
encoding (white i x) (white h y ∷ xs) = encoding (white h y) xs
encoding (white i x) (black e ∷ xs) = i ∷ e ∷ encoding (black e) xs

-- "for each block a run number and then an end": the run numbers are the first, third, fifth .. of such numbers
abbrev pub runs_of_pairs : List ℕ → List ℕ
runs_of_pairs [] = []
runs_of_pairs (r ∷ []) = r ∷ []
runs_of_pairs (r ∷ e ∷ ns) = r ∷ runs_of_pairs ns

-- and the ends the second, fourth, sixth ..
abbrev pub ends_of_pairs : List ℕ → List ℕ
ends_of_pairs [] = []
ends_of_pairs (r ∷ []) = []
ends_of_pairs (r ∷ e ∷ ns) = e ∷ ends_of_pairs ns

-- "the joints that the path drops to are, in order, the ends of the split"
abbrev pub GoTogether : List Node → List ℕ → Type 0
GoTogether xs ends = drops (black 0) xs ≡ ends

-- ---- a block and its run

-- "no run has that number, or the run does not enclose the piece, or the piece is shorter than 2 × the run's unit" is refusal 4 for a path, which in edition
-- 2 "measures by 3 × unit"; this is the contrary. The piece goes from boundary i to boundary j.
pub record Segment (allowed : ℕ → Bool) (k : ℕ) (w : List ℕ) (number i j : ℕ) : Type 0 where
  pub run : Record
  pub numbered : Entry (runs_of w) number run
  pub starts : run.first ≤ i + 1
  pub ends : j ≤ run.last
  pub long : i + k * run.period ≤ j
  pub permitted : T (allowed run.period)

-- the numbers, a run number and an end for each block, lead from boundary i to boundary t
abbrev pub Segments : (ℕ → Bool) → ℕ → List ℕ → ℕ → List ℕ → ℕ → Type 0
Segments allowed k w i [] t = i ≡ t
Segments allowed k w i (r ∷ []) t = ⊥
Segments allowed k w i (r ∷ e ∷ ns) t = Segment allowed k w r i e × Segments allowed k w e ns t
