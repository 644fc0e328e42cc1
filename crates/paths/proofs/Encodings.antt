-- The paths of the repetition graph and their encodings, for any turn number k from 2 up. A path between two drops is a segment: a run that encloses the piece,
-- k periods or longer. So a path's encoding is a list of segments, each list of segments is the encoding of a path, and of one only. A segment is a block whose
-- smallest period is the run's, and a block has one segment, since it lies in one run only with its period. Assumes nothing.
use mathlib.Core.Path.{◌≡◌, refl, sym, ap, ap₂, ◌∙◌, subst, subst₂}
use mathlib.Core.Bool.{Bool}
use mathlib.Core.List.{List, [], ◌∷◌, nil≢cons, head-eq_of_cons-eq, tail-eq_of_cons-eq}
use Prim.Native.Nat.{ℕ, zero, suc, ◌+◌, ◌-◌, ◌*◌, ◌≤◌}
use native.Mathlib.Omega.{arith}
use native.Mathlib.Nat.{mul-le-mul_right}
use lib.ListN.{length}
use Rattle.periods.specs.Period.{part, smallest_period}
use Rattle.periods.proofs.InPlace.{SmallestIn, symbol, part_smallest_out, smallest_unique}
use Rattle.periods.proofs.Claims.{smallest_period_unique}
use Rattle.runs.specs.declared.Record.{Record}
use Rattle.runs.specs.Run.{Entry, Lists}
use Rattle.nodes.specs.Node.{White}
use Rattle.runs.specs.Table.{runs_of}
use Rattle.runs.proofs.InPlace.{RunIn, piece_smallest, run_unique, run_exists, run_in, run_out}
use Rattle.runs.proofs.Listed.{runs_listed}
use Rattle.runs.proofs.Entries.{entry_one_row, entry_same}
use Rattle.factors.specs.Factorization.{Chain}
use Rattle.repetitions.specs.Block.{Block}
use Rattle.paths.specs.Graph.{Node, black, white, Diagonal, Walk, Path, drops, encoding, runs_of_pairs, ends_of_pairs, Segment, Segments}
use Rattle.repetitions.proofs.Blocks.{BlockIn, block_in, block_out}

-- ---- nodes

pub white_black : (i x t : ℕ) → white i x ≡ black t → ⊥
white_black i x t e = let z : ◌≡◌ {A = ℕ} 0 1 = cc in omega arith

black_same : (a b : ℕ) → black a ≡ black b → a ≡ b
black_same a b e = cc

-- ---- every second number of an encoding is a drop

-- CLAIM: the ends in the encoding of a path are the joints that it drops to
pub encoding_ends : (u : Node) (xs : List Node) → ends_of_pairs (encoding u xs) ≡ drops u xs
encoding_ends u [] = refl
encoding_ends (black j) (v ∷ xs) = encoding_ends v xs
encoding_ends (white i x) (white h y ∷ xs) = encoding_ends (white h y) xs
encoding_ends (white i x) (black e ∷ xs) = ap (λ (es : List ℕ). e ∷ es) (encoding_ends (black e) xs)

-- and there is a run number for each
pub encoding_runs : (u : Node) (xs : List Node) → length (runs_of_pairs (encoding u xs)) ≡ length (drops u xs)
encoding_runs u [] = refl
encoding_runs (black j) (v ∷ xs) = encoding_runs v xs
encoding_runs (white i x) (white h y ∷ xs) = encoding_runs (white h y) xs
encoding_runs (white i x) (black e ∷ xs) = ap suc (encoding_runs (black e) xs)

module _ (allowed : ℕ → Bool) (k : ℕ) (w : List ℕ) where
  -- ---- a path's encoding is a list of segments

  -- a diagonal begins a segment
  diagonal_segment : (j i x : ℕ) → White allowed k (runs_of w) i x → Diagonal k w j i x → Segment allowed k w i j x
  diagonal_segment j i x N D =
      let e : N.run ≡ D.run = entry_one_row (runs_of w) i N.run D.run N.numbered D.numbered in
      let s : x ≡ j + k * N.run.period = D.span ∙ ap (λ (r : Record). j + k * r.period) (sym e) in
      record { run = N.run; numbered = N.numbered; starts = omega arith; ends = N.to; long = omega arith; permitted = N.permitted }

  -- a flat edge lengthens it
  segment_longer : (j i x h y : ℕ) → Segment allowed k w i j x → (i ≡ h) × (y ≡ x + 1) → White allowed k (runs_of w) h y → Segment allowed k w h j y
  segment_longer j i x h y S J N =
      let n : Entry (runs_of w) h S.run = subst (λ (m : ℕ). Entry (runs_of w) m S.run) J.0 S.numbered in
      let e : N.run ≡ S.run = entry_one_row (runs_of w) h N.run S.run N.numbered n in
      record {
        run = S.run;
        numbered = n;
        starts = S.starts;
        ends = omega (arith, ap (λ (r : Record). r.last) e, N.to);
        long = omega (arith, S.long, J.1);
        permitted = S.permitted;
      }

  walk_segments : (t : ℕ) (xs : List Node)
      → ((j : ℕ) → Walk allowed k w (black j) xs (black t) → Segments allowed k w j (encoding (black j) xs) t)
      × ((i x j : ℕ) → Segment allowed k w i j x → Walk allowed k w (white i x) xs (black t) → Segments allowed k w j (encoding (white i x) xs) t)
  walk_segments t [] = (λ j v. black_same j t v, λ i x j S v. absurd (white_black i x t v))
  walk_segments t (black e ∷ xs) = (
    (λ j v. absurd v.0.2),
    (λ i x j S v. (subst (λ (m : ℕ). Segment allowed k w i j m) v.0.2 S, (walk_segments t xs).0 e v.1)),
  )
  walk_segments t (white h y ∷ xs) = (
    (λ j v. (walk_segments t xs).1 h y j (diagonal_segment j h y v.0.1 v.0.2) v.1),
    (λ i x j S v. (walk_segments t xs).1 h y j (segment_longer j i x h y S v.0.2 v.0.1) v.1),
  )

  -- CLAIM: the encoding of a path leads from boundary 0 to its end
  pub encoded : (t : ℕ) (xs : List Node) → Path allowed k w t xs → Segments allowed k w 0 (encoding (black 0) xs) t
  encoded t xs v = (walk_segments t xs).0 0 v

  -- ---- the encoding determines the path

  -- the encoding of a walk from a white node begins with its run and with a boundary at its position or after
  record FirstDrop (i x : ℕ) (xs : List Node) : Type 0 where
    pub end : ℕ
    pub rest : List ℕ
    pub is : encoding (white i x) xs ≡ i ∷ end ∷ rest
    pub from : x ≤ end

  first_drop : (t : ℕ) (xs : List Node) (i x : ℕ) → Walk allowed k w (white i x) xs (black t) → FirstDrop i x xs
  first_drop t [] i x v = absurd (white_black i x t v)
  first_drop t (black e ∷ xs) i x v = record { end = e; rest = encoding (black e) xs; is = refl; from = omega (arith, v.0.2) }
  first_drop t (white h y ∷ xs) i x v =
      let F = first_drop t xs h y v.1 in
      record {
        end = F.end;
        rest = F.rest;
        is = F.is ∙ ap (λ (m : ℕ). m ∷ F.end ∷ F.rest) (sym v.0.2.0);
        from = omega (arith, F.from, v.0.2.1);
      }

  -- a walk from a joint that goes on has a drop
  goes_on : (t j : ℕ) (u : Node) (xs : List Node) → Walk allowed k w (black j) (u ∷ xs) (black t) → encoding (black j) (u ∷ xs) ≡ [] → ⊥
  goes_on t j (black e) xs v q = v.0.2
  goes_on t j (white i x) xs v q = let F = first_drop t xs i x v.1 in nil≢cons (sym q ∙ F.is)

  -- a drop at x and a flat edge on from x have different first ends
  drop_flat : (t i x e h y : ℕ) (xs ys : List Node) → Walk allowed k w (white i x) (black e ∷ xs) (black t) → Walk allowed k w (white i x) (white h y ∷ ys) (black t)
      → i ∷ e ∷ encoding (black e) xs ≡ encoding (white h y) ys → ⊥
  drop_flat t i x e h y xs ys v z q =
      let F = first_drop t ys h y z.1 in
      let c = tail-eq_of_cons-eq (q ∙ F.is) in
      omega (arith, head-eq_of_cons-eq c, v.0.2, z.0.2.1, F.from)

  -- the diagonals from a joint to one run are one
  diagonals : (t j h y g x : ℕ) (xs ys : List Node) → Walk allowed k w (black j) (white h y ∷ xs) (black t) → Walk allowed k w (black j) (white g x ∷ ys) (black t)
      → encoding (white h y) xs ≡ encoding (white g x) ys → (h ≡ g) × (y ≡ x)
  diagonals t j h y g x xs ys v z q = (same, D.span ∙ ap (λ (r : Record). j + k * r.period) one ∙ sym E.span)
    where
      D : Diagonal k w j h y
      D = v.0.2

      E : Diagonal k w j g x
      E = z.0.2

      F : FirstDrop h y xs
      F = first_drop t xs h y v.1

      G : FirstDrop g x ys
      G = first_drop t ys g x z.1

      same : h ≡ g
      same = head-eq_of_cons-eq (sym F.is ∙ q ∙ G.is)

      one : D.run ≡ E.run
      one = entry_one_row (runs_of w) g D.run E.run (subst (λ (m : ℕ). Entry (runs_of w) m D.run) same D.numbered) E.numbered

  -- walks on from one white node
  same_white : (t h y g u : ℕ) (xs ys : List Node)
      → ((i x : ℕ) → Walk allowed k w (white i x) xs (black t) → Walk allowed k w (white i x) ys (black t) → encoding (white i x) xs ≡ encoding (white i x) ys
      → xs ≡ ys)
      → h ≡ g → y ≡ u → Walk allowed k w (white h y) xs (black t) → Walk allowed k w (white g u) ys (black t) → encoding (white h y) xs ≡ encoding (white g u) ys
      → white h y ∷ xs ≡ white g u ∷ ys
  same_white t h y g u xs ys ih a b v z q =
      ap₂ (λ (m : Node) (ms : List Node). m ∷ ms) (ap₂ white a b)
      (ih g u (subst₂ (λ (m n : ℕ). Walk allowed k w (white m n) xs (black t)) a b v) z
      (subst₂ (λ (m n : ℕ). encoding (white m n) xs ≡ encoding (white g u) ys) a b q))

  one_walk : (t : ℕ) (xs ys : List Node)
      → ((j : ℕ) → Walk allowed k w (black j) xs (black t) → Walk allowed k w (black j) ys (black t) → encoding (black j) xs ≡ encoding (black j) ys → xs ≡ ys)
      × ((i x : ℕ) → Walk allowed k w (white i x) xs (black t) → Walk allowed k w (white i x) ys (black t) → encoding (white i x) xs ≡ encoding (white i x) ys
      → xs ≡ ys)
  one_walk t [] [] = (λ j v z q. refl, λ i x v z q. refl)
  one_walk t [] (u ∷ ys) = (λ j v z q. absurd (goes_on t j u ys z (sym q)), λ i x v z q. absurd (white_black i x t v))
  one_walk t (u ∷ xs) [] = (λ j v z q. absurd (goes_on t j u xs v q), λ i x v z q. absurd (white_black i x t z))
  one_walk t (black a ∷ xs) (black b ∷ ys) = (
    λ j v z q. absurd v.0.2,
    λ i x v z q.
        let e : a ≡ b = sym v.0.2 ∙ z.0.2 in
        let c = tail-eq_of_cons-eq q in
        let d = tail-eq_of_cons-eq c in
        ap₂ (λ (m : ℕ) (ms : List Node). black m ∷ ms) e
        ((one_walk t xs ys).0 b (subst (λ (m : ℕ). Walk allowed k w (black m) xs (black t)) e v.1) z.1
        (subst (λ (m : ℕ). encoding (black m) xs ≡ encoding (black b) ys) e d)),
  )
  one_walk t (black a ∷ xs) (white h y ∷ ys) = (λ j v z q. absurd v.0.2, λ i x v z q. absurd (drop_flat t i x a h y xs ys v z q))
  one_walk t (white h y ∷ xs) (black b ∷ ys) = (λ j v z q. absurd z.0.2, λ i x v z q. absurd (drop_flat t i x b h y ys xs z v (sym q)))
  one_walk t (white h y ∷ xs) (white g u ∷ ys) = (
    (λ j v z q. let d = diagonals t j h y g u xs ys v z q in same_white t h y g u xs ys (one_walk t xs ys).1 d.0 d.1 v.1 z.1 q),
    (λ i x v z q. same_white t h y g u xs ys (one_walk t xs ys).1 (sym v.0.2.0 ∙ z.0.2.0) (v.0.2.1 ∙ sym z.0.2.1) v.1 z.1 q),
  )

  -- CLAIM: the encoding determines the path
  pub encoding_one_path : (t : ℕ) (xs ys : List Node) → Path allowed k w t xs → Path allowed k w t ys → encoding (black 0) xs ≡ encoding (black 0) ys → xs ≡ ys
  encoding_one_path t xs ys v z q = (one_walk t xs ys).0 0 v z q

  -- ---- each list of segments is the encoding of a path

  -- after the white node of run i at x: d flat edges, the drop, and on
  flats : ℕ → ℕ → ℕ → List Node → List Node
  flats i x zero xs = black x ∷ xs
  flats i x (suc d) xs = white i (x + 1) ∷ flats i (x + 1) d xs

  encoding_flats : (i x d : ℕ) (xs : List Node) → encoding (white i x) (flats i x d xs) ≡ i ∷ (x + d) ∷ encoding (black (x + d)) xs
  unfolding flats
  encoding_flats i x zero xs = ap (λ (m : ℕ). i ∷ m ∷ encoding (black m) xs) (omega arith)
  encoding_flats i x (suc d) xs = encoding_flats i (x + 1) d xs ∙ ap (λ (m : ℕ). i ∷ m ∷ encoding (black m) xs) (omega arith)

  walk_flats : (t i x d : ℕ) (xs : List Node) → ((y : ℕ) → x ≤ y → y ≤ x + d → White allowed k (runs_of w) i y) → x + d ≤ length w
      → Walk allowed k w (black (x + d)) xs (black t) → Walk allowed k w (white i x) (flats i x d xs) (black t)
  unfolding flats
  walk_flats t i x zero xs N l v =
      ((N x (omega arith) (omega arith), omega arith, refl), subst (λ (m : ℕ). Walk allowed k w (black m) xs (black t)) (omega arith) v)
  walk_flats t i x (suc d) xs N l v = (
    (N x (omega arith) (omega arith), N (x + 1) (omega arith) (omega arith), (refl, refl)),
    walk_flats t i (x + 1) d xs (λ y a b. N y (omega arith) (omega arith)) (omega arith)
        (subst (λ (m : ℕ). Walk allowed k w (black m) xs (black t)) (omega arith) v),
  )

  -- the table lists exactly the runs
  L : Lists w (runs_of w)
  L = runs_listed w

  -- the end of a segment is in the word
  pub segment_within : (r i j : ℕ) → Segment allowed k w r i j → j ≤ length w
  segment_within r i j S = omega (arith, S.ends, (L.sound r S.run S.numbered).ends)

  abbrev WalkFor : ℕ → ℕ → List ℕ → Type 0
  WalkFor t j ns = (xs : List Node) × Walk allowed k w (black j) xs (black t) × (encoding (black j) xs ≡ ns)

  -- the nodes of a segment, and on
  segment_walk : (t r i j : ℕ) (ns : List ℕ) → Segment allowed k w r i j → WalkFor t j ns → WalkFor t i (r ∷ j ∷ ns)
  segment_walk t r i j ns S (xs, v, q) = (
    white r x ∷ flats r x d xs,
    (
      (omega (arith, S.long, segment_within r i j S), N x (omega arith) (omega (arith, S.long)), record { run = S.run; numbered = S.numbered; span = refl }),
      walk_flats t r x d xs (λ y a b. N y a (omega (arith, S.long))) (omega (arith, S.long, segment_within r i j S))
          (subst (λ (m : ℕ). Walk allowed k w (black m) xs (black t)) (omega (arith, S.long)) v),
    ),
    encoding_flats r x d xs ∙ ap (λ (m : ℕ). r ∷ m ∷ encoding (black m) xs) (omega (arith, S.long)) ∙ ap (λ (ms : List ℕ). r ∷ j ∷ ms) q,
  )
    where
      x : ℕ
      x = i + k * S.run.period

      d : ℕ
      d = j - x

      N : (y : ℕ) → x ≤ y → y ≤ j → White allowed k (runs_of w) r y
      N y a b =
          record { run = S.run; numbered = S.numbered; from = omega (arith, S.starts); to = omega (arith, S.ends); permitted = S.permitted }

  segments_walk : (t : ℕ) (ns : List ℕ) (j : ℕ) → Segments allowed k w j ns t → WalkFor t j ns
  segments_walk t [] j s = ([], ap black s, refl)
  segments_walk t (r ∷ []) j s = absurd s
  segments_walk t (r ∷ e ∷ ns) j s = segment_walk t r j e ns s.0 (segments_walk t ns e s.1)

  -- CLAIM: numbers that lead from boundary 0 to boundary t are the encoding of a path of length t
  pub encodes : (t : ℕ) (ns : List ℕ) → Segments allowed k w 0 ns t → (xs : List Node) × Path allowed k w t xs × (encoding (black 0) xs ≡ ns)
  encodes t ns s = segments_walk t ns 0 s

  -- ---- a segment is a block with its run

  module _ (two : 2 ≤ k) where
    run_of : (r : ℕ) (v : Record) → Entry (runs_of w) r v → RunIn (symbol w) (length w) (v.first - 1) v.last v.period
    run_of r v e = run_in w v.first v.last v.period (L.sound r v e)

    -- the run's period is the smallest period of the piece, in its place
    pub segment_smallest : (r i j : ℕ) (S : Segment allowed k w r i j) → SmallestIn (symbol w) i j S.run.period
    segment_smallest r i j S =
        let v = S.run in
        piece_smallest (symbol w) (length w) (v.first - 1) v.last i j v.period (run_of r v S.numbered) (omega (arith, S.starts)) S.ends
        (omega (arith, S.long, mul-le-mul_right v.period two))

    -- CLAIM: and as a word of its own
    pub segment_period : (r i j : ℕ) (S : Segment allowed k w r i j) → S.run.period ≡ smallest_period (part w i j)
    segment_period r i j S =
        sym (smallest_period_unique (part w i j) S.run.period
        (part_smallest_out w i j S.run.period (segment_within r i j S) (segment_smallest r i j S)))

    -- CLAIM: a segment is a block
    pub segment_block : (r i j : ℕ) → Segment allowed k w r i j → Block allowed k w i j
    segment_block r i j S = block_out allowed k w i j (record {
      period = S.run.period;
      within = segment_within r i j S;
      smallest = segment_smallest r i j S;
      long = S.long;
      permitted = S.permitted;
    })

    -- CLAIM: a block is a segment of a run
    pub block_segment : (i j : ℕ) → Block allowed k w i j → (r : ℕ) × Segment allowed k w r i j
    block_segment i j K = go (block_in allowed k w i j K)
      where
        go : BlockIn allowed k w i j → (r : ℕ) × Segment allowed k w r i j
        go M = enclosed (run_exists (symbol w) (length w) i j M.period M.smallest (omega (arith, mul-le-mul_right M.period two)) M.within)
          where
            enclosed : (A : ℕ) × (B : ℕ) × RunIn (symbol w) (length w) A B M.period × (A ≤ i) × (j ≤ B) → (r : ℕ) × Segment allowed k w r i j
            enclosed (A, B, R, a, b) =
                let c = L.complete (suc A) B M.period (run_out w A B M.period R) in (
                  c.0,
                  record {
                    run = record { first = suc A; last = B; period = M.period; root = c.1 };
                    numbered = c.2;
                    starts = omega arith;
                    ends = b;
                    long = M.long;
                    permitted = M.permitted;
                  },
                )

    -- CLAIM: of one run only
    pub segment_one_number : (r s i j : ℕ) → Segment allowed k w r i j → Segment allowed k w s i j → r ≡ s
    segment_one_number r s i j S Z = entry_same (runs_of w) L.sorted r s S.run Z.run S.numbered Z.numbered first p
      where
        p : S.run.period ≡ Z.run.period
        p = smallest_unique (symbol w) i j S.run.period Z.run.period (segment_smallest r i j S) (segment_smallest s i j Z)

        there : RunIn (symbol w) (length w) (Z.run.first - 1) Z.run.last S.run.period
        there = subst (λ (u : ℕ). RunIn (symbol w) (length w) (Z.run.first - 1) Z.run.last u) (sym p) (run_of s Z.run Z.numbered)

        ends : (S.run.first - 1 ≡ Z.run.first - 1) × (S.run.last ≡ Z.run.last)
        ends =
            run_unique (symbol w) (length w) (S.run.first - 1) S.run.last (Z.run.first - 1) Z.run.last i j S.run.period
            (run_of r S.run S.numbered) there (omega (arith, S.starts)) S.ends (omega (arith, Z.starts)) Z.ends
            (segment_smallest r i j S).period.fits

        first : S.run.first ≡ Z.run.first
        first = omega (arith, ends.0, (L.sound r S.run S.numbered).starts, (L.sound s Z.run Z.numbered).starts)

    -- ---- lists of segments and chains of blocks

    pub segments_chain : (t : ℕ) (ns : List ℕ) (i : ℕ) → Segments allowed k w i ns t → Chain (Block allowed k w) i (ends_of_pairs ns) t
    segments_chain t [] i s = s
    segments_chain t (r ∷ []) i s = absurd s
    segments_chain t (r ∷ e ∷ ns) i s = (segment_block r i e s.0, segments_chain t ns e s.1)

    pub chain_segments : (t : ℕ) (es : List ℕ) (i : ℕ) → Chain (Block allowed k w) i es t → (ns : List ℕ) × Segments allowed k w i ns t × (ends_of_pairs ns ≡ es)
    chain_segments t [] i c = ([], c, refl)
    chain_segments t (e ∷ es) i c = go (block_segment i e c.0) (chain_segments t es e c.1)
      where
        go : (r : ℕ) × Segment allowed k w r i e → (ns : List ℕ) × Segments allowed k w e ns t × (ends_of_pairs ns ≡ es)
            → (ns : List ℕ) × Segments allowed k w i ns t × (ends_of_pairs ns ≡ e ∷ es)
        go (r, S) (ns, s, q) = (r ∷ e ∷ ns, (S, s), ap (λ (fs : List ℕ). e ∷ fs) q)

    -- the ends determine the run numbers
    pub segments_same : (t : ℕ) (ns ms : List ℕ) (i : ℕ) → Segments allowed k w i ns t → Segments allowed k w i ms t → ends_of_pairs ns ≡ ends_of_pairs ms → ns ≡ ms
    segments_same t [] [] i s z q = refl
    segments_same t [] (m ∷ []) i s z q = absurd z
    segments_same t [] (m ∷ f ∷ ms) i s z q = absurd (nil≢cons q)
    segments_same t (r ∷ []) ms i s z q = absurd s
    segments_same t (r ∷ e ∷ ns) [] i s z q = absurd (nil≢cons (sym q))
    segments_same t (r ∷ e ∷ ns) (m ∷ []) i s z q = absurd z
    segments_same t (r ∷ e ∷ ns) (m ∷ f ∷ ms) i s z q =
        let a : e ≡ f = head-eq_of_cons-eq q in
        let b : ns ≡ ms = segments_same t ns ms f (subst (λ (x : ℕ). Segments allowed k w x ns t) a s.1) z.1 (tail-eq_of_cons-eq q) in
        let c : r ≡ m = segment_one_number r m i f (subst (λ (x : ℕ). Segment allowed k w r i x) a s.0) z.0 in
        cc (a, b, c)
