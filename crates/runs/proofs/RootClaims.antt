-- The root of a run: there is one (`root_exists`), and one only (`root_unique`); the computed one is it (`root_is`); the unit of a run is primitive
-- (`unit_primitive`). Roots as the definition has them are least starts in their place, and the computed comparison decides their order. Assumes nothing.
use mathlib.Core.Path.{◌≡◌, refl, sym, ap, ◌∙◌, subst, subst₂}
use mathlib.Core.Logic.{◌⊎◌, inl, inr, ◌≢◌}
use mathlib.Core.Bool.{Bool, true, false, cond}
use mathlib.Core.List.{List}
use Prim.Native.Nat.{ℕ, zero, suc, ◌+◌, ◌-◌, ◌*◌, ◌≤◌, ◌<◌}
use native.Mathlib.Omega.{arith}
use lib.Dec.{T, ltb, eqb, ltb→lt, lt→ltb, eqb→eq, eqb_refl}
use lib.ListN.{length}
use Rattle.periods.specs.Period.{part, SmallestPeriod}
use Rattle.periods.specs.Square.{Primitive, Square}
use Rattle.periods.proofs.InPlace.{SmallestIn, symbol, placed_part, part_smallest_out, part_cut}
use Rattle.periods.proofs.Squares.{square_even, period_half, unit_half_primitive}
use Rattle.runs.specs.Run.{symbol_at, Run, Precedes, Root}
use Rattle.runs.specs.Table.{precedes?, least_start, root_of}
use Rattle.runs.proofs.InPlace.{RunIn, run_in, piece_smallest}
use Rattle.runs.proofs.Roots.{Agree, Ahead, LeastStart, agree_none, least_one, least_kept, least_moved, least_start_unique, window_total}

-- ---- the computed comparison

module _ (w : List ℕ) where
  -- places that are the same numbers
  same_at : {a b c d : ℕ} → a ≡ c → b ≡ d → symbol w a ≡ symbol w b → symbol w c ≡ symbol w d
  same_at e f h = sym (ap (symbol w) e) ∙ h ∙ ap (symbol w) f

  less_at : {a b c d : ℕ} → a ≡ c → b ≡ d → symbol w a < symbol w b → symbol w c < symbol w d
  less_at e f h = subst₂ ◌<◌ (ap (symbol w) e) (ap (symbol w) f) h

  -- the first pair agrees, or it decides
  ahead_later : {m a b : ℕ} → symbol w a ≡ symbol w b → Ahead true (symbol w) m (suc a) (suc b) → Ahead true (symbol w) (suc m) a b
  ahead_later {m} {a} {b} e X = record { common = suc X.common; short = omega arith; same = same; less = less_at (omega arith) (omega arith) X.less }
    where
      same : Agree (symbol w) (suc X.common) a b
      same zero l = same_at (omega arith) (omega arith) e
      same (suc i) l = same_at (omega arith) (omega arith) (X.same i (omega arith))

  ahead_rest : {m a b : ℕ} → symbol w a ≡ symbol w b → Ahead true (symbol w) (suc m) a b → Ahead true (symbol w) m (suc a) (suc b)
  ahead_rest {m} {a} {b} e X = go X.common X.short X.same X.less
    where
      go : (k : ℕ) → k < suc m → Agree (symbol w) k a b → symbol w (a + k) < symbol w (b + k) → Ahead true (symbol w) m (suc a) (suc b)
      go zero s h l = let k : symbol w a < symbol w b = less_at (omega arith) (omega arith) l in absurd (omega arith)
      go (suc k) s h l = record {
        common = k;
        short = omega arith;
        same = λ i u. same_at (omega arith) (omega arith) (h (suc i) (omega arith));
        less = less_at (omega arith) (omega arith) l;
      }

  ahead_first : {m a b : ℕ} → symbol w a ≢ symbol w b → Ahead true (symbol w) (suc m) a b → symbol w a < symbol w b
  ahead_first {m} {a} {b} e X = go X.common X.same X.less
    where
      go : (k : ℕ) → Agree (symbol w) k a b → symbol w (a + k) < symbol w (b + k) → symbol w a < symbol w b
      go zero h l = less_at (omega arith) (omega arith) l
      go (suc k) h l = absurd (e (same_at (omega arith) (omega arith) (h 0 (omega arith))))

  precedes_sound : (m a b : ℕ) → T (precedes? w m a b) → Ahead true (symbol w) m a b
  precedes_sound zero a b t = absurd t
  precedes_sound (suc m) a b t = go (precedes_sound m (suc a) (suc b)) (eqb (symbol w a) (symbol w b)) refl t
    where
      go : (T (precedes? w m (suc a) (suc b)) → Ahead true (symbol w) m (suc a) (suc b)) → (u : Bool) → eqb (symbol w a) (symbol w b) ≡ u
          → T (cond u (precedes? w m (suc a) (suc b)) (ltb (symbol w a) (symbol w b))) → Ahead true (symbol w) (suc m) a b
      go ih true e t = ahead_later (eqb→eq (symbol w a) (symbol w b) (subst T (sym e) tt)) (ih t)
      go ih false e t = record {
        common = 0;
        short = omega arith;
        same = agree_none (symbol w) a b;
        less = less_at (omega arith) (omega arith) (ltb→lt (symbol w a) (symbol w b) t);
      }

  precedes_complete : (m a b : ℕ) → Ahead true (symbol w) m a b → T (precedes? w m a b)
  precedes_complete zero a b X = absurd (omega arith)
  precedes_complete (suc m) a b X = go (precedes_complete m (suc a) (suc b)) (eqb (symbol w a) (symbol w b)) refl
    where
      go : (Ahead true (symbol w) m (suc a) (suc b) → T (precedes? w m (suc a) (suc b))) → (u : Bool) → eqb (symbol w a) (symbol w b) ≡ u
          → T (cond u (precedes? w m (suc a) (suc b)) (ltb (symbol w a) (symbol w b)))
      go ih true e = ih (ahead_rest (eqb→eq (symbol w a) (symbol w b) (subst T (sym e) tt)) X)
      go ih false e =
          lt→ltb (symbol w a) (symbol w b)
          (ahead_first (λ z. subst T (ap (eqb (symbol w a)) z ∙ e) (eqb_refl (symbol w a))) X)

  -- the computed start is the least
  start_computed : (m a d : ℕ) → ((x y : ℕ) → a ≤ x → x < y → y < a + suc d → Ahead true (symbol w) m x y ⊎ Ahead true (symbol w) m y x)
      → LeastStart true (symbol w) a (suc d) m (least_start w m a d)
  unfolding least_start
  start_computed m a zero h = least_one (symbol w) a
  start_computed m a (suc d) h = go (start_computed m a d (λ x y l k u. h x y l k (omega arith))) (precedes? w m (a + suc d) q) refl
    where
      q : ℕ
      q = least_start w m a d

      go : LeastStart true (symbol w) a (suc d) m q → (t : Bool) → precedes? w m (a + suc d) q ≡ t → LeastStart true (symbol w) a (suc (suc d)) m (cond t (a + suc d) q)
      go L true e = least_moved (symbol w) L (precedes_sound m (a + suc d) q (subst T (sym e) tt))
      go L false e = least_kept (symbol w) L (other (h q (a + suc d) L.from L.to (omega arith)))
        where
          other : Ahead true (symbol w) m q (a + suc d) ⊎ Ahead true (symbol w) m (a + suc d) q → Ahead true (symbol w) m q (a + suc d)
          other (inl X) = X
          other (inr X) = absurd (subst T e (precedes_complete m (a + suc d) q X))

  -- ---- roots and least starts

  root_out : (a p q : ℕ) → LeastStart true (symbol w) a p p q → Root w (suc a) p (suc q)
  root_out a p q L = record {
    from = omega arith;
    to = omega arith;
    least = λ c l u e. out c (omega arith) (L.least (c - 1) (omega arith) (omega arith) (λ z. e (omega arith)));
  }
    where
      out : (c : ℕ) → 1 ≤ c → Ahead true (symbol w) p q (c - 1) → Precedes w p (suc q) c
      out c l X = record {
        common = X.common;
        within = X.short;
        same = λ i h. same_at (omega arith) (omega arith) (X.same i h);
        less = less_at (omega arith) (omega arith) X.less;
      }

  -- in positions, which the definition counts in
  pub root_least : (first p q : ℕ) → 1 ≤ first → Root w first p q → LeastStart true (symbol_at w) first p p q
  root_least first p q h R = record { from = R.from; to = omega arith; least = λ c l u e. ahead c (R.least c l (omega arith) e) }
    where
      ahead : (c : ℕ) → Precedes w p q c → Ahead true (symbol_at w) p q c
      ahead c X = record { common = X.common; short = X.within; same = X.same; less = X.less }

  -- ---- two turns of a unit after boundary a, or more
  module _ (a b p : ℕ) (U : SmallestIn (symbol w) a b p) (twice : a + 2 * p ≤ b) where
    pub least_computed : LeastStart true (symbol w) a p p (least_start w p a (p - 1))
    least_computed =
        subst (λ (d : ℕ). LeastStart true (symbol w) a d p (least_start w p a (p - 1))) (omega arith)
        (start_computed p a (p - 1) (λ x y l k u. window_total (symbol w) a b p U a (omega arith) (omega arith) true x y l k (omega arith)))

    pub root_computed : Root w (suc a) p (root_of w a p)
    unfolding root_of
    root_computed = root_out a p (least_start w p a (p - 1)) least_computed

-- ---- the root of a run

-- a run has two turns of its unit after its first boundary
pub two_turns : (w : List ℕ) (a b p : ℕ) → RunIn (symbol w) (length w) a b p → (a + 2 * p ≤ length w) × SmallestPeriod (part w a (a + 2 * p)) p
two_turns w a b p R = (
  omega arith,
  part_smallest_out w a (a + 2 * p) p (omega arith) (piece_smallest (symbol w) (length w) a b a (a + 2 * p) p R (omega arith) R.twice (omega arith)),
)

module _ (w : List ℕ) (first last p : ℕ) (R : Run w first last p) where
  -- CLAIM: the computed root is one
  pub root_is : Root w first p (root_of w (first - 1) p)
  root_is =
      let I = run_in w first last p R in
      subst (λ (x : ℕ). Root w x p (root_of w (first - 1) p)) (omega (arith, R.starts)) (root_computed w (first - 1) last p I.smallest I.twice)

  -- CLAIM: a run has a root
  pub root_exists : (q : ℕ) × Root w first p q
  root_exists = (root_of w (first - 1) p, root_is)

  -- CLAIM: and one only
  pub root_unique : (q q' : ℕ) → Root w first p q → Root w first p q' → q ≡ q'
  root_unique q q' X Y = least_start_unique (symbol_at w) (root_least w first p q R.starts X) (root_least w first p q' R.starts Y)

  -- CLAIM: its unit is primitive
  pub unit_primitive : Primitive (part w (first - 1) (first - 1 + p))
  unit_primitive = subst Primitive (sym cut.0) (unit_half_primitive s S smallest)
    where
      a : ℕ
      a = first - 1

      -- the first two turns
      s : List ℕ
      s = part w a (a + 2 * p)

      turns : (a + 2 * p ≤ length w) × SmallestPeriod s p
      turns = two_turns w a last p (run_in w first last p R)

      long : length s ≡ 2 * p
      long = (placed_part w a (a + 2 * p) turns.0).long ∙ omega arith

      S : Square s
      S = period_half s p turns.1.period long

      half : length S.half ≡ p
      half = omega (arith, long, square_even s S)

      smallest : SmallestPeriod s (length S.half)
      smallest = subst (SmallestPeriod s) (sym half) turns.1

      cut : (part w a (a + p) ≡ S.half) × (part w (a + p) (a + 2 * p) ≡ S.half)
      cut = part_cut w S.half S.half a (a + p) (a + 2 * p) (omega arith) (omega arith) turns.0 (omega (arith, half)) S.twice_over
