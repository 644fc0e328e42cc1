-- What `head` gives and the loop of `fill` keeps, and that the table of common prefixes is determined. The head start is a valid lower bound, and it is then
-- lengthened to a difference or to an end, so that the value is exact; that each symbol is passed once is no part of a contract. Assumes nothing.
use mathlib.Core.Path.{◌≡◌, ap, ◌∙◌}
use mathlib.Core.Logic.{inl, inr}
use mathlib.Core.List.{List}
use Prim.Native.Nat.{ℕ, ◌+◌, ◌-◌, ◌≤◌, ◌<◌}
use native.Mathlib.Omega.{arith}
use native.Mathlib.Decide.{dec_lt, ℕ_discrete}
use lib.ListN.{length, get_or, set}
use lib.Seq.{get_or-set_same, get_or-set_other}
use Rattle.prefixes.specs.Match.{Agree, Match}
use Rattle.prefixes.specs.Filled.{Sure, Filled, head_of}

-- the box [l, r): its symbols are those from mid on
pub record Box (g : ℕ → ℕ) (len mid from i l r : ℕ) : Type 0 where
  pub low : from ≤ l
  pub before : i < r → l < i
  pub fits : i < r → r ≤ len
  pub fits_mid : i < r → mid + (r - l) ≤ len
  pub same : (x : ℕ) → l ≤ x → x < r → g x ≡ g (mid + (x - l))

module _ (g : ℕ → ℕ) (len mid from : ℕ) (near : from ≤ mid + 1) where
  pub box_next : (i l r : ℕ) → Box g len mid from i l r → Box g len mid from (i + 1) l r
  box_next i l r X = record {
    low = X.low;
    before = λ h. omega (arith, X.before (omega arith));
    fits = λ h. X.fits (omega arith);
    fits_mid = λ h. X.fits_mid (omega arith);
    same = X.same;
  }

  pub box_new : (i k : ℕ) → from ≤ i → Agree g len mid i k → Box g len mid from (i + 1) i (i + k)
  box_new i k h A = record {
    low = h;
    before = λ x. omega arith;
    fits = λ x. A.fits;
    fits_mid = λ x. omega (arith, A.fits_mid);
    same = λ x y z. ap g (omega arith) ∙ A.same (x - i) (omega arith);
  }

  -- the place that is read
  read_sure : (i l r : ℕ) → i ≤ len → Box g len mid from i l r → i < r → Sure len mid from i (mid + (i - l))
  read_sure i l r b X h = go (dec_lt mid from)
    where
      go : Dec (mid < from) → Sure len mid from i (mid + (i - l))
      go (yes z) = inl (omega (arith, X.before h, X.low), omega (arith, X.before h, X.low))
      go (no z) = inr (omega arith, omega (arith, X.before h), omega (arith, X.before h, X.fits_mid h))

  pub head_agree : (t : List ℕ) (i l r : ℕ) → i ≤ len → mid ≤ len → Box g len mid from i l r → Filled g len mid from i t → Agree g len mid i (head_of t mid i l r)
  head_agree t i l r b m X S = go (dec_lt i r)
    where
      go : Dec (i < r) → Agree g len mid i (head_of t mid i l r)
      go (no h) = record { fits = omega arith; fits_mid = omega arith; same = λ j z. absurd (omega arith) }
      go (yes h) =
          let M : Match g len mid (mid + (i - l)) (get_or t (mid + (i - l)) 0) = S.at (mid + (i - l)) (read_sure i l r b X h) in record {
            fits = omega (arith, X.fits h);
            fits_mid = omega (arith, M.agree.fits_mid);
            same = λ j z. X.same (i + j) (omega (arith, X.before h)) (omega arith) ∙ ap g (omega (arith, X.before h)) ∙ M.agree.same j (omega arith);
          }

  -- one place more
  pub filled_more : (t : List ℕ) (i to k : ℕ) → from ≤ i → i < to → to ≤ len + 1 → (from ≤ mid → to ≤ mid) → len < length t → Match g len mid i k
      → Filled g len mid from i t → Filled g len mid from (i + 1) (set t i k)
  filled_more t i to k h u v w room M S = record { at = λ j s. go j s (ℕ_discrete j i) }
    where
      go : (j : ℕ) → Sure len mid from (i + 1) j → Dec (j ≡ i) → Match g len mid j (get_or (set t i k) j 0)
      go j s (yes z) = rw z (rw (get_or-set_same t i k 0 (omega arith)) M)
      go j (inl s) (no z) = rw (get_or-set_other t i j k 0 z) (S.at j (inl (omega arith, omega arith)))
      go j (inr s) (no z) = rw (get_or-set_other t i j k 0 z) (S.at j (inr s))

-- ---- the table is determined

-- CLAIM: there is one longest common prefix
pub match_unique : (g : ℕ → ℕ) (len mid i k k' : ℕ) → Match g len mid i k → Match g len mid i k' → k ≡ k'
match_unique g len mid i k k' M N = omega (arith, not_below k k' M N (dec_lt k k'), not_below k' k N M (dec_lt k' k))
  where
    not_below : (a b : ℕ) → Match g len mid i a → Match g len mid i b → Dec (a < b) → b ≤ a
    not_below a b A B (no h) = omega arith
    not_below a b A B (yes h) = absurd (A.stops (omega (arith, B.agree.fits)) (omega (arith, B.agree.fits_mid)) (B.agree.same a h))
