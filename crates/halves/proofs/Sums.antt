-- Tables of zeros, and of sums of counts: where the counts are those of the runs after each boundary, the sums are the numbers of the first runs. Assumes nothing.
use mathlib.Core.Path.{◌≡◌, refl, sym, ap, ◌∙◌}
use mathlib.Core.List.{List}
use Prim.Native.Nat.{ℕ, zero, suc, ◌+◌, ◌-◌, ◌*◌, ◌≤◌, ◌<◌}
use native.Mathlib.Omega.{arith}
use native.Mathlib.Numerals.{add-one}
use native.Mathlib.Decide.{ℕ_discrete}
use lib.ListN.{length, get_or, set, replicate}
use lib.Seq.{sets, get_or-set_same, get_or-set_other}
use Rattle.answers.specs.Outcome.{limit}
use Rattle.runs.specs.declared.Listing.{Listing}
use Rattle.runs.specs.Table.{rows_at, rows_before, runs_of}
use Rattle.runs.specs.Listing.{stride_of, flat_by}
use Rattle.runs.proofs.Rows.{before_none, count_more}
use Rattle.runs.proofs.Few.{table_at_most}
use Rattle.halves.specs.Found.{Solved}
use Rattle.halves.specs.Kept.{Starts, Kept, Room, Keeps, sum_to, Summed}
use Rattle.halves.proofs.Recorded.{before_fits, all_counted, all_placed, kept_start}

-- ---- zeros

pub record Zeros (s : List ℕ) : Type 0 where
  pub at : (a : ℕ) → get_or s a 0 ≡ 0

-- a row that was cleared
pub zeros_cleared : (s : List ℕ) (n : ℕ) → s ≡ replicate n 0 → Zeros s
zeros_cleared s n e = record { at = λ a. ap (λ (x : List ℕ). get_or x a 0) e ∙ zero_at n a }
  where
    zero_at : (n a : ℕ) → get_or (replicate {A = ℕ} n 0) a 0 ≡ 0
    zero_at zero a = refl
    zero_at (suc n) zero = refl
    zero_at (suc n) (suc a) = zero_at n a

-- ---- sums

pub sum-none : (s : List ℕ) → 0 ≡ sum_to s 0
unfolding sum_to
sum-none s = refl

pub sum_more : (s : List ℕ) (a : ℕ) → sum_to s (a + 1) ≡ sum_to s a + get_or s a 0
unfolding sum_to
sum_more s a = rw (add-one a) refl

pub sum_grows : (s : List ℕ) (a d : ℕ) → sum_to s a ≤ sum_to s (a + d)
sum_grows s a zero = let e : a + 0 ≡ a = omega arith in rw e (omega arith)
sum_grows s a (suc d) =
    let e : a + suc d ≡ a + d + 1 = omega arith in
    rw e (omega (arith, sum_grows s a d, sum_more s (a + d)))

-- up to one number, which is read, and past it
pub sum_below : (s : List ℕ) (a n : ℕ) → a < n → sum_to s a + get_or s a 0 ≤ sum_to s n
sum_below s a n h = omega (arith, sum_more s a, sum_grows s (a + 1) (n - a - 1), ap (sum_to s) e)
  where
    e : a + 1 + (n - a - 1) ≡ n
    e = omega arith

pub summed_none : (s : List ℕ) → Summed s s 0
summed_none s = record { done = λ k h. absurd (omega arith); rest = λ k h. refl }

pub summed_more : (s r : List ℕ) (a total : ℕ) → a < length r → total ≡ sum_to s a → Summed s r a → Summed s (set r a total) (a + 1)
summed_more s r a total l e S = record { done = λ k h. go k h (ℕ_discrete k a); rest = λ k h. get_or-set_other r a k total 0 (λ z. omega arith) ∙ S.rest k (omega arith) }
  where
    go : (k : ℕ) → k < a + 1 → Dec (k ≡ a) → get_or (set r a total) k 0 ≡ sum_to s k
    go k h (yes z) = rw z (get_or-set_same r a total 0 l ∙ e)
    go k h (no z) = get_or-set_other r a k total 0 z ∙ S.done k (omega arith)

-- ---- the counts of the runs

pub record Counts (w next : List ℕ) : Type 0 where
  pub at : (a : ℕ) → a < length w → get_or next a 0 ≡ length (rows_at w a (length w - a))

pub counts_sum : (w next : List ℕ) → Counts w next → (a : ℕ) → a ≤ length w → sum_to next a ≡ length (rows_before w a)
counts_sum w next C zero l = sym (sum-none next) ∙ sym (ap length (before_none w))
counts_sum w next C (suc a) l =
    let e : suc a ≡ a + 1 = omega arith in
    rw e (omega (arith, sum_more next a, counts_sum w next C a (omega arith), C.at a (omega arith), count_more w a))

pub sum_all : (w next : List ℕ) → Counts w next → sum_to next (length w) ≡ length (runs_of w)
unfolding runs_of
sum_all w next C = counts_sum w next C (length w) (omega arith)

pub starts_are : (w next r : List ℕ) → Counts w next → Summed next r (length w) → Starts w r
starts_are w next r C S = record { at = λ a l. S.done a l ∙ counts_sum w next C a (omega arith) }

-- nothing was found before
pub kept_zeros : (f : Listing) (w base t ends : List ℕ) → Zeros ends → Kept f w base t ends base t
kept_zeros f w base t ends Z = kept_start f w base t ends (λ a h. Z.at a)

-- the first turn of the finder counts
pub counts_are : (f : Listing) (w e n t e' n' t' : List ℕ) → Zeros e → Zeros n → Keeps f w e n t e' n' t' → Solved w 0 (length w) e' → Counts w n'
counts_are f w e n t e' n' t' E N K D =
    record { at = λ a h. omega (arith, all_counted f w n t e' n' t' (K.kept n t (kept_zeros f w n t e E)) D a h, N.at a) }

-- and the second one writes
pub table_is : (f : Listing) (w e n t e' n' t' : List ℕ) → Zeros e → Starts w n → stride_of f * length (runs_of w) ≤ length t → Keeps f w e n t e' n' t' → Solved w 0 (length w) e' → t' ≡ sets t 0 (flat_by f (runs_of w))
table_is f w e n t e' n' t' E S room K D = all_placed f w n t e' n' t' (K.kept n t (kept_zeros f w n t e E)) D S room

-- ---- room

rows_fit : (w : List ℕ) (a : ℕ) → a < length w → length (rows_before w a) ≤ length w
unfolding runs_of
rows_fit w a h = omega (arith, table_at_most w, before_fits w a (length w) a h (omega arith))

pub room_zeros : (w ends next : List ℕ) → length w ≤ limit → Zeros next → Room w ends next
room_zeros w ends next l Z = record { small = λ a h. omega (arith, Z.at a) }

pub room_starts : (w ends next : List ℕ) → length w ≤ limit → Starts w next → Room w ends next
room_starts w ends next l S = record { small = λ a h. omega (arith, S.at a h, rows_fit w a h) }
