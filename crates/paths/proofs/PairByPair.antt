-- The pairs of a path taken one after the other, as a loop over chunks of two numbers takes them: the next pair has the next run number and end, and the numbers
-- after it are left. By the laws of lists. Assumes nothing.
use mathlib.Core.Path.{◌≡◌, sym, ap, ◌∙◌}
use mathlib.Core.List.{List, ◌++◌}
use Prim.Native.Nat.{ℕ, ◌+◌, ◌≤◌, ◌<◌}
use native.Mathlib.Omega.{arith}
use lib.ListN.{length, get_or, drop, length-append, length-drop, get_or-append}
use lib.Seq.{drop_at, drop-drop}
use Rattle.std.proofs.Common.{get_or-drop}

-- the pair of block number k + 1, and the numbers that are left after it
pub record NextPair (numbers : List ℕ) (k : ℕ) (pair rest : List ℕ) : Type 0 where
  pub there : k + k + 1 < length numbers
  pub run : get_or pair 0 0 ≡ get_or numbers (k + k) 0
  pub end : get_or pair 1 0 ≡ get_or numbers (k + k + 1) 0
  pub left : rest ≡ drop (k + 1 + (k + 1)) numbers

pub next_pair : (numbers : List ℕ) (k : ℕ) (pair rest left : List ℕ) → left ≡ drop (k + k) numbers → k + k ≤ length numbers → left ≡ pair ++ rest → length pair ≡ 2
    → NextPair numbers k pair rest
next_pair numbers k pair rest left is within cut two = record {
  there = omega (arith, ap length is, length-drop (k + k) numbers, ap length cut, length-append pair rest);
  run = at 0 (omega arith) ∙ ap (λ (i : ℕ). get_or numbers i 0) (omega arith);
  end = at 1 (omega arith);
  left = sym (drop_at pair rest 2 two) ∙ ap (drop 2) (sym cut ∙ is) ∙ drop-drop 2 (k + k) numbers ∙ ap (λ (i : ℕ). drop i numbers) (omega arith);
}
  where
    at : (i : ℕ) → i < 2 → get_or pair i 0 ≡ get_or numbers (k + k + i) 0
    at i h = sym (get_or-append pair rest 0 i (omega arith)) ∙ ap (λ (l : List ℕ). get_or l i 0) (sym cut ∙ is) ∙ get_or-drop (k + k) numbers i 0
