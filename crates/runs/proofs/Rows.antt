-- Laws of the table of runs that its code goes by: the tests of `run?` one after the other, one more boundary, one more record, what a table holds after the
-- records are stored. By unfolding the definitions and induction on them. Assumes nothing.
use mathlib.Core.Path.{◌≡◌, refl, ap, ◌∙◌}
use mathlib.Core.Logic.{◌≢◌}
use mathlib.Core.Bool.{Bool, true, false, not, cond}
use mathlib.Core.List.{List, [], ◌∷◌, ◌++◌, append-nil}
use Prim.Native.Nat.{ℕ, zero, suc, ◌+◌, ◌-◌, ◌*◌, ◌≤◌, ◌<◌}
use native.Mathlib.Omega.{arith}
use native.Mathlib.Numerals.{add-one}
use borrow.Author.Tests.{eq-eqb, ne_eqb}
use lib.Dec.{eqb}
use lib.ListN.{length, get_or, length-append}
use Rattle.periods.specs.Period.{part, smallest_period}
use Rattle.periods.proofs.InPlace.{placed_part}
use Rattle.runs.specs.declared.Record.{Record}
use Rattle.runs.specs.Table.{right?, run?, root_of, record_of, run_between, rows_at, rows_before, stride, numbers_of, flat}

-- ---- the test to the right

pub right_end : (w : List ℕ) (b p : ℕ) → b ≡ length w → right? w b p ≡ true
right_end w b p e = rw (eq-eqb b (length w) e) refl

pub right_test : (w : List ℕ) (b p : ℕ) → b ≢ length w → right? w b p ≡ not (eqb (get_or w b 0) (get_or w (b - p) 0))
right_test w b p e = rw (ne_eqb b (length w) e) refl

pub part_long : (w : List ℕ) (a b : ℕ) → b ≤ length w → length (part w a b) ≡ b - a
part_long w a b h = (placed_part w a b h).long

-- ---- one more boundary

rows_step : (w : List ℕ) (a b : ℕ) → a < b → rows_at w a (b - a) ≡ rows_at w a (b - a - 1) ++ run_between w a b
unfolding rows_at
rows_step w a b h = go (b - a - 1) (omega arith) (omega arith)
  where
    go : (d : ℕ) → b - a ≡ suc d → a + suc d ≡ b → rows_at w a (b - a) ≡ rows_at w a d ++ run_between w a b
    go d e f = ap (rows_at w a) e ∙ ap (λ (x : ℕ). rows_at w a d ++ run_between w a x) f

pub rows_skip : (w : List ℕ) (a b : ℕ) → a < b → run? w a b ≡ false → rows_at w a (b + 1 - a - 1) ≡ rows_at w a (b - a - 1)
unfolding run_between
rows_skip w a b h t =
    let e : b + 1 - a - 1 ≡ b - a = omega arith in
    rw e (rows_step w a b h ∙ ap (λ (x : List Record). rows_at w a (b - a - 1) ++ x) (rw t refl) ∙ append-nil (rows_at w a (b - a - 1)))

pub rows-add : (w : List ℕ) (a b p q : ℕ) → a < b → p ≡ smallest_period (part w a b) → q ≡ root_of w a p → run? w a b ≡ true
    → rows_at w a (b + 1 - a - 1) ≡ rows_at w a (b - a - 1) ++ (record { first = a + 1; last = b; period = p; root = q } ∷ [])
unfolding run_between
rows-add w a b p q h u v t =
    let e : b + 1 - a - 1 ≡ b - a = omega arith in
    rw e (rows_step w a b h ∙ ap (λ (x : List Record). rows_at w a (b - a - 1) ++ x) (rw (t, v, u, add-one a) refl))

-- at most one run ends at each boundary
pub rows_at_most : (w : List ℕ) (a d : ℕ) → length (rows_at w a d) ≤ d
unfolding rows_at run_between
rows_at_most w a zero = omega arith
rows_at_most w a (suc d) =
    omega (arith, rows_at_most w a d, length-append (rows_at w a d) (run_between w a (a + suc d)), one (run? w a (a + suc d)))
  where
    one : (t : Bool) → length {A = Record} (cond t (record_of w a (a + suc d) ∷ []) []) ≤ 1
    one true = omega arith
    one false = omega arith

-- ---- stores

pub flat_append : (xs ys : List Record) → flat (xs ++ ys) ≡ flat xs ++ flat ys
flat_append [] ys = refl
flat_append (x ∷ xs) ys = ap (λ (l : List ℕ). numbers_of x ++ l) (flat_append xs ys)

pub length-flat : (xs : List Record) → length (flat xs) ≡ stride * length xs
length-flat [] = refl
length-flat (x ∷ xs) = omega (arith, length-flat xs)

-- ---- one more boundary done

pub before_none : (w : List ℕ) → rows_before w 0 ≡ []
unfolding rows_before
before_none w = refl

pub before_more : (w : List ℕ) (a : ℕ) → rows_before w (a + 1) ≡ rows_before w a ++ rows_at w a (length w - a)
unfolding rows_before
before_more w a = rw (add-one a) refl

pub count_more : (w : List ℕ) (a : ℕ) → length (rows_before w (a + 1)) ≡ length (rows_before w a) + length (rows_at w a (length w - a))
count_more w a = ap length (before_more w a) ∙ length-append (rows_before w a) (rows_at w a (length w - a))
