-- A piece is a square exactly where a run contains it and twice the unit of the run divides its length: `run_square`, `square_run`. A piece of a run of two units
-- or more has the run's unit, and a square has two units or more; the rest is periods/proofs/Squares.antt. Assumes nothing.
use mathlib.Core.Path.{◌≡◌, sym, ap, ◌∙◌}
use mathlib.Core.List.{List}
use Prim.Native.Nat.{ℕ, ◌+◌, ◌-◌, ◌*◌, ◌%◌, ◌≤◌, ◌<◌}
use native.Mathlib.Omega.{arith}
use lib.ListN.{length}
use Rattle.periods.specs.Period.{part, SmallestPeriod, smallest_period}
use Rattle.periods.specs.Square.{Square}
use Rattle.periods.proofs.InPlace.{symbol, placed_part, part_smallest_out}
use Rattle.periods.proofs.Claims.{smallest_period_is}
use Rattle.periods.proofs.Squares.{square_filled, unit_square, square_unit}
use Rattle.runs.specs.Run.{Run}
use Rattle.runs.proofs.InPlace.{piece_smallest, run_in, OneRun, one_run}
use Rattle.factorizer.specs.Piece.{Piece}
use Rattle.slots.proofs.Tops.{multiple_least}

module _ (w : List ℕ) where
  -- CLAIM: a piece of a run whose length is a multiple of two units is a square
  pub run_square : (first last p j e : ℕ) → Run w first last p → first ≤ j + 1 → e ≤ last → j < e → (e - j) % (2 * p) ≡ 0 → Piece Square w j e
  run_square first last p j e R a b l m =
      let two : 2 * p ≤ e - j = multiple_least (e - j) (2 * p) (omega arith) m in
      let inside : e ≤ length w = omega (arith, R.ends) in
      let S : SmallestPeriod (part w j e) p =
      part_smallest_out w j e p inside
      (piece_smallest (symbol w) (length w) (first - 1) last j e p (run_in w first last p R) (omega arith) b (omega arith)) in
      (inside, unit_square (part w j e) p S (ap (λ (x : ℕ). x % (2 * p)) (placed_part w j e inside).long ∙ m))

  -- the run of a square
  pub record SquareRun (j e : ℕ) : Type 0 where
    pub unit : ℕ
    pub run : OneRun w j e unit
    pub multiple : (e - j) % (2 * unit) ≡ 0

  -- CLAIM: a square lies in a run, twice the unit of which divides its length
  pub square_run : (j e : ℕ) → Piece Square w j e → SquareRun j e
  square_run j e (h, S) =
      let s = part w j e in
      let l : length s ≡ e - j = (placed_part w j e h).long in
      let U : SmallestPeriod s (smallest_period s) = smallest_period_is s (square_filled s S) in
      let m : length s % (2 * smallest_period s) ≡ 0 = square_unit s (smallest_period s) U S in
      record {
        unit = smallest_period s;
        run = one_run w j e (smallest_period s) h U (multiple_least (length s) (2 * smallest_period s) (square_filled s S) m);
        multiple = ap (λ (x : ℕ). x % (2 * smallest_period s)) (sym l) ∙ m;
      }
