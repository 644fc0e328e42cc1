-- The tests of repetitions and of squares decide what they test, and in a window the unit of a part tells whether it is a block: its turns fit into the part.
-- The rule of an edition's number asks for the turns of that number (`rule_by_turns`). Assumes nothing.
use mathlib.Core.Path.{◌≡◌, refl, sym, ◌∙◌}
use mathlib.Core.Bool.{Bool, true, false, cond, ◌&&◌, and-true}
use mathlib.Core.List.{List}
use Prim.Native.Nat.{ℕ, ◌+◌, ◌*◌, ◌≤◌, ◌<◌}
use native.Mathlib.Omega.{arith}
use native.Mathlib.Decide.{dec_le}
use native.Mathlib.Nat.{mul-le-mul_left}
use borrow.Author.Tests.{le-leb, lt-leb}
use lib.Dec.{leb, eqb}
use lib.ListN.{length}
use Rattle.periods.specs.Period.{smallest_period, Repetition, repetition?, unit_memory, held_period}
use Rattle.periods.specs.Square.{Square, square?}
use Rattle.periods.specs.Edition.{Turns, turns_of}
use Rattle.periods.proofs.Claims.{repetition_by_unit, repetition_sound, repetition_complete}
use Rattle.periods.proofs.Squares.{square_sound, square_complete, square_filled}
use Rattle.periods.specs.declared.edition.Edition.TheVariants.{First, Second}
use Rattle.factorizer.specs.declared.Rule.TheVariants.{Repetition as by_edition}
use Rattle.factorizer.specs.Rule.{rule_of, block_by}
use Rattle.factorizer.specs.Piece.{Decides}
use Rattle.factorizer.specs.Window.{window_of}

-- CLAIM: the tests of both kinds decide what they test
pub repetition_decides : (allowed : ℕ → Bool) (k : ℕ) → Decides (Repetition allowed k) (repetition? allowed k)
repetition_decides allowed k = record {
  sound = λ s. repetition_sound allowed k s;
  complete = λ s. repetition_complete allowed k s;
  some = λ s R. omega (arith, R.smallest.period.positive, R.smallest.period.fits);
}

pub square_decides : Decides Square square?
square_decides = record { sound = square_sound; complete = square_complete; some = square_filled }

-- CLAIM: within a window the length and the unit of a part decide whether it is a block: a unit that memory does not hold has not its turns there
pub block_by_unit : (k : ℕ) → Turns k → (s : List ℕ) → 0 < length s → length s ≤ window_of k → leb (k * smallest_period s) (length s) ≡ repetition? held_period k s
block_by_unit k turns s h l = sym (repetition_by_unit held_period k s h ∙ go (dec_le (smallest_period s) unit_memory))
  where
    go : Dec (smallest_period s ≤ unit_memory) → (leb (k * smallest_period s) (length s) && held_period (smallest_period s)) ≡ leb (k * smallest_period s) (length s)
    go (yes x) = rw (le-leb (smallest_period s) unit_memory x) (and-true (leb (k * smallest_period s) (length s)))
    go (no x) =
        let above : unit_memory + 1 ≤ smallest_period s = omega arith in
        rw (lt-leb (k * smallest_period s) (length s) (omega (arith, turns.0, mul-le-mul_left k above))) refl

-- CLAIM: the rule for the blocks of an edition, by its number, asks for the turns of that number
pub rule_by_turns : (e : ℕ) → block_by (rule_of e) ≡ repetition? held_period (turns_of e)
unfolding turns_of
rule_by_turns e = go (eqb e 1)
  where
    go : (t : Bool) → block_by (by_edition (cond t First Second)) ≡ repetition? held_period (cond t 2 3)
    go true = refl
    go false = refl
