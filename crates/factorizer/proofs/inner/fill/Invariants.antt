-- `factorizer::inner::fill` meets its contract: its loop keeps `Windowed` of specs/Window.antt. Assumes nothing.
use lib.ListN.{length}
use Rattle.periods.specs.Period.{repetition?, held_period}
use Rattle.periods.specs.Edition.{turns_in}
use Rattle.periods.specs.Width.{symbols}
use Rattle.factors.specs.Choice.{choice_in}
use Rattle.factorizer.specs.Piece.{piece?}
use Rattle.factorizer.specs.Window.{window_of, Windowed, RestKept}
use Rattle.factorizer.proofs.inner.fill.Given as goal

abbrev pub invariant-loop-j : goal.invariant-loop-j
invariant-loop-j _ l =
    let w = symbols l.w in
    let k = turns_in l.edition in
    Windowed (choice_in l.asked) (piece? (repetition? held_period k) w) w (window_of k) l.j l.j l.unit l.work × RestKept (length w) l.initial.work l.work
