-- `LookUp::locate` meets its contract: what is noted at the unit is the last run with it that starts at or before the piece. Assumes nothing.
use mathlib.Core.Path.{ap, ◌∙◌}
use Prim.Native.Nat.{◌<◌}
use native.Mathlib.Omega.{arith}
use lib.ListN.{length, get_or}
use Rattle.periods.specs.Period.{block_unit}
use Rattle.periods.specs.Edition.{turns_in}
use Rattle.periods.specs.Width.{symbols}
use Rattle.runs.specs.Listing.{key_step}
use Rattle.paths.specs.LookUp.{Found}
use Rattle.paths.proofs.Noting.{unit_held, noted_latest}
use Rattle.paths.proofs.look_up.LookUp.locate.Goals as goal

pub offset_bounds-self-unit : goal.offset_bounds-self-unit
offset_bounds-self-unit c = omega (arith, c.block_unit-unit.ensures, unit_held (turns_in c.args.edition) (symbols c.part.result))

pub bounds-self-unit : goal.bounds-self-unit
bounds-self-unit c = omega (arith, c.block_unit-unit.ensures, unit_held (turns_in c.args.edition) (symbols c.part.result))

pub returns-clause-found : goal.returns-clause-found
returns-clause-found c =
    let s = c.note.new.self in
    let n = c.note.ensures in
    let u = c.block_unit-unit in
    let small : u.result < key_step = omega (arith, u.ensures, unit_held (turns_in c.args.edition) (symbols c.part.result)) in
    let f : Found (turns_in c.args.edition) (symbols s.w) s.before c.args.end u.result (get_or s.latest u.result 0) = record {
      is_unit = u.ensures ∙ ap (block_unit (turns_in c.args.edition)) c.part.ensures;
      is_number = λ h. noted_latest (symbols s.w) s.keys.now (length s.keys.now) s.before _ _ s.keyed s.last n.next_later u.result h small;
    } in
    rw (n.word, n.boundary) at f
