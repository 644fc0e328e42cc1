-- `list_keys` meets its contract. Assumes nothing.
use Rattle.periods.specs.Width.{symbols}
use Rattle.paths.proofs.Noting.{keys_listed}
use Rattle.paths.proofs.look_up.list_keys.Goals as goal

pub returns : goal.returns
returns c =
    let g = c.args in
    let l = c.list in
    keys_listed (symbols g.w) g.keys.now _ _ c.requires.0 c.requires.1 l.auto.table l.ensures.value l.ensures.table_after
