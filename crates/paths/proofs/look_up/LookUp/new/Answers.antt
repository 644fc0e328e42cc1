-- `LookUp::new` meets its contract: its table has the keys of all runs, and none is noted yet. Assumes nothing.
use mathlib.Core.Path.{refl, sym}
use Rattle.periods.specs.Width.{symbols}
use Rattle.paths.proofs.Noting.{keys_long, keys_there, none_noted}
use Rattle.paths.proofs.look_up.LookUp.new.Goals as goal

pub slice_bounds-result-end : goal.slice_bounds-result-end
slice_bounds-result-end c = sym (keys_long (symbols c.args.w) _ _ c.list_keys-count.ensures)

pub invariant_of-result-clause-keyed : goal.invariant_of-result-clause-keyed
invariant_of-result-clause-keyed c = keys_there (symbols c.args.w) _ _ c.list_keys-count.ensures

pub invariant_of-result-clause-last : goal.invariant_of-result-clause-last
invariant_of-result-clause-last c = none_noted _ _ _ refl
