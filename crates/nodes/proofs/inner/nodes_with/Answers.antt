-- `nodes::inner::nodes_with` meets its contract: the marks that are listed are those of all runs, so what is picked among them are the nodes. The first call of `pick`
-- has no places to write to and only counts. Assumes nothing.
use mathlib.Core.Path.{◌≡◌, refl, ap, ◌∙◌}
use mathlib.Core.List.{List, [], ◌∷◌}
use Prim.Native.Nat.{ℕ, ◌≤◌, ◌<◌}
use native.Mathlib.Omega.{arith}
use borrow.Author.Tests.{lt-ltb, le-ltb}
use lib.ListN.{length, take, replicate, length-replicate}
use lib.Seq.{sets}
use Rattle.laws.proofs.Stores.{sets-front}
use Rattle.answers.specs.declared.Refusal.TheVariants.{TooFewPlaces}
use Rattle.answers.specs.Outcome.{accepted, refusal, limit}
use Rattle.periods.specs.declared.edition.Edition as known
use Rattle.periods.specs.Period.{held_period}
use Rattle.periods.specs.Edition.{turns_in}
use Rattle.runs.specs.declared.Listing.TheVariants.{Marks}
use Rattle.runs.specs.Table.{runs_of}
use Rattle.runs.proofs.Few.{table_at_most}
use Rattle.halves.specs.Scratch.{listed}
use Rattle.nodes.specs.Node.{nodes_at}
use Rattle.nodes.specs.Inner.{marked, listed_outcome, listed_table}
use Rattle.nodes.proofs.WhiteNodes.{nodes_at-most}
use Rattle.nodes.proofs.Marks.{marks_picked}
use Rattle.nodes.proofs.inner.nodes_with.Goals as goal

-- u is the table of marks, of which count are listed, and so many numbers are found among them
module _ (w u t : List ℕ) (e : known.Edition) (k x room count found : ℕ) (turns : k ≡ turns_in e) (fits : length w ≤ room) (is : count ≡ length (runs_of w))
    (marks : u ≡ listed (Marks k x) w (replicate room 0)) (found_is : found ≡ length (marked 0 (take count u))) where
  abbrev numbers : List ℕ
  numbers = nodes_at held_period (turns_in e) w x

  picked : marked 0 (take count u) ≡ numbers
  picked = marks_picked w (replicate room 0) u k x count (omega (arith, length-replicate {A = ℕ} room 0)) is marks ∙ ap (λ (j : ℕ). nodes_at held_period j w x) turns

  counted : found ≡ length numbers
  counted = found_is ∙ ap length picked

  few : length w ≤ limit → found ≤ limit
  few h = omega (arith, counted, nodes_at-most (turns_in e) w x, table_at_most w)

  short : length t < found → (refusal TooFewPlaces ≡ listed_outcome numbers (length t)) × (t ≡ listed_table numbers t)
  short h = let f = lt-ltb (length t) (length numbers) (omega (arith, counted)) in rw f (refl, refl)

  enough : found ≤ length t → (v : List ℕ) → v ≡ sets t 0 (marked 0 (take count u))
      → (accepted (found ∷ []) ≡ listed_outcome numbers (length t)) × (v ≡ listed_table numbers t)
  enough h v f =
      let g = le-ltb (length t) (length numbers) (omega (arith, counted)) in
      rw g (ap (λ (n : ℕ). accepted (n ∷ [])) counted, rw picked at f ∙ sets-front t numbers (omega (arith, counted)))

pub returns-then-table-found : goal.returns-then-table-found
returns-then-table-found g c =
    let l = c.list-count.ensures in
    let r = short _ _ c.args.table.now c.args.edition _ c.args.x g.row.ROOM _ _ c.turns.ensures (omega arith) l.value l.table_after c.pick-found.ensures.value c.if-table-found.true in
    record { result_value = r.0; table_after = r.1 }

pub overflow_cast-result : goal.overflow_cast-result
overflow_cast-result g c =
    let l = c.list-count.ensures in
    omega (arith, few _ _ c.args.table.now c.args.edition _ c.args.x g.row.ROOM _ _ c.turns.ensures (omega arith) l.value l.table_after c.pick-found.ensures.value (omega arith))

pub returns : goal.returns
returns g c =
    let l = c.list-count.ensures in
    let r = enough _ _ c.args.table.now c.args.edition _ c.args.x g.row.ROOM _ _ c.turns.ensures (omega arith) l.value l.table_after c.pick-found.ensures.value c.if-table-found.false _ c.pick.ensures.out_after in
    record { result_value = r.0; table_after = r.1 }
