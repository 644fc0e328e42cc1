-- `slots::inner::visit` meets its contract: the loop keeps what holds while a boundary is taken (proofs/Turn.antt), by the steps of proofs/Turns.antt, and
-- proofs/Taken.antt has the end. Assumes nothing.
use mathlib.Core.Path.{◌≡◌, sym, subst}
use mathlib.Core.List.{List}
use Prim.Native.Nat.{ℕ, ◌+◌, ◌-◌, ◌*◌, ◌≤◌, ◌<◌}
use native.Mathlib.Omega.{arith}
use lib.ListN.{length, get_or, set, length-set}
use Rattle.runs.specs.declared.Record.{Record}
use Rattle.runs.specs.Table.{record_at}
use Rattle.factors.specs.Factorization.{Choice}
use Rattle.factors.specs.Table.{none, rows, offered}
use Rattle.factorizer.specs.Fill.{Workable}
use Rattle.factorizer.specs.Window.{RestKept}
use Rattle.slots.specs.Starts.{InRun, Readable}
use Rattle.slots.specs.Ready.{RunsIn, list_row, Ready, kept_lead, best_with}
use Rattle.slots.proofs.Tabled.{Tabled, tabled}
use Rattle.slots.proofs.Turn.{Turn, Numbers}
use Rattle.slots.proofs.Turns.{rest_offered, best_bound, numbers, step_over, step-take, step_reads}
use Rattle.slots.proofs.Taken.{taken_none, taken_reached}
use Rattle.slots.proofs.inner.visit.Goals as goal

-- what the loop keeps at one turn, of a word of n symbols
module _ (x : Choice) (w runs t : List ℕ) (n e lives : ℕ) (is : n ≡ length w)
    (V : Workable w t × RunsIn w runs × (1 ≤ e) × (e ≤ length w) × (lives ≤ length w)) (S : Ready x w runs (e + 1) e lives t) where
  W : Workable w t
  W = V.0

  some : 1 ≤ e
  some = V.2

  inside : e ≤ length w
  inside = V.3

  few : lives ≤ length w
  few = V.4

  found : Tabled w runs
  found = tabled w runs V.1

  module _ (u : List ℕ) (k kept best : ℕ) (U : Turn x w runs e lives t u k kept k best) where
    best_small : best ≤ e
    best_small = best_bound x w runs found e some inside lives few t W.1 S u k kept k best U

    module _ (h : k < lives) (r : Record) (q : r ≡ record_at runs (get_or u (list_row n + k) 0)) where
      row_is : r ≡ record_at runs (get_or u (list_row (length w) + k) 0)
      row_is = rw is at q

      run_numbers : Numbers w e r
      run_numbers = numbers x w runs found e some inside lives few t W.1 S u k kept best U h r row_is

      over : r.last < e → Turn x w runs e lives t u (k + 1) kept (k + 1) best
      over l = step_over x w runs found e some inside lives few t W.1 S u k kept best U h r row_is l

      taken : e ≤ r.last → (v : List ℕ) (b : ℕ)
          → v ≡ kept_lead x n (set u (list_row n + kept) (get_or u (list_row n + k) 0)) (r.first - 1) (2 * r.period) e
          → b ≡ best_with x n (set u (list_row n + kept) (get_or u (list_row n + k) 0)) (r.first - 1) (2 * r.period) e best
          → Turn x w runs e lives t v (k + 1) (kept + 1) (k + 1) b
      taken l v b f g = step-take x w runs found e some inside lives few t W.1 S u k kept best U h r row_is l v b (rw is at f) (rw is at g)

      in_run : InRun n (r.first - 1) (2 * r.period) e
      in_run =
          let N = run_numbers in
          (omega (arith, W.0), omega (arith, N.unit), omega (arith, N.small), omega (arith, N.starts, N.begun), omega arith)

      long : rows * (n + 1) ≤ length (set u (list_row n + kept) (get_or u (list_row n + k) 0))
      long = omega (arith, W.1, length-set u (list_row n + kept) (get_or u (list_row n + k) 0), U.rest.0)

      reads : e ≤ r.last → Readable n (set u (list_row n + kept) (get_or u (list_row n + k) 0)) (r.first - 1) (2 * r.period) e
      reads l = rw is (step_reads x w runs found e some inside lives few t W.1 S u k kept best U h r row_is l)

    -- after the loop all runs were taken
    module _ (h : lives ≤ k) (l : k ≤ lives) where
      all_taken : Turn x w runs e lives t u lives kept lives best
      all_taken = let z : k ≡ lives = omega arith in subst (λ (y : ℕ). Turn x w runs e lives t u y kept y best) z U

      none_offered : get_or u best 0 ≡ none → (kept ≤ lives) × Ready x w runs (e + 1) (e + 1) kept u
      none_offered z = (omega (arith, U.listing.fewer), taken_none x w runs found W.0 e some inside lives t S u kept best all_taken best_small z)

      one_offered : (get_or u best 0 ≡ none → ⊥) → (v : List ℕ) → v ≡ offered x e (n + 1 + e) (get_or u best 0 + 1) best u
          → (kept ≤ lives) × Ready x w runs (e + 1) (e + 1) kept v
      one_offered ne v f = (
        omega (arith, U.listing.fewer),
        taken_reached x w runs found W.0 e some inside lives t S u kept best all_taken best_small (omega (arith, W.1, U.rest.0)) ne v (rw is at f),
      )

      rest_after : (v : List ℕ) → v ≡ offered x e (n + 1 + e) (get_or u best 0 + 1) best u → RestKept (length w) t v
      rest_after v f =
          subst (RestKept (length w) t) (sym f)
          (rest_offered x (length w) e (n + 1 + e) (get_or u best 0 + 1) best t u (omega arith) (omega arith) U.rest)

pub loop-k-preserved-then-run-e : goal.loop-k-preserved-then-run-e
loop-k-preserved-then-run-e c =
    let T = over _ _ _ _ _ _ _ c.len-n.ensures c.requires.workable c.requires.ready _ _ _ _ c.loop-k.invariant.turn c.loop-k-test.true _ c.row-run.ensures c.if-run-e.true in
    record { turn = T; best_small = c.loop-k.invariant.best_small }

pub overflow_sub-a : goal.overflow_sub-a
overflow_sub-a c =
    (run_numbers _ _ _ _ _ _ _ c.len-n.ensures c.requires.workable c.requires.ready _ _ _ _ c.loop-k.invariant.turn c.loop-k-test.true _ c.row-run.ensures).starts

pub invariant_of-take : goal.invariant_of-take
invariant_of-take c =
    record { in_run = in_run _ _ _ _ _ _ _ c.len-n.ensures c.requires.workable c.requires.ready _ _ _ _ c.loop-k.invariant.turn c.loop-k-test.true _ c.row-run.ensures }

pub take-best-requires : goal.take-best-requires
take-best-requires c = (
  long _ _ _ _ _ _ _ c.len-n.ensures c.requires.workable c.requires.ready _ _ _ _ c.loop-k.invariant.turn c.loop-k-test.true _ c.row-run.ensures,
  omega arith,
  reads _ _ _ _ _ _ _ c.len-n.ensures c.requires.workable c.requires.ready _ _ _ _ c.loop-k.invariant.turn c.loop-k-test.true _ c.row-run.ensures c.if-run-e.false,
)

pub loop-k-preserved : goal.loop-k-preserved
loop-k-preserved c =
    let T = taken _ _ _ _ _ _ _ c.len-n.ensures c.requires.workable c.requires.ready _ _ _ _ c.loop-k.invariant.turn c.loop-k-test.true _ c.row-run.ensures c.if-run-e.false _ _
    c.take-best.ensures.work_after c.take-best.ensures.value in
    record { turn = T; best_small = best_small _ _ _ _ _ _ _ c.len-n.ensures c.requires.workable c.requires.ready _ _ _ _ T }

pub returns-then-size-clause-upper_bound : goal.returns-then-size-clause-upper_bound
returns-then-size-clause-upper_bound c =
    one_offered _ _ _ _ _ _ _ c.len-n.ensures c.requires.workable c.requires.ready _ _ _ _ c.loop-k.invariant.turn (omega arith) (omega arith) c.if-size.true _ c.offer.ensures

pub returns-then-size-clause-rest_kept : goal.returns-then-size-clause-rest_kept
returns-then-size-clause-rest_kept c =
    rest_after _ _ _ _ _ _ _ c.len-n.ensures c.requires.workable c.requires.ready _ _ _ _ c.loop-k.invariant.turn (omega arith) (omega arith) _ c.offer.ensures

pub returns-else-size-clause-upper_bound : goal.returns-else-size-clause-upper_bound
returns-else-size-clause-upper_bound c =
    none_offered _ _ _ _ _ _ _ c.len-n.ensures c.requires.workable c.requires.ready _ _ _ _ c.loop-k.invariant.turn (omega arith) (omega arith) c.if-size.false
