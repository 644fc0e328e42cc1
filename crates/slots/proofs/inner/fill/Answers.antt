-- `slots::inner::fill` meets its contract: its loop keeps `Ready` of specs/Ready.antt, and the runs before the next one start before the boundary. Assumes
-- nothing.
use mathlib.Core.Path.{◌≡◌, ap, ◌∙◌}
use mathlib.Core.List.{List}
use Prim.Native.Nat.{ℕ, ◌+◌, ◌-◌, ◌≤◌, ◌<◌}
use native.Mathlib.Omega.{arith}
use lib.ListN.{length}
use Rattle.runs.specs.Table.{runs_of, record_at}
use Rattle.factors.specs.Factorization.{Choice}
use Rattle.factors.specs.Choice.{choice_in}
use Rattle.factors.specs.Table.{started, filled}
use Rattle.factors.proofs.Lent.{lent}
use Rattle.periods.specs.Width.{symbols}
use Rattle.periods.specs.Square.{square?}
use Rattle.factorizer.specs.Piece.{piece?}
use Rattle.factorizer.specs.Fill.{Workable}
use Rattle.factorizer.specs.Window.{RestKept}
use Rattle.factorizer.proofs.FillLaws.{second, fourth, zeros, begun, begun_from, begun_kept, filled_from}
use Rattle.slots.specs.Ready.{RunsIn, Ready, Admitted, Added}
use Rattle.slots.proofs.Tabled.{Tabled, tabled}
use Rattle.slots.proofs.Admitting.{ready_starts, admitted_ready, ready_ends}
use Rattle.slots.proofs.inner.fill.Goals as goal

module _ (x : Choice) (w runs t : List ℕ) (n : ℕ) (is : n ≡ length w) (W : Workable w t) (I : RunsIn w runs) where
  found : Tabled w runs
  found = tabled w runs I

  -- the table at the head of the loop, where s and z are what was left of it and of row 1
  module _ (s z : List ℕ) (f : s ≡ started n t) (g : z ≡ zeros s (n + 1) (second n)) where
    begun_by : lent s (n + 1) (second n) z ≡ begun w t
    begun_by = rw is (begun_from w t s z (rw is at f) (rw is at g))

    starts : Ready x w runs 1 1 0 (lent s (n + 1) (second n) z)
    starts = rw begun_by (ready_starts x w runs t found W.1)

    starts_kept : RestKept (length w) t (lent s (n + 1) (second n) z)
    starts_kept = rw begun_by (begun_kept w t W.1)

  module _ (u : List ℕ) (kept : RestKept (length w) t u) where
    -- the runs that were admitted
    module _ (e next lives count r : ℕ) (v : List ℕ) (many : count ≡ length (runs_of w)) (A : Admitted runs count e next r) (D : Added n lives next r u v) where
      workable : Workable w v
      workable = (W.0, omega (arith, W.1, kept.0, D.long))

      few_lives : lives ≤ next → lives + (r - next) ≤ length w
      few_lives l = omega (arith, A.low, A.high, found.few)

      ready : e ≤ length w → ((i : ℕ) → i < next → (record_at runs i).first < e) → Ready x w runs e e lives u → Ready x w runs (e + 1) e (lives + (r - next)) v
      ready h before S = admitted_ready x w runs found e next r lives u v h before (rw many at A) (rw is at D) S

    -- the last two rows are cleared
    ended : (e lives : ℕ) (r : List ℕ) → n < e → Ready x w runs e e lives u → r ≡ zeros u (second n) (fourth n)
        → lent u (second n) (fourth n) r ≡ filled x (piece? square? w) (length w) t
    ended e lives r h S q =
        ap (lent u (second n) (fourth n)) q
        ∙ rw is (filled_from x (piece? square? w) w t u W.1 kept (ready_ends x w runs e e lives u (omega arith) S))

pub loop-e-init : goal.loop-e-init
loop-e-init _ c =
    let z = c.fill.ensures.after (λ y e. e) in
    record {
      next_fits = omega arith;
      few_lives = omega arith;
      before = λ i h. absurd (omega arith);
      ready = starts _ _ _ _ _ c.len-n.ensures c.requires.0 c.requires.1 _ _ c.start.ensures z;
      rest = starts_kept (choice_in c.choice-asked.result) _ _ _ _ c.len-n.ensures c.requires.0 c.requires.1 _ _ c.start.ensures z;
    }

pub admit-upto-requires : goal.admit-upto-requires
admit-upto-requires _ c =
    let l = c.loop-e.invariant in (
      omega (arith, c.requires.0.0),
      omega (arith, c.requires.2, (tabled _ _ c.requires.1).few),
      omega (arith, c.requires.2, c.requires.1.0),
      l.next_fits,
      l.few_lives,
      omega (arith, c.requires.0.1, l.rest.0),
    )

pub visit-lives-requires-clause-workable : goal.visit-lives-requires-clause-workable
visit-lives-requires-clause-workable _ c =
    let l = c.loop-e.invariant in
    let a = c.admit-upto.ensures in
    let x = choice_in c.choice-asked.result in (
      workable x _ _ _ _ c.len-n.ensures c.requires.0 c.requires.1 _ l.rest _ _ _ _ _ _ c.requires.2 a.admitted a.added,
      c.requires.1,
      omega arith,
      omega arith,
      few_lives x _ _ _ _ c.len-n.ensures c.requires.0 c.requires.1 _ l.rest _ _ _ _ _ _ c.requires.2 a.admitted a.added l.few_lives,
    )

pub visit-lives-requires-clause-ready : goal.visit-lives-requires-clause-ready
visit-lives-requires-clause-ready _ c =
    let l = c.loop-e.invariant in
    let a = c.admit-upto.ensures in
    ready _ _ _ _ _ c.len-n.ensures c.requires.0 c.requires.1 _ l.rest _ _ _ _ _ _ c.requires.2 a.admitted a.added (omega arith) l.before l.ready

pub returns : goal.returns
returns _ c =
    let l = c.loop-e.invariant in
    ended _ _ _ _ _ c.len-n.ensures c.requires.0 c.requires.1 _ l.rest c.loop-e.e c.loop-e.lives _ (omega arith) l.ready (c.fill-2.ensures.after (λ y e. e))
    ∙ ap (λ (x : Choice). filled x (piece? square? (symbols c.args.w)) (length (symbols c.args.w)) c.args.work.now) c.choice-asked.ensures
