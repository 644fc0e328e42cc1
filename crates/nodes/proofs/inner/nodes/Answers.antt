-- `nodes::inner::nodes` meets its contract: each way out is the case of `nodes_outcome` that its tests lead to, and `nodes_mean` says what that means. Assumes nothing.
use mathlib.Core.Path.{◌≡◌, ◌∙◌}
use mathlib.Core.List.{List}
use Prim.Native.Nat.{ℕ, ◌≤◌, ◌<◌}
use native.Mathlib.Omega.{arith}
use lib.ListN.{length}
use Rattle.std.specs.Prelude.{Ok, Err}
use Rattle.std.proofs.lemmas.Result.{err_from_is_err_and}
use Rattle.answers.specs.declared.Refusal.{Refusal}
use Rattle.answers.specs.Outcome.{Outcome, refused, refusal, limit}
use Rattle.periods.specs.declared.edition.Edition as known
use Rattle.periods.specs.Period.{held_period}
use Rattle.periods.specs.Edition.{edition_of, turns_in}
use Rattle.periods.specs.Width.{symbols}
use Rattle.periods.proofs.Editions.{edition_known, turns_known, edition_refused, refusal_known}
use Rattle.nodes.specs.Node.{nodes_at}
use Rattle.nodes.specs.Inner.{listed_outcome, listed_table}
use Rattle.nodes.proofs.CallClaims.{NodesGive, nodes_too_long, nodes_bad_edition, nodes_outside, nodes_passed, nodes_given}
use Rattle.nodes.proofs.inner.nodes.Goals as goal

module _ (w : List ℕ) (edition x : ℕ) (t : List ℕ) (n : ℕ) (is : n ≡ length w) where
  long : limit < n → NodesGive w edition x t (refused 1 0) t
  long h = nodes_too_long w edition x t (omega arith)

  module _ (h : n ≤ limit) where
    bad : (r : Refusal) → Err r ≡ edition_of edition → NodesGive w edition x t (refusal r) t
    bad r f = rw (refusal_known edition r f) (nodes_bad_edition w edition x t (omega arith) (edition_refused edition r f))

    module _ (e : known.Edition) (f : Ok e ≡ edition_of edition) where
      outside : ((1 ≤ x) × (x ≤ n) → ⊥) → NodesGive w edition x t (refused 6 0) t
      outside k = nodes_outside w edition x t (omega arith) (edition_known edition e f) (λ i. k (i.0, omega (arith, i.1)))

      passed : 1 ≤ x → x ≤ n → (o : Outcome) (u : List ℕ) → o ≡ listed_outcome (nodes_at held_period (turns_in e) w x) (length t)
          → u ≡ listed_table (nodes_at held_period (turns_in e) w x) t → NodesGive w edition x t o u
      passed a b o u p q =
          let g = nodes_passed w edition x t (omega arith) (edition_known edition e f) (a, omega arith) in
          (rw (turns_known edition e f) at p ∙ g.0, rw (turns_known edition e f) at q ∙ g.1)

pub returns-then-n-gt-LIMIT : goal.returns-then-n-gt-LIMIT
returns-then-n-gt-LIMIT c =
    let g = c.args in
    let P = long (symbols g.w) g.edition g.position g.table.now _ c.len-n.ensures c.if-n-gt-LIMIT.true in
    record { result_value = P.0; table_after = P.1; nodes_meaning = nodes_given _ _ _ _ _ _ P }

pub returns-in_err-edition : goal.returns-in_err-edition
returns-in_err-edition c =
    let g = c.args in
    let e = err_from_is_err_and c.from_residual.result c.from_residual.ensures.1 in
    let P = bad (symbols g.w) g.edition g.position g.table.now _ c.len-n.ensures c.if-n-gt-LIMIT.false _ c.in_err-edition.ensures in
    rw (e.1, e.2) record { result_value = P.0; table_after = P.1; nodes_meaning = nodes_given _ _ _ _ _ _ P }

pub returns-then-place-lt1 : goal.returns-then-place-lt1
returns-then-place-lt1 c =
    let g = c.args in
    let P = outside (symbols g.w) g.edition g.position g.table.now _ c.len-n.ensures c.if-n-gt-LIMIT.false _ c.in_ok-edition.ensures (λ i. omega (arith, i, c.then-place-lt1.either)) in
    record { result_value = P.0; table_after = P.1; nodes_meaning = nodes_given _ _ _ _ _ _ P }

pub returns-then-n-le-SHORT : goal.returns-then-n-le-SHORT
returns-then-n-le-SHORT c =
    let g = c.args in
    let e = c.nodes_with.ensures in
    let P = passed (symbols g.w) g.edition g.position g.table.now _ c.len-n.ensures c.if-n-gt-LIMIT.false _ c.in_ok-edition.ensures c.if-place-lt1.false c.if-n-place.false _ _ e.result_value e.table_after in
    record { result_value = P.0; table_after = P.1; nodes_meaning = nodes_given _ _ _ _ _ _ P }

pub returns-then-n-le-MIDDLE : goal.returns-then-n-le-MIDDLE
returns-then-n-le-MIDDLE c =
    let g = c.args in
    let e = c.nodes_with-then-n-le-MIDDLE.ensures in
    let P = passed (symbols g.w) g.edition g.position g.table.now _ c.len-n.ensures c.if-n-gt-LIMIT.false _ c.in_ok-edition.ensures c.if-place-lt1.false c.if-n-place.false _ _ e.result_value e.table_after in
    record { result_value = P.0; table_after = P.1; nodes_meaning = nodes_given _ _ _ _ _ _ P }

pub returns : goal.returns
returns c =
    let g = c.args in
    let e = c.nodes_with-2.ensures in
    let P = passed (symbols g.w) g.edition g.position g.table.now _ c.len-n.ensures c.if-n-gt-LIMIT.false _ c.in_ok-edition.ensures c.if-place-lt1.false c.if-n-place.false _ _ e.result_value e.table_after in
    record { result_value = P.0; table_after = P.1; nodes_meaning = nodes_given _ _ _ _ _ _ P }
