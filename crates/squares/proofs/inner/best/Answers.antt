-- `squares::inner::best` meets its contract: each way out is the case of the definitions that its tests lead to, what `finish` hands out from the filled table is the
-- best split, and `squares_means` says what that means. Assumes nothing.
use mathlib.Core.Path.{◌≡◌}
use mathlib.Core.List.{List}
use Prim.Native.Nat.{ℕ, ◌+◌, ◌*◌, ◌≤◌, ◌<◌}
use native.Mathlib.Omega.{arith}
use lib.ListN.{length, get_or}
use Rattle.std.specs.Prelude.{Ok, Err}
use Rattle.std.proofs.lemmas.Result.{err_from_is_err_and}
use Rattle.answers.specs.declared.Refusal.{Refusal}
use Rattle.answers.specs.Outcome.{Outcome, refused, refusal, limit}
use Rattle.periods.specs.Square.{square?}
use Rattle.factors.specs.declared.Choice as known
use Rattle.factors.specs.Choice.{choice_in, choice_named}
use Rattle.factors.specs.Table.{rows, filled}
use Rattle.factors.proofs.Choices.{choice_known, choice_meant, choice_refused, refusal_known}
use Rattle.factorizer.specs.Piece.{piece?}
use Rattle.factorizer.specs.Fill.{Readable, handed_outcome, handed_ends, cleared_row}
use Rattle.factorizer.proofs.BestClaims.{chosen_bad_choice, chosen_short, chosen_given, settled_ensured}
use Rattle.factorizer.proofs.Filled.{given_readable, given_finished}
use Rattle.squares.proofs.CallClaims.{Promised, promised_long, promised_chosen, squares_given}
use Rattle.squares.proofs.inner.best.Goals as goal

-- the promises at each way out, for a number n that is the word's length
module _ (w : List ℕ) (choice : ℕ) (e t : List ℕ) (n : ℕ) (is : n ≡ length w) where
  long : limit < n → Promised w choice e t (refused 1 0) e t
  long h = promised_long w choice e t (omega arith)

  module _ (h : n ≤ limit) where
    bad : (r : Refusal) → Err r ≡ choice_named choice → Promised w choice e t (refusal r) e t
    bad r f =
        rw (refusal_known choice r f)
        (promised_chosen w choice e t (omega arith) _ _ _ (chosen_bad_choice square? w choice e t (choice_refused choice r f)))

    module _ (x : known.Choice) (f : Ok x ≡ choice_named choice) where
      small : length t < rows * (n + 1) → Promised w choice e t (refused 9 0) e t
      small l = promised_chosen w choice e t (omega arith) _ _ _ (chosen_short square? w choice e t (choice_known choice x f) (omega arith))

      -- what `finish` is given, and what it gives
      module _ (room : rows * (n + 1) ≤ length t) (u : List ℕ) (by : u ≡ filled (choice_in x) (piece? square? w) (length w) t) where
        readable : Readable n u
        readable = rw is (given_readable square? w choice t u (omega arith) (omega arith) (rw (choice_meant choice x f) at by))

        settled : (o : Outcome) (y z : List ℕ) → o ≡ handed_outcome (get_or u n 0) (length e) → y ≡ handed_ends n u e → z ≡ cleared_row n u
            → Promised w choice e t o y z
        settled o y z p q r =
            promised_chosen w choice e t (omega arith) _ _ _
            (chosen_given square? w choice e t _ _ _
            (settled_ensured square? w choice e t (choice_known choice x f) (omega arith) _ _ _
            (given_finished square? w choice t u (omega arith) (omega arith) (rw (choice_meant choice x f) at by) e o y z (rw is at p, (rw is at q, rw is at r)))))

pub returns-then-n-gt-LIMIT : goal.returns-then-n-gt-LIMIT
returns-then-n-gt-LIMIT c =
    let g = c.args in
    let P = long _ g.choice g.ends.now g.work.now _ c.len-n.ensures c.if-n-gt-LIMIT.true in
    record { result_value = P.answer; ends_after = P.ends; work_after = P.work; squares_meaning = squares_given _ _ _ _ _ _ _ P }

pub returns-in_err-choice : goal.returns-in_err-choice
returns-in_err-choice c =
    let g = c.args in
    let e = err_from_is_err_and c.from_residual.result c.from_residual.ensures.1 in
    let P = bad _ g.choice g.ends.now g.work.now _ c.len-n.ensures c.if-n-gt-LIMIT.false _ c.in_err-choice.ensures in
    rw (e.1, e.2) record { result_value = P.answer; ends_after = P.ends; work_after = P.work; squares_meaning = squares_given _ _ _ _ _ _ _ P }

pub returns-then-work-n : goal.returns-then-work-n
returns-then-work-n c =
    let g = c.args in
    let P = small _ g.choice g.ends.now g.work.now _ c.len-n.ensures c.if-n-gt-LIMIT.false _ c.in_ok-choice.ensures c.if-work-n.true in
    record { result_value = P.answer; ends_after = P.ends; work_after = P.work; squares_meaning = squares_given _ _ _ _ _ _ _ P }

pub finish-requires : goal.finish-requires
finish-requires c = readable _ c.args.choice c.args.ends.now c.args.work.now _ c.len-n.ensures c.if-n-gt-LIMIT.false _ c.in_ok-choice.ensures c.if-work-n.false _ c.fill.ensures

pub returns : goal.returns
returns c =
    let g = c.args in
    let F = c.finish.ensures in
    let P = settled _ g.choice g.ends.now g.work.now _ c.len-n.ensures c.if-n-gt-LIMIT.false _ c.in_ok-choice.ensures c.if-work-n.false _ c.fill.ensures _ _ _
    F.result_value F.ends_after F.work_after in
    record { result_value = P.answer; ends_after = P.ends; work_after = P.work; squares_meaning = squares_given _ _ _ _ _ _ _ P }
