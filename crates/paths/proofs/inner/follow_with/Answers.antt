-- `paths::inner::follow_with` meets its contract: its loop keeps which pairs are left, and that the verdict on their blocks is the verdict on all. Assumes
-- nothing.
use mathlib.Core.Path.{◌≡◌, sym, ap, ◌∙◌}
use mathlib.Core.Logic.{◌≢◌}
use mathlib.Core.Bool.{Bool, true, false}
use mathlib.Core.List.{List, [], ◌∷◌}
use Prim.Native.Nat.{ℕ, suc, ◌+◌, ◌/◌, ◌%◌, ◌≤◌, ◌<◌}
use native.Mathlib.Omega.{arith}
use borrow.Author.Tests.{eq-eqb, ne_eqb}
use lib.Dec.{eqb}
use lib.ListN.{length, get_or, drop, length-drop}
use Rattle.answers.specs.Outcome.{accepted, refused}
use Rattle.periods.specs.Period.{held_period}
use Rattle.periods.specs.Edition.{turns_in}
use Rattle.periods.specs.declared.edition.Edition.{Edition}
use Rattle.periods.specs.Width.{symbols}
use Rattle.periods.proofs.Editions.{turns_in_range}
use Rattle.factors.specs.Verdict.{bad_end?}
use Rattle.factors.proofs.Judging.{end_fits, judged_from, judged_first, judged_bad_end, judged_no_block, judged_block, judged_unfinished, judged_finished}
use Rattle.paths.specs.Graph.{ends_of_pairs}
use Rattle.paths.specs.LookUp.{Found}
use Rattle.paths.specs.Calls.{segment?}
use Rattle.paths.proofs.PathJudgeClaims.{length-ends_of_pairs, end_given}
use Rattle.paths.proofs.Noting.{piece_no_block, piece_compared}
use Rattle.paths.proofs.PairByPair.{NextPair, next_pair}
use Rattle.paths.proofs.inner.follow_with.Goals as goal
use Rattle.paths.proofs.inner.follow_with.Goals.{then-found-eq0-via-then-found-eq0, then-found-eq0-via-else-found-eq0+then-found-pair}

-- the word, of n symbols, the numbers, and the pair of the next piece
module _ (w numbers : List ℕ) (e : Edition) (n before k : ℕ) (pair rest : List ℕ) (size : n ≡ length w) (P : NextPair numbers k pair rest) where
  abbrev test : ℕ → ℕ → ℕ → Bool
  test = segment? held_period (turns_in e) w numbers

  abbrev run : ℕ
  run = get_or pair 0 0

  abbrev end : ℕ
  end = get_or pair 1 0

  inside : k < length (ends_of_pairs numbers)
  inside = omega (arith, P.there, length-ends_of_pairs numbers)

  end_is : end ≡ get_or (ends_of_pairs numbers) k 0
  end_is = P.end ∙ sym (end_given numbers k P.there)

  -- the test of the end in terms of the word's length
  tested : (b r : Bool) → r ≡ bad_end? n before end → r ≡ b → bad_end? (length w) before end ≡ b
  tested b r a f = ap (λ (m : ℕ). bad_end? m before end) (sym size) ∙ sym a ∙ f

  misplaced : (r : Bool) → r ≡ bad_end? n before end → r ≡ true → refused 3 (k + 1) ≡ judged_from test (length w) (ends_of_pairs numbers) k before
  misplaced r a h = judged_bad_end test (length w) (ends_of_pairs numbers) k before end inside end_is (tested true r a h)

  module _ (r : Bool) (tells : r ≡ bad_end? n before end) (well : r ≡ false) where
    fits : (before < end) × (end ≤ length w)
    fits = end_fits (length w) before end (tested false r tells well)

    module _ (unit number : ℕ) (found : Found (turns_in e) w before end unit number) where
      compared : 1 ≤ unit → test (suc k) before end ≡ eqb number run
      compared h = piece_compared (turns_in e) w before end fits.0 fits.1 (turns_in_range e).0 numbers k unit number P.there found h ∙ ap (eqb number) (sym P.run)

      no_block : test (suc k) before end ≡ false → refused 4 (k + 1) ≡ judged_from test (length w) (ends_of_pairs numbers) k before
      no_block h = judged_no_block test (length w) (ends_of_pairs numbers) k before end inside end_is (tested false r tells well) h

      not_found : unit ≡ 0 → refused 4 (k + 1) ≡ judged_from test (length w) (ends_of_pairs numbers) k before
      not_found h = no_block (piece_no_block (turns_in e) w before end fits.0 fits.1 (turns_in_range e).0 numbers k unit number P.there found h)

      differs : 1 ≤ unit → number ≢ run → refused 4 (k + 1) ≡ judged_from test (length w) (ends_of_pairs numbers) k before
      differs h u = no_block (compared h ∙ ne_eqb number run u)

      goes_on : 1 ≤ unit → number ≡ run → judged_from test (length w) (ends_of_pairs numbers) (k + 1) end ≡ judged_from test (length w) (ends_of_pairs numbers) k before
      goes_on h a = judged_block test (length w) (ends_of_pairs numbers) k before end inside end_is (tested false r tells well) (compared h ∙ eq-eqb number run a)

-- the numbers that are left are fewer than a pair
none_left : (numbers left : List ℕ) (k : ℕ) → left ≡ drop (k + k) numbers → k + k ≤ length numbers → length left < 2 → length numbers % 2 ≡ 0 → k ≡ length numbers / 2
none_left numbers left k is within few even = omega (arith, ap length is, length-drop (k + k) numbers)

pub loop-k-init : goal.loop-k-init
loop-k-init g c =
    let q = c.chunks_exact.ensures in
    let n = c.enumerate-k-items.ensures in
    rw (c.into_iter-k-iterator.ensures.into_iter_gives, n.source, n.count, c.new-look_up.ensures.start)
    (q.size, q.rest, omega arith, c.new-look_up.ensures.word, omega arith, judged_first (segment? held_period (turns_in c.args.edition) (symbols c.args.w) c.args.numbers.now) (length (symbols c.args.w)) (ends_of_pairs c.args.numbers.now))

pub returns-then-bad_end : goal.returns-then-bad_end
returns-then-bad_end g c =
    let w = symbols c.args.w in
    let l = c.loop-k in
    let s = c.in-Some.ensures.steps in
    let P = next_pair c.args.numbers.now l.k-iterator.count c.in-Some.pair.now c.next.new.self.iter.rest.now l.k-iterator.iter.rest.now l.invariant.1 l.invariant.2 s.0.1.0 (s.0.1.1 ∙ l.invariant.0) in
    ap (λ (m : ℕ). refused 3 (m + 1)) s.1
    ∙ misplaced w c.args.numbers.now c.args.edition c.len-n.result l.look_up.before l.k-iterator.count c.in-Some.pair.now _ c.len-n.ensures P _ c.bad_end.ensures c.if-bad_end.true
    ∙ l.invariant.5

pub returns-then-found-eq0 : goal.returns-then-found-eq0
returns-then-found-eq0 g c =
    let w = symbols c.args.w in
    let l = c.loop-k in
    let s = c.in-Some.ensures.steps in
    let P = next_pair c.args.numbers.now l.k-iterator.count c.in-Some.pair.now c.next.new.self.iter.rest.now l.k-iterator.iter.rest.now l.invariant.1 l.invariant.2 s.0.1.0 (s.0.1.1 ∙ l.invariant.0) in
    let f = c.locate-found in
    let found = rw l.invariant.3 at f.ensures.found in
    let zero = not_found w c.args.numbers.now c.args.edition c.len-n.result l.look_up.before l.k-iterator.count c.in-Some.pair.now _ c.len-n.ensures P _ c.bad_end.ensures c.if-bad_end.false f.result.unit f.result.number found in
    let other = differs w c.args.numbers.now c.args.edition c.len-n.result l.look_up.before l.k-iterator.count c.in-Some.pair.now _ c.len-n.ensures P _ c.bad_end.ensures c.if-bad_end.false f.result.unit f.result.number found in
    ap (λ (m : ℕ). refused 4 (m + 1)) s.1
    ∙ elim c.then-found-eq0.branch [
      | then-found-eq0-via-then-found-eq0 b ↦ zero b.if-found-eq0.true
      | then-found-eq0-via-else-found-eq0+then-found-pair b ↦ other (omega (arith, b.if-found-eq0.false)) b.if-found-pair.true
    ]
    ∙ l.invariant.5

pub loop-k-preserved : goal.loop-k-preserved
loop-k-preserved g c =
    let w = symbols c.args.w in
    let l = c.loop-k in
    let s = c.in-Some.ensures.steps in
    let P = next_pair c.args.numbers.now l.k-iterator.count c.in-Some.pair.now c.next.new.self.iter.rest.now l.k-iterator.iter.rest.now l.invariant.1 l.invariant.2 s.0.1.0 (s.0.1.1 ∙ l.invariant.0) in
    let f = c.locate-found in
    let found = rw l.invariant.3 at f.ensures.found in
    let some : 1 ≤ f.result.unit = omega (arith, c.if-found-eq0.false) in
    let up = (fits w c.args.numbers.now c.args.edition c.len-n.result l.look_up.before l.k-iterator.count c.in-Some.pair.now _ c.len-n.ensures P _ c.bad_end.ensures c.if-bad_end.false).0 in
    let on = goes_on w c.args.numbers.now c.args.edition c.len-n.result l.look_up.before l.k-iterator.count c.in-Some.pair.now _ c.len-n.ensures P _ c.bad_end.ensures c.if-bad_end.false f.result.unit f.result.number found some c.if-found-pair.false in
    rw (s.2, f.ensures.boundary)
    (s.0.0 ∙ l.invariant.0, P.left, omega (arith, P.there), f.ensures.word ∙ l.invariant.3, omega (arith, up, l.invariant.4), on ∙ l.invariant.5)

pub returns-then-look_up-n : goal.returns-then-look_up-n
returns-then-look_up-n g c =
    let w = symbols c.args.w in
    let l = c.loop-k in
    let ns = c.args.numbers.now in
    let few : length l.k-iterator.iter.rest.now < 2 = omega (arith, c.in-None.ensures.steps.0.1.0, l.invariant.0) in
    let k = none_left ns l.k-iterator.iter.rest.now l.k-iterator.count l.invariant.1 l.invariant.2 few c.requires.0 in
    judged_unfinished (segment? held_period (turns_in c.args.edition) w ns) (length w) (ends_of_pairs ns) l.k-iterator.count l.look_up.before (omega (arith, k, length-ends_of_pairs ns))
    (λ z. c.if-look_up-n.true (z ∙ sym c.len-n.ensures)) ∙ l.invariant.5

pub returns : goal.returns
returns g c =
    let w = symbols c.args.w in
    let l = c.loop-k in
    let ns = c.args.numbers.now in
    let few : length l.k-iterator.iter.rest.now < 2 = omega (arith, c.in-None.ensures.steps.0.1.0, l.invariant.0) in
    let k = none_left ns l.k-iterator.iter.rest.now l.k-iterator.count l.invariant.1 l.invariant.2 few c.requires.0 in
    ap (λ (m : ℕ). accepted (m ∷ [])) (sym k)
    ∙ judged_finished (segment? held_period (turns_in c.args.edition) w ns) (length w) (ends_of_pairs ns) l.k-iterator.count l.look_up.before (omega (arith, k, length-ends_of_pairs ns)) (c.if-look_up-n.false ∙ c.len-n.ensures)
    ∙ l.invariant.5
