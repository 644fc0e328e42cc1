-- `bench::read_line` meets its contract: its loop keeps that no byte 10 stands among the bytes that were read; a read changes none of these, and leaves buf as
-- long as it was. Assumes nothing.
use mathlib.Core.Path.{◌≡◌, refl, ap, ◌∙◌}
use mathlib.Core.List.{List, ◌++◌}
use Prim.Native.Nat.{ℕ, ◌+◌, ◌-◌, ◌≤◌}
use native.Mathlib.Omega.{arith}
use lib.ListN.{length, take, drop}
use lib.Seq.{take_at, length-take-le}
use Rattle.bench.specs.Line.{line_length}
use Rattle.bench.proofs.Lines.{part_read, line_ended, line-goes_on}
use Rattle.bench.proofs.read_line.Goals as goal

-- the buffer after a read into its places from h on
abbrev after : List ℕ → List ℕ → ℕ → ℕ → List ℕ
after buf new h n = take h buf ++ (new ++ drop (n - h) (drop h buf))

-- the bytes that were there before it are as they were
kept : (buf new : List ℕ) (h n : ℕ) → h ≤ length buf → line_length (take h buf) ≡ h → line_length (take h (after buf new h n)) ≡ h
kept buf new h n l e = ap line_length (take_at (take h buf) _ h (length-take-le h buf l)) ∙ e

pub loop-have-init : goal.loop-have-init
unfolding line_length
loop-have-init g c = (omega arith, refl, refl)

pub returns-then-place-have : goal.returns-then-place-have
returns-then-place-have g c =
    let l = c.loop-have in
    let n = length c.args.buf.now in
    let b = after l.buf c.read.new.buf l.have (length l.buf) in
    let long : length b ≡ n = part_read l.buf c.read.new.buf l.have (length l.buf) (omega (arith, l.invariant.1)) (omega arith) c.read.auto.buf ∙ l.invariant.1 in
    let k = kept l.buf c.read.new.buf l.have (length l.buf) (omega (arith, l.invariant.1)) l.invariant.2 in
    let m : l.have + c.in_ok-more.more ≤ n = omega (arith, c.in_ok-more.ensures.bound, c.read.auto.buf) in (
      omega (arith, m, long),
      line_ended b l.have (l.have + c.in_ok-more.more) c.line_length.result (omega arith) (omega (arith, m, long)) k c.line_length.ensures.value c.if-place-have.true,
    )

pub loop-have-preserved : goal.loop-have-preserved
loop-have-preserved g c =
    let l = c.loop-have in
    let n = length c.args.buf.now in
    let b = after l.buf c.read.new.buf l.have (length l.buf) in
    let long : length b ≡ n = part_read l.buf c.read.new.buf l.have (length l.buf) (omega (arith, l.invariant.1)) (omega arith) c.read.auto.buf ∙ l.invariant.1 in
    let k = kept l.buf c.read.new.buf l.have (length l.buf) (omega (arith, l.invariant.1)) l.invariant.2 in
    let m : l.have + c.in_ok-more.more ≤ n = omega (arith, c.in_ok-more.ensures.bound, c.read.auto.buf) in (
      m,
      long,
      line-goes_on b l.have (l.have + c.in_ok-more.more) c.line_length.result (omega arith) (omega (arith, m, long)) k c.line_length.ensures.value c.if-place-have.false,
    )
