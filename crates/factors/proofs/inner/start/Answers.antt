-- start sets row 0: the first place, and then the next n, which it fills. Assumes nothing.
use Rattle.std.proofs.Common.{◌≡◌, ◌+◌, ◌-◌, ℕ, ◌∙◌, ap, arith, length, length-take, length-drop, length-set, take, drop, set, replicate}
use Rattle.factors.specs.Table.{none}
use Rattle.factors.proofs.TableLaws.{started_put}
use Rattle.factors.proofs.inner.start.Goals as goal

pub returns : goal.returns
returns c =
    let n = c.args.n in
    let s = set c.args.work.now 0 0 in
    let e : n + 1 - 1 ≡ n = omega arith in
    let k : length (take (n + 1 - 1) (drop 1 s)) ≡ n =
    omega (arith, length-take (n + 1 - 1) (drop 1 s), length-drop 1 s, length-set c.args.work.now 0 0) in
    rw e (started_put n c.args.work.now c.fill.new.self (omega arith) (c.fill.ensures.after (λ y h. h) ∙ ap (λ (m : ℕ). replicate m none) k))
