-- `LookUp::note` meets its contract: its loop notes the runs in turn. Assumes nothing.
use mathlib.Core.Path.{subst}
use Prim.Native.Nat.{ℕ}
use native.Mathlib.Omega.{arith}
use lib.ListN.{length}
use Rattle.paths.specs.LookUp.{Noted}
use Rattle.paths.proofs.Noting.{noted_more}
use Rattle.paths.proofs.look_up.LookUp.note.Goals as goal

pub invariant_of-self-clause-last : goal.invariant_of-self-clause-last
invariant_of-self-clause-last c =
    let l = c.loop-k in
    let s = l.self in
    noted_more s.keys.now (length s.keys.now) s.before l.k s.latest
    (subst (λ (m : ℕ). Noted s.keys.now (length s.keys.now) s.before m s.latest) l.invariant.2 s.last) (omega arith) c.if-self-key.false
