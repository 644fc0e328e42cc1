-- The runs call: what it answers, what it writes, and what that means.
use Rattle.std.specs.Prelude.{◌≡◌, cond, List, [], ◌∷◌, ◌++◌, ℕ, ◌*◌, ◌≤◌, ◌<◌, ltb, length, drop}
use Rattle.answers.specs.declared.Refusal.TheVariants.{TooLong, TooFewPlaces}
use Rattle.answers.specs.Outcome.{Outcome, accepted, refused, refusal, limit}
use Rattle.runs.specs.declared.Record.{Record}
use Rattle.runs.specs.Run.{Lists}
use Rattle.runs.specs.Table.{runs_of, stride, flat}

-- ---- "Runs. Three numbers a run (first, last, unit) and the count." "Each run record gains a root", so that there are four. "Runs: 1, 7."

-- the answer, where so many places are lent
unfoldable pub runs_outcome : List ℕ → ℕ → Outcome
runs_outcome w places =
    cond (ltb limit (length w)) (refusal TooLong)
    (cond (ltb places (stride * length (runs_of w))) (refusal TooFewPlaces) (accepted (length (runs_of w) ∷ [])))

-- the lent table afterwards: "An accepted answer changes only the first places that it needs in an output table"; after a refusal it keeps its contents
unfoldable pub runs_table : List ℕ → List ℕ → List ℕ
runs_table w t =
    cond (ltb limit (length w)) t
    (cond (ltb (length t) (stride * length (runs_of w))) t (flat (runs_of w) ++ drop (stride * length (runs_of w)) t))

-- t is the table at entry, u the table at exit
pub data RunsMeaning (w t : List ℕ) (o : Outcome) (u : List ℕ) : Type 0 where
  too_long : limit < length w → o ≡ refused 1 0 → u ≡ t → RunsMeaning w t o u
  too_few : length w ≤ limit → (rows : List Record) → Lists w rows → length t < stride * length rows → o ≡ refused 7 0 → u ≡ t → RunsMeaning w t o u
  listed :
      length w ≤ limit → (rows : List Record) → Lists w rows → stride * length rows ≤ length t → o ≡ accepted (length rows ∷ [])
      → u ≡ flat rows ++ drop (stride * length rows) t → RunsMeaning w t o u
