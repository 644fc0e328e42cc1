-- What the runs call answers and writes means what the documents say, for every word and table: `runs_mean`. One law for each outcome gives both from the tests
-- that lead to it. By the order of the tests in the definitions. And 4 × n places suffice (`runs_suffice`), since a word has fewer runs than symbols. Assumes
-- nothing.
use mathlib.Core.Path.{◌≡◌, sym}
use mathlib.Core.Logic.{◌≢◌}
use mathlib.Core.List.{List, [], ◌∷◌, ◌++◌}
use Prim.Native.Nat.{ℕ, ◌-◌, ◌*◌, ◌≤◌, ◌<◌}
use native.Mathlib.Omega.{arith}
use native.Mathlib.Decide.{dec_lt}
use borrow.Author.Tests.{lt-ltb, le-ltb}
use lib.ListN.{length, drop}
use Rattle.answers.specs.Outcome.{Outcome, accepted, refused, limit}
use Rattle.answers.proofs.Claims.{refused_accepted, refused_number}
use Rattle.runs.specs.Table.{rows_before, runs_of, stride, flat}
use Rattle.runs.specs.Calls.{runs_outcome, runs_table, RunsMeaning}
use Rattle.runs.proofs.Listed.{runs_listed}
use Rattle.runs.proofs.Few.{runs_at_most, table_at_most}
use Rattle.runs.specs.Calls as calls

-- ---- the runs call; t is the table at entry, u the table at exit

-- what the call answers and leaves
abbrev pub RunsGive : List ℕ → List ℕ → Outcome → List ℕ → Type 0
RunsGive w t o u = (o ≡ runs_outcome w (length t)) × (u ≡ runs_table w t)

module _ (w t : List ℕ) where
  pub runs_too_long : limit < length w → RunsGive w t (refused 1 0) t
  unfolding runs_outcome runs_table
  runs_too_long h = (simp (lt-ltb limit (length w) h), simp (lt-ltb limit (length w) h))

  pub runs_short : length w ≤ limit → length t < stride * length (runs_of w) → RunsGive w t (refused 7 0) t
  unfolding runs_outcome runs_table
  runs_short h k = (
    simp (le-ltb limit (length w) h, lt-ltb (length t) (stride * length (runs_of w)) k),
    simp (le-ltb limit (length w) h, lt-ltb (length t) (stride * length (runs_of w)) k),
  )

  pub runs_all : length w ≤ limit → stride * length (runs_of w) ≤ length t
      → RunsGive w t (accepted (length (runs_of w) ∷ [])) (flat (runs_of w) ++ drop (stride * length (runs_of w)) t)
  unfolding runs_outcome runs_table
  runs_all h k = (
    simp (le-ltb limit (length w) h, le-ltb (length t) (stride * length (runs_of w)) k),
    simp (le-ltb limit (length w) h, le-ltb (length t) (stride * length (runs_of w)) k),
  )

  -- CLAIM: what the runs call answers and writes means what the documents say
  pub runs_mean : RunsMeaning w t (runs_outcome w (length t)) (runs_table w t)
  runs_mean = go (dec_lt limit (length w)) (dec_lt (length t) (stride * length (runs_of w)))
    where
      go : Dec (limit < length w) → Dec (length t < stride * length (runs_of w)) → RunsMeaning w t (runs_outcome w (length t)) (runs_table w t)
      go (yes h) y = let g = runs_too_long h in calls.RunsMeaning.too_long h (sym g.0) (sym g.1)
      go (no h) (yes y) =
          let g = runs_short (omega arith) y in calls.RunsMeaning.too_few (omega arith) (runs_of w) (runs_listed w) y (sym g.0) (sym g.1)
      go (no h) (no y) =
          let g = runs_all (omega arith) (omega arith) in calls.RunsMeaning.listed (omega arith) (runs_of w) (runs_listed w) (omega arith) (sym g.0) (sym g.1)

  -- the answer and the table with their meaning
  pub runs_answered : (o : Outcome) (u : List ℕ) → RunsGive w t o u → (o ≡ runs_outcome w (length t)) × ((u ≡ runs_table w t) × RunsMeaning w t o u)
  runs_answered o u g = (g.0, (g.1, rw (g.0, g.1) runs_mean))

  -- ---- how large the table must be

  -- CLAIM: 4 × (n - 1) places suffice, and so do 4 × n: no answer that means what the documents say is 7
  pub runs_suffice : 4 * (length w - 1) ≤ length t → (o : Outcome) (u : List ℕ) → RunsMeaning w t o u → (i : ℕ) → o ≢ refused 7 i
  runs_suffice k o u (calls.RunsMeaning.too_long h e f) i x = omega (arith, refused_number o 1 7 0 i e x)
  runs_suffice k o u (calls.RunsMeaning.too_few h rows L l e f) i x = omega (arith, runs_at_most w rows L)
  runs_suffice k o u (calls.RunsMeaning.listed h rows L l e f) i x = refused_accepted o 7 i (length rows ∷ []) x e

  -- CLAIM: "4 × n places always suffice and refusal 7 never comes from the runs call with that many"
  pub runs_never_7 : 4 * length w ≤ length t → (i : ℕ) → runs_outcome w (length t) ≢ refused 7 i
  runs_never_7 k = runs_suffice (omega arith) _ _ runs_mean

  -- a word within the limit gets its runs
  pub runs_given : length w ≤ limit → 4 * length w ≤ length t → RunsGive w t (accepted (length (runs_of w) ∷ [])) (flat (runs_of w) ++ drop (stride * length (runs_of w)) t)
  runs_given h k = runs_all h (omega (arith, table_at_most w))

-- CLAIM: "n = 0 needs none": the empty word is accepted with no runs, whatever is lent
pub empty_given : (t : List ℕ) → RunsGive [] t (accepted (0 ∷ [])) t
unfolding runs_of rows_before
empty_given t = runs_given [] t (omega arith) (omega arith)
