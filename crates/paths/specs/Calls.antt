-- Path of a split, judge a path: what they answer, what is written, and what that means.
use Rattle.std.specs.Prelude.{◌≡◌, ◌↔◌, Bool, false, cond, ◌&&◌, List, [], ◌∷◌, ◌++◌, ℕ, ◌+◌, ◌-◌, ◌*◌, ◌/◌, ◌%◌, ◌≤◌, ◌<◌, leb, ltb, eqb, length, get_or, drop}
use Rattle.answers.specs.declared.Refusal.TheVariants.{TooLong, TooFewPlaces, OddPath, BadEdition}
use Rattle.answers.specs.Outcome.{Outcome, accepted, refused, refusal, limit, unless_refused, table_unless}
use Rattle.periods.specs.Period.{held_period}
use Rattle.periods.specs.Edition.{Edition, bad_edition?, turns_of}
use Rattle.runs.specs.declared.Record.{Record}
use Rattle.runs.specs.Table.{runs_of}
use Rattle.paths.specs.LookUp.{entry_of}
use Rattle.factors.specs.Factorization.{Factorization, of_blocks}
use Rattle.factors.specs.Verdict.{verdict, VerdictMeaning}
use Rattle.repetitions.specs.Block.{Block}
use Rattle.paths.specs.Graph.{Node, black, Path, GoTogether, encoding, runs_of_pairs, ends_of_pairs, Segment}
use Rattle.repetitions.specs.Judge.{SplitMeaning, split_outcome}
use Rattle.runs.specs.Number.{run_number}

-- ---- "Path of a split: the run number of each block." "The same, then 7."

-- those of the blocks after boundary i that have these ends
abbrev pub run_numbers : List ℕ → ℕ → List ℕ → List ℕ
run_numbers w i ends = of_blocks (run_number w) i ends

unfoldable pub path_outcome : List ℕ → ℕ → List ℕ → ℕ → Outcome
path_outcome w edition ends places =
    unless_refused (split_outcome w edition ends) (cond (ltb places (length ends)) (refusal TooFewPlaces) (accepted (length ends ∷ [])))

unfoldable pub path_table : List ℕ → ℕ → List ℕ → List ℕ → List ℕ
path_table w edition ends t = table_unless (path_outcome w edition ends (length t)) t (run_numbers w 0 ends ++ drop (length ends) t)

-- t is the table at entry, u the table at exit
pub data PathMeaning (w : List ℕ) (edition : ℕ) (ends t : List ℕ) (o : Outcome) (u : List ℕ) : Type 0 where
  refused_split : (x i : ℕ) → SplitMeaning w edition ends (refused x i) → o ≡ refused x i → u ≡ t → PathMeaning w edition ends t o u
  too_few :
      length w ≤ limit → Edition edition → Factorization (Block held_period (turns_of edition) w) (length w) ends → length t < length ends → o ≡ refused 7 0 → u ≡ t
      → PathMeaning w edition ends t o u
  numbered :
      length w ≤ limit → Edition edition → Factorization (Block held_period (turns_of edition) w) (length w) ends → length ends ≤ length t → (xs : List Node)
      → Path held_period (turns_of edition) w (length w) xs → GoTogether xs ends → o ≡ accepted (length ends ∷ [])
      → u ≡ runs_of_pairs (encoding (black 0) xs) ++ drop (length ends) t → PathMeaning w edition ends t o u

-- ---- "Judge a path: 1, 10, then as for a split", and 12 "directly after 1"

-- the piece lies in the run, if there is one, and is long enough for it, and the run's unit is allowed: "a path runs only through such nodes"
abbrev pub in_run? : (ℕ → Bool) → ℕ → List Record → ℕ → ℕ → Bool
in_run? allowed k [] i j = false
in_run? allowed k (r ∷ rs) i j = leb r.first (i + 1) && (leb j r.last && (leb (i + k * r.period) j && allowed r.period))

-- the run number that is given for block number m
abbrev pub number_given : List ℕ → ℕ → ℕ
number_given ns m = get_or (runs_of_pairs ns) (m - 1) 0

abbrev pub segment? : (ℕ → Bool) → ℕ → List ℕ → List ℕ → ℕ → ℕ → ℕ → Bool
segment? allowed k w ns m i j = in_run? allowed k (entry_of (runs_of w) (number_given ns m)) i j

unfoldable pub path_judged_outcome : List ℕ → ℕ → List ℕ → Outcome
path_judged_outcome w edition ns =
    cond (ltb limit (length w)) (refusal TooLong)
    (cond (bad_edition? edition) (refusal BadEdition)
    (cond (eqb (length ns % 2) 1) (refusal OddPath) (verdict (segment? held_period (turns_of edition) w ns) (length w) (ends_of_pairs ns))))

-- the verdict of document 01, and accepted with the number of blocks exactly when the numbers encode a path of the word's length in the graph
pub record PathJudged (k : ℕ) (w ns : List ℕ) (o : Outcome) : Type 0 where
  pub verdict_on : VerdictMeaning (λ m i j. Segment held_period k w (number_given ns m) i j) (length w) (ends_of_pairs ns) o
  pub accepts : (o ≡ accepted (length ns / 2 ∷ [])) ↔ ((xs : List Node) × Path held_period k w (length w) xs × (encoding (black 0) xs ≡ ns))

pub data PathJudgedMeaning (w : List ℕ) (edition : ℕ) (ns : List ℕ) (o : Outcome) : Type 0 where
  too_long : limit < length w → o ≡ refused 1 0 → PathJudgedMeaning w edition ns o
  bad_edition : length w ≤ limit → (Edition edition → ⊥) → o ≡ refused 12 0 → PathJudgedMeaning w edition ns o
  odd : length w ≤ limit → Edition edition → length ns % 2 ≡ 1 → o ≡ refused 10 0 → PathJudgedMeaning w edition ns o
  judged : length w ≤ limit → Edition edition → length ns % 2 ≡ 0 → PathJudged (turns_of edition) w ns o → PathJudgedMeaning w edition ns o
