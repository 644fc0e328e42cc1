-- The meanings in the contracts of this crate's calls leave nothing open: only the answer and the tables that the computed definitions give have them. A
-- verdict with its meaning is one only, so is a best factorization, and a factorization has one path. By cases on the meanings. Assumes nothing.
use mathlib.Core.Path.{◌≡◌, sym, ap, ◌∙◌}
use mathlib.Core.List.{List, [], ◌∷◌, ◌++◌}
use Prim.Native.Nat.{ℕ}
use native.Mathlib.Omega.{arith}
use lib.ListN.{length, drop}
use Rattle.answers.specs.Outcome.{Outcome, refused}
use Rattle.periods.specs.Period.{held_period}
use Rattle.periods.specs.Edition.{turns_of}
use Rattle.periods.proofs.Editions.{two_turns}
use Rattle.factors.specs.Factorization.{Factorization}
use Rattle.factors.proofs.VerdictClaims.{verdict_means, meaning_determines}
use Rattle.repetitions.specs.Block.{Block}
use Rattle.paths.specs.Graph.{Node, black, Path, GoTogether, encoding, runs_of_pairs, ends_of_pairs, Segment}
use Rattle.paths.specs.Calls.{run_numbers, path_outcome, path_table, PathMeaning, number_given, segment?, path_judged_outcome, PathJudgedMeaning}
use Rattle.paths.proofs.Paths.{edition_one_to_one}
use Rattle.repetitions.proofs.JudgeClaims.{factorization_accepted}
use Rattle.paths.proofs.PathClaims.{numbers_path, PathPromised, path_promised_refused, path_promised_few, path_promised_numbered}
use Rattle.paths.proofs.PathJudgeClaims.{decides, path_too_long, path_bad_edition, path_odd, path_judged}
use Rattle.repetitions.proofs.Determined.{split_determined}
use Rattle.paths.specs.Calls as calls

-- ---- path of a split

-- the run numbers of a path that goes with the split
path_numbers : (w : List ℕ) (edition : ℕ) (ends : List ℕ) → Factorization (Block held_period (turns_of edition) w) (length w) ends
    → (xs : List Node) → Path held_period (turns_of edition) w (length w) xs → GoTogether xs ends → runs_of_pairs (encoding (black 0) xs) ≡ run_numbers w 0 ends
path_numbers w edition ends F xs v g =
    let p = numbers_path held_period (turns_of edition) (two_turns edition) w ends F in
    ap (λ (ys : List Node). runs_of_pairs (encoding (black 0) ys)) ((edition_one_to_one edition w (length w) (omega arith)).one_path xs p.0 v p.1 (g ∙ sym p.2)) ∙ p.3

-- CLAIM: the meaning of path of a split determines the answer and the table
pub path_determined : (w : List ℕ) (edition : ℕ) (ends t : List ℕ) (o : Outcome) (u : List ℕ) → PathMeaning w edition ends t o u
    → (o ≡ path_outcome w edition ends (length t)) × (u ≡ path_table w edition ends t)
path_determined w edition ends t o u M = go M
  where
    by : {p : Outcome} {v : List ℕ} → o ≡ p → u ≡ v → PathPromised w edition ends t p v → (o ≡ path_outcome w edition ends (length t)) × (u ≡ path_table w edition ends t)
    by a b P = (a ∙ P.answer, b ∙ P.table)

    go : PathMeaning w edition ends t o u → (o ≡ path_outcome w edition ends (length t)) × (u ≡ path_table w edition ends t)
    go (calls.PathMeaning.refused_split x i S a b) = by a b (path_promised_refused w edition ends t x i (split_determined w edition ends (refused x i) S))
    go (calls.PathMeaning.too_few h i F k a b) = by a b (path_promised_few w edition ends t (length ends ∷ []) (factorization_accepted w edition ends h i F) k)
    go (calls.PathMeaning.numbered h i F k xs v g a b) =
        by a (b ∙ ap (λ (l : List ℕ). l ++ drop (length ends) t) (path_numbers w edition ends F xs v g))
        (path_promised_numbered w edition ends t (length ends ∷ []) (factorization_accepted w edition ends h i F) k)

-- ---- judge a path

-- CLAIM: the meaning of judge a path determines the answer
pub path_judged_determined : (w : List ℕ) (edition : ℕ) (ns : List ℕ) (o : Outcome) → PathJudgedMeaning w edition ns o → o ≡ path_judged_outcome w edition ns
path_judged_determined w edition ns o (calls.PathJudgedMeaning.too_long h e) = e ∙ path_too_long w edition ns h
path_judged_determined w edition ns o (calls.PathJudgedMeaning.bad_edition h i e) = e ∙ path_bad_edition w edition ns h i
path_judged_determined w edition ns o (calls.PathJudgedMeaning.odd h i q e) = e ∙ path_odd w edition ns h i q
path_judged_determined w edition ns o (calls.PathJudgedMeaning.judged h i q J) =
    let k = turns_of edition in
    meaning_determines (λ m i j. Segment held_period k w (number_given ns m) i j) (length w) (ends_of_pairs ns) J.verdict_on
    (verdict_means (segment? held_period k w ns) (λ m i j. Segment held_period k w (number_given ns m) i j) (λ m i j. (decides held_period k w ns m i j).0) (λ m i j. (decides held_period k w ns m i j).1) (length w) (ends_of_pairs ns))
    ∙ path_judged w edition ns h i (λ z. omega arith)
