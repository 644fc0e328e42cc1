-- The judge of a split into pieces with a property: "for each end in turn 3, 4; then 5", once the word is known to be within the limit.
use Rattle.std.specs.Prelude.{◌≡◌, ◌↔◌, Bool, List, [], ◌∷◌, ℕ, length}
use Rattle.answers.specs.Outcome.{Outcome, accepted}
use Rattle.factors.specs.Factorization.{Factorization}
use Rattle.factors.specs.Verdict.{verdict, VerdictMeaning}
use Rattle.factorizer.specs.Piece.{Piece, piece?}

-- p is the test of a piece
abbrev pub piece_verdict : (List ℕ → Bool) → List ℕ → List ℕ → Outcome
piece_verdict p w ends = verdict (λ k. piece? p w) (length w) ends

-- the verdict of document 01, and accepted with the number of blocks exactly when the ends are a factorization
pub record Judged (P : List ℕ → Type 0) (w ends : List ℕ) (o : Outcome) : Type 0 where
  pub verdict_on : VerdictMeaning (λ k. Piece P w) (length w) ends o
  pub accepts : (o ≡ accepted (length ends ∷ [])) ↔ Factorization (Piece P w) (length w) ends
