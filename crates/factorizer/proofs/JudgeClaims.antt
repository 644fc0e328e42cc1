-- The judge of a split into pieces with a property that a test decides accepts exactly the factorizations, and names the first fault, by the verdict's claims
-- (factors/proofs/VerdictClaims.antt). Assumes nothing.
use mathlib.Core.Path.{◌≡◌}
use mathlib.Core.Bool.{Bool}
use mathlib.Core.List.{List}
use Prim.Native.Nat.{ℕ}
use lib.ListN.{length}
use Rattle.answers.specs.Outcome.{Outcome}
use Rattle.factors.proofs.VerdictClaims.{verdict_means, accepted_factorization, meaning_determines}
use Rattle.factorizer.specs.Piece.{Piece, piece?, Decides}
use Rattle.factorizer.specs.Judge.{piece_verdict, Judged}
use Rattle.factorizer.proofs.Pieces.{piece_sound, piece_complete, piece_up}

module _ (P : List ℕ → Type 0) (p : List ℕ → Bool) (D : Decides P p) (w ends : List ℕ) where
  -- CLAIM: the verdict says what the documents ask of the judge
  pub judged_means : Judged P w ends (piece_verdict p w ends)
  judged_means = record {
    verdict_on = verdict_means (λ k. piece? p w) (λ k. Piece P w) (λ k. piece_sound P p D w) (λ k. piece_complete P p D w) (length w) ends;
    accepts = accepted_factorization (piece? p w) (Piece P w) (piece_sound P p D w) (piece_complete P p D w) (length w) (piece_up P p D w) ends;
  }

  -- CLAIM: and no other answer does
  pub judged_determined : (o : Outcome) → Judged P w ends o → o ≡ piece_verdict p w ends
  judged_determined o J = meaning_determines (λ k. Piece P w) (length w) ends J.verdict_on judged_means.verdict_on
