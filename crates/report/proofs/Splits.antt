-- What best split answers of a word that the program holds: 1, 12, 8, 9 and 7 are never met, since a block has two symbols at least; so a refusal says that
-- there is no split, and an answer gives the ends. And how long the text can be. Assumes nothing.
use mathlib.Core.Path.{◌≡◌, refl, sym, ap, ◌∙◌}
use mathlib.Core.Logic.{inl}
use mathlib.Core.List.{List, [], ◌∷◌, ◌++◌}
use Prim.Native.Nat.{ℕ, ◌+◌, ◌*◌, ◌≤◌}
use native.Mathlib.Omega.{arith}
use borrow.Author.Tests.{le-ltb}
use lib.ListN.{length, take, drop, length-append}
use lib.Seq.{take_at}
use Rattle.std.specs.Prelude.{Result, Ok, Err}
use Rattle.answers.specs.declared.Refusal.{Refusal}
use Rattle.answers.specs.Outcome.{accepted, refusal, counted_view}
use Rattle.laws.proofs.OneOrTwo.{one_or_two}
use Rattle.answers.proofs.Claims.{refused_accepted}
use Rattle.periods.specs.Period.{repetition?, held_period}
use Rattle.runs.specs.Table.{runs_of}
use Rattle.runs.proofs.Few.{table_at_most}
use Rattle.factors.specs.Factorization.{Factorization, choice_of, Cell, unreachable, reached, best_ends}
use Rattle.factors.specs.Table.{rows}
use Rattle.factors.proofs.Optimal.{Answers}
use Rattle.repetitions.specs.Block.{Block, block?}
use Rattle.factorizer.specs.Best.{size_outcome, size_ends, settled_ends, settled_work}
use Rattle.factorizer.proofs.BestClaims.{chosen_settled}
use Rattle.repetitions.specs.BestSplit.{last_cell, best_outcome, best_ends_table}
use Rattle.repetitions.proofs.Blocks.{edition_half}
use Rattle.repetitions.proofs.BestClaims.{word_answers, Promised, promised_chosen}
use Rattle.report.specs.Text.{printed_edition, printed_turns, program_limit, passes_name, fewest_name, most_name, none_text, run_lines, block_lines, split_lines, split_text, text}
use Rattle.writers.specs.Line.{line}
use Rattle.report.specs.Records.{most_blocks, split_bytes, longest_text}
use Rattle.writers.proofs.Stores.{line_long}
use Rattle.report.proofs.Lines.{run_lines_long, block_lines_long}

-- the ends of the best split
abbrev pub ends_of : List ℕ → ℕ → List ℕ
ends_of w choice = best_ends (choice_of choice) (block? held_period printed_turns w) (length w)

-- an answer of so many blocks, with the ends' table x
pub record Blocked (w : List ℕ) (choice : ℕ) (name : List ℕ) (size : ℕ) (x : List ℕ) : Type 0 where
  pub split : Factorization (Block held_period printed_turns w) (length w) (ends_of w choice)
  pub few : 2 * size ≤ length w
  pub ends : take size x ≡ ends_of w choice
  pub lines : line name (size ∷ []) ++ block_lines w 0 0 (ends_of w choice) ≡ split_text w choice name

module _ (w : List ℕ) (choice : ℕ) (name e t : List ℕ) (held : length w ≤ program_limit) (low : 1 ≤ choice) (high : choice ≤ 2) (places : length e ≡ most_blocks) (long : length t ≡ rows * (program_limit + 1)) where
  room : rows * (length w + 1) ≤ length t
  room = omega arith

  given : Promised w printed_edition choice e t (size_outcome (last_cell printed_turns w choice) (length e)) (settled_ends (repetition? held_period printed_turns) w choice e)
      (settled_work (repetition? held_period printed_turns) w choice t)
  given = promised_chosen w printed_edition choice e t (omega arith) (inl refl) _ _ _ (chosen_settled _ w choice e t (one_or_two choice low high) room)

  pub split_refused : (a : Result ℕ Refusal) (r : Refusal) → a ≡ Err r → counted_view a ≡ best_outcome w printed_edition choice e t → name ++ none_text ≡ split_text w choice name
  unfolding split_text
  split_refused a r is f =
      go (last_cell printed_turns w choice) (word_answers held_period printed_turns (choice_of choice) w (length w)) (ap counted_view (sym is) ∙ f ∙ sym given.answer)
    where
      go : (v : Cell) → Answers (choice_of choice) (Block held_period printed_turns w) (length w) v (ends_of w choice) → refusal r ≡ size_outcome v (length e)
          → name ++ none_text ≡ split_lines w name v (ends_of w choice)
      go unreachable A f = refl
      go (reached s p) A f =
          let k : s ≤ length e = omega (arith, edition_half printed_edition w (length w) (ends_of w choice) A.factorization, A.sized) in
          let z : refusal r ≡ accepted (s ∷ []) = rw (le-ltb (length e) s k) at f in
          absurd (refused_accepted (refusal r) _ _ (s ∷ []) refl z)

  pub split_counted : (a : Result ℕ Refusal) (size : ℕ) → a ≡ Ok size → counted_view a ≡ best_outcome w printed_edition choice e t → (x : List ℕ) → x ≡ best_ends_table w printed_edition choice e t → Blocked w choice name size x
  unfolding split_text
  split_counted a size is f x g =
      go (last_cell printed_turns w choice) refl (word_answers held_period printed_turns (choice_of choice) w (length w)) (ap counted_view (sym is) ∙ f ∙ sym given.answer) (g ∙ sym given.ends)
    where
      go : (v : Cell) → last_cell printed_turns w choice ≡ v → Answers (choice_of choice) (Block held_period printed_turns w) (length w) v (ends_of w choice) → accepted (size ∷ []) ≡ size_outcome v (length e)
          → x ≡ size_ends v (ends_of w choice) e → Blocked w choice name size x
      go unreachable c A f g = absurd (refused_accepted (accepted (size ∷ [])) 2 0 (size ∷ []) f refl)
      go (reached s p) c A f g =
          let k : s ≤ length e = omega (arith, edition_half printed_edition w (length w) (ends_of w choice) A.factorization, A.sized) in
          let z : accepted (size ∷ []) ≡ accepted (s ∷ []) = rw (le-ltb (length e) s k) at f in
          let y : size ≡ s = cc in
          let h : x ≡ ends_of w choice ++ drop s e = rw (le-ltb (length e) s k) at g in
          record {
            split = A.factorization;
            few = omega (arith, edition_half printed_edition w (length w) (ends_of w choice) A.factorization, A.sized);
            ends = rw (y, h) (take_at (ends_of w choice) (drop s e) s A.sized);
            lines = rw (c, y) refl;
          }

-- ---- how long the text can be

pub text_is : (w : List ℕ) → length w ≤ program_limit
    → text w ≡ line passes_name (length w ∷ []) ++ (run_lines 0 (runs_of w) ++ (split_text w 1 fewest_name ++ split_text w 2 most_name))
unfolding text
text_is w h = rw (le-ltb program_limit (length w) h) refl

pub split_long : (w : List ℕ) (choice : ℕ) (name : List ℕ) → length w ≤ program_limit → length name ≤ 6 → length (split_text w choice name) ≤ split_bytes
unfolding split_text
split_long w choice name h k = go (last_cell printed_turns w choice) (word_answers held_period printed_turns (choice_of choice) w (length w))
  where
    go : (v : Cell) → Answers (choice_of choice) (Block held_period printed_turns w) (length w) v (ends_of w choice) → length (split_lines w name v (ends_of w choice)) ≤ split_bytes
    go unreachable A = omega (arith, length-append name none_text)
    go (reached s p) A =
        omega (
          arith,
          length-append (line name (s ∷ [])) (block_lines w 0 0 (ends_of w choice)),
          line_long name (s ∷ []),
          block_lines_long w (ends_of w choice) 0 0,
          edition_half printed_edition w (length w) (ends_of w choice) A.factorization,
        )

-- CLAIM: no text is longer
pub text_long : (w : List ℕ) → length w ≤ program_limit → length (text w) ≤ longest_text
text_long w h =
    let A = line passes_name (length w ∷ []) in
    let R = run_lines 0 (runs_of w) in
    let F = split_text w 1 fewest_name in
    let M = split_text w 2 most_name in
    omega (
      arith,
      ap length (text_is w h),
      length-append A (R ++ (F ++ M)),
      length-append R (F ++ M),
      length-append F M,
      line_long passes_name (length w ∷ []),
      run_lines_long (runs_of w) 0,
      table_at_most w,
      split_long w 1 fewest_name h (omega arith),
      split_long w 2 most_name h (omega arith),
    )
