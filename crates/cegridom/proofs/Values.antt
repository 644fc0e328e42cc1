-- An outcome that a call's promise of meaning allows has as many values as the exported function hands over, so `handed_over_determines` applies to the outcome
-- in each export's contract. Assumes nothing.
use mathlib.Core.Path.{◌≡◌, refl, sym, subst}
use mathlib.Core.List.{List}
use Prim.Native.Nat.{ℕ}
use lib.Dec.{lit≤}
use Rattle.answers.specs.Outcome.{Outcome, refused}
use Rattle.periods.specs.Part.{PartMeaning}
use Rattle.runs.specs.Calls.{RunsMeaning}
use Rattle.nodes.specs.Calls.{NodesMeaning}
use Rattle.factors.specs.Factorization.{Choice}
use Rattle.factors.specs.Verdict.{VerdictMeaning}
use Rattle.factorizer.specs.Best.{Answered, Chosen}
use Rattle.repetitions.specs.BestSplit.{BestMeaning}
use Rattle.repetitions.specs.Judge.{SplitMeaning}
use Rattle.squares.specs.BestSquares.{SquaresMeaning}
use Rattle.squares.specs.JudgeSquares.{SquaresJudgedMeaning}
use Rattle.comparison.specs.Calls.{Compared, WhichMeaning}
use Rattle.paths.specs.Calls.{PathMeaning, PathJudgedMeaning}
use Rattle.page_lines.specs.declared.form.Form.{Form}
use Rattle.pages.specs.Page.{PageMeaning}
use Rattle.plans.specs.Calls.{WriteMeaning, ReadMeaning}
use Rattle.cegridom.proofs.Claims.{HasValues}

-- an outcome that is known
known : (k : ℕ) (o x : Outcome) → o ≡ x → HasValues k x → HasValues k o
known k o x e h = subst (HasValues k) (sym e) h

pub part_values : (w : List ℕ) (edition first last : ℕ) (t : List ℕ) (o : Outcome) (x : List ℕ) → PartMeaning w edition first last t o x → HasValues 4 o
part_values w edition first last t o x (PartMeaning.too_long a e k) = known 4 o (refused 1 0) e (lit≤ tt)
part_values w edition first last t o x (PartMeaning.bad_edition a i e k) = known 4 o (refused 12 0) e (lit≤ tt)
part_values w edition first last t o x (PartMeaning.outside a i b e k) = known 4 o (refused 6 0) e (lit≤ tt)
part_values w edition first last t o x (PartMeaning.too_few a i b l e k) = known 4 o (refused 7 0) e (lit≤ tt)
part_values w edition first last t o x (PartMeaning.described a i b l u q r f d e g) = known 4 o _ e refl

pub runs_values : (w t : List ℕ) (o : Outcome) (u : List ℕ) → RunsMeaning w t o u → HasValues 1 o
runs_values w t o u (RunsMeaning.too_long a e k) = known 1 o (refused 1 0) e (lit≤ tt)
runs_values w t o u (RunsMeaning.too_few a rows l b e k) = known 1 o (refused 7 0) e (lit≤ tt)
runs_values w t o u (RunsMeaning.listed a rows l b e k) = known 1 o _ e refl

pub nodes_values : (w : List ℕ) (edition x : ℕ) (t : List ℕ) (o : Outcome) (u : List ℕ) → NodesMeaning w edition x t o u → HasValues 1 o
nodes_values w edition x t o u (NodesMeaning.too_long a e k) = known 1 o (refused 1 0) e (lit≤ tt)
nodes_values w edition x t o u (NodesMeaning.bad_edition a i e k) = known 1 o (refused 12 0) e (lit≤ tt)
nodes_values w edition x t o u (NodesMeaning.outside a i b e k) = known 1 o (refused 6 0) e (lit≤ tt)
nodes_values w edition x t o u (NodesMeaning.too_few a i b rows l ns m n e k) = known 1 o (refused 7 0) e (lit≤ tt)
nodes_values w edition x t o u (NodesMeaning.listed a i b rows l ns m n e k) = known 1 o _ e refl

answered_values : (P : List ℕ → Type 0) (c : Choice) (w e : List ℕ) (v : ℕ) (o : Outcome) (x : List ℕ) → Answered P c w e v o x → HasValues 1 o
answered_values P c w e v o x (Answered.no_split a p k) = known 1 o (refused 2 0) p (lit≤ tt)
answered_values P c w e v o x (Answered.too_few es a b p k) = known 1 o (refused 7 0) p (lit≤ tt)
answered_values P c w e v o x (Answered.written es a b p k) = known 1 o _ p refl

chosen_values : (P : List ℕ → Type 0) (w : List ℕ) (choice : ℕ) (e t : List ℕ) (o : Outcome) (x y : List ℕ) → Chosen P w choice e t o x y → HasValues 1 o
chosen_values P w choice e t o x y (Chosen.bad_choice b p k l) = known 1 o (refused 8 0) p (lit≤ tt)
chosen_values P w choice e t o x y (Chosen.short_table b d p k l) = known 1 o (refused 9 0) p (lit≤ tt)
chosen_values P w choice e t o x y (Chosen.settled b d s) = answered_values _ _ w e _ o x s.answered

pub best_values : (w : List ℕ) (edition choice : ℕ) (e t : List ℕ) (o : Outcome) (x y : List ℕ) → BestMeaning w edition choice e t o x y → HasValues 1 o
best_values w edition choice e t o x y (BestMeaning.too_long a p k l) = known 1 o (refused 1 0) p (lit≤ tt)
best_values w edition choice e t o x y (BestMeaning.bad_edition a i p k l) = known 1 o (refused 12 0) p (lit≤ tt)
best_values w edition choice e t o x y (BestMeaning.chosen a i c) = chosen_values _ w choice e t o x y c

pub squares_values : (w : List ℕ) (choice : ℕ) (e t : List ℕ) (o : Outcome) (x y : List ℕ) → SquaresMeaning w choice e t o x y → HasValues 1 o
squares_values w choice e t o x y (SquaresMeaning.too_long a p k l) = known 1 o (refused 1 0) p (lit≤ tt)
squares_values w choice e t o x y (SquaresMeaning.chosen a c) = chosen_values _ w choice e t o x y c

compared_values : (k : ℕ) (a b : List ℕ) (o : Outcome) → Compared k a b o → HasValues 1 o
compared_values k a b o (Compared.neither m n e) = known 1 o (refused 2 0) e (lit≤ tt)
compared_values k a b o (Compared.first_wins l e) = known 1 o _ e refl
compared_values k a b o (Compared.second_wins l e) = known 1 o _ e refl

pub which_values : (a b : List ℕ) (edition : ℕ) (t : List ℕ) (o : Outcome) (y : List ℕ) → WhichMeaning a b edition t o y → HasValues 1 o
which_values a b edition t o y (WhichMeaning.too_long l e k) = known 1 o (refused 1 0) e (lit≤ tt)
which_values a b edition t o y (WhichMeaning.bad_edition l m i e k) = known 1 o (refused 12 0) e (lit≤ tt)
which_values a b edition t o y (WhichMeaning.short_table l m i s e k) = known 1 o (refused 9 0) e (lit≤ tt)
which_values a b edition t o y (WhichMeaning.settled r c k) = compared_values _ a b o c

verdict_values : (B : ℕ → ℕ → ℕ → Type 0) (n : ℕ) (ends : List ℕ) (o : Outcome) → VerdictMeaning B n ends o → HasValues 1 o
verdict_values B n ends o (VerdictMeaning.bad_end k a b f r e) = known 1 o (refused 3 k) e (lit≤ tt)
verdict_values B n ends o (VerdictMeaning.no_block k a b f r x e) = known 1 o (refused 4 k) e (lit≤ tt)
verdict_values B n ends o (VerdictMeaning.unfinished f z e) = known 1 o (refused 5 0) e (lit≤ tt)
verdict_values B n ends o (VerdictMeaning.fine f z e) = known 1 o _ e refl

pub split_values : (w : List ℕ) (edition : ℕ) (ends : List ℕ) (o : Outcome) → SplitMeaning w edition ends o → HasValues 1 o
split_values w edition ends o (SplitMeaning.too_long a e) = known 1 o (refused 1 0) e (lit≤ tt)
split_values w edition ends o (SplitMeaning.bad_edition a i e) = known 1 o (refused 12 0) e (lit≤ tt)
split_values w edition ends o (SplitMeaning.judged a i j) = verdict_values _ _ ends o j.verdict_on

pub squares_judged_values : (w ends : List ℕ) (o : Outcome) → SquaresJudgedMeaning w ends o → HasValues 1 o
squares_judged_values w ends o (SquaresJudgedMeaning.too_long a e) = known 1 o (refused 1 0) e (lit≤ tt)
squares_judged_values w ends o (SquaresJudgedMeaning.judged a j) = verdict_values _ _ ends o j.verdict_on

pub path_values : (w : List ℕ) (edition : ℕ) (ends t : List ℕ) (o : Outcome) (u : List ℕ) → PathMeaning w edition ends t o u → HasValues 1 o
path_values w edition ends t o u (PathMeaning.refused_split x i s e k) = known 1 o (refused x i) e (split_values w edition ends (refused x i) s)
path_values w edition ends t o u (PathMeaning.too_few a i f b e k) = known 1 o (refused 7 0) e (lit≤ tt)
path_values w edition ends t o u (PathMeaning.numbered a i f b xs p g e k) = known 1 o _ e refl

pub page_values : (form : Form) (w : List ℕ) (edition : ℕ) (ends t : List ℕ) (o : Outcome) (u : List ℕ) → PageMeaning form w edition ends t o u → HasValues 1 o
page_values form w edition ends t o u (PageMeaning.refused_split x i s e k) = known 1 o (refused x i) e (split_values w edition ends (refused x i) s)
page_values form w edition ends t o u (PageMeaning.too_few a i f b e k) = known 1 o (refused 7 0) e (lit≤ tt)
page_values form w edition ends t o u (PageMeaning.written a i f b s l e k) = known 1 o _ e refl

pub path_judged_values : (w : List ℕ) (edition : ℕ) (ns : List ℕ) (o : Outcome) → PathJudgedMeaning w edition ns o → HasValues 1 o
path_judged_values w edition ns o (PathJudgedMeaning.too_long a e) = known 1 o (refused 1 0) e (lit≤ tt)
path_judged_values w edition ns o (PathJudgedMeaning.bad_edition a i e) = known 1 o (refused 12 0) e (lit≤ tt)
path_judged_values w edition ns o (PathJudgedMeaning.odd a i b e) = known 1 o (refused 10 0) e (lit≤ tt)
path_judged_values w edition ns o (PathJudgedMeaning.judged a i b j) = verdict_values _ _ _ o j.verdict_on

pub write_values : (n : ℕ) (ends t : List ℕ) (o : Outcome) (u : List ℕ) → WriteMeaning n ends t o u → HasValues 1 o
write_values n ends t o u (WriteMeaning.too_long a e k) = known 1 o (refused 1 0) e (lit≤ tt)
write_values n ends t o u (WriteMeaning.implausible a x i m e k) = known 1 o (refused x i) e (verdict_values _ n ends (refused x i) m)
write_values n ends t o u (WriteMeaning.too_few a m b e k) = known 1 o (refused 7 0) e (lit≤ tt)
write_values n ends t o u (WriteMeaning.written a m l b e k) = known 1 o _ e refl

pub read_values : (s t : List ℕ) (o : Outcome) (u : List ℕ) → ReadMeaning s t o u → HasValues 2 o
read_values s t o u (ReadMeaning.no_line a e k) = known 2 o (refused 11 0) e (lit≤ tt)
read_values s t o u (ReadMeaning.too_long long n ends l a e k) = known 2 o (refused 1 0) e (lit≤ tt)
read_values s t o u (ReadMeaning.implausible long n ends l a x i m e k) = known 2 o (refused x i) e (verdict_values _ n ends (refused x i) m)
read_values s t o u (ReadMeaning.too_few long n ends l a m b e k) = known 2 o (refused 7 0) e (lit≤ tt)
read_values s t o u (ReadMeaning.plan long n ends l a m b e k) = known 2 o _ e refl
