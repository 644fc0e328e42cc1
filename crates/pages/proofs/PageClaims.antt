-- The page of a split, of any form that fits, for words of fewer than 100,000 symbols: the numbers of a block are below 100,000, the run's too, since a word has
-- no more runs than symbols; so each block has one line of 60 characters and byte 10 (lines_there), only the page has such lines (lines_unique), and two splits
-- of one word with the same page are the same (page_one_split), since the third column reads as the end. By induction on the ends. Assumes nothing.
use mathlib.Core.Path.{◌≡◌, refl, sym, ap, ap₂, ◌∙◌, subst}
use mathlib.Core.List.{List, [], ◌∷◌, ◌++◌}
use Prim.Native.Nat.{ℕ, suc, ◌+◌, ◌-◌, ◌*◌, ◌/◌, ◌%◌, ◌≤◌, ◌<◌}
use native.Mathlib.Omega.{arith}
use native.Mathlib.Nat.{div-le_self, mod-le}
use lib.ListN.{length, take, drop, length-append}
use lib.Seq.{take_at, drop_at}
use Rattle.decimals.specs.Decimal.{value, field}
use Rattle.periods.specs.Period.{part, smallest_period, held_period}
use Rattle.periods.proofs.Claims.{smallest_period_is, smallest_period_unique}
use Rattle.runs.specs.Number.{run_number, block_numbers}
use Rattle.runs.proofs.Rows.{part_long}
use Rattle.runs.proofs.Number.{run_number_at_most}
use Rattle.runs.proofs.Few.{table_at_most}
use Rattle.factors.specs.Factorization.{Chain, Factorization, text_of_blocks}
use Rattle.repetitions.specs.Block.{Block}
use Rattle.repetitions.proofs.Blocks.{block_up, block_unit_lem}
use Rattle.paths.proofs.PathClaims.{run_number_segment, run_number_unique}
use Rattle.page_lines.specs.declared.form.Form.{Form}
use Rattle.page_lines.specs.Line.{Fits, line, line_bytes, start_of, width_of, OneLine, greatest, LineNumbers}
use Rattle.page_lines.proofs.LineClaims.{line_is_one, line-length, column_reads}
use Rattle.pages.specs.Page.{page_line, page, LineOf, Lines}

-- the blocks of a page: two turns are enough
abbrev Piece : List ℕ → ℕ → ℕ → Type 0
Piece w i j = Block held_period 2 w i j

pub page_line_is : (form : Form) (w : List ℕ) (number i j : ℕ) → line form (block_numbers w number i j) (part w i (i + smallest_period (part w i j))) ≡ page_line form w number i j
unfolding page_line
page_line_is form w number i j = refl

-- ---- one line

module _ (w : List ℕ) (short : length w ≤ greatest) where
  -- CLAIM: each number of a block is below 100,000, and so shorter than its column
  pub numbers_short : (number i j : ℕ) → Piece w i j → number ≤ j → LineNumbers (block_numbers w number i j)
  numbers_short number i j K h =
      let s = part w i j in
      let p = smallest_period s in
      let u = block_unit_lem held_period 2 w i j K p refl in
      let l = part_long w i j K.0 in
      let number_fits : number ≤ greatest = omega (arith, K.0) in
      let first_fits : suc i ≤ greatest = omega (arith, K.0, u.0, u.1) in
      let last_fits : j ≤ greatest = omega (arith, K.0) in
      let unit_fits : p ≤ greatest = omega (arith, K.0, u.1) in
      let turns_fit : length s / p ≤ greatest = omega (arith, K.0, div-le_self (length s) p) in
      let rest_fits : length s % p ≤ greatest = omega (arith, K.0, mod-le (length s) p) in
      let run_fits : run_number w i j ≤ greatest = omega (arith, run_number_at_most w i j, table_at_most w) in
      (refl, (number_fits, (first_fits, (last_fits, (unit_fits, (turns_fit, (rest_fits, (run_fits, tt))))))))

module _ (form : Form) (F : Fits form) (w : List ℕ) (short : length w ≤ greatest) where
  page_line_one : (number i j : ℕ) → Piece w i j → number ≤ j → OneLine (page_line form w number i j)
  page_line_one number i j K h =
      subst OneLine (page_line_is form w number i j) (line_is_one form F (block_numbers w number i j) (part w i (i + smallest_period (part w i j))) (numbers_short w short number i j K h))

  pub page_line-length : (number i j : ℕ) → Piece w i j → number ≤ j → length (page_line form w number i j) ≡ line_bytes
  page_line-length number i j K h =
      ap length (sym (page_line_is form w number i j)) ∙ line-length form F (block_numbers w number i j) (part w i (i + smallest_period (part w i j))) (numbers_short w short number i j K h)

  line_of_block : (number i j : ℕ) → Piece w i j → number ≤ j → LineOf form w number i j (page_line form w number i j)
  line_of_block number i j K h =
      let s = part w i j in
      let p = smallest_period s in
      let l = part_long w i j K.0 in
      record {
        unit = p;
        smallest = smallest_period_is s (omega (arith, block_up held_period 2 w i j K));
        run = run_number w i j;
        of_run = run_number_segment held_period 2 (omega arith) w i j K;
        is =
            sym (page_line_is form w number i j)
            ∙ ap (λ (n : ℕ). line form (number ∷ suc i ∷ j ∷ p ∷ (n / p) ∷ (n % p) ∷ run_number w i j ∷ []) (part w i (i + p))) l;
        one = page_line_one number i j K h;
      }

-- a line of a block is that of the page
line_unique : (form : Form) (w : List ℕ) (number i j : ℕ) (s : List ℕ) → Piece w i j → LineOf form w number i j s → s ≡ page_line form w number i j
line_unique form w number i j s K L =
    let p : smallest_period (part w i j) ≡ L.unit = smallest_period_unique (part w i j) L.unit L.smallest in
    let r : run_number w i j ≡ L.run = run_number_unique held_period 2 (omega arith) w i j K L.run L.of_run in
    L.is
    ∙ ap₂ (λ (q m : ℕ). line form (number ∷ suc i ∷ j ∷ q ∷ ((j - i) / q) ∷ ((j - i) % q) ∷ m ∷ []) (part w i (i + q))) (sym p) (sym r)
    ∙ ap (λ (n : ℕ). line form (number ∷ suc i ∷ j ∷ smallest_period (part w i j) ∷ (n / smallest_period (part w i j)) ∷ (n % smallest_period (part w i j)) ∷ run_number w i j ∷ []) (part w i (i + smallest_period (part w i j))))
    (sym (part_long w i j K.0))
    ∙ page_line_is form w number i j

-- ---- all lines

-- such lines are the page
pub lines_unique : (form : Form) (w : List ℕ) (es : List ℕ) (k i m : ℕ) (s : List ℕ) → Chain (Piece w) i es m → Lines form w k i es s → s ≡ text_of_blocks (page_line form w) k i es
unfolding text_of_blocks
lines_unique form w [] k i m s C L = L
lines_unique form w (e ∷ es) k i m s C (first, others, A, R, is) = is ∙ ap₂ (λ (x y : List ℕ). x ++ y) (line_unique form w (suc k) i e first C.0 A) (lines_unique form w es (suc k) e m others C.1 R)

module _ (form : Form) (F : Fits form) (w : List ℕ) (short : length w ≤ greatest) where
  -- CLAIM: a split has one line of 60 characters and byte 10 for each of its blocks
  pub lines_there : (es : List ℕ) (k i m : ℕ) → k ≤ i → Chain (Piece w) i es m → Lines form w k i es (text_of_blocks (page_line form w) k i es)
  unfolding text_of_blocks
  lines_there [] k i m h C = refl
  lines_there (e ∷ es) k i m h C =
      let up = block_up held_period 2 w i e C.0 in
      (page_line form w (suc k) i e, text_of_blocks (page_line form w) (suc k) e es, line_of_block form F w short (suc k) i e C.0 (omega arith), lines_there es (suc k) e m (omega arith) C.1, refl)

  text_length : (es : List ℕ) (k i m : ℕ) → k ≤ i → Chain (Piece w) i es m → length (text_of_blocks (page_line form w) k i es) ≡ line_bytes * length es
  unfolding text_of_blocks
  text_length [] k i m h C = refl
  text_length (e ∷ es) k i m h C =
      let up = block_up held_period 2 w i e C.0 in
      omega (arith, length-append (page_line form w (suc k) i e) (text_of_blocks (page_line form w) (suc k) e es), page_line-length form F w short (suc k) i e C.0 (omega arith), text_length es (suc k) e m (omega arith) C.1)

  -- CLAIM: the page has 61 bytes a block
  pub page_length : (es : List ℕ) → Factorization (Piece w) (length w) es → length (page form w es) ≡ line_bytes * length es
  page_length es C = text_length es 0 0 (length w) (omega arith) C

  -- the third column of a line reads as the end of its block
  line_reads_end : (number i j : ℕ) → Piece w i j → number ≤ j → value (field (page_line form w number i j) (start_of 2) (width_of 2)) ≡ j
  line_reads_end number i j K h =
      ap (λ (s : List ℕ). value (field s (start_of 2) (width_of 2))) (sym (page_line_is form w number i j))
      ∙ column_reads form (block_numbers w number i j) (part w i (i + smallest_period (part w i j))) (numbers_short w short number i j K h) 2 (omega arith)

  -- where two texts are the same, so are the ends of their first blocks and what follows
  first_same : (es fs : List ℕ) (k i x f : ℕ) → k ≤ i → Piece w i x → Piece w i f
      → page_line form w (suc k) i x ++ text_of_blocks (page_line form w) (suc k) x es ≡ page_line form w (suc k) i f ++ text_of_blocks (page_line form w) (suc k) f fs
      → (x ≡ f) × (text_of_blocks (page_line form w) (suc k) x es ≡ text_of_blocks (page_line form w) (suc k) f fs)
  first_same es fs k i x f h K L e = (
    sym (line_reads_end (suc k) i x K (omega (arith, up_x))) ∙ ap (λ (s : List ℕ). value (field s (start_of 2) (width_of 2))) lines ∙ line_reads_end (suc k) i f L (omega (arith, up_f)),
    rest,
  )
    where
      up_x : i < x
      up_x = block_up held_period 2 w i x K

      up_f : i < f
      up_f = block_up held_period 2 w i f L

      a : length (page_line form w (suc k) i x) ≡ line_bytes
      a = page_line-length form F w short (suc k) i x K (omega (arith, up_x))

      b : length (page_line form w (suc k) i f) ≡ line_bytes
      b = page_line-length form F w short (suc k) i f L (omega (arith, up_f))

      lines : page_line form w (suc k) i x ≡ page_line form w (suc k) i f
      lines =
          sym (take_at (page_line form w (suc k) i x) (text_of_blocks (page_line form w) (suc k) x es) line_bytes a)
          ∙ ap (take line_bytes) e
          ∙ take_at (page_line form w (suc k) i f) (text_of_blocks (page_line form w) (suc k) f fs) line_bytes b

      rest : text_of_blocks (page_line form w) (suc k) x es ≡ text_of_blocks (page_line form w) (suc k) f fs
      rest =
          sym (drop_at (page_line form w (suc k) i x) (text_of_blocks (page_line form w) (suc k) x es) line_bytes a)
          ∙ ap (drop line_bytes) e
          ∙ drop_at (page_line form w (suc k) i f) (text_of_blocks (page_line form w) (suc k) f fs) line_bytes b

  text_one_split : (es fs : List ℕ) (k i m : ℕ) → k ≤ i → Chain (Piece w) i es m → Chain (Piece w) i fs m
      → text_of_blocks (page_line form w) k i es ≡ text_of_blocks (page_line form w) k i fs → es ≡ fs
  unfolding text_of_blocks
  text_one_split [] [] k i m h C D e = refl
  text_one_split [] (f ∷ fs) k i m h C D e =
      let up = block_up held_period 2 w i f D.0 in
      absurd (omega (arith, ap length e, length-append (page_line form w (suc k) i f) (text_of_blocks (page_line form w) (suc k) f fs), page_line-length form F w short (suc k) i f D.0 (omega arith)))
  text_one_split (x ∷ es) [] k i m h C D e =
      let up = block_up held_period 2 w i x C.0 in
      absurd (omega (arith, ap length e, length-append (page_line form w (suc k) i x) (text_of_blocks (page_line form w) (suc k) x es), page_line-length form F w short (suc k) i x C.0 (omega arith)))
  text_one_split (x ∷ es) (f ∷ fs) k i m h C D e =
      let S = first_same es fs k i x f h C.0 D.0 e in
      let up = block_up held_period 2 w i x C.0 in
      ap₂ (λ (y : ℕ) (ys : List ℕ). y ∷ ys) S.0
      (text_one_split es fs (suc k) x m (omega arith) C.1 (subst (λ (y : ℕ). Chain (Piece w) y fs m) (sym S.0) D.1) (S.1 ∙ ap (λ (y : ℕ). text_of_blocks (page_line form w) (suc k) y fs) (sym S.0)))

  -- CLAIM: two splits of one word with the same page are the same split
  pub page_one_split : (es fs : List ℕ) → Factorization (Piece w) (length w) es → Factorization (Piece w) (length w) fs → page form w es ≡ page form w fs → es ≡ fs
  page_one_split es fs C D e = text_one_split es fs 0 0 (length w) (omega arith) C D e
