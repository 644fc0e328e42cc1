-- `pages::inner::write_block` meets its contract: the numbers of the block and the symbols of its unit, widened if they are bytes, make its line. Assumes
-- nothing.
use mathlib.Core.Path.{◌≡◌, sym, ap, ap₂, subst, ◌∙◌}
use mathlib.Core.List.{List}
use Prim.Native.Nat.{ℕ, ◌+◌, ◌*◌, ◌≤◌}
use native.Mathlib.Omega.{arith}
use lib.ListN.{length, take}
use lib.Seq.{sets, take_at}
use Rattle.answers.specs.Outcome.{limit}
use Rattle.periods.specs.Period.{part, smallest_period, held_period, unit_memory}
use Rattle.periods.specs.Width.{symbols}
use Rattle.periods.proofs.InPlace.{placed_part}
use Rattle.periods.proofs.BlockUnit.{block_unit_of_block}
use Rattle.runs.specs.Number.{block_numbers}
use Rattle.runs.proofs.Number.{block_numbers_are}
use Rattle.repetitions.specs.Block.{Block}
use Rattle.repetitions.proofs.Blocks.{block_up, block_unit_lem}
use Rattle.paths.proofs.Noting.{unit_held}
use Rattle.page_lines.specs.declared.form.Form.{Form}
use Rattle.page_lines.specs.Line.{line_bytes, line, LineNumbers, Fits}
use Rattle.page_lines.proofs.LineClaims.{byte_form_fits, code_form_fits}
use Rattle.pages.specs.Page.{form_in, page_line}
use Rattle.pages.proofs.PageClaims.{numbers_short, page_line_is}
use Rattle.pages.proofs.inner.write_block.Goals as goal

-- a block of the word
module _ (w : List ℕ) (before end unit : ℕ) (K : Block held_period 2 w before end) (u : unit ≡ smallest_period (part w before end)) where
  -- its unit fits into it and into unit memory
  unit_small : unit ≤ unit_memory
  unit_small =
      let s = part w before end in
      omega (arith, u, block_unit_of_block 2 s K.1, unit_held 2 s)

  unit_there : before + unit ≤ length w
  unit_there = omega (arith, block_unit_lem held_period 2 w before end K unit u, K.0)

  unit_long : length (part w before (before + unit)) ≡ unit
  unit_long = omega (arith, (placed_part w before (before + unit) unit_there).long)

  -- the numbers of the block fit into a line
  numbers_fit : (k : ℕ) (xs : List ℕ) → length w ≤ limit → k ≤ before → xs ≡ block_numbers w (k + 1) before end → LineNumbers xs
  numbers_fit k xs short h e =
      let up = block_up held_period 2 w before end K in
      subst LineNumbers (sym e) (numbers_short w (omega arith) (k + 1) before end K (omega arith))

  -- they and the symbols of its unit make its line
  line_is : (form used : Form) (k : ℕ) (xs shown : List ℕ) → used ≡ form → xs ≡ block_numbers w (k + 1) before end → shown ≡ part w before (before + unit) → line used xs shown ≡ page_line form w (k + 1) before end
  line_is form used k xs shown f e s = ap (λ (x : Form). line x xs shown) f ∙ ap₂ (line form) e (s ∙ ap (λ (p : ℕ). part w before (before + p)) u) ∙ page_line_is form w (k + 1) before end

pub overflow_cast-found : goal.overflow_cast-found
overflow_cast-found c =
    let g = c.args in
    omega (arith, unit_small (symbols g.w) g.before g.end g.found.unit c.requires.k_le_before.2 c.requires.unit_value.0)

pub block_numbers-numbers-requires : goal.block_numbers-numbers-requires
block_numbers-numbers-requires c =
    let g = c.args in
    let q = c.requires.k_le_before in
    let w = symbols g.w in
    (q.0, block_up held_period 2 w g.before g.end q.2, omega (arith, q.1, q.2.0), (block_unit_lem held_period 2 w g.before g.end q.2 g.found.unit c.requires.unit_value.0).0)

pub slice_bounds-put_line-end-in-Codes : goal.slice_bounds-put_line-end-in-Codes
slice_bounds-put_line-end-in-Codes c =
    let g = c.args in
    omega (arith, unit_there (symbols g.w) g.before g.end g.found.unit c.requires.k_le_before.2 c.requires.unit_value.0, ap (λ w. length (symbols w)) c.in-Codes.is)

pub put_line-requires : goal.put_line-requires
put_line-requires c =
    let g = c.args in
    let q = c.requires.k_le_before in
    let w = symbols g.w in
    let n = c.block_numbers-numbers.ensures ∙ block_numbers_are w g.k g.before g.end g.found.unit g.found.number q.2.0 c.requires.unit_value.0 c.requires.unit_value.1 in
    (omega (arith, q.3), numbers_fit w g.before g.end g.found.unit q.2 c.requires.unit_value.0 g.k c.block_numbers-numbers.result q.1 q.0 n, subst Fits (sym c.code_form-form.ensures) code_form_fits)

pub returns-in-Codes : goal.returns-in-Codes
returns-in-Codes c =
    let g = c.args in
    let q = c.requires.k_le_before in
    let w = symbols g.w in
    let n = c.block_numbers-numbers.ensures ∙ block_numbers_are w g.k g.before g.end g.found.unit g.found.number q.2.0 c.requires.unit_value.0 c.requires.unit_value.1 in
    let s = ap (λ v. part (symbols v) g.before (g.before + g.found.unit)) (sym c.in-Codes.is) in
    c.put_line.ensures
    ∙ ap (sets g.out.now (line_bytes * g.k)) (line_is w g.before g.end g.found.unit q.2 c.requires.unit_value.0 _ _ g.k _ _ c.code_form-form.ensures n s)
    ∙ ap (λ v. sets g.out.now (line_bytes * g.k) (page_line (form_in v) w (g.k + 1) g.before g.end)) (sym c.in-Codes.is)

pub slice_bounds-widen-end : goal.slice_bounds-widen-end
slice_bounds-widen-end c =
    let g = c.args in
    omega (arith, unit_there (symbols g.w) g.before g.end g.found.unit c.requires.k_le_before.2 c.requires.unit_value.0, ap (λ w. length (symbols w)) c.in-Bytes.is)

pub widen-requires : goal.widen-requires
widen-requires c =
    let g = c.args in
    let K = c.requires.k_le_before.2 in
    let u = c.requires.unit_value.0 in
    let n = unit_long (symbols g.w) g.before g.end g.found.unit K u in
    omega (arith, unit_small (symbols g.w) g.before g.end g.found.unit K u, rw c.in-Bytes.is at n)

pub put_line-requires-in-Bytes : goal.put_line-requires-in-Bytes
put_line-requires-in-Bytes c =
    let g = c.args in
    let q = c.requires.k_le_before in
    let w = symbols g.w in
    let n = c.block_numbers-numbers.ensures ∙ block_numbers_are w g.k g.before g.end g.found.unit g.found.number q.2.0 c.requires.unit_value.0 c.requires.unit_value.1 in
    (omega (arith, q.3), numbers_fit w g.before g.end g.found.unit q.2 c.requires.unit_value.0 g.k c.block_numbers-numbers.result q.1 q.0 n, subst Fits (sym c.byte_form-form.ensures) byte_form_fits)

pub returns-in-Bytes : goal.returns-in-Bytes
returns-in-Bytes c =
    let g = c.args in
    let q = c.requires.k_le_before in
    let u = c.requires.unit_value.0 in
    let w = symbols g.w in
    let n = c.block_numbers-numbers.ensures ∙ block_numbers_are w g.k g.before g.end g.found.unit g.found.number q.2.0 u c.requires.unit_value.1 in
    let p = ap (λ v. part (symbols v) g.before (g.before + g.found.unit)) c.in-Bytes.is in
    let long : length (part c.in-Bytes.bytes.now g.before (g.before + g.found.unit)) ≡ g.found.unit = ap length (sym p) ∙ unit_long w g.before g.end g.found.unit q.2 u in
    let s = ap (take g.found.unit) c.widen.ensures ∙ take_at (part c.in-Bytes.bytes.now g.before (g.before + g.found.unit)) _ g.found.unit long ∙ sym p in
    c.put_line-in-Bytes.ensures
    ∙ ap (sets g.out.now (line_bytes * g.k)) (line_is w g.before g.end g.found.unit q.2 u _ _ g.k _ _ c.byte_form-form.ensures n s)
    ∙ ap (λ v. sets g.out.now (line_bytes * g.k) (page_line (form_in v) w (g.k + 1) g.before g.end)) (sym c.in-Bytes.is)
