-- `bench::print_report` is safe, and hands on the text of the word: its bytes have room for every report (report/proofs/Reports.antt). Assumes nothing.
use mathlib.Core.Path.{◌≡◌, sym}
use mathlib.Core.List.{List}
use Prim.Native.Nat.{ℕ, ◌≤◌}
use native.Mathlib.Omega.{arith}
use lib.ListN.{length, take, replicate, length-replicate}
use lib.Seq.{sets, length-take-le}
use Rattle.report.specs.Records.{longest_text}
use Rattle.report.specs.Text.{text}
use Rattle.report.proofs.Reports.{report_whole}
use Rattle.bench.proofs.print_report.Goals as goal

-- the bytes that are stored are there, and are the text
whole : (w : List ℕ) (n : ℕ) (u : List ℕ) → n ≡ length (text w) → u ≡ sets (replicate longest_text 0) 0 (text w) → (n ≤ length u) × (take n u ≡ text w)
whole w n u a b = report_whole w (replicate longest_text 0) (omega (arith, length-replicate {A = ℕ} longest_text 0)) n u (a, b)

pub slice_bounds-out-end : goal.slice_bounds-out-end
slice_bounds-out-end g c = (whole c.args.word.now c.report-n.result c.report-n.new.out c.report-n.ensures.answer c.report-n.ensures.written).0

pub slice_bounds-say-end : goal.slice_bounds-say-end
slice_bounds-say-end g c =
    sym
    (length-take-le c.report-n.result c.report-n.new.out
    (whole c.args.word.now c.report-n.result c.report-n.new.out c.report-n.ensures.answer c.report-n.ensures.written).0)

pub say-requires : goal.say-requires
say-requires g c = (whole c.args.word.now c.report-n.result c.report-n.new.out c.report-n.ensures.answer c.report-n.ensures.written).1
