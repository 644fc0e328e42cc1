-- A table whose first records are the runs of a word: each is a run, every run is among them, and their firsts do not fall. By the list of the runs
-- (runs/proofs/Listed.antt). Assumes nothing.
use mathlib.Core.Path.{◌≡◌, sym, ap, subst}
use mathlib.Core.List.{List}
use Prim.Native.Nat.{ℕ, zero, suc, ◌≤◌, ◌<◌}
use native.Mathlib.Omega.{arith}
use lib.ListN.{length}
use Rattle.periods.proofs.InPlace.{symbol}
use Rattle.runs.specs.declared.Record.{Record}
use Rattle.runs.specs.Run.{Run, Entry, Lists}
use Rattle.runs.specs.Table.{runs_of, records, record_at}
use Rattle.runs.proofs.InPlace.{RunIn, run_in}
use Rattle.runs.proofs.Entries.{entry_one_row, entry_bounds, sorted_first}
use Rattle.runs.proofs.Records.{length-records, record_entry}
use Rattle.runs.proofs.Listed.{runs_listed}
use Rattle.runs.proofs.Few.{table_at_most}
use Rattle.slots.specs.Ready.{RunsIn, start_of, two_of}

pub record Tabled (w runs : List ℕ) : Type 0 where
  pub few : length (runs_of w) ≤ length w
  pub sound : (i : ℕ) → i < length (runs_of w) → Run w (record_at runs i).first (record_at runs i).last (record_at runs i).period
  pub complete :
      (first last p : ℕ) → Run w first last p
      → (i : ℕ) × (i < length (runs_of w)) × ((record_at runs i).first ≡ first) × ((record_at runs i).last ≡ last) × ((record_at runs i).period ≡ p)
  pub sorted : (i k : ℕ) → i ≤ k → k < length (runs_of w) → (record_at runs i).first ≤ (record_at runs k).first

pub tabled : (w runs : List ℕ) → RunsIn w runs → Tabled w runs
tabled w runs (room, e) = record { few = omega (arith, table_at_most w); sound = sound; complete = complete; sorted = sorted }
  where
    count : ℕ
    count = length (runs_of w)

    L : Lists w (records count runs)
    L = subst (Lists w) (sym e) (runs_listed w)

    entry : (i : ℕ) → i < count → Entry (records count runs) (suc i) (record_at runs i)
    entry i h = record_entry runs i count h

    sound : (i : ℕ) → i < count → Run w (record_at runs i).first (record_at runs i).last (record_at runs i).period
    sound i h = L.sound (suc i) (record_at runs i) (entry i h)

    complete : (first last p : ℕ) → Run w first last p
        → (i : ℕ) × (i < count) × ((record_at runs i).first ≡ first) × ((record_at runs i).last ≡ last) × ((record_at runs i).period ≡ p)
    complete first last p R = go (L.complete first last p R)
      where
        go : (k : ℕ) × (q : ℕ) × Entry (records count runs) k record { first = first; last = last; period = p; root = q }
            → (i : ℕ) × (i < count) × ((record_at runs i).first ≡ first) × ((record_at runs i).last ≡ last) × ((record_at runs i).period ≡ p)
        go (zero, q, E) = absurd E
        go (suc i, q, E) =
            let r : Record = record { first = first; last = last; period = p; root = q } in
            let h : i < count = omega (arith, (entry_bounds (records count runs) (suc i) r E).1, length-records runs count) in
            let z = entry_one_row (records count runs) (suc i) (record_at runs i) r (entry i h) E in
            (i, h, ap (λ (x : Record). x.first) z, ap (λ (x : Record). x.last) z, ap (λ (x : Record). x.period) z)

    sorted : (i k : ℕ) → i ≤ k → k < count → (record_at runs i).first ≤ (record_at runs k).first
    sorted i k l h = sorted_first (records count runs) L.sorted (suc i) (suc k) (record_at runs i) (record_at runs k) (entry i (omega arith)) (entry k h) (omega arith)

-- a run of the table in its place, and twice its unit
module _ (w runs : List ℕ) (R : Tabled w runs) where
  pub run_at : (i : ℕ) → i < length (runs_of w) → RunIn (symbol w) (length w) (start_of runs i) (record_at runs i).last (record_at runs i).period
  run_at i h = run_in w (record_at runs i).first (record_at runs i).last (record_at runs i).period (R.sound i h)

  pub two_some : (i : ℕ) → i < length (runs_of w) → 1 ≤ two_of runs i
  two_some i h = omega (arith, (run_at i h).smallest.period.positive)
