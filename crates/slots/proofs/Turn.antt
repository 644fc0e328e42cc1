-- What holds while boundary e is taken, run by run: t is the table before, u the table now. Definitions only.
use mathlib.Core.Path.{◌≡◌}
use mathlib.Core.Logic.{◌⊎◌}
use mathlib.Core.List.{List}
use Prim.Native.Nat.{ℕ, zero, suc, ◌+◌, ◌≤◌, ◌<◌}
use lib.ListN.{length, get_or}
use Rattle.runs.specs.declared.Record.{Record}
use Rattle.runs.specs.Table.{runs_of, record_at}
use Rattle.factors.specs.Factorization.{Choice}
use Rattle.factors.specs.Table.{size_in, Holds}
use Rattle.factorizer.specs.Window.{RestKept}
use Rattle.slots.specs.Starts.{rank, Top, Start, slot_of}
use Rattle.slots.specs.Ready.{start_of, two_of, square_cell, known_cell, Lead, list_row}

-- entry y of the list in row 3
abbrev pub entry_of : List ℕ → List ℕ → ℕ → ℕ
entry_of w t y = get_or t (list_row (length w) + y) 0

-- the slot of run i for boundary x
abbrev pub place_of : List ℕ → List ℕ → ℕ → ℕ → ℕ
place_of w runs i x = slot_of (length w) (start_of runs i) (two_of runs i) x

-- run i holds a square up to boundary x
abbrev pub Holding : List ℕ → ℕ → ℕ → Type 0
Holding runs i x = start_of runs i + two_of runs i ≤ x

-- rows 0 and 1
pub record Knows (c : Choice) (w : List ℕ) (e : ℕ) (u : List ℕ) : Type 0 where
  pub known : (m : ℕ) → m ≤ length w → Holds u m (length w + 1 + m) (known_cell c w e m)

-- row 2: the slots of the last boundaries are right, except that one whose turn comes with e may have the best start for e; the first m runs of the list have that
pub record Slotting (c : Choice) (w runs : List ℕ) (e : ℕ) (t u : List ℕ) (m : ℕ) : Type 0 where
  pub slots :
      (i x : ℕ) → i < length (runs_of w) → e ≤ (record_at runs i).last → Holding runs i x → x < e → e ≤ x + two_of runs i
      → Lead c w runs i x (get_or u (place_of w runs i x) 0) ⊎ ((x + two_of runs i ≡ e) × Lead c w runs i e (get_or u (place_of w runs i x) 0))
  pub leads :
      (y : ℕ) → y < m → entry_of w t y < length (runs_of w) → e ≤ (record_at runs (entry_of w t y)).last → Holding runs (entry_of w t y) e
      → Lead c w runs (entry_of w t y) e (get_or u (place_of w runs (entry_of w t y) e) 0)

-- row 3: k of the `lives` runs were read, and of these the ones that are not over are kept at the front
pub record Listing (w runs : List ℕ) (e lives : ℕ) (t u : List ℕ) (k kept : ℕ) : Type 0 where
  pub fewer : kept ≤ k
  pub unread : (y : ℕ) → k ≤ y → y < lives → entry_of w u y ≡ entry_of w t y
  pub listed : (y : ℕ) → y < kept → (entry_of w u y < length (runs_of w)) × ((record_at runs (entry_of w u y)).first ≤ e)
  pub lists : (y : ℕ) → y < k → e ≤ (record_at runs (entry_of w t y)).last → (z : ℕ) × (z < kept) × (entry_of w u z ≡ entry_of w t y)

-- the starts in the first m runs of the list; boundary e itself, of which nothing is known, stands for none
abbrev pub Seen : List ℕ → List ℕ → ℕ → List ℕ → ℕ → ℕ → Type 0
Seen w runs e t zero j = j ≡ e
Seen w runs e t (suc m) j = Seen w runs e t m j ⊎ ((e ≤ (record_at runs (entry_of w t m)).last) × Start (start_of runs (entry_of w t m)) (two_of runs (entry_of w t m)) e j)

-- by what starts are compared: what is known of them now, and in the end
abbrev pub known_rank : Choice → List ℕ → ℕ → ℕ → ℕ
known_rank c w e j = rank c (size_in (known_cell c w e j))

abbrev pub final_rank : Choice → List ℕ → ℕ → ℕ
final_rank c w j = rank c (size_in (square_cell c w j))

-- all of it: k runs were read, and m of them taken
pub record Turn (c : Choice) (w runs : List ℕ) (e lives : ℕ) (t u : List ℕ) (k kept m best : ℕ) : Type 0 where
  pub knows : Knows c w e u
  pub listing : Listing w runs e lives t u k kept
  pub slotting : Slotting c w runs e t u m
  pub top : Top (known_rank c w e) (Seen w runs e t m) best
  pub rest : RestKept (length w) t u

-- the numbers of the run at hand
pub record Numbers (w : List ℕ) (e : ℕ) (r : Record) : Type 0 where
  pub starts : 1 ≤ r.first
  pub begun : r.first ≤ e
  pub ends : r.last ≤ length w
  pub unit : 1 ≤ r.period
  pub small : r.period ≤ length w
