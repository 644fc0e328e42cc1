-- Records in a table: they are the rows that were stored at its front. By induction on the list or the count. Assumes nothing.
use mathlib.Core.Path.{◌≡◌, refl, ap, ◌∙◌}
use mathlib.Core.List.{List, [], ◌∷◌, ◌++◌, append_assoc}
use Prim.Native.Nat.{ℕ, zero, suc, ◌+◌, ◌*◌, ◌≤◌, ◌<◌}
use native.Mathlib.Omega.{arith}
use native.Mathlib.Numerals.{add-one}
use native.Mathlib.Decide.{dec_lt}
use lib.ListN.{length, get_or, drop, length-append}
use lib.Seq.{sets}
use Rattle.laws.proofs.Stores.{sets-front}
use Rattle.runs.specs.declared.Record.{Record}
use Rattle.runs.specs.Run.{Entry}
use Rattle.runs.specs.Table.{stride, numbers_of, flat, records, record_at}
use Rattle.runs.proofs.Entries.{entry_right}
use Rattle.runs.proofs.Rows.{length-flat}

pub records_none : (t : List ℕ) → records 0 t ≡ []
unfolding records
records_none t = refl

pub records_more : (t : List ℕ) (i : ℕ) → records (i + 1) t ≡ records i t ++ (record_at t i ∷ [])
unfolding records
records_more t i = rw (add-one i) refl

pub length-records : (t : List ℕ) (c : ℕ) → length (records c t) ≡ c
unfolding records
length-records t zero = refl
length-records t (suc c) = omega (arith, length-append (records c t) (record_at t c ∷ []), length-records t c)

-- a record, and the records of the rest
records_cons : (c : ℕ) (r : Record) (t : List ℕ) → records (suc c) (numbers_of r ++ t) ≡ r ∷ records c t
unfolding records
records_cons zero r t = refl
records_cons (suc c) r t =
    let u = numbers_of r ++ t in
    let e : (i : ℕ) → stride * suc c + i ≡ suc (suc (suc (suc (stride * c + i)))) = λ i. omega arith in
    let z : stride * suc c ≡ suc (suc (suc (suc (stride * c)))) = omega arith in
    ap (λ (l : List Record). l ++ (record_at u (suc c) ∷ [])) (records_cons c r t)
    ∙ ap (λ (s : Record). (r ∷ records c t) ++ (s ∷ []))
    (λ i. record { first = get_or u (z i) 0; last = get_or u (e 1 i) 0; period = get_or u (e 2 i) 0; root = get_or u (e 3 i) 0 })

records_flat : (rs : List Record) (t : List ℕ) → records (length rs) (flat rs ++ t) ≡ rs
unfolding records
records_flat [] t = refl
records_flat (r ∷ rs) t =
    records_cons (length rs) r (flat rs ++ t) ∙ ap (λ (l : List Record). r ∷ l) (records_flat rs t)

-- the rows that were stored at the front of a table with room for them
pub records_stored : (rs : List Record) (t : List ℕ) → stride * length rs ≤ length t → records (length rs) (sets t 0 (flat rs)) ≡ rs
records_stored rs t h =
    ap (records (length rs)) (sets-front t (flat rs) (omega (arith, length-flat rs))) ∙ records_flat rs (drop (length (flat rs)) t)

-- the records up to and after one of them
pub records_split : (t : List ℕ) (i c : ℕ) → i < c → (more : List Record) × (records c t ≡ records i t ++ (record_at t i ∷ more))
unfolding records
records_split t i zero h = absurd (omega arith)
records_split t i (suc c) h = go (λ k. records_split t i c k) (dec_lt i c)
  where
    go : (i < c → (more : List Record) × (records c t ≡ records i t ++ (record_at t i ∷ more))) → Dec (i < c)
        → (more : List Record) × (records (suc c) t ≡ records i t ++ (record_at t i ∷ more))
    go ih (no k) = let e : i ≡ c = omega arith in ([], rw e refl)
    go ih (yes k) = later (ih k)
      where
        later : (more : List Record) × (records c t ≡ records i t ++ (record_at t i ∷ more)) → (more : List Record) × (records (suc c) t ≡ records i t ++ (record_at t i ∷ more))
        later (more, e) = (
          more ++ (record_at t c ∷ []),
          ap (λ (l : List Record). l ++ (record_at t c ∷ [])) e ∙ append_assoc (records i t) (record_at t i ∷ more) (record_at t c ∷ []),
        )

-- a record as an entry, whose number is from 1
pub record_entry : (rows : List ℕ) (k count : ℕ) → k < count → Entry (records count rows) (suc k) (record_at rows k)
record_entry rows k count h = go (records_split rows k count h)
  where
    go : (more : List Record) × (records count rows ≡ records k rows ++ (record_at rows k ∷ more)) → Entry (records count rows) (suc k) (record_at rows k)
    go (more, e) =
        let f : length (records k rows) + 1 ≡ suc k = omega (arith, length-records rows k) in
        rw e (rw f at (entry_right (records k rows) (record_at rows k ∷ more) 1 (record_at rows k) refl))
