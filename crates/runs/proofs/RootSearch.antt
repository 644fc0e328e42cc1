-- How the search for a root goes on: where the symbols from two starts first differ, the start that comes later is ruled out, and with it those up to the
-- difference (`rival_passed`, `best_passed`), until one is left (`narrowed_found`). By `overtaken`. Assumes nothing.
use mathlib.Core.Path.{◌≡◌, refl, sym, subst}
use mathlib.Core.Logic.{◌⊎◌, inl, inr}
use mathlib.Core.Bool.{true}
use mathlib.Core.List.{List}
use Prim.Native.Nat.{ℕ, suc, max, ◌+◌, ◌-◌, ◌*◌, ◌≤◌, ◌<◌}
use native.Mathlib.Omega.{arith}
use native.Mathlib.Decide.{dec_lt, ℕ_discrete}
use lib.ListN.{length}
use Rattle.periods.specs.Period.{part, SmallestPeriod}
use Rattle.periods.proofs.InPlace.{SmallestIn, symbol, part_smallest_in}
use Rattle.runs.specs.Table.{least_start, root_of}
use Rattle.runs.proofs.Roots.{Agree, LeastStart, agree_more, window_differs, overtaken}
use Rattle.runs.proofs.RootClaims.{least_computed}

-- of the starts before rival, only best may be the least
abbrev pub Narrowed : List ℕ → ℕ → ℕ → ℕ → ℕ → Type 0
Narrowed w a p best rival = (least_start w p a (p - 1) ≡ best) ⊎ (rival ≤ least_start w p a (p - 1))

module _ (w : List ℕ) (a p : ℕ) (fits : a + 2 * p ≤ length w) (unit : SmallestPeriod (part w a (a + 2 * p)) p) where
  U : SmallestIn (symbol w) a (a + 2 * p) p
  U = part_smallest_in w a (a + 2 * p) p fits unit

  abbrev least : ℕ
  least = least_start w p a (p - 1)

  L : LeastStart true (symbol w) a p p least
  L = least_computed w a (a + 2 * p) p U (omega arith)

  pub narrowed_none : Narrowed w a p a (a + 1)
  narrowed_none = go (ℕ_discrete least a)
    where
      go : Dec (least ≡ a) → Narrowed w a p a (a + 1)
      go (yes e) = inl e
      go (no e) = inr (omega (arith, L.from))

  -- where all others are past, it is best
  pub narrowed_found : (best rival : ℕ) → a + p ≤ rival → Narrowed w a p best rival → best + 1 ≡ root_of w a p
  unfolding root_of
  narrowed_found best rival h (inl e) = omega arith
  narrowed_found best rival h (inr l) = absurd (omega (arith, L.to))

  module _ (best rival same : ℕ) (from : a ≤ best) (order : best < rival) (to : rival < a + p) (agreed : Agree (symbol w) same best rival) where
    -- the two differ within p symbols
    pub same_short : same < p → symbol w (best + same) ≡ symbol w (rival + same) → same + 1 < p
    same_short h e = go (dec_lt (same + 1) p)
      where
        go : Dec (same + 1 < p) → same + 1 < p
        go (yes v) = v
        go (no v) =
            let z : suc same ≡ p = omega arith in
            absurd (window_differs (symbol w) a (a + 2 * p) p U a (omega arith) (omega arith) true best rival from order to
            (subst (λ (m : ℕ). Agree (symbol w) m best rival) z (agree_more (symbol w) same best rival agreed e)))

    pub rival_passed : same < p → symbol w (best + same) < symbol w (rival + same) → Narrowed w a p best rival → Narrowed w a p best (rival + (same + 1))
    rival_passed h l (inl e) = inl e
    rival_passed h l (inr k) = go (dec_lt least (rival + (same + 1)))
      where
        go : Dec (least < rival + (same + 1)) → Narrowed w a p best (rival + (same + 1))
        go (no v) = inr (omega arith)
        go (yes v) =
            absurd (overtaken (symbol w) a (a + 2 * p) p U a (omega arith) (omega arith) true least L rival best same 0 (inl refl)
            (λ i u. sym (agreed i u)) l to from (omega arith) h (omega arith) (omega arith))

    -- the least start is past the places up to the difference
    beyond : same < p → symbol w (rival + same) < symbol w (best + same) → best ≤ least → best + same < least
    beyond h l k = go (dec_lt (best + same) least)
      where
        go : Dec (best + same < least) → best + same < least
        go (yes v) = v
        go (no v) =
            absurd (overtaken (symbol w) a (a + 2 * p) p U a (omega arith) (omega arith) true least L best rival same 0 (inl refl)
            agreed l (omega arith) (omega arith) to h (omega arith) (omega arith))

    pub best_passed : same < p → symbol w (rival + same) < symbol w (best + same) → Narrowed w a p best rival → (next : ℕ) → next ≤ max (best + same + 1) (rival + 1)
        → Narrowed w a p rival next
    best_passed h l (inl e) next m = absurd (omega (arith, beyond h l (omega arith)))
    best_passed h l (inr k) next m = go (ℕ_discrete least rival)
      where
        go : Dec (least ≡ rival) → Narrowed w a p rival next
        go (yes e) = inl e
        go (no e) = inr (omega (arith, beyond h l (omega arith)))
