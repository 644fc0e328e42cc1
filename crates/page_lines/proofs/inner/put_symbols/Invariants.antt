-- `page_lines::inner::put_symbols` meets its contract: its loop keeps what is left to store, and spaces are last. Assumes nothing.
use Rattle.std.proofs.Common.{◌+◌, ◌-◌, ◌*◌, ◌++◌, length, drop}
use Rattle.writers.proofs.Stores.{Left}
use Rattle.page_lines.specs.Line.{spaces, symbols, left_aligned}
use Rattle.page_lines.proofs.inner.put_symbols.Given as goal

abbrev pub invariant-loop-i : goal.invariant-loop-i
invariant-loop-i l =
    Left l.initial.out l.at (left_aligned l.width (symbols l.digits l.shown)) l.out (l.at + l.digits * l.i) (symbols l.digits (drop l.i l.shown) ++ spaces (l.width - l.digits * length l.shown))
