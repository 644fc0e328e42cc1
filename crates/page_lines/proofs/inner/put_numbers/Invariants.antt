-- `page_lines::inner::put_numbers` meets its contract: its loop keeps what is left to store, from the start of the next column on. Assumes nothing.
use Rattle.std.proofs.Common.{◌+◌, drop}
use Rattle.writers.proofs.Stores.{Left}
use Rattle.page_lines.specs.Line.{widths, start_of, columns}
use Rattle.page_lines.proofs.inner.put_numbers.Given as goal

abbrev pub invariant-loop-c : goal.invariant-loop-c
invariant-loop-c l = Left l.initial.out l.at (columns widths l.numbers) l.out (l.at + start_of l.c) (columns (drop l.c widths) (drop l.c l.numbers))
