-- Believed: a contract of a command stands on it.
-- The granted turns of a run, on one thread or by threads.
use Rattle.std.specs.Prelude.{List}
use Rattle.posix_terms.specs.declared.transcript.HistoryRow.{HistoryRow}
use Rattle.commands.specs.declared.ran.Kept.{Kept}
use Rattle.commands.specs.declared.ran.Kept.TheVariants as kept

-- in their order
abbrev pub rows_of : Kept → List HistoryRow
rows_of (kept.Plain past) = past.rows
rows_of (kept.Threads past) = past.rows
