-- Internal: no contract of the headline or of a command stands on it.
-- How the calls of a pipe answer, and what they leave in it.
use Rattle.std.specs.Prelude.{ℕ, List, length}
use Rattle.sequential_object.specs.Streams.{Reading, Reads, Ends, NothingYet, Writing, Writes}
use Rattle.sequential_object.specs.Streams.{Breaks, NoRoom}
use Rattle.pipes.specs.declared.body.PipeAnswer.{PipeAnswer}
use Rattle.pipes.specs.declared.body.PipeAnswer.TheVariants as answer

-- what a read answers: a count of bytes, the end, or that it has to wait
abbrev pub read_answer : Reading → PipeAnswer
read_answer (Reads bytes left) = answer.Data (length bytes)
read_answer Ends = answer.End
read_answer NothingYet = answer.Block

-- where there was nothing to read, what waits stays
abbrev pub left_by_read : List ℕ → Reading → List ℕ
left_by_read waiting (Reads bytes left) = left
left_by_read waiting Ends = waiting
left_by_read waiting NothingYet = waiting

-- what a write answers: a count, that nobody reads any more, or that it has to wait
abbrev pub write_answer : ℕ → Writing → PipeAnswer
write_answer count (Writes left) = answer.Count count
write_answer count Breaks = answer.Broken
write_answer count NoRoom = answer.Block

-- where nothing was written, what waits stays
abbrev pub left_by_write : List ℕ → Writing → List ℕ
left_by_write waiting (Writes left) = left
left_by_write waiting Breaks = waiting
left_by_write waiting NoRoom = waiting
