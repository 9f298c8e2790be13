-- Internal: no contract of the headline or of a command stands on it.
-- What the calls of a pair of sockets leave in it.
use Rattle.std.specs.Prelude.{ℕ, List, ◌++◌, length, take, drop, if◌then◌else◌}
use Rattle.sequential_object.specs.Streams.{Half, PairState, Reading, Reads, Ends, NothingYet}
use Rattle.sequential_object.specs.Streams.{Writing, Writes, Breaks, NoRoom, with_waiting}
use Rattle.posix_terms.specs.Ends.{peer_of}
use Rattle.posix_terms.specs.declared.object.Side.{Side}

-- a read at a side takes what it read
abbrev pub left_by_read : PairState → Side → Reading → PairState
left_by_read p side (Reads bytes left) = with_waiting p side left
left_by_read p side Ends = p
left_by_read p side NothingYet = p

-- a write at a side goes to its peer
abbrev pub left_by_write : PairState → Side → Writing → PairState
left_by_write p side (Writes left) = with_waiting p (peer_of side) left
left_by_write p side Breaks = p
left_by_write p side NoRoom = p

-- what stands in a place of bytes after a read into it: what
-- was read, and after that what stood there
abbrev pub read_into : Half → List ℕ → List ℕ
read_into half place = if half.reading_shut then place else take (length place) half.waiting
    ++ drop (length half.waiting) place
