-- Believed: a contract of the headline stands on it.
-- Streams of bytes in memory: what is in a pipe, and what goes each way between the two sockets of
-- a pair. POSIX.1-2017, System Interfaces: `read`, `write`, `shutdown`. A write is whole or in
-- parts: a whole one moves all of its bytes or none, one in parts as many as fit.
use Rattle.std.specs.Prelude.{ℕ, ◌+◌, ◌-◌, List, [], ◌++◌, length, take, drop, Bool, true, false}
use Rattle.std.specs.Prelude.{not, ◌&&◌, ◌==◌, nat_le, if◌then◌else◌}
use Rattle.posix_terms.specs.declared.call.ShutdownHow.{ShutdownHow}
use Rattle.posix_terms.specs.declared.call.ShutdownHow.TheVariants as how
use Rattle.posix_terms.specs.declared.limits.TheConstants.Limits as limit
use Rattle.posix_terms.specs.Ends.{peer_of}
use Rattle.posix_terms.specs.declared.object.Side.{Side}
use Rattle.posix_terms.specs.declared.object.Side.TheVariants.{Side0, Side1}

-- ## One stream

-- a read has these bytes and leaves those; or there are none and none will come; or there are none
-- yet
pub data Reading : Type 0 where
  Reads : (bytes left : List ℕ) → Reading
  Ends : Reading
  NothingYet : Reading

-- what waits longest is read first
abbrev pub stream_read : List ℕ → ℕ → Bool → Reading
stream_read waiting count more_to_come =
    if length waiting == 0 then (if more_to_come then NothingYet else Ends) else
    Reads (take count waiting) (drop count waiting)

-- a write leaves these bytes; or nobody will read them; or there is no room yet
pub data Writing : Type 0 where
  Writes : (left : List ℕ) → Writing
  Breaks : Writing
  NoRoom : Writing

-- the bytes go after those that wait, all of them or none; no more than so many wait
abbrev pub stream_write : ℕ → List ℕ → List ℕ → Bool → Writing
stream_write most waiting bytes readers =
    if not readers then Breaks else
    if nat_le (length waiting + length bytes) most then Writes (waiting ++ bytes) else NoRoom

-- as many of the bytes go as there is room for; a stream that is full has no room
abbrev pub stream_part : ℕ → List ℕ → List ℕ → Bool → Writing
stream_part most waiting bytes readers =
    if not readers then Breaks else
    if nat_le most (length waiting) then NoRoom else
    Writes (waiting ++ take (most - length waiting) bytes)

-- a write that is whole, or one in parts
abbrev pub stream_put : ℕ → List ℕ → List ℕ → (whole readers : Bool) → Writing
stream_put most waiting bytes whole readers =
    if whole then stream_write most waiting bytes readers else
    stream_part most waiting bytes readers

-- the bytes that go after those that wait, where such a write is done
abbrev pub bytes_put : ℕ → List ℕ → List ℕ → (whole : Bool) → List ℕ
bytes_put most waiting bytes whole = if whole then bytes else take (most - length waiting) bytes

-- ## A pipe

-- a write to a pipe in which these bytes wait, whole or in parts
abbrev pub pipe_write : List ℕ → List ℕ → (whole readers : Bool) → Writing
pipe_write waiting bytes whole readers = stream_put limit.PIPE_BYTES waiting bytes whole readers

-- ## A pair of sockets

-- one socket: the bytes that wait for it, and whether its reading and its writing are shut
pub record Half : Type 0 where
  pub waiting : List ℕ
  pub reading_shut : Bool
  pub writing_shut : Bool

-- the two sockets of a pair, by their sides
pub record PairState : Type 0 where
  pub side0 : Half
  pub side1 : Half

-- a new socket: no bytes wait for it, and nothing of it is shut
abbrev pub new_half : Half
new_half = record { waiting = []; reading_shut = false; writing_shut = false }

-- a new pair of sockets
abbrev pub new_pair : PairState
new_pair = record { side0 = new_half; side1 = new_half }

-- the socket at a side
abbrev pub half_at : PairState → Side → Half
half_at p Side0 = p.side0
half_at p Side1 = p.side1

-- the pair with this socket at a side
abbrev pub with_half : PairState → Side → Half → PairState
with_half p Side0 half = record p { side0 = half }
with_half p Side1 half = record p { side1 = half }

-- these bytes wait for a side
abbrev pub with_waiting : PairState → Side → List ℕ → PairState
with_waiting p side bytes = with_half p side (record (half_at p side) { waiting = bytes })

-- a read at a side, whose peer is open or not
abbrev pub pair_read : PairState → Side → ℕ → Bool → Reading
pair_read p side count peer_open =
    let own = half_at p side in
    if own.reading_shut then Ends
    else stream_read own.waiting count (peer_open && not (half_at p (peer_of side)).writing_shut)

-- a write at a side, which goes to the peer
abbrev pub pair_write : PairState → Side → List ℕ → Bool → Writing
pair_write p side bytes peer_open =
    let peer = half_at p (peer_of side) in
    stream_write limit.PAIR_BYTES peer.waiting bytes
    (peer_open && (not (half_at p side).writing_shut && not peer.reading_shut))

-- the bytes that wait where reading is shut are dropped
abbrev pub half_shut : Half → ShutdownHow → Half
half_shut half how.Read = record half { waiting = []; reading_shut = true }
half_shut half how.Write = record half { writing_shut = true }
half_shut half how.Both = record { waiting = []; reading_shut = true; writing_shut = true }

-- the pair after a `shutdown` of the socket at a side
abbrev pub shut : PairState → Side → ShutdownHow → PairState
shut p side how = with_half p side (half_shut (half_at p side) how)
