-- Believed: a contract of the headline stands on it.
-- What object numbers have room for: each for a file, a pipe and a pair of sockets, of which its
-- object is one.
use Rattle.std.specs.Prelude.{ℕ, List, []}
use Rattle.sequential_object.specs.Object.{Content, File, Pipe, Pair, DoorTo}
use Rattle.sequential_object.specs.Streams.{PairState, new_pair}

-- what is kept under one object number: bytes of a file, bytes of a pipe, and a pair of sockets
pub record Kept : Type 0 where
  pub file : List ℕ
  pub pipe : List ℕ
  pub pair : PairState

-- nothing is in any of them
abbrev pub first_kept : Kept
first_kept = record { file = []; pipe = []; pair = new_pair }

-- what an object of the kind of this content holds here
abbrev pub kept_as : Content → Kept → Content
kept_as (File bytes) k = File k.file
kept_as (Pipe bytes) k = Pipe k.pipe
kept_as (Pair sockets) k = Pair k.pair
-- a door holds nothing
kept_as (DoorTo door) k = DoorTo door

-- with this content
abbrev pub keeping : Content → Kept → Kept
keeping (File bytes) k = record k { file = bytes }
keeping (Pipe bytes) k = record k { pipe = bytes }
keeping (Pair sockets) k = record k { pair = sockets }
keeping (DoorTo door) k = k
