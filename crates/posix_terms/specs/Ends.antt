-- Believed: a contract of the headline stands on it.
-- The ends of objects, which descriptions refer to.
use Rattle.std.specs.Prelude.{Bool, true, false}
use Rattle.posix_terms.specs.declared.object.End.{End}
use Rattle.posix_terms.specs.declared.object.End.TheVariants as part
use Rattle.posix_terms.specs.declared.object.Side.{Side}
use Rattle.posix_terms.specs.declared.object.Side.TheVariants.{Side0, Side1}

-- the end that counts first: the only one, as of a file or a
-- door, the read end of a pipe, side 0 of a pair
abbrev pub is_first : End → Bool
is_first part.Only = true
is_first part.Read = true
is_first part.Write = false
is_first (part.Socket Side0) = true
is_first (part.Socket Side1) = false
is_first (part.Door door) = true

-- the end is this side of a socket pair
abbrev pub is_socket : Side → End → Bool
is_socket Side0 (part.Socket Side0) = true
is_socket Side1 (part.Socket Side1) = true
is_socket side e = false

-- whether two ends of one object are the same; a door has one
abbrev pub is_end : End → End → Bool
is_end part.Only part.Only = true
is_end part.Read part.Read = true
is_end part.Write part.Write = true
is_end (part.Socket side) e = is_socket side e
is_end (part.Door door) (part.Door other) = true
is_end d e = false

-- the side of a pair that a description is of
abbrev pub side_of : End → Side
side_of (part.Socket side) = side
side_of e = Side0

-- the other side of a socket pair
abbrev pub peer_of : Side → Side
peer_of Side0 = Side1
peer_of Side1 = Side0
