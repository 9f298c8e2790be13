-- Believed: a contract of a command stands on it.
-- Byte texts, paths and the other words of a call's line.
use Rattle.std.specs.Prelude.{ℕ, Bool, false, true, ◌&&◌, ◌||◌, List, [], ◌∷◌, length, nat_le, ◌==◌}
use Rattle.std.specs.Prelude.{if◌then◌else◌, Option, Some, None, option_and_then, bytes_eq, codes}
use Rattle.std.specs.List.{list_all}
use Rattle.std.specs.Result.{result_ok}
use Rattle.hex.specs.Hex.{decode_of}
use Rattle.posix_terms.specs.declared.limits.TheConstants.Limits.{COUNT}
use Rattle.posix_terms.specs.declared.call.Access.{Access}
use Rattle.posix_terms.specs.declared.call.Access.TheVariants as access
use Rattle.posix_terms.specs.declared.call.OpenFlags.{OpenFlags}
use Rattle.posix_terms.specs.declared.call.ShutdownHow.{ShutdownHow}
use Rattle.posix_terms.specs.declared.call.ShutdownHow.TheVariants as how
use Rattle.posix_terms.specs.declared.call.Whence.{Whence}
use Rattle.posix_terms.specs.declared.call.Whence.TheVariants as whence

-- as many bytes as one call can move, or fewer
abbrev pub short_enough : Option (List ℕ) → Option (List ℕ)
short_enough None = None
short_enough (Some bytes) = if nat_le (length bytes) COUNT then Some bytes else None

-- the bytes of a byte text: `x` and hexadecimal digits, two for each byte
abbrev pub bytes_of : List ℕ → Option (List ℕ)
bytes_of [] = None
bytes_of (b ∷ digits) = if b == 120 then short_enough (result_ok (decode_of digits)) else None

-- `!` to `~`
abbrev pub is_graphic : ℕ → Bool
is_graphic b = nat_le 33 b && nat_le b 126

-- the path that a word names: `""` is the empty path
abbrev pub path_of : List ℕ → Option (List ℕ)
path_of word =
    if bytes_eq word (34 ∷ 34 ∷ []) then Some []
    else if list_all is_graphic word then Some word
    else None

-- what a file is opened for
abbrev pub access_of : List ℕ → Option Access
access_of word =
    if bytes_eq word (codes "r") then Some access.ReadOnly
    else if bytes_eq word (codes "w") then Some access.WriteOnly
    else if bytes_eq word (codes "rw") then Some access.ReadWrite
    else None

-- where an offset counts from
abbrev pub whence_of : List ℕ → Option Whence
whence_of word =
    if bytes_eq word (codes "set") then Some whence.Set
    else if bytes_eq word (codes "cur") then Some whence.Current
    else if bytes_eq word (codes "end") then Some whence.End
    else None

-- what of a socket is shut
abbrev pub shutdown_how_of : List ℕ → Option ShutdownHow
shutdown_how_of word =
    if bytes_eq word (codes "read") then Some how.Read
    else if bytes_eq word (codes "write") then Some how.Write
    else if bytes_eq word (codes "both") then Some how.Both
    else None

-- no flag is set
abbrev pub no_flags : OpenFlags
no_flags = record {
  create = false;
  exclusive = false;
  truncate = false;
  append = false;
  nonblock = false;
}

-- the flags, if this one was not among them before
abbrev pub once : Bool → OpenFlags → Option OpenFlags
once true flags = None
once false flags = Some flags

-- the flags and one more
abbrev pub with_flag : OpenFlags → List ℕ → Option OpenFlags
with_flag flags word =
    if bytes_eq word (codes "create") then once flags.create (record flags { create = true })
    else if bytes_eq word (codes "excl")
    then once flags.exclusive (record flags { exclusive = true })
    else if bytes_eq word (codes "trunc")
    then once flags.truncate (record flags { truncate = true })
    else if bytes_eq word (codes "append") then once flags.append (record flags { append = true })
    else if bytes_eq word (codes "nonblock")
    then once flags.nonblock (record flags { nonblock = true })
    else None

-- the flags and those that the words name: any order, each at most once
abbrev pub with_flags : OpenFlags → List (List ℕ) → Option OpenFlags
with_flags flags [] = Some flags
with_flags flags (word ∷ words) =
    option_and_then (λ more. with_flags more words) (with_flag flags word)

-- the flags of `host_open`: not those that only `open` has
abbrev pub known_to_host : OpenFlags → Option OpenFlags
known_to_host flags = if flags.exclusive || flags.nonblock then None else Some flags
