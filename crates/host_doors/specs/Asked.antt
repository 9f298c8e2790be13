-- Internal: no contract of the headline or of a command stands on it.
-- What a call says to the host.
use Rattle.std.specs.Prelude.{◌≡◌, ⊤, ℕ, pos, Option, Some, None, List, IsUtf8}
use Rattle.std.specs.Int.{IsNonNegative}
use Rattle.std.specs.declared.io.SeekFrom.{SeekFrom}
use Rattle.std.specs.declared.io.SeekFrom.TheVariants as place
use Rattle.std.specs.declared.net.Shutdown.{Shutdown}
use Rattle.std.specs.declared.net.Shutdown.TheVariants as part
use Rattle.posix_terms.specs.declared.call.Access.{Access}
use Rattle.posix_terms.specs.Calls.{Call}
use Rattle.posix_terms.specs.declared.call.Call.TheVariants as call
use Rattle.posix_terms.specs.declared.call.OpenFlags.{OpenFlags}
use Rattle.posix_terms.specs.declared.call.ShutdownHow.TheVariants as how
use Rattle.posix_terms.specs.declared.call.Whence.TheVariants as whence

-- the call opens this path, so
abbrev pub Opens : Call → List ℕ → Access → OpenFlags → Type 0
Opens (call.HostOpen path access flags) p a f = (p ≡ path) × (a ≡ access) × (f ≡ flags)
Opens _ p a f = ⊥

-- the call opens a path that is a text
abbrev pub OpensText : Call → Type 0
OpensText (call.HostOpen path access flags) = IsUtf8 path
OpensText _ = ⊥

-- the bytes that the call writes
abbrev pub bytes_of : Call → Option (List ℕ)
bytes_of (call.Write descriptor bytes) = Some bytes
bytes_of _ = None

-- the call seeks this place
abbrev pub Seeks : Call → SeekFrom → Type 0
Seeks (call.Lseek descriptor offset whence.Set) (place.Start n) = pos n ≡ offset
Seeks (call.Lseek descriptor offset whence.Current) (place.Current n) = n ≡ offset
Seeks (call.Lseek descriptor offset whence.End) (place.End n) = n ≡ offset
Seeks _ _ = ⊥

-- the call seeks, and no place before the beginning
abbrev pub CanSeek : Call → Type 0
CanSeek (call.Lseek descriptor offset whence.Set) = IsNonNegative offset
CanSeek (call.Lseek descriptor offset whence.Current) = ⊤
CanSeek (call.Lseek descriptor offset whence.End) = ⊤
CanSeek _ = ⊥

-- the call shuts this of a stream
abbrev pub Shuts : Call → Shutdown → Type 0
Shuts (call.Shutdown descriptor how.Read) d = d ≡ part.Read
Shuts (call.Shutdown descriptor how.Write) d = d ≡ part.Write
Shuts (call.Shutdown descriptor how.Both) d = d ≡ part.Both
Shuts _ d = ⊥

-- the call shuts a part of a stream
abbrev pub IsShutdown : Call → Type 0
IsShutdown (call.Shutdown descriptor how) = ⊤
IsShutdown _ = ⊥
