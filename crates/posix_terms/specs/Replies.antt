-- Believed: a contract of a command stands on it.
-- The numbers that replies are printed with.
use Rattle.std.specs.Prelude.{ℕ}
use Rattle.posix_terms.specs.declared.reply.ObjectKind.{ObjectKind}
use Rattle.posix_terms.specs.declared.reply.ObjectKind.TheVariants.{File, Pipe, SocketPair}
use Rattle.posix_terms.specs.declared.reply.ObjectKind.TheVariants.{HostFile, Listener, Stream}

-- the kind of an object as `fstat` tells it
abbrev pub kind_code : ObjectKind → ℕ
kind_code File = 1
kind_code Pipe = 2
kind_code SocketPair = 3
kind_code HostFile = 4
kind_code Listener = 5
kind_code Stream = 6
