-- Internal: no contract of the headline or of a command stands on it.
-- How many bytes calls read, and replies bring.
use Rattle.std.specs.Prelude.{ℕ, length, Result, Ok, Err}
use Rattle.sequential_object.specs.Refusals.{count_of}
use Rattle.posix_terms.specs.Calls.{Call}
use Rattle.posix_terms.specs.declared.errno.Errno.{Errno}
use Rattle.posix_terms.specs.declared.limits.TheConstants.Limits as limit
use Rattle.posix_terms.specs.declared.outcome.OutKind.{OutKind}
use Rattle.posix_terms.specs.declared.reply.Reply.{Reply}
use Rattle.posix_terms.specs.declared.call.Call.TheVariants as call
use Rattle.posix_terms.specs.declared.outcome.OutKind.TheVariants as kind
use Rattle.posix_terms.specs.declared.reply.Reply.TheVariants as reply

-- none where the count is refused
abbrev pub or_none : Result ℕ Errno → ℕ
or_none (Ok n) = n
or_none (Err e) = 0

-- how many bytes a call reads at most
abbrev pub read_count : Call → ℕ
read_count (call.Read descriptor count) = or_none (count_of count)
read_count (call.Pread descriptor count position) = or_none (count_of count)
read_count c = 0

-- only a read brings bytes from outside, and no more than it asks
abbrev pub bytes_of_kind : OutKind → ℕ → ℕ
bytes_of_kind kind.Read asked = asked
bytes_of_kind k asked = 0

-- the most that a request of this kind asks
abbrev pub most_asked : OutKind → ℕ
most_asked kind.Read = limit.COUNT
most_asked kind.Write = limit.COUNT
most_asked other = 65535

-- how many bytes a reply brings
abbrev pub reply_bytes : Reply → ℕ
reply_bytes (reply.Data bytes) = length bytes
reply_bytes r = 0
