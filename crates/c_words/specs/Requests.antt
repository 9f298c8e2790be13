-- What C reads of a call that goes outside.
use Rattle.std.specs.Prelude.{ℕ, ℤ, pos, List, [], Bool, length, ◌+◌}
use Rattle.std.specs.Prelude.{if◌then◌else◌}
use Rattle.posix_terms.specs.Calls.{Call}
use Rattle.posix_terms.specs.declared.call.Access.{Access}
use Rattle.posix_terms.specs.declared.call.Access.TheVariants as access
use Rattle.posix_terms.specs.declared.call.Call.TheVariants as call
use Rattle.posix_terms.specs.declared.call.OpenFlags.{OpenFlags}
use Rattle.posix_terms.specs.declared.call.ShutdownHow.{ShutdownHow}
use Rattle.posix_terms.specs.declared.call.ShutdownHow.TheVariants as how
use Rattle.posix_terms.specs.declared.call.Whence.{Whence}
use Rattle.posix_terms.specs.declared.call.Whence.TheVariants as whence
use Rattle.posix_terms.specs.declared.outcome.OutKind.{OutKind}
use Rattle.posix_terms.specs.declared.outcome.OutKind.TheVariants as kind
use Rattle.posix_terms.specs.declared.request.Request.{Request}
use Rattle.c_words.specs.declared.words.CallWords.{CallWords}
use Rattle.c_words.specs.declared.words.OutsideWords.{OutsideWords}

-- the number of an access
abbrev pub access_code : Access → ℕ
access_code access.ReadOnly = 0
access_code access.WriteOnly = 1
access_code access.ReadWrite = 2

-- the number of the place from where a seek counts
abbrev pub whence_code : Whence → ℕ
whence_code whence.Set = 0
whence_code whence.Current = 1
whence_code whence.End = 2

-- the number of what a shutdown shuts
abbrev pub how_code : ShutdownHow → ℕ
how_code how.Read = 0
how_code how.Write = 1
how_code how.Both = 2

-- the flags are bits
abbrev pub flags_code : OpenFlags → ℕ
flags_code f =
    (if f.create then 1 else 0) + (if f.exclusive then 2 else 0) + (if f.truncate then 4 else 0)
    + (if f.append then 8 else 0) + (if f.nonblock then 16 else 0)

-- the number of a kind of request
abbrev pub asked_code : OutKind → ℕ
asked_code kind.Open = 1
asked_code kind.Read = 2
asked_code kind.Write = 3
asked_code kind.Seek = 4
asked_code kind.Listen = 5
asked_code kind.Connect = 6
asked_code kind.Accept = 7
asked_code kind.Shutdown = 8
asked_code kind.Close = 9

-- a call of this kind, with this descriptor and this number
abbrev pub blank_call : ℕ → ℤ → ℤ → CallWords
blank_call k descriptor number = record {
  kind = k;
  choice = 0;
  flags = 0;
  descriptor = descriptor;
  number = number;
  position = pos 0;
}

-- a call that goes outside, without its path or bytes
abbrev pub call_words : Call → CallWords
call_words (call.HostOpen path a flags) =
    record (blank_call 23 (pos 0) (pos 0)) { choice = access_code a; flags = flags_code flags }
call_words (call.Close descriptor) = blank_call 2 descriptor (pos 0)
call_words (call.Read descriptor count) = blank_call 3 descriptor count
call_words (call.Write descriptor bytes) = blank_call 4 descriptor (pos 0)
call_words (call.Lseek descriptor offset w) =
    record (blank_call 7 descriptor offset) { choice = whence_code w }
call_words (call.Shutdown descriptor h) =
    record (blank_call 22 descriptor (pos 0)) { choice = how_code h }
call_words (call.TcpListen port) = blank_call 24 (pos 0) port
call_words (call.TcpConnect port) = blank_call 25 (pos 0) port
call_words (call.TcpAccept descriptor) = blank_call 26 descriptor (pos 0)
call_words c = blank_call 0 (pos 0) (pos 0)

-- the path or the bytes of such a call
abbrev pub text_of : Call → List ℕ
text_of (call.HostOpen path a flags) = path
text_of (call.Write descriptor bytes) = bytes
text_of c = []

-- a request, whose path or bytes stand beside it
abbrev pub outside_words : Request → Bool → OutsideWords
outside_words r waits = record {
  kind = asked_code r.kind;
  waits = waits;
  asked = r.asked;
  length = length (text_of r.call);
  call = call_words r.call;
}
