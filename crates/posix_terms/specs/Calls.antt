-- Believed: a contract of the headline stands on it.
-- The calls by their kinds and words, and what an access allows.
use Rattle.std.specs.Prelude.{ℕ, ℤ, List, Bool, true, false, codes}
use Rattle.posix_terms.specs.declared.call.Access.{Access}
use Rattle.posix_terms.specs.declared.call.Access.TheVariants.{ReadOnly, WriteOnly, ReadWrite}
use Rattle.posix_terms.specs.declared.call.Call as declared
use Rattle.posix_terms.specs.declared.call.Call.TheVariants as call
use Rattle.posix_terms.specs.declared.call.CallKind.{CallKind}
use Rattle.posix_terms.specs.declared.call.CallKind.TheVariants as kind

-- a description opened so may be read
abbrev pub can_read : Access → Bool
can_read ReadOnly = true
can_read WriteOnly = false
can_read ReadWrite = true

-- a description opened so may be written
abbrev pub can_write : Access → Bool
can_write ReadOnly = false
can_write WriteOnly = true
can_write ReadWrite = true

-- a call whose arguments are numbers and bytes
abbrev pub Call : Type 0
Call = declared.Call ℤ (List ℕ)

-- which of the calls it is
abbrev pub kind_of : {Number Text : Type 0} → declared.Call Number Text → CallKind
kind_of (call.Open path access flags) = kind.Open
kind_of (call.Close descriptor) = kind.Close
kind_of (call.Read descriptor count) = kind.Read
kind_of (call.Write descriptor bytes) = kind.Write
kind_of (call.Pread descriptor count position) = kind.Pread
kind_of (call.Pwrite descriptor bytes position) = kind.Pwrite
kind_of (call.Lseek descriptor offset whence) = kind.Lseek
kind_of (call.Ftruncate descriptor size) = kind.Ftruncate
kind_of (call.Fstat descriptor) = kind.Fstat
kind_of (call.Dup descriptor) = kind.Dup
kind_of (call.DupFrom descriptor least) = kind.DupFrom
kind_of (call.Dup2 descriptor target) = kind.Dup2
kind_of (call.Getfl descriptor) = kind.Getfl
kind_of (call.Setfl descriptor append nonblock) = kind.Setfl
kind_of (call.Link old_path new_path) = kind.Link
kind_of (call.Unlink path) = kind.Unlink
kind_of (call.Rename old_path new_path) = kind.Rename
kind_of (call.Mkdir path) = kind.Mkdir
kind_of (call.Rmdir path) = kind.Rmdir
kind_of call.Pipe = kind.Pipe
kind_of call.Socketpair = kind.Socketpair
kind_of (call.Shutdown descriptor how) = kind.Shutdown
kind_of (call.HostOpen path access flags) = kind.HostOpen
kind_of (call.TcpListen port) = kind.TcpListen
kind_of (call.TcpConnect port) = kind.TcpConnect
kind_of (call.TcpAccept descriptor) = kind.TcpAccept

-- the name of a call in scripts and in printed transcripts
abbrev pub word_of : CallKind → List ℕ
word_of kind.Open = codes "open"
word_of kind.Close = codes "close"
word_of kind.Read = codes "read"
word_of kind.Write = codes "write"
word_of kind.Pread = codes "pread"
word_of kind.Pwrite = codes "pwrite"
word_of kind.Lseek = codes "lseek"
word_of kind.Ftruncate = codes "ftruncate"
word_of kind.Fstat = codes "fstat"
word_of kind.Dup = codes "dup"
word_of kind.DupFrom = codes "dup_from"
word_of kind.Dup2 = codes "dup2"
word_of kind.Getfl = codes "getfl"
word_of kind.Setfl = codes "setfl"
word_of kind.Link = codes "link"
word_of kind.Unlink = codes "unlink"
word_of kind.Rename = codes "rename"
word_of kind.Mkdir = codes "mkdir"
word_of kind.Rmdir = codes "rmdir"
word_of kind.Pipe = codes "pipe"
word_of kind.Socketpair = codes "socketpair"
word_of kind.Shutdown = codes "shutdown"
word_of kind.HostOpen = codes "host_open"
word_of kind.TcpListen = codes "tcp_listen"
word_of kind.TcpConnect = codes "tcp_connect"
word_of kind.TcpAccept = codes "tcp_accept"
