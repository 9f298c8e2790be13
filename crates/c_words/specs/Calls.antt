-- The calls by their numbers and operands, as C says them.
use Rattle.std.specs.Prelude.{◌≡◌, ℕ, List, Bool, true, false, Option, Some, None, option_map}
use Rattle.std.specs.Prelude.{IsSomeAnd, nat_lt, if◌then◌else◌, ◌==◌, ◌%◌, ◌/◌}
use Rattle.posix_terms.specs.Calls.{Call}
use Rattle.posix_terms.specs.declared.call.Access.{Access}
use Rattle.posix_terms.specs.declared.call.Access.TheVariants as access
use Rattle.posix_terms.specs.declared.call.Call.TheVariants as call
use Rattle.posix_terms.specs.declared.call.CallKind.{CallKind}
use Rattle.posix_terms.specs.declared.call.CallKind.TheVariants as kind
use Rattle.posix_terms.specs.declared.call.OpenFlags.{OpenFlags}
use Rattle.posix_terms.specs.declared.call.ShutdownHow.{ShutdownHow}
use Rattle.posix_terms.specs.declared.call.ShutdownHow.TheVariants as how
use Rattle.posix_terms.specs.declared.call.Whence.{Whence}
use Rattle.posix_terms.specs.declared.call.Whence.TheVariants as whence
use Rattle.c_words.specs.declared.words.CallWords.{CallWords}

-- the kind of call with this number
abbrev pub kind_of : ℕ → Option CallKind
kind_of n =
    if n == 1 then Some kind.Open else
    if n == 2 then Some kind.Close else
    if n == 3 then Some kind.Read else
    if n == 4 then Some kind.Write else
    if n == 5 then Some kind.Pread else
    if n == 6 then Some kind.Pwrite else
    if n == 7 then Some kind.Lseek else
    if n == 8 then Some kind.Ftruncate else
    if n == 9 then Some kind.Fstat else
    if n == 10 then Some kind.Dup else
    if n == 11 then Some kind.DupFrom else
    if n == 12 then Some kind.Dup2 else
    if n == 13 then Some kind.Getfl else
    if n == 14 then Some kind.Setfl else
    if n == 15 then Some kind.Link else
    if n == 16 then Some kind.Unlink else
    if n == 17 then Some kind.Rename else
    if n == 18 then Some kind.Mkdir else
    if n == 19 then Some kind.Rmdir else
    if n == 20 then Some kind.Pipe else
    if n == 21 then Some kind.Socketpair else
    if n == 22 then Some kind.Shutdown else
    if n == 23 then Some kind.HostOpen else
    if n == 24 then Some kind.TcpListen else
    if n == 25 then Some kind.TcpConnect else
    if n == 26 then Some kind.TcpAccept else
    None

-- the access with this number
abbrev pub access_of : ℕ → Option Access
access_of n =
    if n == 0 then Some access.ReadOnly else
    if n == 1 then Some access.WriteOnly else
    if n == 2 then Some access.ReadWrite else
    None

-- the place from where a seek counts that has this number
abbrev pub whence_of : ℕ → Option Whence
whence_of n =
    if n == 0 then Some whence.Set else
    if n == 1 then Some whence.Current else
    if n == 2 then Some whence.End else
    None

-- what a shutdown shuts that has this number
abbrev pub how_of : ℕ → Option ShutdownHow
how_of n =
    if n == 0 then Some how.Read else
    if n == 1 then Some how.Write else
    if n == 2 then Some how.Both else
    None

-- the flags are bits
abbrev pub flags_of : ℕ → OpenFlags
flags_of n = record {
  create = n % 2 == 1;
  exclusive = n / 2 % 2 == 1;
  truncate = n / 4 % 2 == 1;
  append = n / 8 % 2 == 1;
  nonblock = n / 16 % 2 == 1;
}

-- a call of these kinds has a descriptor and a number
abbrev pub number_call : CallKind → CallWords → Option Call
number_call kind.Read w = Some (call.Read w.descriptor w.number)
number_call kind.Pread w = Some (call.Pread w.descriptor w.number w.position)
number_call kind.Lseek w = option_map (λ a. call.Lseek w.descriptor w.number a) (whence_of w.choice)
number_call kind.Ftruncate w = Some (call.Ftruncate w.descriptor w.number)
number_call kind.DupFrom w = Some (call.DupFrom w.descriptor w.number)
number_call kind.Dup2 w = Some (call.Dup2 w.descriptor w.number)
number_call k w = None

-- a call of these kinds has a path, or two
abbrev pub name_call : CallKind → List ℕ → List ℕ → Option Call
name_call kind.Link path second = Some (call.Link path second)
name_call kind.Rename path second = Some (call.Rename path second)
name_call kind.Unlink path second = Some (call.Unlink path)
name_call kind.Mkdir path second = Some (call.Mkdir path)
name_call kind.Rmdir path second = Some (call.Rmdir path)
name_call k path second = None

-- a call of this kind; with a path or bytes, and of two paths the second
abbrev pub call_as : CallKind → CallWords → List ℕ → List ℕ → Option Call
call_as kind.Open w text second =
    option_map (λ a. call.Open text a (flags_of w.flags)) (access_of w.choice)
call_as kind.Close w text second = Some (call.Close w.descriptor)
call_as kind.Read w text second = Some (call.Read w.descriptor w.number)
call_as kind.Write w text second = Some (call.Write w.descriptor text)
call_as kind.Pread w text second = Some (call.Pread w.descriptor w.number w.position)
call_as kind.Pwrite w text second = Some (call.Pwrite w.descriptor text w.position)
call_as kind.Lseek w text second =
    option_map (λ a. call.Lseek w.descriptor w.number a) (whence_of w.choice)
call_as kind.Ftruncate w text second = Some (call.Ftruncate w.descriptor w.number)
call_as kind.Fstat w text second = Some (call.Fstat w.descriptor)
call_as kind.Dup w text second = Some (call.Dup w.descriptor)
call_as kind.DupFrom w text second = Some (call.DupFrom w.descriptor w.number)
call_as kind.Dup2 w text second = Some (call.Dup2 w.descriptor w.number)
call_as kind.Getfl w text second = Some (call.Getfl w.descriptor)
call_as kind.Setfl w text second =
    Some (call.Setfl w.descriptor (flags_of w.flags).append (flags_of w.flags).nonblock)
call_as kind.Link w text second = Some (call.Link text second)
call_as kind.Unlink w text second = Some (call.Unlink text)
call_as kind.Rename w text second = Some (call.Rename text second)
call_as kind.Mkdir w text second = Some (call.Mkdir text)
call_as kind.Rmdir w text second = Some (call.Rmdir text)
call_as kind.Pipe w text second = Some call.Pipe
call_as kind.Socketpair w text second = Some call.Socketpair
call_as kind.Shutdown w text second =
    option_map (λ a. call.Shutdown w.descriptor a) (how_of w.choice)
call_as kind.HostOpen w text second =
    option_map (λ a. call.HostOpen text a (flags_of w.flags)) (access_of w.choice)
call_as kind.TcpListen w text second = Some (call.TcpListen w.number)
call_as kind.TcpConnect w text second = Some (call.TcpConnect w.number)
call_as kind.TcpAccept w text second = Some (call.TcpAccept w.descriptor)

-- a call of this kind, if there is one
abbrev pub call_if : Option CallKind → CallWords → List ℕ → List ℕ → Option Call
call_if (Some k) w text second = call_as k w text second
call_if None w text second = None

-- the call that C says, if there is one: of the flags, no other bit is set than those that mean one
abbrev pub call_of : CallWords → List ℕ → List ℕ → Option Call
call_of w text second =
    if nat_lt 31 w.flags then None else call_if (kind_of w.kind) w text second

-- whether a call of this kind has a path or bytes
abbrev pub has_text : CallKind → Bool
has_text kind.Open = true
has_text kind.Close = false
has_text kind.Read = false
has_text kind.Write = true
has_text kind.Pread = false
has_text kind.Pwrite = true
has_text kind.Lseek = false
has_text kind.Ftruncate = false
has_text kind.Fstat = false
has_text kind.Dup = false
has_text kind.DupFrom = false
has_text kind.Dup2 = false
has_text kind.Getfl = false
has_text kind.Setfl = false
has_text kind.Link = true
has_text kind.Unlink = true
has_text kind.Rename = true
has_text kind.Mkdir = true
has_text kind.Rmdir = true
has_text kind.Pipe = false
has_text kind.Socketpair = false
has_text kind.Shutdown = false
has_text kind.HostOpen = true
has_text kind.TcpListen = false
has_text kind.TcpConnect = false
has_text kind.TcpAccept = false

-- C says a call of a kind with a path or bytes
abbrev pub HasText : CallWords → Type 0
HasText w = IsSomeAnd (kind_of w.kind) (λ k. has_text k ≡ true)
