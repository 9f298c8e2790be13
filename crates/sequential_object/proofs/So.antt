-- What holds of what is decided of each call: one lemma a call.
use Rattle.std.proofs.Common.{◌≡◌, ◌≢◌, ℕ, ◌==◌, ◌&&◌, List, Bool, true, false, Result, Ok}
use Rattle.std.proofs.Common.{Some, Err, ap, ◌∙◌, arith, inr, refl, sym}
use Rattle.std.proofs.lemmas.Bool.{cond_both, false≢true}
use Rattle.std.proofs.lemmas.Bool.Decides.{nat_tests}
use Rattle.std.specs.Ordering.{int_eq}
use Rattle.sequential_object.specs.declared.decision.Change.TheVariants as change
use Rattle.std.specs.Prelude.{ℤ, pos, negsuc, nat_lt, IfOk, length}
use Rattle.sequential_object.specs.Transfers.{is_from}
use Rattle.posix_terms.specs.declared.errno.Errno.{Errno}
use Rattle.posix_terms.specs.declared.limits.TheConstants.Limits as limit
use Rattle.posix_terms.specs.declared.call.Access.{Access}
use Rattle.posix_terms.specs.declared.call.Call.TheVariants as call
use Rattle.posix_terms.specs.declared.call.OpenFlags.{OpenFlags}
use Rattle.posix_terms.specs.declared.call.ShutdownHow.{ShutdownHow}
use Rattle.posix_terms.specs.declared.call.Whence.{Whence}
use Rattle.posix_terms.specs.declared.carried.Moved.{Moved}
use Rattle.sequential_object.specs.Deciding.{leads_outside}
use Rattle.sequential_object.specs.Opening.{close_decided, open_decided}
use Rattle.sequential_object.specs.Doors.{host_open_decided, port_decided, tcp_accept_decided}
use Rattle.sequential_object.specs.Duplicates.{dup2_decided, dup_decided, dup_from_decided}
use Rattle.sequential_object.specs.Names.{addable, file_named, link_decided, mkdir_decided}
use Rattle.sequential_object.specs.Names.{rename_decided, rmdir_decided, unlink_decided}
use Rattle.sequential_object.specs.Sockets.{pipe_decided, shutdown_decided, socketpair_decided}
use Rattle.sequential_object.specs.Status.{fstat_decided, getfl_decided, setfl_decided}
use Rattle.sequential_object.specs.Transfers.{first_write, ftruncate_decided, goes_on, is_pipe}
use Rattle.sequential_object.specs.Transfers.{lseek_decided, pread_decided, pwrite_decided, read_decided}
use Rattle.sequential_object.specs.Transfers.{write_decided}
use Rattle.posix_terms.specs.Calls.{Call}
use Rattle.sequential_object.specs.Object.{FileNode, State}
use Rattle.sequential_object.specs.Paths.{components_of}
use Rattle.sequential_object.specs.Decided.{decided}
use Rattle.sequential_object.specs.Meant.{seen}
use Rattle.posix_terms.specs.declared.object.End.{End}
use Rattle.sequential_object.specs.So.{Can, DecidedSo, IsNumbered, IsReferred, IsShown, IsSo, Shows}
use Rattle.sequential_object.specs.View.{View}
use Rattle.sequential_object.specs.declared.decision.Decision.{Decision}
use Rattle.sequential_object.specs.declared.decision.Seen.{Seen}
use Rattle.sequential_object.proofs.Seeing.{file_there, named_at, next_is, shown_by}

so-open : (v : View) (path : List ℕ) (access : Access) (flags : OpenFlags)
    → IfOk (open_decided v path access flags)
    (IsSo v (call.Open path access flags))
unfolding open_decided
so-open v path access flags = grind arith

so-close : (v : View) → IsNumbered v → (descriptor : ℤ)
    → IfOk (close_decided v descriptor)
    (IsSo v (call.Close descriptor))
unfolding close_decided
so-close v numbered descriptor = by_found (v.described descriptor) refl
  where
    by_found : (found : Result Seen Errno) → v.described descriptor ≡ found
        → IfOk (close_decided v descriptor) (IsSo v (call.Close descriptor))
    by_found (Err e) is = rw is tt
    by_found (Ok at) is = grind (arith, is, numbered descriptor at is)

so-read : (v : View) (descriptor count : ℤ)
    → IfOk (read_decided v descriptor count)
    (IsSo v (call.Read descriptor count))
unfolding read_decided
so-read v descriptor count = grind (arith, nat_tests)

so-first_write : (v : View) (descriptor : ℤ) (bytes : List ℕ)
    → IfOk (first_write v descriptor (length bytes)) (IsSo v (call.Write descriptor bytes))
so-first_write v descriptor bytes = grind (arith, nat_tests)

pipe_inside : (e : End) → is_pipe e ≡ true → leads_outside e ≡ false
pipe_inside e is = grind (arith, is)

and_right : (a b : Bool) → (a && b) ≡ true → b ≡ true
and_right a b is = grind (arith, is)

so-goes_on : (v : View) (descriptor : ℤ) (bytes : List ℕ) (moved : Moved)
    (found : Result Seen Errno) → v.described descriptor ≡ found
    → IsSo v (call.Write descriptor bytes) (goes_on moved found)
so-goes_on v descriptor bytes moved (Err e) is = (tt, refl, refl, refl)
so-goes_on v descriptor bytes moved (Ok at) is =
    cond_both (is_from moved at.birth && is_pipe at.«end») _ _
    (IsSo v (call.Write descriptor bytes))
    (λ goes. (
      tt,
      record {
        found = record { descriptor = descriptor; found = is };
        object_is = refl;
        inside = pipe_inside at.«end» (and_right (is_from moved at.birth) (is_pipe at.«end») goes);
      },
      refl,
      refl,
    ))
    (λ ends. (tt, refl, refl, refl))

so-write : (v : View) (descriptor : ℤ) (bytes : List ℕ) (moved : Moved)
    → IfOk (write_decided v descriptor (length bytes) moved)
    (IsSo v (call.Write descriptor bytes))
unfolding write_decided
so-write v descriptor bytes moved =
    cond_both {A = Result Decision Errno} (moved.bytes == 0) _ _
    (λ d. IfOk d (IsSo v (call.Write descriptor bytes)))
    (λ first. so-first_write v descriptor bytes)
    (λ later. so-goes_on v descriptor bytes moved (v.described descriptor) refl)

so-pread : (v : View) (descriptor count position : ℤ)
    → IfOk (pread_decided v descriptor count position)
    (IsSo v (call.Pread descriptor count position))
unfolding pread_decided
so-pread v descriptor count position = grind arith

so-pwrite : (v : View) (descriptor : ℤ) (bytes : List ℕ) (position : ℤ)
    → IfOk (pwrite_decided v descriptor (length bytes) position)
    (IsSo v (call.Pwrite descriptor bytes position))
unfolding pwrite_decided
so-pwrite v descriptor bytes position = grind arith

so-lseek : (v : View) (descriptor offset : ℤ) (whence : Whence)
    → IfOk (lseek_decided v descriptor offset whence)
    (IsSo v (call.Lseek descriptor offset whence))
unfolding lseek_decided
so-lseek v descriptor offset whence = grind (arith, nat_tests)

so-ftruncate : (v : View) (descriptor size : ℤ)
    → IfOk (ftruncate_decided v descriptor size)
    (IsSo v (call.Ftruncate descriptor size))
unfolding ftruncate_decided
so-ftruncate v descriptor size = grind arith

so-fstat : (v : View) (descriptor : ℤ)
    → IfOk (fstat_decided v descriptor)
    (IsSo v (call.Fstat descriptor))
unfolding fstat_decided
so-fstat v descriptor = grind arith

so-dup : (v : View) (descriptor : ℤ)
    → IfOk (dup_decided v descriptor)
    (IsSo v (call.Dup descriptor))
unfolding dup_decided
so-dup v descriptor = grind arith

so-dup_from : (v : View) (descriptor least : ℤ)
    → IfOk (dup_from_decided v descriptor least)
    (IsSo v (call.DupFrom descriptor least))
unfolding dup_from_decided
so-dup_from v descriptor least = grind arith

apart_by : (descriptor : ℤ) (n : ℕ) → int_eq descriptor (pos n) ≡ false → descriptor ≢ pos n
apart_by (pos m) n is same = false≢true (sym is ∙ ap (λ x. int_eq x (pos n)) same ∙ same_itself)
  where
    same_itself : int_eq (pos n) (pos n) ≡ true
    same_itself = grind (arith, nat_tests)
apart_by (negsuc m) n is same = cc

so-dup2 : (v : View) (descriptor target : ℤ)
    → IfOk (dup2_decided v descriptor target)
    (IsSo v (call.Dup2 descriptor target))
unfolding dup2_decided
so-dup2 v descriptor (negsuc n) = grind arith
so-dup2 v descriptor (pos n) =
    by_found (v.described descriptor) refl (nat_lt n limit.DESCRIPTORS) refl
    (v.described (pos n)) refl
  where
    by_found : (found : Result Seen Errno) → v.described descriptor ≡ found
        → (b : Bool) → nat_lt n limit.DESCRIPTORS ≡ b
        → (target : Result Seen Errno) → v.described (pos n) ≡ target
        → IfOk (dup2_decided v descriptor (pos n)) (IsSo v (call.Dup2 descriptor (pos n)))
    by_found (Err e) is b inside target its = rw is tt
    by_found (Ok at) is false outside target its = rw (is, outside) tt
    by_found (Ok at) is true inside (Err e) its = grind (arith, is, inside, its)
    by_found (Ok at) is true inside (Ok to) its =
        by_tests (int_eq descriptor (pos n)) refl (leads_outside to.«end» && to.last) refl
      where
        by_tests : (a : Bool) → int_eq descriptor (pos n) ≡ a
            → (b : Bool) → (leads_outside to.«end» && to.last) ≡ b
            → IfOk (dup2_decided v descriptor (pos n))
            (IsSo v (call.Dup2 descriptor (pos n)))
        by_tests true same b door = rw (is, inside, same) (tt, refl, refl, refl)
        by_tests false apart true door = rw (is, inside, apart, its, door) tt
        by_tests false apart false door =
            rw (is, inside, apart, its, door)
            (cond_both to.last _ _ (IsSo v (call.Dup2 descriptor (pos n)))
            (λ last. (can, inr referred, tt, refl)) (λ more. (can, refl, refl, refl)))
          where
            referred : IsReferred v to.object
            referred = record {
              at = to;
              found = record { descriptor = pos n; found = its };
              object_is = refl;
            }

            can : Can v (call.Dup2 descriptor (pos n)) (change.Replace n to.key at.key)
            can = (
              record { at = to; found = its; key_is = refl },
              record {
                descriptor = descriptor;
                at = at;
                found = is;
                key_is = refl;
                apart = apart_by descriptor n apart;
              },
            )

so-getfl : (v : View) (descriptor : ℤ)
    → IfOk (getfl_decided v descriptor)
    (IsSo v (call.Getfl descriptor))
unfolding getfl_decided
so-getfl v descriptor = grind arith

so-setfl : (v : View) (descriptor : ℤ) (append nonblock : Bool)
    → IfOk (setfl_decided v descriptor append nonblock)
    (IsSo v (call.Setfl descriptor append nonblock))
unfolding setfl_decided
so-setfl v descriptor append nonblock = grind arith

so-link : (v : View) (old_path new_path : List ℕ)
    → IfOk (link_decided v old_path new_path)
    (IsSo v (call.Link old_path new_path))
unfolding link_decided file_named addable
so-link v old_path new_path = grind arith

so-unlink : (v : View) (path : List ℕ)
    → IfOk (unlink_decided v path)
    (IsSo v (call.Unlink path))
unfolding unlink_decided file_named
so-unlink v path = grind arith

so-rename : (v : View) (old_path new_path : List ℕ)
    → IfOk (rename_decided v old_path new_path)
    (IsSo v (call.Rename old_path new_path))
unfolding rename_decided file_named
so-rename v old_path new_path = grind arith

so-mkdir : (v : View) (path : List ℕ)
    → IfOk (mkdir_decided v path)
    (IsSo v (call.Mkdir path))
unfolding mkdir_decided addable
so-mkdir v path = grind arith

so-rmdir : (v : View) (path : List ℕ)
    → IfOk (rmdir_decided v path)
    (IsSo v (call.Rmdir path))
unfolding rmdir_decided
so-rmdir v path = grind arith

so-pipe : (v : View)
    → IfOk (pipe_decided v)
    (IsSo v call.Pipe)
unfolding pipe_decided
so-pipe v = grind arith

so-socketpair : (v : View)
    → IfOk (socketpair_decided v)
    (IsSo v call.Socketpair)
unfolding socketpair_decided
so-socketpair v = grind arith

so-shutdown : (v : View) (descriptor : ℤ) (how : ShutdownHow)
    → IfOk (shutdown_decided v descriptor how)
    (IsSo v (call.Shutdown descriptor how))
unfolding shutdown_decided
so-shutdown v descriptor how = grind (arith, nat_tests)

so-host_open : (v : View) (path : List ℕ) (access : Access) (flags : OpenFlags)
    → IfOk (host_open_decided v path access flags)
    (IsSo v (call.HostOpen path access flags))
unfolding host_open_decided
so-host_open v path access flags = grind (arith, nat_tests)

so-tcp_listen : (v : View) (port : ℤ)
    → IfOk (port_decided v 0 port)
    (IsSo v (call.TcpListen port))
unfolding port_decided
so-tcp_listen v port = grind (arith, nat_tests)

so-tcp_connect : (v : View) (port : ℤ)
    → IfOk (port_decided v 1 port)
    (IsSo v (call.TcpConnect port))
unfolding port_decided
so-tcp_connect v port = grind (arith, nat_tests)

so-tcp_accept : (v : View) (descriptor : ℤ)
    → IfOk (tcp_accept_decided v descriptor)
    (IsSo v (call.TcpAccept descriptor))
unfolding tcp_accept_decided
so-tcp_accept v descriptor = grind (arith, nat_tests)

so : (v : View) (c : Call) (moved : Moved) → IsNumbered v → IfOk (decided v c moved) (IsSo v c)
so v (call.Open path access flags) moved numbered = so-open v path access flags
so v (call.Close descriptor) moved numbered = so-close v numbered descriptor
so v (call.Read descriptor count) moved numbered = so-read v descriptor count
so v (call.Write descriptor bytes) moved numbered = so-write v descriptor bytes moved
so v (call.Pread descriptor count position) moved numbered = so-pread v descriptor count position
so v (call.Pwrite descriptor bytes position) moved numbered =
    so-pwrite v descriptor bytes position
so v (call.Lseek descriptor offset whence) moved numbered = so-lseek v descriptor offset whence
so v (call.Ftruncate descriptor size) moved numbered = so-ftruncate v descriptor size
so v (call.Fstat descriptor) moved numbered = so-fstat v descriptor
so v (call.Dup descriptor) moved numbered = so-dup v descriptor
so v (call.DupFrom descriptor least) moved numbered = so-dup_from v descriptor least
so v (call.Dup2 descriptor target) moved numbered = so-dup2 v descriptor target
so v (call.Getfl descriptor) moved numbered = so-getfl v descriptor
so v (call.Setfl descriptor append nonblock) moved numbered =
    so-setfl v descriptor append nonblock
so v (call.Link old_path new_path) moved numbered = so-link v old_path new_path
so v (call.Unlink path) moved numbered = so-unlink v path
so v (call.Rename old_path new_path) moved numbered = so-rename v old_path new_path
so v (call.Mkdir path) moved numbered = so-mkdir v path
so v (call.Rmdir path) moved numbered = so-rmdir v path
so v call.Pipe moved numbered = so-pipe v
so v call.Socketpair moved numbered = so-socketpair v
so v (call.Shutdown descriptor how) moved numbered = so-shutdown v descriptor how
so v (call.HostOpen path access flags) moved numbered = so-host_open v path access flags
so v (call.TcpListen port) moved numbered = so-tcp_listen v port
so v (call.TcpConnect port) moved numbered = so-tcp_connect v port
so v (call.TcpAccept descriptor) moved numbered = so-tcp_accept v descriptor

-- ## What a state shows

numbered : (s : State) → IsNumbered (seen s)
unfolding seen
numbered s (pos n) at is = grind (arith, is)
numbered s (negsuc n) at is = grind (arith, is)

is_shown : (s : State) (descriptor : ℤ) (at : Seen) → (let v = seen s in v.described descriptor ≡ Ok at)
    → IsShown s descriptor at
is_shown s descriptor at is =
    let its = shown_by s descriptor at is in
    record {
      description = its.description;
      found = its.is_described;
      there = its.found.there;
      object_is = ap (λ (x : Seen). x.object) (sym its.is_seen);
      end_is = ap (λ (x : Seen). x.«end») (sym its.is_seen);
      last_is = ap (λ (x : Seen). x.last) its.is_seen;
    }

shows : (s : State) → Shows s
shows s = record {
  numbered = numbered s;
  described = is_shown s;
  next = next_is s;
  named = λ path object is. file_there s.paths (components_of path) object
      (named_at s path (Some (FileNode object)) is);
}

pub decided_so : DecidedSo
decided_so = record { shows = shows; so = so }
