-- Under other names the same is decided: one lemma a call.
use Rattle.std.proofs.Common.{◌≡◌, ℕ, ◌==◌, List, Bool, Option, Some, None, Result, Ok, Err}
use Rattle.std.proofs.Common.{arith, true, false}
use Rattle.std.proofs.Common.{inl, inr, refl}
use Rattle.std.specs.Prelude.{ℤ, length}
use Rattle.sequential_object.specs.Object.{Directory, FileNode, Node}
use Rattle.sequential_object.specs.Paths.{components_of}
use Rattle.sequential_object.specs.Refusals.{◌>>=◌, refuse_if}
use Rattle.posix_terms.specs.declared.errno.Errno.{Errno}
use Rattle.posix_terms.specs.declared.errno.Errno.TheVariants.{EBUSY, ENOTEMPTY}
use Rattle.posix_terms.specs.declared.reply.Reply.TheVariants as reply
use Rattle.posix_terms.specs.declared.call.Access.{Access}
use Rattle.posix_terms.specs.declared.call.Call.TheVariants as call
use Rattle.posix_terms.specs.declared.call.OpenFlags.{OpenFlags}
use Rattle.posix_terms.specs.declared.call.ShutdownHow.{ShutdownHow}
use Rattle.posix_terms.specs.declared.call.Whence.{Whence}
use Rattle.posix_terms.specs.declared.carried.Moved.{Moved}
use Rattle.sequential_object.specs.Opening.{close_decided, open_decided}
use Rattle.sequential_object.specs.Doors.{host_open_decided, port_decided, tcp_accept_decided}
use Rattle.sequential_object.specs.Duplicates.{dup2_decided, dup_decided, dup_from_decided}
use Rattle.sequential_object.specs.Names.{addable, ends_by_name, file_named, link_decided, mkdir_decided}
use Rattle.sequential_object.specs.Names.{rename_decided, rmdir_decided, unlink_decided}
use Rattle.sequential_object.specs.Sockets.{pipe_decided, shutdown_decided, socketpair_decided}
use Rattle.sequential_object.specs.Status.{fstat_decided, getfl_decided, setfl_decided}
use Rattle.sequential_object.specs.Transfers.{ftruncate_decided, lseek_decided, pread_decided}
use Rattle.sequential_object.specs.Transfers.{pwrite_decided, read_decided, write_decided}
use Rattle.sequential_object.specs.Renaming.{Alike, DecidesAlike, Names, decision_by, ok_by}
use Rattle.sequential_object.specs.So.{IsNamed}
use Rattle.sequential_object.specs.View.{View}
use Rattle.sequential_object.specs.declared.decision.Change.TheVariants as change
use Rattle.sequential_object.specs.declared.decision.Decision.{Decision}
use Rattle.sequential_object.specs.declared.decision.Decision.TheVariants as decision
use Rattle.sequential_object.specs.declared.decision.Seen.{Seen}

abbrev removed_by : Bool → Bool → Result Decision Errno
removed_by root full = do
  _ ← (do
    _ ← refuse_if root EBUSY
    refuse_if full ENOTEMPTY)
  Ok (decision.Replies reply.Done change.RemoveDirectory)

module _ (r : Names) (v u : View) (like : Alike r v u) where
  -- a file ends with a name in both or in neither; and two names are of one file in both or in
  -- neither
  ends_named : (path : List ℕ) (object : ℕ) → v.named path ≡ Ok (Some (FileNode object))
      → ends_by_name u (r.object object) ≡ ends_by_name v object
  unfolding ends_by_name
  ends_named path object is =
      let named : IsNamed v object = record { path = path; found = is } in
      rw (like.is_open object named, like.links object (inl named)) refl

  one_named : (path other_path : List ℕ) (object other : ℕ)
      → v.named path ≡ Ok (Some (FileNode object))
      → v.named other_path ≡ Ok (Some (FileNode other))
      → (r.object other == r.object object) ≡ (other == object)
  one_named path other_path object other is its =
      like.apart other object (record { path = other_path; found = its })
      (record { path = path; found = is })

  links_seen : (descriptor : ℤ) (at : Seen) → v.described descriptor ≡ Ok at
      → u.links (r.object at.object) ≡ v.links at.object
  links_seen descriptor at is =
      like.links at.object (inr (record {
        at = at;
        found = record { descriptor = descriptor; found = is };
        object_is = refl;
      }))

  alike-open : (path : List ℕ) (access : Access) (flags : OpenFlags)
      → open_decided u path access flags
      ≡ ok_by (decision_by r) (open_decided v path access flags)
  unfolding open_decided
  alike-open path access flags =
      grind (arith, like.named path, like.lowest 0, like.names_full, like.next)

  alike-close : (descriptor : ℤ)
      → close_decided u descriptor
      ≡ ok_by (decision_by r) (close_decided v descriptor)
  unfolding close_decided
  alike-close descriptor = grind (arith, like.described descriptor)

  alike-read : (descriptor count : ℤ)
      → read_decided u descriptor count
      ≡ ok_by (decision_by r) (read_decided v descriptor count)
  unfolding read_decided
  alike-read descriptor count = grind (arith, like.described descriptor)

  alike-write : (descriptor : ℤ) (bytes : List ℕ) (moved : Moved)
      → write_decided u descriptor (length bytes) moved
      ≡ ok_by (decision_by r) (write_decided v descriptor (length bytes) moved)
  unfolding write_decided
  alike-write descriptor bytes moved = grind (arith, like.described descriptor)

  alike-pread : (descriptor count position : ℤ)
      → pread_decided u descriptor count position
      ≡ ok_by (decision_by r) (pread_decided v descriptor count position)
  unfolding pread_decided
  alike-pread descriptor count position = grind (arith, like.described descriptor)

  alike-pwrite : (descriptor : ℤ) (bytes : List ℕ) (position : ℤ)
      → pwrite_decided u descriptor (length bytes) position
      ≡ ok_by (decision_by r) (pwrite_decided v descriptor (length bytes) position)
  unfolding pwrite_decided
  alike-pwrite descriptor bytes position = grind (arith, like.described descriptor)

  alike-lseek : (descriptor offset : ℤ) (whence : Whence)
      → lseek_decided u descriptor offset whence
      ≡ ok_by (decision_by r) (lseek_decided v descriptor offset whence)
  unfolding lseek_decided
  alike-lseek descriptor offset whence = grind (arith, like.described descriptor)

  alike-ftruncate : (descriptor size : ℤ)
      → ftruncate_decided u descriptor size
      ≡ ok_by (decision_by r) (ftruncate_decided v descriptor size)
  unfolding ftruncate_decided
  alike-ftruncate descriptor size = grind (arith, like.described descriptor)

  alike-fstat : (descriptor : ℤ)
      → fstat_decided u descriptor
      ≡ ok_by (decision_by r) (fstat_decided v descriptor)
  unfolding fstat_decided
  alike-fstat descriptor = grind (arith, like.described descriptor, links_seen descriptor)

  alike-dup : (descriptor : ℤ)
      → dup_decided u descriptor
      ≡ ok_by (decision_by r) (dup_decided v descriptor)
  unfolding dup_decided
  alike-dup descriptor = grind (arith, like.described descriptor, like.lowest 0)

  alike-dup_from : (descriptor least : ℤ)
      → dup_from_decided u descriptor least
      ≡ ok_by (decision_by r) (dup_from_decided v descriptor least)
  unfolding dup_from_decided
  alike-dup_from descriptor least = grind (arith, like.described descriptor, like.lowest)

  alike-dup2 : (descriptor target : ℤ)
      → dup2_decided u descriptor target
      ≡ ok_by (decision_by r) (dup2_decided v descriptor target)
  unfolding dup2_decided
  alike-dup2 descriptor target = grind (arith, like.described descriptor, like.described target)

  alike-getfl : (descriptor : ℤ)
      → getfl_decided u descriptor
      ≡ ok_by (decision_by r) (getfl_decided v descriptor)
  unfolding getfl_decided
  alike-getfl descriptor = grind (arith, like.described descriptor)

  alike-setfl : (descriptor : ℤ) (append nonblock : Bool)
      → setfl_decided u descriptor append nonblock
      ≡ ok_by (decision_by r) (setfl_decided v descriptor append nonblock)
  unfolding setfl_decided
  alike-setfl descriptor append nonblock = grind (arith, like.described descriptor)

  alike-link : (old_path new_path : List ℕ)
      → link_decided u old_path new_path
      ≡ ok_by (decision_by r) (link_decided v old_path new_path)
  unfolding link_decided file_named addable
  alike-link old_path new_path =
      grind (arith, like.named old_path, like.named new_path, like.names_full)

  alike-unlink : (path : List ℕ)
      → unlink_decided u path
      ≡ ok_by (decision_by r) (unlink_decided v path)
  unfolding unlink_decided file_named
  alike-unlink path = grind (arith, like.named path, ends_named path)

  alike-rename : (old_path new_path : List ℕ)
      → rename_decided u old_path new_path
      ≡ ok_by (decision_by r) (rename_decided v old_path new_path)
  unfolding rename_decided file_named
  alike-rename old_path new_path =
      grind (
        arith,
        like.named old_path,
        like.named new_path,
        ends_named new_path,
        one_named old_path new_path,
      )

  alike-mkdir : (path : List ℕ)
      → mkdir_decided u path
      ≡ ok_by (decision_by r) (mkdir_decided v path)
  unfolding mkdir_decided addable
  alike-mkdir path = grind (arith, like.named path, like.names_full)

  alike-rmdir : (path : List ℕ)
      → rmdir_decided u path
      ≡ ok_by (decision_by r) (rmdir_decided v path)
  unfolding rmdir_decided
  alike-rmdir path = by_named (v.named path) refl
    where
      by_named : (found : Result (Option Node) Errno) → v.named path ≡ found
          → rmdir_decided u path ≡ ok_by (decision_by r) (rmdir_decided v path)
      by_named (Err e) is = rw (like.named path, is) refl
      by_named (Ok None) is = rw (like.named path, is) refl
      by_named (Ok (Some (FileNode object))) is = rw (like.named path, is) refl
      by_named (Ok (Some Directory)) is =
          rw (like.named path, is, like.has_entries path)
          (by_tests (length (components_of path) == 0) (v.has_entries path))
        where
          by_tests : (root full : Bool)
              → removed_by root full ≡ ok_by (decision_by r) (removed_by root full)
          by_tests true full = refl
          by_tests false true = refl
          by_tests false false = refl

  alike-pipe : pipe_decided u
      ≡ ok_by (decision_by r) (pipe_decided v)
  unfolding pipe_decided
  alike-pipe = grind (arith, like.lowest, like.next)

  alike-socketpair : socketpair_decided u
      ≡ ok_by (decision_by r) (socketpair_decided v)
  unfolding socketpair_decided
  alike-socketpair = grind (arith, like.lowest, like.next)

  alike-shutdown : (descriptor : ℤ) (how : ShutdownHow)
      → shutdown_decided u descriptor how
      ≡ ok_by (decision_by r) (shutdown_decided v descriptor how)
  unfolding shutdown_decided
  alike-shutdown descriptor how = grind (arith, like.described descriptor)

  alike-host_open : (path : List ℕ) (access : Access) (flags : OpenFlags)
      → host_open_decided u path access flags
      ≡ ok_by (decision_by r) (host_open_decided v path access flags)
  unfolding host_open_decided
  alike-host_open path access flags = grind (arith, like.lowest 0, like.next)

  alike-port : (least : ℕ) (port : ℤ)
      → port_decided u least port
      ≡ ok_by (decision_by r) (port_decided v least port)
  unfolding port_decided
  alike-port least port = grind (arith, like.lowest 0, like.next)

  alike-tcp_accept : (descriptor : ℤ)
      → tcp_accept_decided u descriptor
      ≡ ok_by (decision_by r) (tcp_accept_decided v descriptor)
  unfolding tcp_accept_decided
  alike-tcp_accept descriptor = grind (arith, like.described descriptor, like.lowest 0, like.next)

pub alike : DecidesAlike
alike r v u (call.Open path access flags) moved like = alike-open r v u like path access flags
alike r v u (call.Close descriptor) moved like = alike-close r v u like descriptor
alike r v u (call.Read descriptor count) moved like = alike-read r v u like descriptor count
alike r v u (call.Write descriptor bytes) moved like =
    alike-write r v u like descriptor bytes moved
alike r v u (call.Pread descriptor count position) moved like =
    alike-pread r v u like descriptor count position
alike r v u (call.Pwrite descriptor bytes position) moved like =
    alike-pwrite r v u like descriptor bytes position
alike r v u (call.Lseek descriptor offset whence) moved like =
    alike-lseek r v u like descriptor offset whence
alike r v u (call.Ftruncate descriptor size) moved like =
    alike-ftruncate r v u like descriptor size
alike r v u (call.Fstat descriptor) moved like = alike-fstat r v u like descriptor
alike r v u (call.Dup descriptor) moved like = alike-dup r v u like descriptor
alike r v u (call.DupFrom descriptor least) moved like =
    alike-dup_from r v u like descriptor least
alike r v u (call.Dup2 descriptor target) moved like = alike-dup2 r v u like descriptor target
alike r v u (call.Getfl descriptor) moved like = alike-getfl r v u like descriptor
alike r v u (call.Setfl descriptor append nonblock) moved like =
    alike-setfl r v u like descriptor append nonblock
alike r v u (call.Link old_path new_path) moved like = alike-link r v u like old_path new_path
alike r v u (call.Unlink path) moved like = alike-unlink r v u like path
alike r v u (call.Rename old_path new_path) moved like =
    alike-rename r v u like old_path new_path
alike r v u (call.Mkdir path) moved like = alike-mkdir r v u like path
alike r v u (call.Rmdir path) moved like = alike-rmdir r v u like path
alike r v u call.Pipe moved like = alike-pipe r v u like
alike r v u call.Socketpair moved like = alike-socketpair r v u like
alike r v u (call.Shutdown descriptor how) moved like = alike-shutdown r v u like descriptor how
alike r v u (call.HostOpen path access flags) moved like =
    alike-host_open r v u like path access flags
alike r v u (call.TcpListen port) moved like = alike-port r v u like 0 port
alike r v u (call.TcpConnect port) moved like = alike-port r v u like 1 port
alike r v u (call.TcpAccept descriptor) moved like = alike-tcp_accept r v u like descriptor
