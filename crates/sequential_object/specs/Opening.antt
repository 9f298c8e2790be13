-- Believed: a contract of the headline stands on it.
-- Opening and closing descriptors.
-- POSIX.1-2017, System Interfaces: `open`, `close`.
use Rattle.std.specs.Prelude.{ℕ, ℤ, List, Bool, not, ◌&&◌, Option, Some, None, Result, Ok, Err}
use Rattle.std.specs.Prelude.{if◌then◌else◌}
use Rattle.sequential_object.specs.Object.{Node, FileNode, Directory}
use Rattle.sequential_object.specs.Refusals.{◌>>=◌, refuse_if, some_or}
use Rattle.posix_terms.specs.Calls.{can_write}
use Rattle.posix_terms.specs.declared.call.Access.{Access}
use Rattle.posix_terms.specs.declared.call.OpenFlags.{OpenFlags}
use Rattle.posix_terms.specs.declared.errno.Errno.{Errno}
use Rattle.posix_terms.specs.declared.errno.Errno.TheVariants.{EEXIST, EINVAL, EISDIR, EMFILE}
use Rattle.posix_terms.specs.declared.errno.Errno.TheVariants.{ENOENT, ENOSPC}
use Rattle.sequential_object.specs.View.{View}
use Rattle.sequential_object.specs.declared.decision.Decision.{Decision}
use Rattle.sequential_object.specs.declared.decision.NewDescriptor.{NewDescriptor}
use Rattle.sequential_object.specs.declared.decision.Seen.{Seen}
use Rattle.sequential_object.specs.Deciding.{leads_outside}
use Rattle.posix_terms.specs.declared.reply.Reply.TheVariants as reply
use Rattle.sequential_object.specs.declared.decision.Act.TheVariants as act
use Rattle.sequential_object.specs.declared.decision.Change.TheVariants as change
use Rattle.sequential_object.specs.declared.decision.Decision.TheVariants as decision
use Rattle.sequential_object.specs.declared.decision.Deed.TheVariants as deed

-- a descriptor to be opened: its number, its object, and how it may be used
abbrev pub new_descriptor : ℕ → ℕ → Access → (append nonblock : Bool) → NewDescriptor
new_descriptor n object access append nonblock = record {
  number = n;
  object = object;
  access = access;
  append = append;
  nonblock = nonblock;
}

-- a descriptor to be opened with these flags of `open`
abbrev pub opened_with : ℕ → ℕ → Access → OpenFlags → NewDescriptor
opened_with n object access flags = new_descriptor n object access flags.append flags.nonblock

-- `open` of a path that names something
abbrev pub open_there : View → Node → Access → OpenFlags → Result Decision Errno
open_there v Directory access flags = Err EISDIR
open_there v (FileNode object) access flags = do
  n ← some_or (v.lowest 0) EMFILE
  Ok (decision.Locks object
      (deed.Acts (act.Open n flags.truncate)
      (change.OpenFile (opened_with n object access flags))))

-- `open` of a path that names nothing
abbrev pub open_new : View → Access → OpenFlags → Result Decision Errno
open_new v access flags = do
  _ ← refuse_if (not flags.create) ENOENT
  _ ← refuse_if v.names_full ENOSPC
  object ← some_or v.next ENOSPC
  n ← some_or (v.lowest 0) EMFILE
  Ok (decision.Locks object
      (deed.Acts (act.Create n) (change.MakeFile (opened_with n object access flags))))

-- `open` of a path that names this, or nothing
abbrev pub open_node : View → Option Node → Access → OpenFlags → Result Decision Errno
open_node v None access flags = open_new v access flags
open_node v (Some node) access flags = do
  _ ← refuse_if (flags.create && flags.exclusive) EEXIST
  open_there v node access flags

-- `open`; O_EXCL without O_CREAT is ignored
unfoldable pub open_decided : View → List ℕ → Access → OpenFlags → Result Decision Errno
open_decided v path access flags = do
  _ ← refuse_if (flags.truncate && not (can_write access)) EINVAL
  node ← v.named path
  open_node v node access flags

-- where the description ends with the descriptor its object is locked, and a door is closed outside
abbrev pub closes : Seen → Decision
closes at =
    if not at.last then decision.Replies reply.Done (change.Close at.number at.key) else
    if leads_outside at.«end» then decision.Locks at.object (deed.Closes at.number at.key) else
    decision.Locks at.object (deed.Acts act.Release (change.Close at.number at.key))

-- `close`
unfoldable pub close_decided : View → ℤ → Result Decision Errno
close_decided v descriptor = do
  at ← v.described descriptor
  Ok (closes at)
