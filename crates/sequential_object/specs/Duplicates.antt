-- Believed: a contract of the headline stands on it.
-- Descriptors that share a description.
-- POSIX.1-2017, System Interfaces: `dup`, `dup2`, `fcntl` with F_DUPFD.
use Rattle.std.specs.Prelude.{ℕ, ℤ, pos, negsuc, Bool, false, not, ◌&&◌, Result, Ok, Err}
use Rattle.std.specs.Prelude.{if◌then◌else◌, nat_lt}
use Rattle.std.specs.Ordering.{int_eq}
use Rattle.sequential_object.specs.Object.{State}
use Rattle.sequential_object.specs.Refusals.{◌>>=◌, refuse_if, some_or}
use Rattle.posix_terms.specs.declared.errno.Errno.{Errno}
use Rattle.posix_terms.specs.declared.errno.Errno.TheVariants.{EBADF, EBUSY, EINVAL, EMFILE}
use Rattle.sequential_object.specs.View.{View}
use Rattle.sequential_object.specs.declared.decision.Decision.{Decision}
use Rattle.sequential_object.specs.declared.decision.Seen.{Seen}
use Rattle.sequential_object.specs.Deciding.{leads_outside, tells}
use Rattle.std.specs.FinMap as map
use Rattle.posix_terms.specs.declared.limits.TheConstants.Limits as limit
use Rattle.posix_terms.specs.declared.reply.Reply.TheVariants as reply
use Rattle.sequential_object.specs.declared.decision.Act.TheVariants as act
use Rattle.sequential_object.specs.declared.decision.Change.TheVariants as change
use Rattle.sequential_object.specs.declared.decision.Decision.TheVariants as decision
use Rattle.sequential_object.specs.declared.decision.Deed.TheVariants as deed

-- number n refers to the description of this key
abbrev pub shared : State → ℕ → ℕ → State
shared s n key = record s { descriptors = map.insert s.descriptors n key }

-- a number that a descriptor can have
abbrev pub descriptor_number : ℤ → Errno → Result ℕ Errno
descriptor_number (pos n) e = if nat_lt n limit.DESCRIPTORS then Ok n else Err e
descriptor_number (negsuc n) e = Err e

-- `dup`
unfoldable pub dup_decided : View → ℤ → Result Decision Errno
dup_decided v descriptor = do
  at ← v.described descriptor
  n ← some_or (v.lowest 0) EMFILE
  Ok (decision.Replies (reply.Number (pos n)) (change.Share n at.key))

-- `fcntl` with F_DUPFD: the least number at or above the one that is given
unfoldable pub dup_from_decided : View → ℤ → ℤ → Result Decision Errno
dup_from_decided v descriptor least = do
  at ← v.described descriptor
  first ← descriptor_number least EINVAL
  n ← some_or (v.lowest first) EMFILE
  Ok (decision.Replies (reply.Number (pos n)) (change.Share n at.key))

-- whether a target is the last descriptor of a door, if it is open
abbrev pub is_last_of_door : Result Seen Errno → Bool
is_last_of_door (Ok to) = leads_outside to.«end» && to.last
is_last_of_door (Err e) = false

-- number n, which is closed first if it is open, refers to the description of this key
abbrev pub replaces : ℕ → ℕ → Result Seen Errno → Decision
replaces n key (Ok to) =
    if to.last then decision.Locks to.object
    (deed.Acts act.Release (change.Replace n to.key key)) else
    decision.Replies (reply.Number (pos n)) (change.Replace n to.key key)
replaces n key (Err e) = decision.Replies (reply.Number (pos n)) (change.Share n key)

-- `dup2`; a target that is the descriptor itself stays as it is, and no door is closed in this way
unfoldable pub dup2_decided : View → ℤ → ℤ → Result Decision Errno
dup2_decided v descriptor target = do
  at ← v.described descriptor
  n ← descriptor_number target EBADF
  _ ← refuse_if (not (int_eq descriptor target) && is_last_of_door (v.described target)) EBUSY
  Ok (if int_eq descriptor target then tells (reply.Number target) else
      replaces n at.key (v.described target))
