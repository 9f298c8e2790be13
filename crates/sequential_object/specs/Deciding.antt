-- Believed: a contract of the headline stands on it.
-- What the calls have in common: the decision of an act or a request, and what the end of an object
-- is.
use Rattle.std.specs.Prelude.{Bool, true, false, not, Result, if◌then◌else◌}
use Rattle.sequential_object.specs.Refusals.{refuse_if}
use Rattle.posix_terms.specs.Ends.{is_end}
use Rattle.posix_terms.specs.declared.errno.Errno.{Errno}
use Rattle.posix_terms.specs.declared.object.End.{End}
use Rattle.posix_terms.specs.declared.reply.Reply.{Reply}
use Rattle.sequential_object.specs.declared.decision.Act.{Act}
use Rattle.sequential_object.specs.declared.decision.Decision.{Decision}
use Rattle.sequential_object.specs.declared.decision.Seen.{Seen}
use Rattle.posix_terms.specs.declared.object.End.TheVariants as part
use Rattle.sequential_object.specs.declared.decision.Change.TheVariants as change
use Rattle.sequential_object.specs.declared.decision.Decision.TheVariants as decision
use Rattle.sequential_object.specs.declared.decision.Deed.TheVariants as deed

-- the table alone replies, and changes nothing
abbrev pub tells : Reply → Decision
tells r = decision.Replies r change.Nothing

-- an act that changes nothing in the table
abbrev pub locks : Seen → Act → Decision
locks at does = decision.Locks at.object (deed.Acts does change.Nothing)

-- whether a descriptor is of a regular file
abbrev pub is_file : Seen → Bool
is_file at = is_end at.«end» part.Only

-- whether an end is that of a door
abbrev pub leads_outside : End → Bool
leads_outside (part.Door door) = true
leads_outside e = false

-- an act on an object in memory, and a request where the object is a door
abbrev pub acts_or_asks : Seen → Bool → Act → Decision
acts_or_asks at blocks does =
    if leads_outside at.«end» then decision.Locks at.object (deed.Asks blocks) else locks at does

-- it is refused with this error unless it is of a regular file
abbrev pub must_be_file : Seen → Errno → Result (Unit {0}) Errno
must_be_file at e = refuse_if (not (is_file at)) e
