-- Internal: no contract of the headline or of a command stands on it.
-- The plan of a call: what is decided of it, without its change.
use Rattle.std.specs.Prelude.{ℕ, Bool, true, false, Option, Some, Result, Ok, Err}
use Rattle.posix_terms.specs.Calls.{Call}
use Rattle.posix_terms.specs.declared.errno.Errno.{Errno}
use Rattle.posix_terms.specs.declared.reply.Reply.{Reply}
use Rattle.posix_terms.specs.declared.reply.Reply.TheVariants as reply
use Rattle.sequential_object.specs.Bytes.{bytes_of_kind}
use Rattle.sequential_object.specs.Meant.{request_asked, request_kind}
use Rattle.sequential_object.specs.declared.decision.Decision.{Decision}
use Rattle.sequential_object.specs.declared.decision.Decision.TheVariants as decision
use Rattle.sequential_object.specs.declared.decision.Deed.{Deed}
use Rattle.sequential_object.specs.declared.decision.Deed.TheVariants as deed
use Rattle.descriptor_table.specs.declared.plan.Errand.{Errand}
use Rattle.descriptor_table.specs.declared.plan.Op.{Op}
use Rattle.descriptor_table.specs.declared.plan.Op.TheVariants as op
use Rattle.descriptor_table.specs.declared.plan.Plan.{Plan}
use Rattle.descriptor_table.specs.declared.plan.Plan.TheVariants as plan

-- what a call asks of the outside, and whose door it takes along
abbrev pub errand_of : Call → Bool → Option ℕ → Errand
errand_of c waits door = record {
  kind = request_kind c;
  asked = request_asked c;
  waits = waits;
  door = door;
}

-- what a call does at the object that it locks: an act, or a request to the outside
abbrev pub op_of : Call → ℕ → Deed → Op
op_of c object (deed.Acts a x) = op.Act a
op_of c object (deed.Asks blocks) = op.Ask (errand_of c blocks (Some object))
op_of c object (deed.Closes n key) = op.Ask (errand_of c false (Some object))
op_of c object (deed.Opens blocks listener new) = op.Ask (errand_of c blocks listener)

-- a call that opens a door keeps the table to its answer
abbrev pub keeps : Deed → Bool
keeps (deed.Opens blocks listener new) = true
keeps d = false

-- the plan of a call of which this was decided, or which is refused with this error
abbrev pub plan_of : Call → Result Decision Errno → Plan
plan_of c (Ok (decision.Replies r x)) = plan.Reply r
plan_of c (Ok (decision.Locks object d)) = plan.Node object (op_of c object d) (keeps d)
plan_of c (Err e) = plan.Reply (reply.Fail e)

-- how many bytes an errand brings at most
abbrev pub bytes_asked : Errand → ℕ
bytes_asked e = bytes_of_kind e.kind e.asked

-- ## Refusals

-- whether a reply is a failure
abbrev pub is_failure : Reply → Bool
is_failure (reply.Fail e) = true
is_failure _ = false

-- whether the table alone refuses a call that has this plan
abbrev pub is_refused : Plan → Bool
is_refused (plan.Reply r) = is_failure r
is_refused (plan.Node node act keep_table) = false
