-- Believed: a contract of the headline stands on it.
-- The steps that an actor's meaning gives, under the replies that were noted.
use Rattle.std.specs.Prelude.{◌≡◌, ◌⊎◌, Bool, true, false, List, [], ◌∷◌, Option, Some, None}
use Rattle.std.specs.Prelude.{is_some}
use Rattle.posix_terms.specs.Calls.{Call}
use Rattle.posix_terms.specs.declared.reply.Reply.{Reply}
use Rattle.thread_scripts.specs.Meaning.{next_of}
use Rattle.thread_scripts.specs.declared.actor.ScriptState.{ScriptState}
use Rattle.posix_terms.specs.declared.step.Step.{Step}
use Rattle.posix_terms.specs.declared.step.Step.TheVariants as step
use Rattle.lock_machine.specs.Waiting.{is_call}
use Rattle.worker_notes.specs.declared.own.Noted.{Noted}

-- the reply after these steps, where there was this one before them: that of the last one, if it
-- came
abbrev pub reply_after : Option Reply → List Noted → Option Reply
reply_after last [] = last
reply_after last (n ∷ notes) = reply_after n.reply notes

-- the reply to the last step that was noted, if it came
abbrev pub last_reply : List Noted → Option Reply
last_reply notes = reply_after None notes

-- the last step has this reply
abbrev pub with_reply : Reply → List Noted → List Noted
with_reply reply [] = []
with_reply reply (n ∷ []) = record n { reply = Some reply } ∷ []
with_reply reply (n ∷ m ∷ notes) = n ∷ with_reply reply (m ∷ notes)

-- from this state and last reply, the steps are those that the script's meaning gives under these
-- replies, and lead to that state
abbrev pub Plays : ScriptState → Option Reply → List Noted → ScriptState → Type 0
Plays s last [] t = t ≡ s
Plays s last (n ∷ notes) t = let next = next_of last s in
    (n.step ≡ next.0) × Plays next.1 n.reply notes t

-- an actor that stood at s stands after these steps; or, where it may be ahead of its notes, one
-- step further
abbrev pub PlaysTo : Bool → ScriptState → List Noted → ScriptState → Type 0
PlaysTo false s notes t = Plays s None notes t
PlaysTo true s notes t =
    (u : ScriptState) × Plays s None notes u × ((t ≡ u) ⊎ (t ≡ (next_of (last_reply notes) u).1))

-- the last step is `End`
abbrev pub gave_end : List Noted → Type 0
gave_end [] = ⊥
gave_end (n ∷ []) = n.step ≡ step.End
gave_end (n ∷ m ∷ notes) = gave_end (m ∷ notes)

-- ## The call that a thread is in

-- a step that is a call and has no reply yet
abbrev pub call_in : Step → Option Reply → Option Call
call_in (step.Call c) None = Some c
call_in x reply = None

-- the call in which the steps end, if the last of them is one that has no reply yet
abbrev pub open_call : List Noted → Option Call
open_call [] = None
open_call (n ∷ []) = call_in n.step n.reply
open_call (n ∷ m ∷ notes) = open_call (m ∷ notes)

-- ## Where replies stand

-- a step has a reply exactly when it is a call
abbrev pub IsHeard : Noted → Type 0
IsHeard n = is_some n.reply ≡ is_call n.step

-- so it is of each of these steps
abbrev pub AreHeard : List Noted → Type 0
AreHeard [] = Unit {0}
AreHeard (n ∷ notes) = IsHeard n × AreHeard notes

-- so it is of each but the last, whose reply may not have come
abbrev pub AreHeardSoFar : List Noted → Type 0
AreHeardSoFar [] = Unit {0}
AreHeardSoFar (n ∷ []) = (n.reply ≡ None) ⊎ IsHeard n
AreHeardSoFar (n ∷ m ∷ notes) = IsHeard n × AreHeardSoFar (m ∷ notes)

-- these steps, with these replies at the calls, one after another
abbrev pub noted : List Step → List Reply → List Noted
noted [] replies = []
noted (step.Call c ∷ steps) [] = record { step = step.Call c; reply = None } ∷ noted steps []
noted (step.Call c ∷ steps) (r ∷ replies) =
    record { step = step.Call c; reply = Some r } ∷ noted steps replies
noted (step.Work n ∷ steps) replies =
    record { step = step.Work n; reply = None } ∷ noted steps replies
noted (step.End ∷ steps) replies = record { step = step.End; reply = None } ∷ noted steps replies
