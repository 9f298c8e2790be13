-- Believed: a contract of the headline stands on it.
-- How a turn of a call ended, and how long a call waits that cannot go on.
use Rattle.std.specs.Prelude.{◌≡◌, ℕ, pos, List, Bool, ◌&&◌, Option, Some, None}
use Rattle.std.specs.Prelude.{if◌then◌else◌}
use Rattle.posix_terms.specs.declared.carried.Moved.{Moved}
use Rattle.sequential_object.specs.declared.turn_end.ActEnd.{ActEnd}
use Rattle.sequential_object.specs.declared.turn_end.ActEnd.TheVariants as act_end
use Rattle.sequential_object.specs.Object.{State}
use Rattle.sequential_object.specs.Step.{Carried, is_again, nothing_carried, nothing_moved}
use Rattle.sequential_object.specs.Step.{waited}
use Rattle.posix_terms.specs.declared.errno.Errno.TheVariants.{EAGAIN, EIO}
use Rattle.posix_terms.specs.declared.outcome.OutKind.{OutKind}
use Rattle.posix_terms.specs.declared.outcome.OutKind.TheVariants as out
use Rattle.posix_terms.specs.declared.outcome.Outcome.{Outcome}
use Rattle.posix_terms.specs.declared.outcome.Outcome.TheVariants as outcome
use Rattle.posix_terms.specs.declared.reply.Answer as posix
use Rattle.posix_terms.specs.declared.reply.Answer.TheVariants as answer
use Rattle.posix_terms.specs.declared.reply.Reply.{Reply}
use Rattle.posix_terms.specs.declared.reply.Reply.TheVariants as reply
use Rattle.posix_terms.specs.declared.transcript.Settings.{Settings}
use Rattle.sequential_object.specs.Answers.{answer_in, answered_with}
use Rattle.sequential_object.specs.Acts.{Ending}
use Rattle.sequential_object.specs.Acts as ending
use Rattle.sequential_object.specs.Bytes.{reply_bytes}
use Rattle.descriptor_table.specs.declared.plan.Errand.{Errand}
use Rattle.sequential_object.specs.declared.turn_end.TurnEnd.{TurnEnd}
use Rattle.sequential_object.specs.declared.turn_end.TurnEnd.TheVariants as end

-- how many bytes the end of a turn brings
abbrev pub turn_bytes : TurnEnd → ℕ
turn_bytes (end.Reply reply) = reply_bytes reply
turn_bytes (end.Blocked carried) = 0

-- how many bytes an act brings that replies so, or has to wait
abbrev pub act_bytes : ActEnd → ℕ
act_bytes (act_end.Reply reply) = reply_bytes reply
act_bytes (act_end.Waits moved) = 0

-- an act that ends so
abbrev pub end_of : Ending → ActEnd
end_of (ending.Replies r) = act_end.Reply r
end_of (ending.Blocks moved) = act_end.Waits moved

-- what cannot go on waits, or fails where its description is not to block
abbrev pub stopped_ending : Bool → ActEnd
stopped_ending nonblock =
    if nonblock then act_end.Reply (reply.Fail EAGAIN) else act_end.Waits nothing_moved

-- the answer of a turn that ends so, and what is carried on from it
abbrev pub ended : Settings → State → Carried → ActEnd → posix.Answer × Carried
ended settings s carried (act_end.Reply r) = (answer.Reply r, nothing_carried)
ended settings s carried (act_end.Waits moved) =
    let stepped = waited settings s moved carried in (stepped.answer, stepped.carried)

-- the end of a turn of a call that cannot go on, carries this and has moved so much
abbrev pub Waits : ℕ → Moved → Carried → TurnEnd → Type 0
Waits patience moved carried e =
    (settings : Settings) (s : State) → settings.patience ≡ patience
    → answer_in (waited settings s moved carried) ≡ e

-- an answer with what is carried on, as one of the lock machine
abbrev pub as_answer : posix.Answer × Carried → TurnEnd
as_answer (answer, carried) = answered_with answer carried

-- the reply to a success outside
abbrev pub told_outside : OutKind → ℕ → List ℕ → Reply
told_outside out.Read value bytes = reply.Data bytes
told_outside out.Write value bytes = reply.Count value
told_outside out.Seek value bytes = reply.Number (pos value)
told_outside out.Shutdown value bytes = reply.Done
told_outside out.Close value bytes = reply.Done
-- never met: who opens a door is given the number of its descriptor
told_outside kind value bytes = reply.Done

-- EAGAIN may make a call wait, and every other failure is its reply. While the outcome is missing
-- the ending says nothing
abbrev pub outside_ending : Errand → Option Outcome → ActEnd
outside_ending e (Some (outcome.Ok value bytes)) = act_end.Reply (told_outside e.kind value bytes)
outside_ending e (Some (outcome.Fail error)) =
    if e.waits && is_again error then act_end.Waits nothing_moved else
    act_end.Reply (reply.Fail error)
outside_ending e None = act_end.Reply (reply.Fail EIO)

-- the end of a turn of a call that went outside with this errand, by the outcome that came
abbrev pub EndsOutside : ℕ → Carried → Errand → Outcome → TurnEnd → Type 0
EndsOutside patience carried errand o e =
    (settings : Settings) (s : State) → settings.patience ≡ patience
    → as_answer (ended settings s carried (outside_ending errand (Some o))) ≡ e
