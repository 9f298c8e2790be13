-- Believed: a contract of the headline stands on it.
-- Scripts as programs: a script's next step after the steps asked and the replies to them.
use Rattle.std.specs.Prelude.{◌≡◌, ◌⊎◌, ℕ, ◌<◌, List, [], ◌∷◌, length, Option, Some, None}
use Rattle.posix_terms.specs.declared.reply.Reply.{Reply}
use Rattle.thread_scripts.specs.Meaning.{next_of, start_of}
use Rattle.thread_scripts.specs.declared.actor.ScriptState.{ScriptState}
use Rattle.posix_terms.specs.declared.step.Step.{Step}
use Rattle.posix_terms.specs.declared.step.Step.TheVariants as step
use Rattle.thread_scripts.specs.declared.line.Line.{Line}

-- the reply to a step, if it was a call: the first of those that are left
abbrev pub reply_to : Step → List Reply → Option Reply
reply_to (step.Call c) (r ∷ replies) = Some r
reply_to (step.Call c) [] = None
reply_to (step.Work n) replies = None
reply_to step.End replies = None

-- and those after it
abbrev pub replies_behind : Step → List Reply → List Reply
replies_behind (step.Call c) (r ∷ replies) = replies
replies_behind (step.Call c) [] = []
replies_behind (step.Work n) replies = replies
replies_behind step.End replies = replies

-- a script that has come this far, and the last reply: it is
-- there exactly when the last step was a call
pub record Reached : Type 0 where
  pub last : Option Reply
  pub state : ScriptState

-- how far a script has come after these steps, with the replies to them
abbrev pub reached_after : Reached → List Step → List Reply → Reached
reached_after at [] replies = at
reached_after at (x ∷ asked) replies =
    reached_after (record { last = reply_to x replies; state = (next_of at.last at.state).1 }) asked
    (replies_behind x replies)

-- the next step of a script that has come this far
abbrev pub next_at : Reached → Step
next_at at = (next_of at.last at.state).0

-- before its first line there was no reply
abbrev pub at_start : List Line → Reached
at_start script = record { last = None; state = start_of script }

-- a script's lines, as a program
abbrev pub scripted : List Line → List Step → List Reply → Option Step
scripted script asked replies = Some (next_at (reached_after (at_start script) asked replies))

-- it never lacks its next step
abbrev pub NeverLacks : Type 0
NeverLacks = (script : List Line) (asked : List Step) (replies : List Reply) → (x : Step)
    × (scripted script asked replies ≡ Some x)

-- and it comes to its end: after so many steps it gives nothing else, whatever the replies are
abbrev pub ScriptsEnd : Type 0
ScriptsEnd =
    (script : List Line)
    → (bound : ℕ) × ((asked : List Step) (replies : List Reply) (x : Step)
    → scripted script asked replies ≡ Some x → (x ≡ step.End) ⊎ (length asked < bound))
