-- Believed: a contract of a command stands on it.
-- Where the calls of a thread stand in its script, by the replies that it had.
use Rattle.std.specs.Prelude.{ℕ, zero, suc, ◌+◌, List, [], ◌∷◌, map, Option, Some, None}
use Rattle.std.specs.Prelude.{option_map}
use Rattle.posix_terms.specs.declared.reply.Reply.{Reply}
use Rattle.posix_terms.specs.declared.step.Step.{Step}
use Rattle.posix_terms.specs.declared.step.Step.TheVariants as step
use Rattle.thread_scripts.specs.Meaning.{lines_left, next_of, start_of}
use Rattle.thread_scripts.specs.declared.actor.ScriptState.{ScriptState}
use Rattle.thread_scripts.specs.declared.line.Line.{Line}

-- a step that is not a work, and the state after it. After a work it is sought further
abbrev pub past_work : Step → ScriptState → Step × ScriptState → Step × ScriptState
past_work (step.Call call) s more = (step.Call call, s)
past_work (step.Work amount) s more = more
past_work step.End s more = (step.End, s)

-- the next step that is not a work, if that is among the next n steps, and the state after it.
-- After a work there is no reply
unfoldable pub past_works_within : ℕ → Option Reply → ScriptState → Step × ScriptState
past_works_within zero last s = (step.End, s)
past_works_within (suc n) last s =
    past_work (next_of last s).0 (next_of last s).1 (past_works_within n None (next_of last s).1)

-- the next step that is not a work, given the last reply, and the state after it. Each step but the
-- end leaves fewer lines to be executed, so these are steps enough
abbrev pub past_works : Option Reply → ScriptState → Step × ScriptState
past_works last s = past_works_within (lines_left s + 1) last s

-- the state after a call
abbrev pub call_at : Step → ScriptState → Option ScriptState
call_at (step.Call call) s = Some s
call_at (step.Work amount) s = None
call_at step.End s = None

-- the state after the next call, given the last reply, if there is such a call
abbrev pub call_after : Option Reply → ScriptState → Option ScriptState
call_after last s = call_at (past_works last s).0 (past_works last s).1

-- a call with its place, by the state after it, and its reply; then those that follow
abbrev pub call_before :
    Option ScriptState → Reply → (ScriptState → List (ℕ × Reply)) → List (ℕ × Reply)
call_before None reply others = []
call_before (Some s) reply others = (s.place, reply) ∷ others s

-- the places of the next calls, each with its reply of these. Where there is no call left, the
-- replies that are left have none
abbrev pub calls_from : Option Reply → ScriptState → List Reply → List (ℕ × Reply)
calls_from last s [] = []
calls_from last s (reply ∷ replies) =
    call_before (call_after last s) reply (λ after. calls_from (Some reply) after replies)

-- the places of a script's calls to which these are the replies, each with its reply
abbrev pub calls_of : List Line → List Reply → List (ℕ × Reply)
calls_of script replies = calls_from None (start_of script) replies

-- these places alone
abbrev pub places_of : List Line → List Reply → List ℕ
places_of script replies = map (λ call. call.0) (calls_of script replies)

-- ---- the next call

-- what follows a call, if there is one
abbrev pub place_past : Option ScriptState → (ScriptState → Option ℕ) → Option ℕ
place_past None others = None
place_past (Some s) others = others s

-- the place of the call after those to which these are the replies, if there is one
abbrev pub next_place_from : Option Reply → ScriptState → List Reply → Option ℕ
next_place_from last s [] = option_map (λ after. after.place) (call_after last s)
next_place_from last s (reply ∷ replies) =
    place_past (call_after last s) (λ after. next_place_from (Some reply) after replies)

-- the place of a script's next call after these replies, if there is one
abbrev pub next_place : List Line → List Reply → Option ℕ
next_place script replies = next_place_from None (start_of script) replies
