-- Believed: a contract of a command stands on it.
-- Whether a thread ended only because it had executed as many lines as a thread may.
use Rattle.std.specs.Prelude.{ℕ, Bool, false, nat_lt, List, [], ◌∷◌, length, Option, Some, None}
use Rattle.posix_terms.specs.declared.reply.Reply.{Reply}
use Rattle.posix_terms.specs.declared.step.Step.{Step}
use Rattle.posix_terms.specs.declared.step.Step.TheVariants as step
use Rattle.expectations.specs.Places.{call_after, past_works}
use Rattle.thread_scripts.specs.Meaning.{start_of}
use Rattle.thread_scripts.specs.declared.actor.ScriptState.{ScriptState}
use Rattle.thread_scripts.specs.declared.line.Line.{Line}

-- a step is the end, and stands before the end of so many lines. The line `end` leads past them all
abbrev pub is_early : ℕ → Step → ScriptState → Bool
is_early lines (step.Call call) s = false
is_early lines (step.Work amount) s = false
is_early lines step.End s = nat_lt s.place lines

-- what holds after a call, and not where there is none
abbrev pub after_call : Option ScriptState → (ScriptState → Bool) → Bool
after_call None holds = false
after_call (Some s) holds = holds s

-- after the calls to which these are the replies, the next step that is not a work is an early end
abbrev pub is_cut_from : ℕ → Option Reply → ScriptState → List Reply → Bool
is_cut_from lines last s [] = is_early lines (past_works last s).0 (past_works last s).1
is_cut_from lines last s (reply ∷ replies) =
    after_call (call_after last s) (λ after. is_cut_from lines (Some reply) after replies)

-- a thread with these replies ends before its script does
abbrev pub is_cut_off : List Line → List Reply → Bool
is_cut_off script replies = is_cut_from (length script) None (start_of script) replies
