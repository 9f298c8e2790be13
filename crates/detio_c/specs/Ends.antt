-- The doors that come with an outcome, and how C knows the end of a run.
use Rattle.std.specs.Prelude.{ℕ, List, Bool, Option, Some, None, length}
use Rattle.std.specs.Prelude.{if◌then◌else◌, ◌==◌, ◌&&◌}
use Rattle.c_words.specs.declared.words.OutcomeWords.{OutcomeWords}
use Rattle.c_words.specs.declared.words.RunEnd.{RunEnd}
use Rattle.call_turns.specs.Doors.{brings_back, is_ok}
use Rattle.machine.specs.Doors.{opens_door}
use Rattle.machine.specs.declared.stop.Stop.{Stop}
use Rattle.machine.specs.declared.stop.Stop.TheVariants as stop
use Rattle.posix_terms.specs.declared.outcome.OutKind.{OutKind}
use Rattle.posix_terms.specs.declared.outcome.Outcome.{Outcome}

-- the door that went out, where it comes back
abbrev pub back_of : OutKind → OutcomeWords → Option ℕ
back_of kind words = if brings_back kind then Some words.back else None

-- the door that was opened, where one was
abbrev pub opened_of : OutKind → Outcome → OutcomeWords → Option ℕ
opened_of kind o words = if opens_door kind && is_ok o then Some words.opened else None

-- ## The end

-- the number of how a run ended
abbrev pub how_ended : Option Stop → Bool → ℕ
how_ended None have_ended = if have_ended then 0 else 1
how_ended (Some stop.Memory) have_ended = 2
how_ended (Some stop.Sink) have_ended = 3
how_ended (Some stop.ClockFull) have_ended = 4
how_ended (Some (stop.EndOfLog thread)) have_ended = 5
how_ended (Some (stop.Diverged thread number)) have_ended = 6
how_ended (Some stop.Strayed) have_ended = 1

-- the thread that a log ended for, or diverged for
abbrev pub thread_stopped : Option Stop → ℕ
thread_stopped (Some (stop.EndOfLog thread)) = thread
thread_stopped (Some (stop.Diverged thread number)) = thread
thread_stopped o = 0

-- how a run ended, with a log of these bytes
abbrev pub run_end : Option Stop → Bool → List ℕ → RunEnd
run_end why have_ended bytes = record {
  how = how_ended why have_ended;
  thread = thread_stopped why;
  length = length bytes;
}

-- what a run is stopped for by this number: where a log diverged, at this thread, which had so many
-- outcomes
abbrev pub stop_of : ℕ → ℕ → ℕ → Option Stop
stop_of cause thread count =
    if cause == 1 then Some stop.Memory else
    if cause == 2 then Some stop.ClockFull else
    if cause == 3 then Some (stop.EndOfLog thread) else
    if cause == 4 then Some (stop.Diverged thread count) else
    None
