-- Internal: no contract of the headline or of a command stands on it.
-- How a turn that ended stands in its thread until it is answered.
use Rattle.std.specs.Prelude.{ℕ, Option, Some, None}
use Rattle.sequential_object.specs.Step.{Carried}
use Rattle.sequential_object.specs.Locked.{keeps_table}
use Rattle.posix_terms.specs.Calls.{Call}
use Rattle.posix_terms.specs.declared.reply.Answer as posix
use Rattle.posix_terms.specs.declared.reply.Answer.TheVariants as answer
use Rattle.sequential_object.specs.declared.turn_end.TurnEnd.{TurnEnd}
use Rattle.sequential_object.specs.declared.turn_end.TurnEnd.TheVariants as end
use Rattle.call_turns.specs.declared.patience.TurnStart.{TurnStart}
use Rattle.call_turns.specs.declared.patience.TurnStart.TheVariants as start
use Rattle.lock_machine.specs.Threads.{Thread}
use Rattle.lock_machine.specs.declared.thread.Phase.{Phase}
use Rattle.lock_machine.specs.declared.thread.Phase.TheVariants as phase

-- as the answer of a row
abbrev pub told_as : TurnEnd → posix.Answer
told_as (end.Reply reply) = answer.Reply reply
told_as (end.Blocked carried) = answer.Again

-- the phase of a thread whose call was granted, with the row of this place, and whose turn started
-- so, which carries this
abbrev pub phase_started : ℕ → Option ℕ → Call → Carried → TurnStart → Phase
phase_started row object c carried (start.Ended e) = phase.Granted row object e
phase_started row object c carried (start.GoesOut errand) =
    phase.ToOutside
    (record {
      row = row;
      object = object;
      carried = carried;
      errand = errand;
      keeps_table = keeps_table c;
    })

-- a thread whose call was granted with this row and object, and whose turn started so
abbrev pub turn_started : ℕ → Option ℕ → Call → Carried → TurnStart → Thread → Thread
turn_started row object c carried start t =
    record t { phase = phase_started row object c carried start }

-- how the turn ended that a thread is in
abbrev pub end_held : Phase → Option TurnEnd
end_held (phase.Granted row object e) = Some e
end_held p = None

-- its phase once the call is answered
abbrev pub phase_behind : TurnEnd → Phase
phase_behind (end.Reply reply) = phase.Working
phase_behind (end.Blocked carried) = phase.Blocked carried
