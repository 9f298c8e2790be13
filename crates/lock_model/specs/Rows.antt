-- Believed: a contract of the headline stands on it.
-- The rows of the lock machine, as those of a history.
use Rattle.std.specs.Prelude.{Option, Some, None}
use Rattle.posix_terms.specs.declared.reply.Answer as posix
use Rattle.posix_terms.specs.declared.reply.Answer.TheVariants as answer
use Rattle.posix_terms.specs.declared.transcript.HistoryRow.{HistoryRow}
use Rattle.sequential_object.specs.declared.turn_end.TurnEnd.{TurnEnd}
use Rattle.sequential_object.specs.declared.turn_end.TurnEnd.TheVariants as turn_end
use Rattle.sequential_object.specs.Answers.{outcome_in}
use Rattle.lock_model.specs.State.{Row}

-- an answer as a history has it: the reply, or that the call is made again
abbrev pub shown_answer : Option TurnEnd → Option posix.Answer
shown_answer None = None
shown_answer (Some (turn_end.Reply reply)) = Some (answer.Reply reply)
shown_answer (Some (turn_end.Blocked carried)) = Some answer.Again

-- what a history shows of a row: not what the thread carries from a blocked turn
abbrev pub shown : Row → HistoryRow
shown r = record {
  call = r.call;
  turn = r.turn;
  outcome = outcome_in r.outcome;
  answer = shown_answer r.answer;
}
