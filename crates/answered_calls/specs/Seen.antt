-- What contracts see of a call whose row is borrowed.
use Rattle.answered_calls.specs.Answered.{Answered}
use Rattle.answered_calls.specs.declared.answered.AnsweredCall.{AnsweredCall}

-- a call that was answered, whose row is the one that is borrowed
abbrev pub seen : AnsweredCall → Answered
seen call = record {
  thread = call.thread;
  number = call.number;
  line = call.line;
  row = call.row.now;
  granted = call.granted;
  blocked = call.blocked;
  outcome = call.outcome;
}
