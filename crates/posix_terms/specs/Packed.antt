-- Internal: no contract of the headline or of a command stands on it.
-- The row of a history that a packed one stands for.
use Rattle.std.specs.Prelude.{ℕ, List, Option, Some, None}
use Rattle.posix_terms.specs.Calls.{Call}
use Rattle.posix_terms.specs.declared.outcome.Outcome.{Outcome}
use Rattle.posix_terms.specs.declared.packed_row.Course.{Course}
use Rattle.posix_terms.specs.declared.packed_row.Course.TheVariants as course
use Rattle.posix_terms.specs.declared.reply.Answer.{Answer}
use Rattle.posix_terms.specs.declared.reply.Answer.TheVariants as answer
use Rattle.posix_terms.specs.declared.reply.Reply.TheVariants as reply
use Rattle.posix_terms.specs.declared.transcript.HistoryRow.{HistoryRow}

-- the thread of a packed row
abbrev pub thread_packed : Course → ℕ
thread_packed (course.Granted thread) = thread
thread_packed (course.Again thread) = thread
thread_packed (course.Count thread count) = thread
thread_packed (course.Data thread bytes) = thread
thread_packed (course.Number thread number) = thread
thread_packed (course.Pair thread first second) = thread
thread_packed (course.Stat thread kind number links) = thread
thread_packed (course.Done thread) = thread
thread_packed (course.Fail thread error) = thread
thread_packed (course.Outside thread passage) = thread

-- the outcome of a packed row, which one of a call outside alone has
abbrev pub outcome_packed : Course → Option Outcome
outcome_packed (course.Outside thread passage) = passage.value.outcome
outcome_packed _ = None

-- the answer of a packed row, where its call has one
abbrev pub answer_packed : Course → Option Answer
answer_packed (course.Granted thread) = None
answer_packed (course.Again thread) = Some answer.Again
answer_packed (course.Count thread count) = Some (answer.Reply (reply.Count count))
answer_packed (course.Data thread bytes) = Some (answer.Reply (reply.Data bytes))
answer_packed (course.Number thread number) = Some (answer.Reply (reply.Number number))
answer_packed (course.Pair thread first second) = Some (answer.Reply (reply.Pair first second))
answer_packed (course.Stat thread kind number links) =
    Some (answer.Reply (reply.Stat kind number links))
answer_packed (course.Done thread) = Some (answer.Reply reply.Done)
answer_packed (course.Fail thread error) = Some (answer.Reply (reply.Fail error))
answer_packed (course.Outside thread passage) = passage.value.answer

-- the row that a packed one stands for, with its call and its clock
abbrev pub unpacked : Call → ℕ → Course → HistoryRow
unpacked call clock c = record {
  call = call;
  turn = record { clock = clock; thread = thread_packed c };
  outcome = outcome_packed c;
  answer = answer_packed c;
}

-- the bytes of a reply that has some
abbrev pub bytes_in : Option Answer → Option (List ℕ)
bytes_in (Some (answer.Reply (reply.Data bytes))) = Some bytes
bytes_in _ = None
