-- Believed: a contract of a command stands on it.
-- How the calls of a thread came to their answers, by the history of all turns.
use Rattle.std.specs.Prelude.{ℕ, zero, suc, ◌+◌, ◌==◌, Bool, true, false, List, [], ◌∷◌, ◌++◌}
use Rattle.std.specs.Prelude.{length, if◌then◌else◌, Option, Some, None, is_some, filter}
use Rattle.posix_terms.specs.Answers.{reply_of}
use Rattle.posix_terms.specs.declared.reply.Answer.{Answer}
use Rattle.posix_terms.specs.declared.reply.Answer.TheVariants as answer
use Rattle.posix_terms.specs.declared.transcript.HistoryRow.{HistoryRow}
use Rattle.answered_calls.specs.declared.ways.CallWay.{CallWay}

-- ## The turns of a call

-- the turns of a thread, in their order
abbrev pub turns_of : ℕ → List HistoryRow → List HistoryRow
turns_of thread history = filter (λ turn. turn.turn.thread == thread) history

-- the call of a turn was answered there with its reply
abbrev pub has_reply : HistoryRow → Bool
has_reply turn = is_some (reply_of turn.answer)

-- turns, cut after each that has a reply, where the first of them follow those that begin their
-- call. What follows the last reply is of a call that has none yet, and is left out
abbrev pub cut_from : List HistoryRow → List HistoryRow → List (List HistoryRow)
cut_from begun [] = []
cut_from begun (turn ∷ turns) =
    if has_reply turn then (begun ++ turn ∷ []) ∷ cut_from [] turns
    else cut_from (begun ++ turn ∷ []) turns

-- the turns of a thread's first call, of its second, and so on
abbrev pub turns_of_calls : ℕ → List HistoryRow → List (List HistoryRow)
turns_of_calls thread history = cut_from [] (turns_of thread history)

-- ## What they say of it

-- the clock of the first
abbrev pub first_clock : List HistoryRow → Option ℕ
first_clock [] = None
first_clock (turn ∷ turns) = Some turn.turn.clock

-- a turn was blocked
abbrev pub is_again : Option Answer → Bool
is_again (Some answer.Again) = true
is_again _ = false

-- how many of them were blocked
abbrev pub blocked_among : List HistoryRow → ℕ
blocked_among turns = length (filter (λ turn. is_again turn.answer) turns)

-- how many outcomes came at them
abbrev pub outcomes_among : List HistoryRow → ℕ
outcomes_among turns = length (filter (λ turn. is_some turn.outcome) turns)

-- the number of the last of so many outcomes, where so many had come before
abbrev pub last_of : ℕ → ℕ → Option ℕ
last_of before zero = None
last_of before (suc n) = Some (before + n)

-- the number of the last outcome that came at them, where so many had come before
abbrev pub last_outcome : ℕ → List HistoryRow → Option ℕ
last_outcome before turns = last_of before (outcomes_among turns)

-- how a call with these turns came to its answer, where so many outcomes had come before
abbrev pub way_of : ℕ → List HistoryRow → CallWay
way_of before turns = record {
  granted = first_clock turns;
  blocked = blocked_among turns;
  outcome = last_outcome before turns;
}

-- the same for calls one after another, each with its turns
abbrev pub ways_from : ℕ → List (List HistoryRow) → List CallWay
ways_from before [] = []
ways_from before (turns ∷ calls) =
    way_of before turns ∷ ways_from (before + outcomes_among turns) calls

-- how the calls of a thread came to their answers
abbrev pub ways_of : ℕ → List HistoryRow → List CallWay
ways_of thread history = ways_from 0 (turns_of_calls thread history)
