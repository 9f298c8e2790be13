-- Internal: no contract of the headline or of a command stands on it.
-- What one thread sees of its rows.
use Rattle.std.specs.Prelude.{ℕ, List, filter_map, Option, Some, None}
use Rattle.sequential_object.specs.declared.turn_end.TurnEnd.{TurnEnd}
use Rattle.sequential_object.specs.declared.turn_end.TurnEnd.TheVariants as turn_end
use Rattle.lock_model.specs.History.{rows_of}
use Rattle.lock_model.specs.State.{Row}
use Rattle.posix_terms.specs.declared.outcome.Given.{Given}
use Rattle.posix_terms.specs.declared.reply.Reply.{Reply}
use Rattle.posix_terms.specs.declared.transcript.Row.{Row as TranscriptRow}

-- the row of a transcript for this row, if its answer is a reply
abbrev pub replied : Row → Option TurnEnd → Option TranscriptRow
replied r (Some (turn_end.Reply x)) = Some (record { call = r.call; turn = r.turn; reply = x })
replied r (Some (turn_end.Blocked b)) = None
replied r None = None

-- of the rows of thread i, the outcomes that came
abbrev pub outcomes_of : ℕ → List Row → List Given
outcomes_of i rows = filter_map (λ (r : Row). r.outcome) (rows_of i rows)

-- the answers that were given
abbrev pub answers_of : ℕ → List Row → List TurnEnd
answers_of i rows = filter_map (λ (r : Row). r.answer) (rows_of i rows)

-- and the rows that were answered with a reply
abbrev pub transcript : ℕ → List Row → List TranscriptRow
transcript i rows = filter_map (λ (r : Row). replied r r.answer) (rows_of i rows)

-- the reply of a turn, unless it was blocked
abbrev pub reply_in : Option TurnEnd → Option Reply
reply_in (Some (turn_end.Reply x)) = Some x
reply_in (Some (turn_end.Blocked b)) = None
reply_in None = None

-- the replies of those rows
abbrev pub replies_of : ℕ → List Row → List Reply
replies_of i rows = filter_map (λ (r : Row). reply_in r.answer) (rows_of i rows)
