-- Internal: no contract of the headline or of a command stands on it.
-- The way of a call with one more turn, as the code goes on.
use Rattle.std.specs.Prelude.{ℕ, ◌+◌, if◌then◌else◌, Some, is_some, unwrap_or}
use Rattle.posix_terms.specs.declared.transcript.HistoryRow.{HistoryRow}
use Rattle.answered_calls.specs.Ways.{is_again}
use Rattle.answered_calls.specs.declared.ways.CallWay.{CallWay}

-- where so many outcomes of the thread had come before this turn
abbrev pub way_with : CallWay → ℕ → HistoryRow → CallWay
way_with way outcomes turn = record {
  granted = Some (unwrap_or way.granted turn.turn.clock);
  blocked = if is_again turn.answer then way.blocked + 1 else way.blocked;
  outcome = if is_some turn.outcome then Some outcomes else way.outcome;
}

-- how many outcomes of the thread have come after it
abbrev pub outcomes_with : ℕ → HistoryRow → ℕ
outcomes_with outcomes turn = if is_some turn.outcome then outcomes + 1 else outcomes
