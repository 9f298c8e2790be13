-- Believed: a contract of a command stands on it.
-- How a run ended, in JSON, and the whole run.
use Rattle.std.specs.Prelude.{ℕ, List, [], ◌∷◌, ◌++◌, codes, Option, Some, None}
use Rattle.std.specs.List.{flat_map}
use Rattle.serde_json.specs.Data.{Data, null, string}
use Rattle.machine.specs.declared.stop.Stop.{Stop}
use Rattle.machine.specs.declared.stop.Stop.TheVariants as stop
use Rattle.command_texts.specs.Transcripts.{end_status}
use Rattle.command_texts.specs.declared.printed.Printed.{Printed}
use Rattle.answered_calls.specs.Answered.{Answered}
use Rattle.json_views.specs.Objects.{Member, count_value, line_of, object_of, optional_value}
use Rattle.json_views.specs.Objects.{text_value}
use Rattle.json_views.specs.Rows.{row_line}

-- how a run ended: the words of its printed last line without the numbers
abbrev pub end_words : Option Stop → List ℕ
end_words None = codes "end"
end_words (Some stop.Memory) = codes "stop memory"
end_words (Some stop.Sink) = codes "stop sink"
end_words (Some stop.ClockFull) = codes "stop clock full"
end_words (Some stop.Strayed) = codes "stop strayed"
end_words (Some (stop.EndOfLog thread)) = codes "stop end of log"
end_words (Some (stop.Diverged thread outcome)) = codes "stop diverged"

-- the thread that it is about
abbrev pub thread_stopped : Option Stop → Option ℕ
thread_stopped (Some (stop.EndOfLog thread)) = Some thread
thread_stopped (Some (stop.Diverged thread outcome)) = Some thread
thread_stopped _ = None

-- the number of the outcome that it is about
abbrev pub outcome_stopped : Option Stop → Option ℕ
outcome_stopped (Some (stop.Diverged thread outcome)) = Some outcome
outcome_stopped _ = None

-- what is printed of the first reply that is not as expected, if there is one
abbrev pub unmet_value : Option (List ℕ) → Data
unmet_value None = null
unmet_value (Some line) = text_value line

-- how a run ended, as members of an object
abbrev pub end_members : Option Stop → List Member
end_members stop =
    (codes "end", string (end_words stop))
    ∷ (codes "thread", optional_value (thread_stopped stop))
    ∷ (codes "outcome", optional_value (outcome_stopped stop))
    ∷ []

-- the end of a run that stopped so, with this status and this first unmet expectation
abbrev pub end_value : Option Stop → ℕ → Option (List ℕ) → Data
end_value stop status unmet = object_of (
    (codes "end", string (end_words stop))
    ∷ (codes "thread", optional_value (thread_stopped stop))
    ∷ (codes "outcome", optional_value (outcome_stopped stop))
    ∷ (codes "status", count_value status)
    ∷ (codes "unmet", unmet_value unmet)
    ∷ [])

-- the last line of a run
abbrev pub end_line : Option Stop → ℕ → Option (List ℕ) → List ℕ
end_line stop status unmet = line_of (end_value stop status unmet)

-- the status of a run that ended so: 1 where all threads came to their end, but this reply was not
-- as expected
abbrev pub status_with : Option Stop → Option (List ℕ) → ℕ
status_with None (Some line) = 1
status_with stop unmet = end_status stop

-- what is printed of a run with these calls that ended so, with this first unmet expectation
abbrev pub run_json : List Answered → Option Stop → Option (List ℕ) → Printed
run_json calls stop unmet = record {
  status = status_with stop unmet;
  output = flat_map row_line calls ++ end_line stop (status_with stop unmet) unmet;
  errors = [];
}
