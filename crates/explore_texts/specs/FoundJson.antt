-- Believed: a contract of a command stands on it.
-- What is found of runs, in JSON, an object a line.
use Rattle.std.specs.Prelude.{ℕ, ◌-◌, Bool, List, [], ◌∷◌, length, map, slice_get, slice_index_or}
use Rattle.std.specs.Prelude.{codes, Option, Some, None, option_map}
use Rattle.posix_terms.specs.Errors.{name_of}
use Rattle.posix_terms.specs.declared.outcome.Given.{Given}
use Rattle.posix_terms.specs.declared.transcript.Row.{Row}
use Rattle.comparator.specs.declared.verdict.Verdict.{Verdict}
use Rattle.comparator.specs.declared.verdict.Verdict.TheVariants as verdict
use Rattle.serde_json.specs.Data.{Data, array, boolean, no_members, null, object, string}
use Rattle.serde_json.specs.View.{items_of}
use Rattle.explorer.specs.Lists.{list_of, lists_of}
use Rattle.explorer.specs.declared.delay_list.Delay.{Delay}
use Rattle.explorer.specs.declared.observation.Observation.{Observation}
use Rattle.fault_injection.specs.declared.cases.FaultCase.{FaultCase}
use Rattle.fault_injection.specs.declared.injected.Injected.{Injected}
use Rattle.fault_injection.specs.declared.injected.Injected.TheVariants as injected
use Rattle.command_texts.specs.LogTexts.{request_word}
use Rattle.command_inputs.specs.Expects.{without_feed}
use Rattle.answered_calls.specs.declared.blocked.BlockedLine.{BlockedLine}
use Rattle.json_views.specs.Ends.{end_members, unmet_value}
use Rattle.json_views.specs.Objects.{Member, count_value, line_of, object_of, with_members}
use Rattle.json_views.specs.Sides.{seen_value}
use Rattle.explore_texts.specs.Found.{row_at, tallied}
use Rattle.explore_texts.specs.declared.finding.Finding.{Finding}
use Rattle.explore_texts.specs.declared.judgement.Judgement.{Judgement}
use Rattle.explore_texts.specs.declared.judgement.Judgement.TheVariants as judgement
use Rattle.explore_texts.specs.declared.judgement.Tally.TheVariants as tallies
use Rattle.explore_texts.specs.declared.looked.Looked.{Looked}
use Rattle.explore_texts.specs.declared.schedule.Schedule.{Schedule}
use Rattle.explore_texts.specs.declared.schedule.Schedule.TheVariants as schedule

-- ## Which runs

-- a delay of a list
abbrev pub delay_value : Delay → Data
delay_value delay = object_of (
    (codes "thread", count_value delay.place.thread)
    ∷ (codes "line", count_value delay.place.line)
    ∷ (codes "units", count_value delay.units)
    ∷ [])

-- the first case: a seed, or a list with its delays
abbrev pub case_value : Schedule → ℕ → Data
case_value (schedule.Seeds chance) seed = object_of ((codes "seed", count_value seed) ∷ [])
case_value (schedule.Lists bounds) case = object_of (
    (codes "list", count_value case)
    ∷ (codes "delays", array (items_of (map delay_value (list_of bounds case))))
    ∷ [])

-- the kind of request of an outcome
abbrev pub request_value : Option Given → Data
request_value None = null
request_value (Some given) = string (request_word given.kind)

-- the error that comes in place of an outcome
abbrev pub fail_value : Injected → Data
fail_value (injected.Fail error) = string (name_of error)
fail_value (injected.Short count) = null

-- the count that does
abbrev pub short_value : Injected → Data
short_value (injected.Fail error) = null
short_value (injected.Short count) = count_value count

-- the outcome that is replaced, and what comes in its place
abbrev pub fault_value : List (List Given) → FaultCase → Data
fault_value outcomes case = object_of (
    (codes "thread", count_value case.thread)
    ∷ (codes "record", count_value case.number)
    ∷ (
      codes "request",
      request_value (slice_get (slice_index_or outcomes case.thread []) case.number),
    )
    ∷ (codes "fail", fail_value case.injected)
    ∷ (codes "short", short_value case.injected)
    ∷ [])

-- ## What is found

-- a line at which a call was blocked for good
abbrev pub blocked_value : BlockedLine → Data
blocked_value line = object_of (
    (codes "thread", count_value line.thread) ∷ (codes "line", count_value line.line) ∷ [])

-- the first row that differs, before and now
abbrev pub differs_value : List (List Row) → List (List Row) → Verdict → Data
differs_value before now verdict.Same = null
differs_value before now (verdict.Differs thread row) = object_of (
    (codes "thread", count_value thread)
    ∷ (codes "row", count_value row)
    ∷ (codes "before", seen_value (row_at before thread row))
    ∷ (codes "now", seen_value (row_at now thread row))
    ∷ [])

-- what a run came to
abbrev pub judgement_word : Judgement → List ℕ
judgement_word judgement.Passed = codes "passed"
judgement_word judgement.Failed = codes "failed"
judgement_word judgement.Blocked = codes "blocked"
judgement_word (judgement.Stopped stop) = codes "stopped"

-- what stands in an object beside how the runs ended
abbrev pub found_members :
    Data → ℕ → Observation → Observation → Looked → List ℕ → List BlockedLine → Verdict → Bool
    → List Member
found_members case runs before now looked cut waits verdict ends_alike =
    (codes "case", case)
    ∷ (codes "runs", count_value runs)
    ∷ (codes "cut_off", array (items_of (map count_value cut)))
    ∷ (codes "blocked", array (items_of (map blocked_value waits)))
    ∷ (codes "differs", differs_value before.seen now.seen verdict)
    ∷ (codes "ends_alike", boolean ends_alike)
    ∷ (codes "unmet", unmet_value (option_map without_feed looked.unmet))
    ∷ (codes "came_to", string (judgement_word looked.judgement))
    ∷ []

-- the object of so many runs of a case
abbrev pub found_value :
    Data → ℕ → Observation → Observation → Looked → List ℕ → List BlockedLine → Verdict → Bool
    → Data
found_value case runs before now looked cut waits verdict ends_alike = object (
    with_members (with_members no_members (end_members now.stop))
    (found_members case runs before now looked cut waits verdict ends_alike))

-- its line
abbrev pub found_json :
    Data → ℕ → Observation → Observation → Looked → List ℕ → List BlockedLine → Verdict → Bool
    → List ℕ
found_json case runs before now looked cut waits verdict ends_alike =
    line_of (found_value case runs before now looked cut waits verdict ends_alike)

-- ## The sums

-- how many runs failed, stopped, by their reasons too, and were blocked; and the exit status
abbrev pub counts_members : ℕ → List Finding → List Member
counts_members status findings =
    (codes "failed", count_value (tallied tallies.Failed findings))
    ∷ (codes "stopped", count_value (tallied tallies.Stopped findings))
    ∷ (codes "clock_full", count_value (tallied tallies.ClockFull findings))
    ∷ (codes "end_of_log", count_value (tallied tallies.EndOfLog findings))
    ∷ (codes "diverged", count_value (tallied tallies.Diverged findings))
    ∷ (codes "blocked", count_value (tallied tallies.Blocked findings))
    ∷ (codes "status", count_value status)
    ∷ []

-- how many lists were not run; of seeds there is no such number
abbrev pub left_value : Schedule → ℕ → Data
left_value (schedule.Seeds chance) runs = null
left_value (schedule.Lists bounds) runs = count_value (length (lists_of bounds) - runs)

-- the last line of runs with delays
abbrev pub sums_json : Schedule → ℕ → ℕ → List Finding → List ℕ
sums_json schedule runs status findings = line_of (object (
    with_members (with_members no_members (counts_members status findings))
    ((codes "runs", count_value runs)
    ∷ (codes "groups", count_value (length findings))
    ∷ (codes "left_out", left_value schedule runs)
    ∷ [])))

-- that of cases
abbrev pub case_sums_json : ℕ → List Finding → List ℕ
case_sums_json status findings = line_of (object (
    with_members (with_members no_members (counts_members status findings))
    ((codes "cases", count_value (length findings)) ∷ [])))
