-- A trace nests four deep.
use Rattle.std.proofs.Common.{◌≡◌, ◌≤◌, ℕ, List, [], ◌∷◌, map, Option, Some, None, arith, refl}
use Rattle.answered_calls.specs.declared.answered.AnsweredCall.{AnsweredCall}
use Rattle.serde_json.specs.Data.{depth, items_depth}
use Rattle.serde_json.specs.View.{items_of}
use Rattle.run_pictures.specs.Trace.{arguments_data, event_data, outcome_data, trace_data}
use Rattle.run_pictures.specs.declared.traces.TimedCall.{TimedCall}

outcome_depth : (outcome : Option ℕ) → depth (outcome_data outcome) ≡ 0
outcome_depth None = refl
outcome_depth (Some n) = refl

arguments_depth : (c : AnsweredCall) → depth (arguments_data c) ≡ 1
unfolding arguments_data
arguments_depth c = rw (outcome_depth c.outcome) refl

event_depth : (t : TimedCall) → depth (event_data t) ≡ 2
unfolding event_data
event_depth t = rw (arguments_depth t.call) refl

events_depth : (ts : List TimedCall) → items_depth (items_of (map event_data ts)) ≤ 2
events_depth [] = omega arith
events_depth (t ∷ ts) = omega (arith, event_depth t, events_depth ts)

pub trace_depth : (ts : List TimedCall) → depth (trace_data ts) ≤ 127
trace_depth ts = omega (arith, events_depth ts)
