use Rattle.std.proofs.Common.{◌≡◌, ◌++◌, drop, map}
use Rattle.serde_json.specs.View.{view}
use Rattle.run_pictures.specs.Trace.{event_data}
use Rattle.run_pictures.proofs.traces.events.Given as goal

abbrev pub invariant-loop-it : goal.invariant-loop-it
invariant-loop-it l =
    map view l.events.items ++ map event_data (drop l.it-index l.timed) ≡ map event_data l.timed
