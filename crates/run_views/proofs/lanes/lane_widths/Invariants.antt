use Rattle.std.proofs.Common.{◌≡◌, ◌++◌, drop}
use Rattle.run_views.specs.Lanes.{lane_widths}
use Rattle.run_views.proofs.lanes.lane_widths.Given as goal

abbrev pub invariant-loop-thread : goal.invariant-loop-thread
invariant-loop-thread l =
    l.widths.items ++ lane_widths l.calls l.thread (drop l.thread l.transcripts)
    ≡ lane_widths l.calls 0 l.transcripts
