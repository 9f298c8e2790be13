-- Believed: a contract of a command stands on it.
-- What a run came to, as far as it was looked at.
use Rattle.std.specs.Prelude.{Bool, true, false, Option, Some, None}
use Rattle.machine.specs.declared.stop.Stop.{Stop}
use Rattle.machine.specs.declared.stop.Stop.TheVariants as stops
use Rattle.explore_texts.specs.declared.judgement.Allowed.{Allowed}
use Rattle.explore_texts.specs.declared.judgement.Judgement.{Judgement}
use Rattle.explore_texts.specs.declared.judgement.Judgement.TheVariants as judgement
use Rattle.explore_texts.specs.declared.judgement.Tally.{Tally}
use Rattle.explore_texts.specs.declared.judgement.Tally.TheVariants as tally

-- what a run came to: whether a reply was not as expected, whether calls were blocked for good and
-- none of them was expected to be interrupted, and why it stopped
abbrev pub judged : Bool → Bool → Option Stop → Judgement
judged true blocked stop = judgement.Failed
judged false true stop = judgement.Blocked
judged false false (Some stop) = judgement.Stopped stop
judged false false None = judgement.Passed

-- it is no fault, where stops and blocked calls are allowed or not
abbrev pub passes : Allowed → Judgement → Bool
passes allowed judgement.Passed = true
passes allowed judgement.Failed = false
passes allowed judgement.Blocked = allowed.blocked
passes allowed (judgement.Stopped stop) = allowed.stops

-- it is one of those that are counted here
abbrev pub is_counted : Tally → Judgement → Bool
is_counted tally.Failed judgement.Failed = true
is_counted tally.Blocked judgement.Blocked = true
is_counted tally.Stopped (judgement.Stopped stop) = true
is_counted tally.ClockFull (judgement.Stopped stops.ClockFull) = true
is_counted tally.EndOfLog (judgement.Stopped (stops.EndOfLog thread)) = true
is_counted tally.Diverged (judgement.Stopped (stops.Diverged thread number)) = true
is_counted counted came_to = false
