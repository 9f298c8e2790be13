-- Believed: a contract of a command stands on it.
-- What the threads of a run saw, whatever the clocks of their turns were, and how it ended.
use Rattle.std.specs.Prelude.{◌≡◌, ◌-◌, Bool, true, false, List, Option, Some, length, map}
use Rattle.std.specs.Prelude.{slice_get}
use Rattle.posix_terms.specs.declared.step.Step.{Step}
use Rattle.posix_terms.specs.declared.step.Step.TheVariants as step
use Rattle.posix_terms.specs.declared.transcript.Row.{Row}
use Rattle.call_machine.specs.declared.plain.Plain.{Plain}
use Rattle.deadlocks.specs.Blocked.{blocked_in}
use Rattle.explorer.specs.declared.observation.Observation.{Observation}

-- a row with 0 for the clock of its turn
abbrev pub clockless : Row → Row
clockless row = record row { turn = record row.turn { clock = 0 } }

-- what the threads saw, without the clocks of their turns
abbrev pub seen_of : List (List Row) → List (List Row)
seen_of transcripts = map (map clockless) transcripts

-- there is a step, and it is the end
abbrev pub is_end : Option Step → Bool
is_end (Some step.End) = true
is_end other = false

-- a thread that asked these steps has ended
abbrev pub has_ended : List Step → Bool
has_ended asked = is_end (slice_get asked (length asked - 1))

-- what was seen in a plain run
abbrev pub observed : Plain → Observation
observed plain = record {
  seen = seen_of plain.transcripts;
  ended = map has_ended plain.history.asked;
  stop = plain.stop;
  blocked = blocked_in (map has_ended plain.history.asked) plain.history.rows;
}

-- the same threads had ended in two runs, they stopped alike, and the same calls were blocked for
-- good
pub record EndAlike (one other : Observation) : Type 0 where
  pub stop : one.stop ≡ other.stop
  pub ended : one.ended ≡ other.ended
  pub blocked : one.blocked ≡ other.blocked
