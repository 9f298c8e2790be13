-- Believed: a contract of the headline stands on it.
-- The laws of runs for the real calls, in the words of files and descriptors.
use Rattle.std.specs.Prelude.{ℕ, List, map}
use Rattle.sequential_object.specs.Legal as posix
use Rattle.posix_terms.specs.declared.limits.TheConstants.Limits as limit
use Rattle.posix_terms.specs.declared.transcript.Settings.{Settings}
use Rattle.lock_model.specs.Laws.{Begins}
use Rattle.lock_model.specs.Machine.{Setup, Event}
use Rattle.sequential_object.specs.Numbers.{first_world}
use Rattle.lock_model.specs.Programs.{Supply, Finite}
use Rattle.lock_model.specs.RealCalls.{real_calls, real_limits}
use Rattle.lock_model.specs.Rising.{IsRising}
use Rattle.lock_model.specs.Rows.{shown}
use Rattle.lock_model.specs.Runs.{Arises, run}
use Rattle.lock_model.specs.Schedule.{EndsIn}
use Rattle.lock_model.specs.State.{State, start}

-- the setup of the real calls, with these settings, steps and outcomes
abbrev pub real_setup : Settings → Supply → Setup
real_setup settings supply = record {
  calls = real_calls settings;
  limits = real_limits settings;
  supply = supply;
}

-- so many threads, with nothing open, only the root, and a free lock for each object number
abbrev pub real_start : ℕ → State
real_start threads = start threads limit.OBJECTS first_world

-- the state of so many threads after these events of the real calls
abbrev pub real_run : Settings → Supply → ℕ → List Event → State
real_run settings supply threads events =
    run (real_setup settings supply) events (real_start threads)

-- whatever the order of events: the sequential object, given the calls in
-- the order of the rows, gives each answer that a thread got
abbrev pub RealLegal : Type 0
RealLegal = (settings : Settings) (supply : Supply) (threads : ℕ) (events : List Event)
    → posix.IsLegal settings (map shown (real_run settings supply threads events).rows)

-- the same of each state that arises
abbrev pub RealLegalOfArisen : Type 0
RealLegalOfArisen = (settings : Settings) (supply : Supply) (threads : ℕ) (s : State)
    → Arises (real_setup settings supply) (real_start threads) s
    → posix.IsLegal settings (map shown s.rows)

-- in the order of the turns
abbrev pub RealRising : Type 0
RealRising = (settings : Settings) (supply : Supply) (threads : ℕ) (events : List Event)
    → IsRising (real_run settings supply threads events).rows

-- and each thread sees a beginning of what it sees in the plain run
abbrev pub RealPrefix : Type 0
RealPrefix =
    (settings : Settings) (supply : Supply) (threads : ℕ) (events : List Event) (last : State)
    → EndsIn (real_setup settings supply) (real_start threads) last
    → Begins (real_run settings supply threads events) last

-- which comes to an end, where the programs do
abbrev pub RealEnd : Type 0
RealEnd = (settings : Settings) (supply : Supply) (threads : ℕ) → Finite supply → (last : State)
    × EndsIn (real_setup settings supply) (real_start threads) last
