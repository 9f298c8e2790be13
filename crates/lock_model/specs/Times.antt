-- Internal: no contract of the headline or of a command stands on it.
-- The clocks of the outcomes of one thread rise.
use Rattle.std.specs.Prelude.{◌≡◌, ℕ, ◌<◌, List}
use Rattle.std.specs.List.{fold}
use Rattle.std.specs.Option.{unwrap_or}
use Rattle.lock_model.specs.Runs.{Arises}
use Rattle.lock_model.specs.State.{Job, State, start, thread_of}
use Rattle.lock_model.specs.State.Phase.{Outside}
use Rattle.lock_model.specs.Machine.{Setup}
use Rattle.posix_terms.specs.declared.outcome.Given.{Given}
use Rattle.sequential_object.specs.Worlds.{World}

-- the clock of the last of these outcomes, or 0 where there is none
abbrev pub last_clock : List Given → ℕ
last_clock came = fold (λ (last : ℕ) (o : Given). unwrap_or o.clock 0) 0 came

-- of a thread that is outside the turn comes after those of all
-- that came for it, and its clock is past that turn
abbrev pub TimesOfArisen : Type 0
TimesOfArisen =
    (setup : Setup) (threads objects : ℕ) (w : World) (s : State)
    → Arises setup (start threads objects w) s
    → (i : ℕ) (job : Job) → (thread_of s i).phase ≡ Outside job
    → (last_clock (thread_of s i).came < job.turn.clock) × (job.turn.clock < (thread_of s i).clock)
