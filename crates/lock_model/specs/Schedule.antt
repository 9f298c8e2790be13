-- Believed: a contract of the headline stands on it.
-- The plain run: one deterministic schedule.
use Rattle.std.specs.Prelude.{◌≡◌, ℕ, zero, suc, length, Option, Some, None, if◌then◌else◌}
use Rattle.lock_model.specs.Machine.{Setup, Event, can_advance, can_attempt, happens}
use Rattle.lock_model.specs.Machine.Event.{Advances, Attempts}
use Rattle.lock_model.specs.State.{State, live_clocks}
use Rattle.logical_clocks.specs.TurnOrder.{first_below, turn_holder}

-- the attempt of this thread, if there is such a thread and it can make one
abbrev pub attempt_by : Setup → State → Option ℕ → Option Event
attempt_by setup s None = None
attempt_by setup s (Some i) = if can_attempt setup s i then Some (Attempts i) else None

-- the event of this thread that needs no turn or, if there is none, the attempt of whoever has the
-- turn
abbrev pub advance_by : Setup → State → Option ℕ → Option Event
advance_by setup s (Some i) = Some (Advances i)
advance_by setup s None = attempt_by setup s (turn_holder (live_clocks s))

-- events that need no turn come first, in the order of the threads; when there
-- is none, whoever has the turn attempts its call, where it can
unfoldable pub next_event : Setup → State → Option Event
next_event setup s = advance_by setup s (first_below (length s.threads) (can_advance setup s))

-- the state after this event, if there is one
abbrev pub after_event : Setup → State → Option Event → State
after_event setup s None = s
after_event setup s (Some e) = happens setup e s

-- the state after the next event of the plain run
unfoldable pub plain : Setup → State → State
plain setup s = after_event setup s (next_event setup s)

-- so many events
unfoldable pub plain_run : Setup → ℕ → State → State
plain_run setup zero s = s
plain_run setup (suc n) s = plain_run setup n (plain setup s)

-- all threads have ended, or the thread that has the turn is stuck
abbrev pub IsOver : Setup → State → Type 0
IsOver setup s = next_event setup s ≡ None

-- the plain run from first comes to its end in this state
pub record EndsIn (setup : Setup) (first last : State) : Type 0 where
  pub count : ℕ
  pub reached : plain_run setup count first ≡ last
  pub over : IsOver setup last
