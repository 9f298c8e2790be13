-- Believed: a contract of the headline stands on it.
-- Where a run diverges.
use Rattle.std.specs.Prelude.{ℕ, length, ◌||◌, Option, Some, None, if◌then◌else◌}
use Rattle.lock_model.specs.Machine.{Setup, can_advance}
use Rattle.lock_model.specs.State.{State}
use Rattle.logical_clocks.specs.TurnOrder.{first_below}
use Rattle.lock_machine.specs.Diverging.{is_diverging}

-- this thread, if there is one and it diverges
abbrev pub if_diverging : Setup → State → Option ℕ → Option ℕ
if_diverging setup s (Some i) = if is_diverging setup s i then Some i else None
if_diverging setup s None = None

-- the least thread that could make an event without the turn is one whose outcome does not answer:
-- there the run diverges
unfoldable pub diverging : Setup → State → Option ℕ
diverging setup s =
    if_diverging setup s
    (first_below (length s.threads) (λ i. can_advance setup s i || is_diverging setup s i))
