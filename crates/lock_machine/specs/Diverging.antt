-- Believed: a contract of the headline stands on it.
-- Where a thread diverges: what came from outside does not answer what was asked.
use Rattle.std.specs.Prelude.{ℕ, length, Bool, false, not, Option, Some, None, slice_get}
use Rattle.lock_model.specs.Machine.{Setup, fits_job}
use Rattle.lock_model.specs.State.{Phase, State, Thread, thread_of}
use Rattle.lock_model.specs.State.Phase.{Outside}
use Rattle.posix_terms.specs.declared.outcome.Given.{Given}

-- a thread in this phase is outside, and an outcome is there that does not answer its call
abbrev pub diverging_in : Setup → Phase → Option Given → Bool
diverging_in setup (Outside job) (Some given) = not (fits_job setup.calls job given)
diverging_in setup (Outside job) None = false
diverging_in setup phase given = false

-- thread i is outside, and the next of its outcomes does not answer
abbrev pub is_diverging : Setup → State → ℕ → Bool
is_diverging setup s i = let t : Thread = thread_of s i in
    diverging_in setup t.phase (slice_get (setup.supply.outcomes i) (length t.came))
