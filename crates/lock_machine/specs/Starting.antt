-- Believed: a contract of the headline stands on it.
-- A lock machine at its start.
use Rattle.std.specs.Prelude.{ℕ, [], replicate, refl}
use Rattle.det_mutex.specs.Attempt.{new_lock}
use Rattle.call_turns.specs.Store.{first_stored}
use Rattle.posix_terms.specs.declared.limits.TheConstants.Limits as limit
use Rattle.posix_terms.specs.declared.transcript.Settings.{Settings}
use Rattle.lock_machine.specs.Conditions.{Conditions, start_under}
use Rattle.lock_machine.specs.Shows.{Shows}
use Rattle.std.proofs.Math.Nat.{le_refl}
use Rattle.call_turns.specs.Space.{no_space}
use Rattle.lock_machine.specs.Threads.{Thread}
use Rattle.lock_machine.specs.Whole.{Whole}
use Rattle.lock_machine.specs.declared.thread.Phase.TheVariants as phase
use Rattle.lock_machine.specs.declared.thread.Thread as declared

-- a thread before its first step, without its clock
abbrev pub first_item : declared.Thread
first_item = record {
  phase = phase.Working;
  asked = [];
  came = 0;
  room = no_space;
  roomy = (le_refl 0, (le_refl 0, refl));
}

-- a thread before its first step, with its clock
abbrev pub first_thread : Thread
first_thread = record { phase = phase.Working; clock = 1; asked = []; came = 0 }

-- a machine of so many threads before any event, with all locks free and no rows
abbrev pub first_whole : Settings → ℕ → Whole
first_whole settings threads =
    record {
      settings = settings;
      threads = replicate threads first_thread;
      lock = new_lock;
      objects = replicate limit.OBJECTS new_lock;
      table = first_stored;
      rows = [];
    }

-- whatever comes, it shows the lock machine's start
abbrev pub ShowsAtStart : Type 0
ShowsAtStart = (terms : Conditions)
    → Shows terms (first_whole terms.settings terms.threads) (start_under terms)
