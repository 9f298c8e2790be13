-- Believed: a contract of the headline stands on it.
-- The clocks of a run's live threads.
use Rattle.std.specs.Prelude.{ℕ, List, [], get_or, map, Option, Some, None, refl}
use Rattle.std.proofs.Math.Nat.{le_refl}
use Rattle.call_turns.specs.Space.{no_space}
use Rattle.lock_machine.specs.Threads.{Thread, timed}
use Rattle.lock_machine.specs.declared.thread.Thread as declared
use Rattle.lock_machine.specs.declared.thread.Phase.{Phase}
use Rattle.lock_machine.specs.declared.thread.Phase.TheVariants as phase

-- the clock of a thread, unless it has ended by its phase
abbrev pub live_in : Phase → ℕ → Option ℕ
live_in phase.Ended clock = None
live_in p clock = Some clock

-- the clock of a thread that has not ended
abbrev pub live_clock_of : Thread → Option ℕ
live_clock_of t = live_in t.phase t.clock

-- of each thread the clock, unless it has ended
abbrev pub clocks_of : List Thread → List (Option ℕ)
clocks_of threads = map live_clock_of threads

-- past the last thread
abbrev pub no_item : declared.Thread
no_item = record {
  phase = phase.Ended;
  asked = [];
  came = 0;
  room = no_space;
  roomy = (le_refl 0, (le_refl 0, refl));
}

-- what stands for a thread that is not there, with a clock: it has ended
abbrev pub no_thread : Thread
no_thread = timed no_item 0

-- thread i, without its clock
abbrev pub item_at : List declared.Thread → ℕ → declared.Thread
item_at threads i = get_or threads i no_item
