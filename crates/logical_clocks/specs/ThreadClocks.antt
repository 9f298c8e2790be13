-- Internal: no contract of the headline or of a command stands on it.
-- The clocks of all threads, in the order of their numbers.
use Rattle.std.specs.Prelude.{ℕ, ◌≤◌, List, Option, Some, None, true, false, All, map, replicate}
use Rattle.std.specs.Prelude.{slice_index_or, slice_set, if◌then◌else◌}
use Rattle.logical_clocks.specs.declared.clocks.ThreadClock.{ThreadClock}
use Rattle.posix_terms.specs.declared.limits.TheConstants.Limits as limit

-- where each thread starts
abbrev pub first_clock : ThreadClock
first_clock = record { clock = 1; live = true }

-- the clocks of so many threads at their start
abbrev pub first_clocks : ℕ → List ThreadClock
first_clocks threads = replicate threads first_clock

-- what a number past the last thread has: it counts as ended
abbrev pub no_thread : ThreadClock
no_thread = record { clock = 0; live = false }

-- the clock of thread i, and whether the thread is live
abbrev pub thread_at : List ThreadClock → ℕ → ThreadClock
thread_at clocks i = slice_index_or clocks i no_thread

-- the clock of thread i, also after its end
abbrev pub clock_at : List ThreadClock → ℕ → ℕ
clock_at clocks i = (thread_at clocks i).clock

-- the clock of thread i is this one now
abbrev pub with_clock : List ThreadClock → ℕ → ℕ → List ThreadClock
with_clock clocks i clock = slice_set clocks i (record (thread_at clocks i) { clock = clock })

-- thread i has ended, at the clock that it had
abbrev pub with_end : List ThreadClock → ℕ → List ThreadClock
with_end clocks i = slice_set clocks i (record (thread_at clocks i) { live = false })

-- what turns are about: the clocks of the threads that have not ended
abbrev pub live_clock : ThreadClock → Option ℕ
live_clock t = if t.live then Some t.clock else None

-- the clocks of all threads by number, without those that have ended
abbrev pub live_clocks : List ThreadClock → List (Option ℕ)
live_clocks clocks = map live_clock clocks

-- no clock is past the limit
abbrev pub AreWithinLimit : List ThreadClock → Type 0
AreWithinLimit clocks = All (λ t. t.clock ≤ limit.CLOCK) clocks
