-- Believed: a contract of the headline stands on it.
-- When the machine refuses an event.
use Rattle.std.specs.Prelude.{◌≡◌, ◌||◌, if◌then◌else◌, ℕ, Bool, true, false, List, Option, Some}
use Rattle.std.specs.Prelude.{None, Result, Ok, Err, slice_get}
use Rattle.posix_terms.specs.declared.outcome.Given.{Given}
use Rattle.posix_terms.specs.declared.transcript.HistoryRow.{HistoryRow}
use Rattle.posix_terms.specs.declared.step.Step.{Step}
use Rattle.posix_terms.specs.declared.step.Step.TheVariants as step
use Rattle.lock_machine.specs.Outings.{can_count, progress_at}
use Rattle.lock_machine.specs.Threads.{Thread}
use Rattle.lock_machine.specs.Whole.{Whole, thread_at}
use Rattle.lock_machine.specs.declared.outside.Progress.{Progress}
use Rattle.lock_machine.specs.declared.outside.Progress.TheVariants as progress
use Rattle.lock_machine.specs.declared.refused.Attempt.{Attempt}
use Rattle.lock_machine.specs.declared.refused.Attempt.TheVariants as attempt
use Rattle.lock_machine.specs.declared.refused.LockRefused.{LockRefused}
use Rattle.lock_machine.specs.declared.refused.LockRefused.TheVariants as refused
use Rattle.lock_machine.specs.declared.thread.Phase.{Phase}
use Rattle.lock_machine.specs.declared.thread.Phase.TheVariants as phase

-- ## The phases at which there is an event

-- the phase of thread i
abbrev pub phase_at : Whole → ℕ → Phase
phase_at w i = (thread_at w i).phase

-- `ask` and `end`
abbrev pub works : Phase → Bool
works phase.Working = true
works p = false

-- `try_table`
abbrev pub wants_table : Phase → Bool
wants_table (phase.WantsTable call carried) = true
wants_table p = false

-- `try_node`
abbrev pub wants_object : Phase → Bool
wants_object (phase.WantsObject call carried clock object) = true
wants_object p = false

-- `attempt`
abbrev pub wants_lock : Phase → Bool
wants_lock p = wants_table p || wants_object p

-- `begin_outside`
abbrev pub goes_outside : Phase → Bool
goes_outside (phase.ToOutside o) = true
goes_outside p = false

-- `record`
abbrev pub is_outside : Phase → Bool
is_outside (phase.Outside o) = true
is_outside p = false

-- `answer`
abbrev pub has_answer : Phase → Bool
has_answer (phase.Granted row object ends) = true
has_answer (phase.Recorded o) = true
has_answer p = false

-- `again`
abbrev pub is_blocked : Phase → Bool
is_blocked (phase.Blocked carried) = true
is_blocked p = false

-- a thread that works asks for its end by an event of its own
abbrev pub is_end : Step → Bool
is_end step.End = true
is_end x = false

-- ## Refusals

-- an event that is not made changes nothing
abbrev pub Rests : Bool → Whole → Whole → Type 0
Rests true old new = Unit {0}
Rests false old new = new ≡ old

-- an event comes where it has its phase: it is made, with what comes of it, or a number forbids it,
-- or there is no memory. Where it is refused it changes nothing
abbrev pub Comes : {A : Type 0} → Bool → Result A LockRefused → Whole → Whole → (Option A → Type 0)
    → Type 0
Comes right (Ok a) old new made = (right ≡ true) × made (Some a)
Comes right (Err refused.WrongPhase) old new made = (right ≡ false) × (new ≡ old)
Comes right (Err refused.ClockFull) old new made = (right ≡ true) × (new ≡ old) × made None
Comes right (Err refused.Memory) old new made = (right ≡ true) × (new ≡ old)

-- what is so where an event is refused since memory ran out
abbrev pub OnMemory : {A : Type 0} → Result A LockRefused → Type 0 → Type 0
OnMemory (Ok a) P = Unit {0}
OnMemory (Err refused.WrongPhase) P = Unit {0}
OnMemory (Err refused.ClockFull) P = Unit {0}
OnMemory (Err refused.Memory) P = P

-- an event that takes no memory is not refused for the lack of it
abbrev pub WantsNone : {A : Type 0} → Result A LockRefused → Type 0
WantsNone r = OnMemory r ⊥

-- ## Outcomes

-- what would come of this outcome for a thread in this phase; it can come only for one outside
abbrev pub outlook_in : Phase → Thread → List HistoryRow → Given → Progress
outlook_in (phase.Outside o) t rows g = progress_at (slice_get rows o.row) o g (can_count t)
outlook_in p t rows g = progress.Stays

-- what would come of this outcome for thread i
abbrev pub outlook : Whole → ℕ → Given → Progress
outlook w i g = let t = thread_at w i in outlook_in t.phase t w.rows g

-- what `record` gives, by whether the thread is outside and the outlook of the outcome
abbrev pub recorded_as : Bool → Progress → Result Progress LockRefused
recorded_as true progress.Moves = Ok progress.Moves
recorded_as true progress.Diverges = Ok progress.Diverges
recorded_as true progress.Stays = Err refused.ClockFull
recorded_as false p = Err refused.WrongPhase

-- ## Attempts

-- an attempt was made, or was not
abbrev pub Tried : {A : Type 0} → Result A LockRefused → (Bool → Type 0) → Type 0
Tried (Ok a) made = made true
Tried (Err refused.WrongPhase) made = made false
Tried (Err refused.ClockFull) made = made false
Tried (Err refused.Memory) made = Unit {0}

-- what came of an attempt, by whether the lock is still wanted
abbrev pub attempted : Bool → Attempt
attempted true = attempt.Failed
attempted false = attempt.Got

-- whether the lock that was wanted before is wanted after the attempt
abbrev pub still_wants : Phase → Phase → Bool
still_wants before after = if wants_table before then wants_table after else wants_object after
