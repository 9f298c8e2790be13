-- Believed: a contract of the headline stands on it.
-- When a machine refuses an event, and what it makes of one.
use Rattle.posix_terms.specs.declared.outcome.Given.{Given}
use Rattle.std.specs.Prelude.{◌≡◌, ℕ, ◌+◌, Bool, true, false, Option, Some, None, Result, Ok, Err}
use Rattle.input_log.specs.Format.{record_text}
use Rattle.input_log.specs.Writing.{FailsInside, with_record}
use Rattle.lock_machine.specs.declared.refused.LockRefused as calls
use Rattle.lock_machine.specs.declared.refused.LockRefused.TheVariants as calls_refused
use Rattle.lock_model.specs.Machine.{Event, happens}
use Rattle.lock_model.specs.Machine.Event.{Advances}
use Rattle.sequential_object.specs.Answers.{numbered}
use Rattle.lock_model.specs.State.{Job, State, thread_of}
use Rattle.lock_model.specs.State.Phase.{ToOutside}
use Rattle.lock_machine.specs.Refusals.{is_outside, phase_at}
use Rattle.lock_machine.specs.Shows.{replied, as_it_comes}
use Rattle.lock_machine.specs.Threads.{Thread}
use Rattle.lock_machine.specs.Whole.{Whole, thread_at}
use Rattle.lock_machine.specs.declared.thread.Phase.TheVariants as phase
use Rattle.call_turns.specs.Errands.{door_taken}
use Rattle.input_log.specs.declared.log.Record.{Record}
use Rattle.posix_terms.specs.declared.reply.Answer.{Answer}
use Rattle.lock_machine.specs.declared.thread.Outing.{Outing}
use Rattle.posix_terms.specs.declared.outcome.Outcome.{Outcome}
use Rattle.machine.specs.Doors.{doors_after}
use Rattle.machine.specs.Records.{record_of, as_logged}
use Rattle.machine.specs.Runs.{Coming, Grows, IsEnd, IsForbidden, IsPermitted, setup_with}
use Rattle.machine.specs.Runs.Coming.{Brings, Nothing}
use Rattle.machine.specs.Shown.{Shown}
use Rattle.machine.specs.declared.refused.NotRecorded.{NotRecorded}
use Rattle.machine.specs.declared.refused.Refused.{Refused}
use Rattle.machine.specs.declared.refused.Refused.TheVariants as refused
use Rattle.machine.specs.declared.stop.Stop.{Stop}
use Rattle.machine.specs.declared.stop.Stop.TheVariants as stop

-- a refusal of the lock machine
abbrev pub refusal_of : calls.LockRefused → Refused
refusal_of calls_refused.WrongPhase = refused.WrongPhase
refusal_of calls_refused.ClockFull = refused.ClockFull
refusal_of calls_refused.Memory = refused.Memory

-- what the lock machine answers, as the machine returns it
abbrev pub told_of : {A : Type 0} → Result A calls.LockRefused → Result A Refused
told_of (Ok a) = Ok a
told_of (Err e) = Err (refusal_of e)

-- whether a machine is stopped
abbrev pub IsRunning : Result (Unit {0}) Refused → Option Stop → Type 0
IsRunning (Ok done) o = o ≡ None
IsRunning (Err (refused.Stopped cause)) o = o ≡ Some cause
IsRunning (Err e) o = ⊥

-- an event is refused for a stop, then for the phase of its thread or its lack of the turn, then
-- for a number, then since memory ran out, and changes nothing then; else the run grows by it
abbrev pub Comes : {D A : Type 0} → Bool → Coming → Event → Result A Refused → Shown D → Shown D
    → Type 0
Comes right c e (Ok a) old new = (old.stop ≡ None) × (right ≡ true) × Grows c e old.whole new.whole
Comes right c e (Err (refused.Stopped cause)) old new = (old.stop ≡ Some cause) × (new ≡ old)
Comes right c e (Err refused.WrongPhase) old new = (old.stop ≡ None) × (right ≡ false) × (new ≡ old)
Comes right c e (Err refused.ClockFull) old new =
    (old.stop ≡ None) × (right ≡ true) × IsForbidden c e old.whole × (new ≡ old)
Comes right c e (Err refused.Memory) old new =
    (old.stop ≡ None) × (right ≡ true) × IsPermitted c e old.whole × (new ≡ old)
Comes right c e (Err refused.Sink) old new = ⊥

-- an event that takes no memory is not refused for the lack of it
abbrev pub WantsNone : {A : Type 0} → Result A Refused → Type 0
WantsNone (Ok a) = Unit {0}
WantsNone (Err (refused.Stopped cause)) = Unit {0}
WantsNone (Err refused.WrongPhase) = Unit {0}
WantsNone (Err refused.ClockFull) = Unit {0}
WantsNone (Err refused.Memory) = ⊥
WantsNone (Err refused.Sink) = Unit {0}

-- ## `begin_outside`

-- this is the number of the object whose door the call takes along with which thread i goes
-- outside, by the definition of the calls
abbrev pub IsDoorTaken : Whole → ℕ → Option ℕ → Type 0
IsDoorTaken w i number = (s : State) (job : Job) → IsEnd w s → (thread_of s i).phase ≡ ToOutside job
    → number ≡ numbered job.found (door_taken job.found.object job.call job.carried)

-- ## `record`

-- the call with which thread i is outside
abbrev pub IsOutsideAt : {D : Type 0} → Result Outing Refused → Shown D → ℕ → Type 0
IsOutsideAt (Ok o) m i = (m.stop ≡ None) × (phase_at m.whole i ≡ phase.Outside o)
IsOutsideAt (Err (refused.Stopped cause)) m i = m.stop ≡ Some cause
IsOutsideAt (Err refused.WrongPhase) m i =
    (m.stop ≡ None) × (is_outside (phase_at m.whole i) ≡ false)
IsOutsideAt (Err e) m i = ⊥

-- an outcome of what was asked there
abbrev pub given_for : Outing → Outcome → Given
given_for o outcome = record { kind = o.errand.kind; clock = None; outcome = outcome }

-- the record of an outcome of thread i, after those that it has
abbrev pub record_for : Whole → ℕ → Outing → Outcome → Record
record_for w i o outcome =
    let t : Thread = thread_at w i in
    record_of i t.came (as_logged w.settings.version (as_it_comes w i (given_for o outcome)))

-- the record was taken whole, the run grows by the outcome, which is counted, and the doors are
-- where they belong
pub record IsRecorded (D : Type 0) (i : ℕ) (o : Outing) (outcome : Outcome) (back opened : Option D)
    (old new : Shown D) : Type 0 where
  pub running : old.stop ≡ None
  pub outside : phase_at old.whole i ≡ phase.Outside o
  pub grows : Grows (Brings (given_for o outcome)) (Advances i) old.whole new.whole
  pub counted : (thread_at new.whole i).came ≡ (thread_at old.whole i).came + 1
  pub rest : new ≡ record old {
    whole = new.whole;
    log = with_record old.log (record_for old.whole i o outcome);
    doors = doors_after old.doors o back opened;
  }

-- the log's writer failed inside the record, and for this the machine is stopped
pub record FailsAtSink (D : Type 0) (i : ℕ) (o : Outing) (outcome : Outcome) (old new : Shown D)
    : Type 0 where
  pub running : old.stop ≡ None
  pub outside : phase_at old.whole i ≡ phase.Outside o
  pub fails : FailsInside (record_text (record_for old.whole i o outcome)) old.log new.log
  pub rest : new ≡ record old { log = new.log; stop = Some stop.Sink }

-- the machine refused to record an outcome of thread i, and why
abbrev pub Refuses : {D : Type 0} → ℕ → Outcome → Refused → Shown D → Shown D → Type 0
Refuses i outcome (refused.Stopped cause) old new = (old.stop ≡ Some cause) × (new ≡ old)
Refuses i outcome refused.WrongPhase old new =
    (old.stop ≡ None) × (is_outside (phase_at old.whole i) ≡ false) × (new ≡ old)
Refuses {D} i outcome refused.Sink old new = (o : Outing) × FailsAtSink D i o outcome old new
Refuses i outcome cause old new = ⊥

-- the outcome is recorded; or it is handed back, with both doors
abbrev pub Recorded : {D : Type 0} → ℕ → Outcome → Option D → Option D
    → Result (Unit {0}) (NotRecorded D) → Shown D → Shown D → Type 0
Recorded {D} i outcome back opened (Ok done) old new =
    (o : Outing) × IsRecorded D i o outcome back opened old new
Recorded i outcome back opened (Err n) old new =
    ((n.outcome ≡ outcome) × (n.back ≡ back) × (n.opened ≡ opened))
    × Refuses i outcome n.cause old new

-- ## `answer`

-- the replies of thread i grow by this answer, if it is a reply, whichever run leads to the machine
abbrev pub Tells : Answer → ℕ → Whole → Type 0
Tells a i w = (s : State) → IsEnd w s
    → (thread_of (happens (setup_with w Nothing s) (Advances i) s) i).replies
    ≡ replied (Some a) (thread_of s i).replies

-- ## `stop`

-- the machine is stopped for this cause now, or refuses, since it was stopped before
abbrev pub Stops : {D : Type 0} → Stop → Result (Unit {0}) Refused → Shown D → Shown D → Type 0
Stops cause (Ok done) old new = (old.stop ≡ None) × (new ≡ record old { stop = Some cause })
Stops cause (Err (refused.Stopped first)) old new = (old.stop ≡ Some first) × (new ≡ old)
Stops cause (Err e) old new = ⊥
