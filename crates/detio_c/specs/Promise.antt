-- What each export promises of the session in its handle.
use Rattle.std.specs.Prelude.{◌≡◌, ◌≤◌, ℕ, zero, suc, Bool, true, false, List}
use Rattle.std.specs.Prelude.{Option, Some, None, IfSome, IsSomeAnd}
use Rattle.lock_model.specs.Machine.{Event}
use Rattle.lock_model.specs.Machine.Event.{Advances, Attempts}
use Rattle.lock_machine.specs.Refusals.{phase_at}
use Rattle.lock_machine.specs.Views.{clocks_of}
use Rattle.lock_machine.specs.declared.thread.Outing.{Outing}
use Rattle.logical_clocks.specs.TurnOrder.{turn_holder}
use Rattle.machine.specs.Doors.{taken_along, without}
use Rattle.machine.specs.Events.{FailsAtSink, IsRecorded}
use Rattle.machine.specs.Faithful.{IsFaithful}
use Rattle.machine.specs.Runs.{Coming, Grows}
use Rattle.machine.specs.Runs.Coming.{Asks, Nothing}
use Rattle.machine.specs.Shown.{Shown}
use Rattle.posix_terms.specs.Calls.{Call}
use Rattle.posix_terms.specs.declared.outcome.Outcome.{Outcome}
use Rattle.posix_terms.specs.declared.step.Step.TheVariants as step
use Rattle.c_words.specs.Calls.{call_of}
use Rattle.c_words.specs.Words.{outcome_of}
use Rattle.c_words.specs.declared.words.CallWords.{CallWords}
use Rattle.c_words.specs.declared.words.OutcomeWords.{OutcomeWords}
use Rattle.detio_c.specs.Ends.{back_of, opened_of}
use Rattle.detio_c.specs.declared.session.Session.{Session}

-- the machine of the session, while its run goes on, is faithful
abbrev pub IsFaithfulIn : Option Session → Type 0
IsFaithfulIn o = IfSome o (λ s. IfSome s.machine (IsFaithful ℕ))

-- the code is not that of what was done, nor this one, which says that something has changed too
abbrev pub IsRefusal : ℕ → ℕ → Type 0
IsRefusal also code = ((code ≡ 0) → ⊥) × ((code ≡ also) → ⊥)

-- the run has grown by this event, and nothing else of its machine has changed
abbrev pub GrowsBy : Coming → Event → Option (Shown ℕ) → Option (Shown ℕ) → Type 0
GrowsBy c e (Some old) (Some new) =
    Grows c e old.whole new.whole × (new ≡ record old { whole = new.whole })
GrowsBy c e old new = ⊥

-- thread i has gone outside with its door, and nothing else of the machine has changed
abbrev pub GoesOut : ℕ → Option (Shown ℕ) → Option (Shown ℕ) → Type 0
GoesOut i (Some old) (Some new) =
    Grows Nothing (Advances i) old.whole new.whole
    × (new ≡ record old {
      whole = new.whole;
      doors = without old.doors (taken_along (phase_at old.whole i));
    })
GoesOut i old new = ⊥

-- the run has grown by this call, if there is one
abbrev pub AsksCall : Option Call → ℕ → Option (Shown ℕ) → Option (Shown ℕ) → Type 0
AsksCall (Some c) i old new = GrowsBy (Asks (step.Call c)) (Advances i) old new
AsksCall None i old new = ⊥

-- this outcome of thread i, if there is one, was recorded, with the doors that C says, and nothing
-- else of the machine has changed
abbrev pub BringsOutcome : Option Outcome → OutcomeWords → ℕ → Option (Shown ℕ) → Option (Shown ℕ)
    → Type 0
BringsOutcome (Some o) words i (Some old) (Some new) =
    (outing : Outing) × IsRecorded ℕ i outing o (back_of outing.errand.kind words)
    (opened_of outing.errand.kind o words) old new
BringsOutcome o words i old new = ⊥

-- the log's writer failed inside the record of this outcome of thread i, and for this the run is
-- stopped
abbrev pub FillsLog : Option Outcome → ℕ → Option (Shown ℕ) → Option (Shown ℕ) → Type 0
FillsLog (Some o) i (Some old) (Some new) =
    (outing : Outing) × FailsAtSink ℕ i outing o old new
FillsLog o i old new = ⊥

-- ## In a session

-- nothing but the machine of the session has changed
abbrev pub KeepsRest : Session → Session → Type 0
KeepsRest old new = new ≡ record old { machine = new.machine }

-- the run of the session has grown by this event, and nothing else has changed
abbrev pub HasGrown : Coming → Event → Option Session → Option Session → Type 0
HasGrown c e (Some old) (Some new) = KeepsRest old new × GrowsBy c e old.machine new.machine
HasGrown c e old new = ⊥

-- thread i of the session has gone outside with its door, and nothing else has changed
abbrev pub HasGone : ℕ → Option Session → Option Session → Type 0
HasGone i (Some old) (Some new) = KeepsRest old new × GoesOut i old.machine new.machine
HasGone i old new = ⊥

-- the run of the session has grown by the call that C says, and nothing else has changed
abbrev pub HasAsked : CallWords → List ℕ → List ℕ → ℕ → Option Session → Option Session → Type 0
HasAsked words text second i (Some old) (Some new) =
    KeepsRest old new × AsksCall (call_of words text second) i old.machine new.machine
HasAsked words text second i old new = ⊥

-- the outcome that C says was recorded in the session, and nothing else has changed
abbrev pub HasCome : OutcomeWords → List ℕ → ℕ → Option Session → Option Session → Type 0
HasCome words bytes i (Some old) (Some new) =
    KeepsRest old new × BringsOutcome (outcome_of words bytes) words i old.machine new.machine
HasCome words bytes i old new = ⊥

-- the log's writer failed inside the record of the outcome that C says, and nothing else of the
-- session has changed
abbrev pub HasFilled : OutcomeWords → List ℕ → ℕ → Option Session → Option Session → Type 0
HasFilled words bytes i (Some old) (Some new) =
    KeepsRest old new × FillsLog (outcome_of words bytes) i old.machine new.machine
HasFilled words bytes i old new = ⊥

-- ## Attempts

-- whoever has the turn made an attempt, and nothing else happened
abbrev pub HasAttempted : Shown ℕ → Shown ℕ → Type 0
HasAttempted old new =
    IsSomeAnd (turn_holder (clocks_of old.whole.threads))
    (λ i. GrowsBy Nothing (Attempts i) (Some old) (Some new))

-- an attempt was made, or nothing happened
abbrev pub MayHaveAttempted : Bool → Shown ℕ → Shown ℕ → Type 0
MayHaveAttempted true old new = HasAttempted old new
MayHaveAttempted false old new = new ≡ old

-- so many attempts lead from one machine to the other
abbrev pub AttemptsLead : ℕ → Shown ℕ → Shown ℕ → Type 0
AttemptsLead zero old new = new ≡ old
AttemptsLead (suc n) old new =
    (between : Shown ℕ) × AttemptsLead n old between × HasAttempted between new

-- this many attempts, or more, lead from one machine to the other
abbrev pub LeadsBy : ℕ → Shown ℕ → Shown ℕ → Type 0
LeadsBy least old new = (count : ℕ) × (least ≤ count) × AttemptsLead count old new

-- this many attempts, or more, were made in the session, and nothing else happened
abbrev pub HasSettled : ℕ → Session → Session → Type 0
HasSettled least old new =
    KeepsRest old new × IsSomeAnd old.machine (λ m. IsSomeAnd new.machine (LeadsBy least m))
