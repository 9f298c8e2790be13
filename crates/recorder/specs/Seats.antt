-- Believed: a contract of the headline stands on it.
-- A worker at its thread: its actor, its outside and its notes.
use Rattle.std.specs.Prelude.{◌≡◌, ℕ, ◌≤◌, Bool, true, false, not, List, [], ◌∷◌, length}
use Rattle.std.specs.Prelude.{Option, None}
use Rattle.lock_machine.specs.Waiting.{is_call}
use Rattle.posix_terms.specs.declared.limits.TheConstants.Limits as limit
use Rattle.thread_scripts.specs.declared.actor.ScriptState.{ScriptState}
use Rattle.posix_terms.specs.declared.step.Step.{Step}
use Rattle.posix_terms.specs.declared.step.Step.TheVariants as step
use Rattle.worker_notes.specs.Leads.{Giving, LeadsTo}
use Rattle.posix_terms.specs.Calls.{Call}
use Rattle.worker_notes.specs.Plays.{AreHeard, AreHeardSoFar, IsHeard, PlaysTo, gave_end, open_call}
use Rattle.worker_notes.specs.declared.own.Brought.{Brought}
use Rattle.worker_notes.specs.declared.own.Noted.{Noted}
use Rattle.worker_notes.specs.declared.own.Own.{Own}
use Rattle.recorder.specs.declared.asked.StepKind.{StepKind}
use Rattle.recorder.specs.declared.asked.StepKind.TheVariants as asked

-- where actor and outside stood at entry and stand now, the notes, how many calls were made
-- outside, and whether the actor or the outside may be ahead of the notes
pub record Sitting (O : Type 0) : Type 0 where
  pub from : ScriptState
  pub began : O
  pub now : ScriptState
  pub outside : O
  pub steps : List Noted
  pub brought : List Brought
  pub ended : Bool
  pub number : ℕ
  pub ahead : Bool

-- the call whose outcome the outside may have given beyond the notes
abbrev pub ahead_in : Bool → List Noted → Option Call
ahead_in false notes = None
ahead_in true notes = open_call notes

-- the notes lead from where both stood to where they stand
pub record IsSeated (O : Type 0) (gives : Giving O) (count faults : O → ℕ) (v : Sitting O)
    : Type 0 where
  pub plays : PlaysTo v.ahead v.from v.steps v.now
  pub heard : AreHeardSoFar v.steps
  pub leads : LeadsTo gives (ahead_in v.ahead v.steps) v.began v.brought v.outside
  pub given : count v.outside ≤ v.number
  pub failures : faults v.outside ≤ v.number
  pub few : v.number ≤ limit.OUTCOMES
  pub counted : v.ahead ≡ false → length v.brought ≡ v.number
  pub ends : v.ended ≡ true → (v.ahead ≡ false) × gave_end v.steps

-- nothing is ahead of the notes, and the actor has not ended
abbrev pub IsStill : {O : Type 0} → Sitting O → Type 0
IsStill v = (v.ahead ≡ false) × (v.ended ≡ false)

-- the next step can be asked: each call has its reply
abbrev pub IsReady : {O : Type 0} → Sitting O → Type 0
IsReady v = IsStill v × AreHeard v.steps

-- the last step is a call that has no reply yet, and those before it have theirs
abbrev pub EndsInCall : List Noted → Type 0
EndsInCall [] = ⊥
EndsInCall (n ∷ []) = (is_call n.step ≡ true) × (n.reply ≡ None)
EndsInCall (n ∷ m ∷ notes) = IsHeard n × EndsInCall (m ∷ notes)

-- the call that was asked last has no reply yet
abbrev pub IsCalling : {O : Type 0} → Sitting O → Type 0
IsCalling v = IsStill v × EndsInCall v.steps

-- ## After a step

-- the kind of a step
abbrev pub kind_of : Step → StepKind
kind_of (step.Work n) = asked.Work
kind_of (step.Call c) = asked.Call
kind_of step.End = asked.End

-- how a worker stands when such a step was asked
abbrev pub StandsBehind : {O : Type 0} → StepKind → Sitting O → Type 0
StandsBehind asked.Work v = IsReady v
StandsBehind asked.Call v = IsCalling v
StandsBehind asked.End v = Unit {0}

-- ## What it brings back

-- it is true to its notes: they lead from its actor's state at entry to its state at the end, or
-- one step further, though no further where the actor gave its end; and from its outside at entry
-- to its outside at the end, or one call further: that in which the steps end
pub record IsTrueTo (O : Type 0) (gives : Giving O) (from : ScriptState) (began : O) (own : Own)
    (now : ScriptState) (outside : O) : Type 0 where
  pub plays : PlaysTo (not own.ended) from own.steps.items now
  pub heard : AreHeardSoFar own.steps.items
  pub leads : LeadsTo gives (open_call own.steps.items) began own.outcomes.items outside
  pub ends : own.ended ≡ true → gave_end own.steps.items
