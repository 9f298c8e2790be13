-- Internal: no contract of the headline or of a command stands on it.
-- What a thread's next step makes of it, and what comes of a blocked call.
use Rattle.std.specs.Prelude.{◌≡◌, ℕ, ◌+◌, ◌<◌, ◌≤◌, ◌^◌, [], ◌∷◌, ◌++◌, Option, Some, None, Bool}
use Rattle.std.specs.Prelude.{true, false}
use Rattle.sequential_object.specs.Step.{Carried, nothing_carried}
use Rattle.posix_terms.specs.Calls.{Call}
use Rattle.posix_terms.specs.declared.step.Step.{Step}
use Rattle.posix_terms.specs.declared.step.Step.TheVariants as step
use Rattle.lock_model.specs.Held.{has_end, last_call}
use Rattle.lock_machine.specs.declared.thread.Phase.{Phase}
use Rattle.lock_machine.specs.declared.thread.Phase.TheVariants as phase
use Rattle.lock_machine.specs.Threads.{Thread}

-- a thread once it has worked for so long, by its own clock
abbrev pub worked : ℕ → Thread → Thread
worked n t = record t { clock = t.clock + n; asked = t.asked ++ step.Work n ∷ [] }

-- a thread works for so long, where its clock has room for that; else nothing changes
abbrev pub Works : Bool → ℕ → Thread → Thread → Type 0
Works true n old new = (old.clock + n ≤ 2 ^ 62) × (new ≡ worked n old)
Works false n old new = (2 ^ 62 < old.clock + n) × (new ≡ old)

-- a thread that has asked a call, and wants the table for it
abbrev pub after_want : Call → Thread → Thread
after_want call t = record t {
  phase = phase.WantsTable call nothing_carried;
  asked = t.asked ++ step.Call call ∷ [];
}

-- a thread that has asked its end
abbrev pub after_end : Thread → Thread
after_end t = record t { phase = phase.Ended; asked = t.asked ++ step.End ∷ [] }

-- a thread ends once
abbrev pub EndsIf : Bool → Bool → Thread → Thread → Type 0
EndsIf true moved old new = (moved ≡ false) × (new ≡ old)
EndsIf false moved old new = (moved ≡ true) × (new ≡ after_end old)

-- a thread that works ends, unless it asked its end before
abbrev pub Ends : Bool → Thread → Thread → Type 0
Ends moved old new = EndsIf (has_end old.asked) moved old new

-- this step is asked, where the clock has room for it
abbrev pub Asks : Bool → Step → Thread → Thread → Type 0
Asks moved (step.Work n) old new = Works moved n old new
Asks moved (step.Call call) old new = (moved ≡ true) × (new ≡ after_want call old)
Asks moved step.End old new = Ends moved old new

-- the clock has room for this step
abbrev pub HasTime : Step → Thread → Type 0
HasTime (step.Work n) t = t.clock + n ≤ 2 ^ 62
HasTime (step.Call call) t = Unit {0}
HasTime step.End t = Unit {0}

-- a blocked call, which is the one that was asked last, wants the table again
abbrev pub GoesAgainWith : Option Call → Carried → Bool → Thread → Thread → Type 0
GoesAgainWith (Some call) carried moved old new =
    (moved ≡ true) × (new ≡ record old { phase = phase.WantsTable call carried })
GoesAgainWith None carried moved old new = (moved ≡ false) × (new ≡ old)

-- in this phase a thread makes its call again, if that is blocked
abbrev pub GoesAgainIn : Phase → Bool → Thread → Thread → Type 0
GoesAgainIn (phase.Blocked carried) moved old new =
    GoesAgainWith (last_call old.asked) carried moved old new
GoesAgainIn p moved old new = (moved ≡ false) × (new ≡ old)

-- a thread whose call is blocked makes it again; any other stays as it is
abbrev pub GoesAgain : Bool → Thread → Thread → Type 0
GoesAgain moved old new = GoesAgainIn old.phase moved old new
