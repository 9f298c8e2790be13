-- Internal: no contract of the headline or of a command stands on it.
-- An outside in which the log of the run cannot be opened.
use Rattle.std.specs.Prelude.{◌≡◌, ◌⊎◌, ◌+◌, ℕ, Bool, true, false, List, None, Result, Ok, Err}
use Rattle.posix_terms.specs.Calls.{Call}
use Rattle.posix_terms.specs.declared.call.Call.TheVariants as call
use Rattle.posix_terms.specs.declared.errno.Errno.TheVariants as errno
use Rattle.posix_terms.specs.declared.outcome.Outcome.{Outcome}
use Rattle.posix_terms.specs.declared.outcome.Outcome.TheVariants as outcome
use Rattle.posix_terms.specs.declared.request.Request.{Request}
use Rattle.host_doors.specs.Giving.{GivesOne}
use Rattle.host_doors.specs.declared.counts.Counts.{Counts}
use Rattle.host_doors.specs.declared.opened.Opened.{Opened}
use Rattle.host_doors.specs.declared.stop.DoorStop.{DoorStop}

-- the outside within, who finds the log, and how often the log was to be opened
pub record Guarded (O F : Type 0) : Type 0 where
  pub within : O
  pub finder : F
  pub refused : ℕ

-- what is counted within, and the refused openings of the log, each of which is a failure
abbrev pub counted_with : {O F : Type 0} → (O → ℕ) → Guarded O F → ℕ
counted_with count guarded = count guarded.within + guarded.refused

-- how an outside may give an outcome: as it stood before, which number, to which request, which
-- outcome, and as it stands after
abbrev pub Law : Type 0 → Type 1
Law O = O → ℕ → Request → Outcome → O → Type 0

-- the law of an outside that counts and gives so, by its trait
abbrev pub law_of : {O : Type 0} → (O → ℕ) → (O → ℕ) → Law O → Law O
law_of given failures gives = GivesOne given failures gives

-- what a finder may answer of a path
abbrev pub Answers : Type 0 → Type 1
Answers F = F → List ℕ → Bool → Type 0

-- whether a call opens the log: it opens a path of which the finder says so
abbrev pub Finds : {F : Type 0} → Answers F → F → Call → Bool → Type 0
Finds may_answer finder (call.HostOpen path access flags) is_log = may_answer finder path is_log
Finds may_answer finder _ is_log = is_log ≡ false

-- the outside within gives it, and nothing else moves
abbrev pub Passes : {O F : Type 0} → Law O → Guarded O F → ℕ → Request → Outcome
    → Guarded O F → Type 0
Passes gives old number request o new = gives old.within number request o new.within
    × (new ≡ record old { within = new.within })

-- an opening of the log: it is EBUSY, and the outside within is as it was
abbrev pub Refuses : {O F : Type 0} → Guarded O F → Outcome → Guarded O F → Type 0
Refuses old o new = (o ≡ outcome.Fail errno.EBUSY)
    × (new ≡ record old { refused = old.refused + 1 })

-- what comes of an opening, by whether it is one of the log
abbrev pub OpensBy : {O F D : Type 0} → Law O → Bool → Guarded O F → ℕ → Request
    → Result (Opened D) DoorStop → Guarded O F → Type 0
OpensBy gives true old number request (Ok opened) new =
    Refuses old opened.outcome new × (opened.door ≡ None)
OpensBy gives true old number request (Err stop) new = ⊥
OpensBy gives false old number request (Ok opened) new =
    Passes gives old number request opened.outcome new
OpensBy gives false old number request (Err stop) new = new ≡ old

-- what comes of an opening
abbrev pub OpensSo : {O F D : Type 0} → Law O → Answers F → Guarded O F → ℕ → Request
    → Result (Opened D) DoorStop → Guarded O F → Type 0
OpensSo gives may_answer old number request result new =
    (is_log : Bool) × Finds may_answer old.finder request.call is_log
    × OpensBy gives is_log old number request result new

-- what a call may give: an opening of the log is refused, and all else passes
abbrev pub MayGive : {O F : Type 0} → Law O → Answers F → Guarded O F → ℕ → Request → Outcome
    → Guarded O F → Type 0
MayGive gives may_answer old number request o new =
    (Finds may_answer old.finder request.call true × Refuses old o new)
    ⊎ Passes gives old number request o new

-- an outside over the host that has given nothing: nothing within, and no opening of the log
abbrev pub IsUnusedHost : {F : Type 0} → Guarded Counts F → Type 0
IsUnusedHost host = (counted_with (λ d. d.given) host ≡ 0)
    × (counted_with (λ d. d.failures) host ≡ 0)
