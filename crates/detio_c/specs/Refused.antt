-- Why a call of the library is refused.
use Rattle.std.specs.Prelude.{◌≡◌, ◌<◌, ◌≤◌, ℕ, Bool, true, false, ◌&&◌, ◌||◌, ◌==◌, not, List}
use Rattle.std.specs.Prelude.{length, slice_get, is_some, Option, Some, None, IfSome, IsSomeAnd}
use Rattle.std.specs.Prelude.{MatchOption, ◌⊎◌}
use Rattle.c_words.specs.Calls.{HasText}
use Rattle.c_words.specs.Faults.{code_of}
use Rattle.c_words.specs.Requests.{text_of}
use Rattle.c_words.specs.Words.{bytes_that_came}
use Rattle.c_words.specs.declared.fault.LibraryFault.{LibraryFault}
use Rattle.c_words.specs.declared.fault.LibraryFault.TheVariants as fault
use Rattle.c_words.specs.declared.words.CallWords.{CallWords}
use Rattle.c_words.specs.declared.words.OutcomeWords.{OutcomeWords}
use Rattle.c_words.specs.declared.words.RunWords.{RunWords}
use Rattle.input_log.specs.Fronts.{HasNoFront, IsFront}
use Rattle.input_log.specs.Grammar.{in_range}
use Rattle.input_log.specs.Headers.{header_for}
use Rattle.input_log.specs.declared.fault.LogFault.{LogFault}
use Rattle.input_log.specs.declared.fault.LogFault.TheVariants as log_fault
use Rattle.input_log.specs.declared.log.LogText.{LogText}
use Rattle.lock_machine.specs.Refusals.{has_answer, is_end, is_outside, phase_at, wants_lock, works}
use Rattle.lock_machine.specs.Views.{clocks_of}
use Rattle.lock_machine.specs.declared.thread.Phase.{Phase}
use Rattle.lock_machine.specs.declared.thread.Phase.TheVariants as phase
use Rattle.lock_model.specs.Machine.Event.{Advances, Attempts}
use Rattle.logical_clocks.specs.TurnOrder.{turn_holder}
use Rattle.machine.specs.DoorsThere.{outcome_of}
use Rattle.machine.specs.Requests.{IsOutsideTurn, IsRequest, awaited, out_of}
use Rattle.machine.specs.Runs.{Coming, IsForbidden, IsPermitted}
use Rattle.machine.specs.Runs.Coming.{Asks, Nothing}
use Rattle.machine.specs.Shown.{Shown}
use Rattle.posix_terms.specs.Calls.{Call}
use Rattle.posix_terms.specs.Outcomes.{fits}
use Rattle.posix_terms.specs.declared.outcome.Outcome.{Outcome}
use Rattle.posix_terms.specs.declared.request.Request.{Request}
use Rattle.posix_terms.specs.declared.step.Step.{Step}
use Rattle.posix_terms.specs.declared.step.Step.TheVariants as step
use Rattle.posix_terms.specs.declared.transcript.HistoryRow.{HistoryRow}
use Rattle.posix_terms.specs.declared.transcript.Settings.{Settings}
use Rattle.posix_terms.specs.declared.transcript.Turn.{Turn}
use Rattle.detio_c.specs.Begun.{settings_said}
use Rattle.detio_c.specs.Ends.{stop_of}
use Rattle.detio_c.specs.Reads.{answers_at, bytes_at_end, bytes_came, counts_of, next_logged}
use Rattle.detio_c.specs.declared.session.Session.{Session}

-- the code is that of a fault for which there is this reason
abbrev pub IsFor : (LibraryFault → Type 0) → ℕ → Type 0
IsFor Why code = (f : LibraryFault) × (code ≡ code_of f) × Why f

-- the same of a session, if there is one; else the code says that there is none
abbrev pub IsForSession : (LibraryFault → Session → Type 0) → ℕ → Option Session → Type 0
IsForSession Why code None = code ≡ code_of fault.NoSession
IsForSession Why code (Some s) = IsFor (λ f. Why f s) code

-- ## A thread

-- the run is over, or it has no thread i; or it has, and this is so
abbrev pub OfThread : ℕ → (LibraryFault → Shown ℕ → Type 0) → LibraryFault → Session → Type 0
OfThread i Why fault.Over s = s.machine ≡ None
OfThread i Why fault.NoThread s = IsSomeAnd s.machine (λ m. length m.whole.threads ≤ i)
OfThread i Why f s = IsSomeAnd s.machine (λ m. (i < length m.whole.threads) × Why f m)

-- nothing else is why
abbrev pub NothingElse : LibraryFault → Shown ℕ → Type 0
NothingElse f m = ⊥

-- the run is over, and nothing else is why
abbrev pub IsOver : LibraryFault → Session → Type 0
IsOver fault.Over s = s.machine ≡ None
IsOver f s = ⊥

-- ## Events

-- the run is stopped, or thread i is at no phase for an event with this, or a number forbids it
abbrev pub RefusesEvent : (Phase → Bool) → Coming → ℕ → LibraryFault → Shown ℕ → Type 0
RefusesEvent right c i fault.Stopped m = is_some m.stop ≡ true
RefusesEvent right c i fault.WrongPhase m =
    (m.stop ≡ None) × (right (phase_at m.whole i) ≡ false)
RefusesEvent right c i fault.ClockFull m =
    (m.stop ≡ None) × (right (phase_at m.whole i) ≡ true) × IsForbidden c (Advances i) m.whole
RefusesEvent right c i f m = ⊥

-- or it could be made, and there is no memory for it
abbrev pub RefusesMaking : (Phase → Bool) → Coming → ℕ → LibraryFault → Shown ℕ → Type 0
RefusesMaking right c i fault.NoMemory m =
    (m.stop ≡ None) × (right (phase_at m.whole i) ≡ true) × IsPermitted c (Advances i) m.whole
RefusesMaking right c i f m = RefusesEvent right c i f m

-- thread i cannot ask this step, or it is the end, which detio_end makes
abbrev pub RefusesAsking : Step → ℕ → LibraryFault → Session → Type 0
RefusesAsking asked i =
    OfThread i (RefusesMaking (λ p. works p && not (is_end asked)) (Asks asked) i)

-- or C says no call; or one with a path or bytes, and there is no memory for them; or thread i
-- cannot ask it
abbrev pub RefusesCall : CallWords → Option Call → ℕ → LibraryFault → Session → Type 0
RefusesCall words o i fault.NotACall s = o ≡ None
RefusesCall words o i fault.NoMemory s =
    HasText words ⊎ IsSomeAnd o (λ c. RefusesAsking (step.Call c) i fault.NoMemory s)
RefusesCall words o i f s = IsSomeAnd o (λ c. RefusesAsking (step.Call c) i f s)

-- whoever has the turn makes no attempt: the run is stopped, or a number forbids it
abbrev pub RefusesAttempt : LibraryFault → Shown ℕ → Type 0
RefusesAttempt fault.Stopped m = is_some m.stop ≡ true
RefusesAttempt fault.ClockFull m =
    (m.stop ≡ None) × IsSomeAnd (turn_holder (clocks_of m.whole.threads))
    (λ i. (wants_lock (phase_at m.whole i) ≡ true) × IsForbidden Nothing (Attempts i) m.whole)
RefusesAttempt f m = ⊥

-- the same in a session, where the run may be over
abbrev pub RefusesSettling : LibraryFault → Session → Type 0
RefusesSettling f s = MatchOption s.machine (f ≡ fault.Over) (RefusesAttempt f)

-- ## Replies

-- how many bytes the reply has at most that a thread in this phase gets
abbrev pub bytes_due : Phase → List HistoryRow → ℕ
bytes_due (phase.Granted row object ends) rows = bytes_at_end ends
bytes_due (phase.Recorded o) rows = bytes_came (outcome_of (slice_get rows o.row))
bytes_due p rows = 0

-- thread i gets no answer, or the most bytes that it may get have no room
abbrev pub RefusesAnswer : ℕ → ℕ → LibraryFault → Shown ℕ → Type 0
RefusesAnswer i room fault.NoRoom m =
    (m.stop ≡ None) × (room < bytes_due (phase_at m.whole i) m.whole.rows)
RefusesAnswer i room f m = RefusesEvent has_answer Nothing i f m

-- ## Outside

-- thread i asks nothing outside, or there is no room or no memory for what it asks
abbrev pub RefusesRequest : ℕ → ℕ → LibraryFault → Shown ℕ → Type 0
RefusesRequest i room fault.WrongPhase m = out_of (phase_at m.whole i) ≡ None
RefusesRequest i room fault.NoMemory m = is_some (out_of (phase_at m.whole i)) ≡ true
RefusesRequest i room fault.NoRoom m =
    (r : Request) × IsRequest m.whole i (Some r) × (room < length (text_of r.call))
RefusesRequest i room f m = ⊥

-- the outcome, if there is one, does not fit what thread i asked outside
abbrev pub FitsNothing : ℕ → Option Outcome → Shown ℕ → Type 0
FitsNothing i came m = IfSome came (λ o. IsSomeAnd (awaited (phase_at m.whole i))
    (λ e. fits e.kind e.asked o ≡ false))

-- thread i is not outside, or C says no outcome, or one that does not fit, or the run is stopped,
-- or there is no memory for the bytes of one that succeeded
abbrev pub RefusesOutcome : OutcomeWords → Option Outcome → ℕ → LibraryFault → Shown ℕ → Type 0
RefusesOutcome words came i fault.WrongPhase m = is_outside (phase_at m.whole i) ≡ false
RefusesOutcome words came i fault.NoMemory m =
    (is_outside (phase_at m.whole i) ≡ true) × (words.error ≡ 0)
RefusesOutcome words came i fault.NoAnswer m =
    (is_outside (phase_at m.whole i) ≡ true) × FitsNothing i came m
RefusesOutcome words came i fault.Stopped m = is_some m.stop ≡ true
RefusesOutcome words came i f m = ⊥

-- thread i asks nothing outside; or the log has nothing for it, or nothing that answers it, or more
-- bytes than there is room for
abbrev pub HasNoNext : ℕ → ℕ → Session → LibraryFault → Shown ℕ → Type 0
HasNoNext i room s fault.WrongPhase m = out_of (phase_at m.whole i) ≡ None
HasNoNext i room s fault.EndOfLog m =
    (is_some (out_of (phase_at m.whole i)) ≡ true) × (next_logged s i ≡ None)
HasNoNext i room s fault.Diverged m = IsSomeAnd (next_logged s i) (λ g.
    IsSomeAnd (out_of (phase_at m.whole i)) (λ o.
    (turn : Turn) × IsOutsideTurn m.whole i (Some turn) × (answers_at o turn g ≡ false)))
HasNoNext i room s fault.NoRoom m = IsSomeAnd (next_logged s i) (λ g.
    IsSomeAnd (out_of (phase_at m.whole i)) (λ o.
    ((turn : Turn) × IsOutsideTurn m.whole i (Some turn) × (answers_at o turn g ≡ true))
    × (room < length (bytes_that_came g.outcome))))
HasNoNext i room s f m = ⊥

-- the same in a session, where there may be no thread i
abbrev pub RefusesNext : ℕ → ℕ → LibraryFault → Session → Type 0
RefusesNext i room f s = OfThread i (HasNoNext i room s) f s

-- ## Begin and end

-- no run of so many threads begins under these settings: they are not in their ranges; or they are,
-- and there is no memory, or the head of the log was not written
abbrev pub RefusesRun : Settings → ℕ → LibraryFault → Type 0
RefusesRun settings threads fault.BadSettings = in_range (header_for settings threads) ≡ false
RefusesRun settings threads fault.NoMemory = in_range (header_for settings threads) ≡ true
RefusesRun settings threads fault.LogFull = in_range (header_for settings threads) ≡ true
RefusesRun settings threads f = ⊥

-- no run begins under what C says: there are not all words; or what they say begins none
abbrev pub RefusesWords : RunWords → LibraryFault → Type 0
RefusesWords words fault.BadSettings =
    (words.size < 40) ⊎ RefusesRun (settings_said words) words.threads fault.BadSettings
RefusesWords words f = RefusesRun (settings_said words) words.threads f

-- no replay of these bytes begins: no log stands at their front; or there is no memory; or one
-- does, and its head was not written
abbrev pub RefusesReplay : List ℕ → LibraryFault → Type 0
RefusesReplay bytes fault.NotALog =
    (f : LogFault) × ((f ≡ log_fault.Memory) → ⊥) × HasNoFront bytes f
RefusesReplay bytes fault.NoMemory = Unit {0}
RefusesReplay bytes fault.LogFull = (log : LogText) × IsFront bytes log
RefusesReplay bytes f = ⊥

-- the run has no such thread
abbrev pub RefusesCount : ℕ → LibraryFault → Session → Type 0
RefusesCount i fault.NoThread s = length (counts_of s) ≤ i
RefusesCount i f s = ⊥

-- the run is over or stopped, or there is no such cause, or no such thread that it names
abbrev pub RefusesStop : ℕ → ℕ → LibraryFault → Session → Type 0
RefusesStop cause i fault.Over s = s.machine ≡ None
RefusesStop cause i fault.NoThread s =
    ((cause == 3 || cause == 4) ≡ true)
    × IsSomeAnd s.machine (λ m. length m.whole.threads ≤ i)
RefusesStop cause i fault.NotACall s = stop_of cause i 0 ≡ None
RefusesStop cause i fault.Stopped s = IsSomeAnd s.machine (λ m. is_some m.stop ≡ true)
RefusesStop cause i f s = ⊥

-- the run is over, or there is no memory to keep how many outcomes came
abbrev pub RefusesEnd : LibraryFault → Session → Type 0
RefusesEnd fault.Over s = s.machine ≡ None
RefusesEnd fault.NoMemory s = is_some s.machine ≡ true
RefusesEnd f s = ⊥

-- a run that is over has left nothing
abbrev pub RefusesLog : LibraryFault → Session → Type 0
RefusesLog fault.Over s = (s.machine ≡ None) × (s.left ≡ None)
RefusesLog f s = ⊥
