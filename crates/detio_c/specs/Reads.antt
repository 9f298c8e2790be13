-- What C reads of the session in its handle, where a call of the library was done.
use Rattle.std.specs.Prelude.{◌≡◌, ℕ, ◌≤◌, ◌<◌, ◌-◌, ◌&&◌, Bool, true, false, List, length, map}
use Rattle.std.specs.Prelude.{take, drop, min}
use Rattle.std.specs.Prelude.{get_or, slice_get, Option, Some, None, IfSome, IsSomeAnd, MatchOption}
use Rattle.c_words.specs.Requests.{outside_words, text_of}
use Rattle.c_words.specs.Words.{bytes_in, bytes_that_came, outcome_words, reply_words}
use Rattle.c_words.specs.declared.words.OutcomeWords.{OutcomeWords}
use Rattle.c_words.specs.declared.words.OutsideWords.{OutsideWords}
use Rattle.c_words.specs.declared.words.ReplyWords.{ReplyWords}
use Rattle.c_words.specs.declared.words.RunEnd.{RunEnd}
use Rattle.lock_machine.specs.Refusals.{phase_at, wants_lock}
use Rattle.lock_machine.specs.Threads.{Thread}
use Rattle.lock_machine.specs.Views.{clocks_of}
use Rattle.lock_machine.specs.Whole.{Whole, thread_at}
use Rattle.lock_machine.specs.declared.thread.Outing.{Outing}
use Rattle.lock_machine.specs.declared.thread.Phase.{Phase}
use Rattle.lock_machine.specs.declared.thread.Phase.TheVariants as phase
use Rattle.logical_clocks.specs.TurnOrder.{has_turn, turn_holder}
use Rattle.machine.specs.Doors.{door_at, taken_along}
use Rattle.machine.specs.Events.{Tells}
use Rattle.machine.specs.Finishing.{Finishes, have_ended}
use Rattle.machine.specs.InTurn.{may_go}
use Rattle.machine.specs.Requests.{IsOutsideTurn, IsRequest, out_of}
use Rattle.machine.specs.Shown.{Shown}
use Rattle.machine.specs.declared.stop.Stop.{Stop}
use Rattle.machine.specs.declared.stop.Stop.TheVariants as stop
use Rattle.posix_terms.specs.Outcomes.{is_at, suits}
use Rattle.posix_terms.specs.declared.outcome.Given.{Given}
use Rattle.posix_terms.specs.declared.outcome.Outcome.{Outcome}
use Rattle.posix_terms.specs.declared.reply.Answer.TheVariants as answer
use Rattle.posix_terms.specs.declared.reply.Reply.{Reply}
use Rattle.posix_terms.specs.declared.request.Request.{Request}
use Rattle.posix_terms.specs.declared.transcript.Turn.{Turn}
use Rattle.sequential_object.specs.declared.turn_end.TurnEnd.{TurnEnd}
use Rattle.sequential_object.specs.declared.turn_end.TurnEnd.TheVariants as end
use Rattle.detio_c.specs.Ends.{run_end, stop_of}
use Rattle.detio_c.specs.declared.session.Session.{Session}

-- the machine of a session, while its run goes on, is so
abbrev pub InMachine : Option Session → (Shown ℕ → Type 0) → Type 0
InMachine o P = IsSomeAnd o (λ s. IsSomeAnd s.machine P)

-- ## Where a thread is

-- the number of a phase
abbrev pub phase_code : Phase → ℕ
phase_code phase.Working = 1
phase_code (phase.WantsTable call carried) = 2
phase_code (phase.WantsObject call carried clock object) = 3
phase_code (phase.Granted row object ends) = 4
phase_code (phase.ToOutside o) = 5
phase_code (phase.Outside o) = 6
phase_code (phase.Recorded o) = 7
phase_code (phase.Blocked carried) = 8
phase_code phase.Ended = 9

-- thread i is at the phase with this number
abbrev pub IsAtPhase : ℕ → ℕ → Shown ℕ → Type 0
IsAtPhase i n m = n ≡ phase_code (phase_at m.whole i)

-- thread i has the turn, or not
abbrev pub HasTurn : ℕ → Bool → Shown ℕ → Type 0
HasTurn i has m = has ≡ has_turn (clocks_of m.whole.threads) i

-- thread i has this clock: one that has ended, that at which it did
abbrev pub HasClock : ℕ → ℕ → Shown ℕ → Type 0
HasClock i clock m = clock ≡ (thread_at m.whole i).clock

-- this thread has the turn, or nobody has
abbrev pub IsHolder : Option ℕ → Shown ℕ → Type 0
IsHolder o m = o ≡ turn_holder (clocks_of m.whole.threads)

-- C reads whether one has, and which; where nobody has, its number is as it was
abbrev pub ReadsHolder : Bool → ℕ → ℕ → Option ℕ → Type 0
ReadsHolder there old new (Some i) = (there ≡ true) × (new ≡ i)
ReadsHolder there old new None = (there ≡ false) × (new ≡ old)

-- thread i is about to go outside, and each call that was granted before its own and goes outside
-- has its record, or it is not so
abbrev pub MayGo : ℕ → Bool → Shown ℕ → Type 0
MayGo i may m = may ≡ may_go m.whole.threads (phase_at m.whole i)

-- nobody has the turn, or who has it attempts no lock now
abbrev pub Rests : Shown ℕ → Type 0
Rests m =
    IfSome (turn_holder (clocks_of m.whole.threads))
    (λ i. wants_lock (phase_at m.whole i) ≡ false)

-- ## A reply

-- thread i gets a reply, and C reads it, with all of its bytes at the front of the buffer
abbrev pub ReadsReply : ℕ → ReplyWords → ℕ → List ℕ → Shown ℕ → Type 0
ReadsReply i words room buffer m =
    (r : Reply) × Tells (answer.Reply r) i m.whole × (words ≡ reply_words r)
    × (length (bytes_in r) ≤ room) × (take (length (bytes_in r)) buffer ≡ bytes_in r)

-- how many bytes the end of a turn has
abbrev pub bytes_at_end : TurnEnd → ℕ
bytes_at_end (end.Reply r) = length (bytes_in r)
bytes_at_end (end.Blocked carried) = 0

-- how many bytes came, if anything did
abbrev pub bytes_came : Option Outcome → ℕ
bytes_came (Some o) = length (bytes_that_came o)
bytes_came None = 0

-- a reply that thread i gets has no more bytes than this
abbrev pub Brings : ℕ → ℕ → Shown ℕ → Type 0
Brings i most m = (r : Reply) → Tells (answer.Reply r) i m.whole → length (bytes_in r) ≤ most

-- thread i makes its call again
abbrev pub MakesAgain : ℕ → Shown ℕ → Type 0
MakesAgain i m = Tells answer.Again i m.whole

-- one or the other
abbrev pub ReadsAnswer : ℕ → Option ReplyWords → ℕ → List ℕ → Shown ℕ → Type 0
ReadsAnswer i (Some words) room buffer m = ReadsReply i words room buffer m
ReadsAnswer i None room buffer m = MakesAgain i m

-- ## Outside

-- whether a call that goes outside waits for its peer
abbrev pub waits_in : Option Outing → Bool
waits_in (Some o) = o.errand.waits
waits_in None = false

-- this is what the call of thread i asks outside by the definition of the calls, and C reads it,
-- with the path or the bytes of the call at the front of the buffer
abbrev pub ReadsRequest : ℕ → OutsideWords → List ℕ → Shown ℕ → Type 0
ReadsRequest i words buffer m =
    (r : Request) × IsRequest m.whole i (Some r)
    × (words ≡ outside_words r (waits_in (out_of (phase_at m.whole i))))
    × (take (length (text_of r.call)) buffer ≡ text_of r.call)

-- the door that goes along with thread i, if one does
abbrev pub door_along : ℕ → Shown ℕ → Option ℕ
door_along i m = door_at m.doors (taken_along (phase_at m.whole i))

-- C reads whether one does, and which
abbrev pub ReadsDoor : Bool → ℕ → Option ℕ → Type 0
ReadsDoor goes door (Some d) = (goes ≡ true) × (door ≡ d)
ReadsDoor goes door None = goes ≡ false

-- the outcome after so many of these
abbrev pub next_of : Option (List Given) → ℕ → Option Given
next_of (Some outcomes) count = slice_get outcomes count
next_of None count = None

-- by thread of a machine how many outcomes came
abbrev pub counts_in : Whole → List ℕ
counts_in w = map (λ (t : Thread). t.came) w.threads

-- the same of a run, whose machine has it while the run goes on
abbrev pub counts_by : Option (Shown ℕ) → List ℕ → List ℕ
counts_by (Some m) left = counts_in m.whole
counts_by None left = left

-- by thread of a session how many outcomes came
abbrev pub counts_of : Session → List ℕ
counts_of s = counts_by s.machine s.came.items

-- how many outcomes came for thread i, and none where there is no such thread
abbrev pub came_for : Session → ℕ → ℕ
came_for s i = get_or (counts_of s) i 0

-- the next outcome that the log of a replay has for thread i
abbrev pub next_logged : Session → ℕ → Option Given
next_logged s i = next_of (slice_get s.logged.items i) (came_for s i)

-- it answers what a call that was granted at this turn asks outside
abbrev pub answers_at : Outing → Turn → Given → Bool
answers_at o turn g = suits o.errand.kind o.errand.asked g && is_at turn g.clock

-- it answers what thread i asks outside, and C reads it, with its bytes at the front of the buffer
abbrev pub ReadsNext : ℕ → OutcomeWords → List ℕ → Session → Type 0
ReadsNext i words buffer s = IsSomeAnd s.machine (λ m. IsSomeAnd (out_of (phase_at m.whole i))
    (λ o. IsSomeAnd (next_logged s i) (λ g.
    ((turn : Turn) × IsOutsideTurn m.whole i (Some turn) × (answers_at o turn g ≡ true))
    × (words ≡ outcome_words g.outcome)
    × (take (length (bytes_that_came g.outcome)) buffer ≡ bytes_that_came g.outcome))))

-- how many records of thread i the log of a replay has, if there is such a thread there
abbrev pub logged_for : Option (List Given) → ℕ
logged_for (Some outcomes) = length outcomes
logged_for None = 0

-- how many of them did not come
abbrev pub unused_of : Session → ℕ → ℕ
unused_of s i = logged_for (slice_get s.logged.items i) - came_for s i

-- ## The log, and the end

-- from this place on, as many bytes of a log as the buffer has room for stand at its front
abbrev pub ReadsPart : ℕ → List ℕ → ℕ → List ℕ → Type 0
ReadsPart from log room buffer =
    let rest = drop (min from (length log)) log in
    (length rest ≤ room → take (length rest) buffer ≡ rest)
    × (room ≤ length rest → buffer ≡ take room rest)

-- C reads a part of a log, and how long the log is
abbrev pub ReadsLog : ℕ → ℕ → ℕ → List ℕ → List ℕ → Type 0
ReadsLog from n room buffer log = (n ≡ length log) × ReadsPart from log room buffer

-- the log is what the sink took so far or, once the run is over, in all
abbrev pub ReadsLogOf : ℕ → ℕ → ℕ → List ℕ → Session → Type 0
ReadsLogOf from n room buffer s =
    MatchOption s.machine (IsSomeAnd s.left (λ left. ReadsLog from n room buffer left.sink.bytes))
    (λ m. ReadsLog from n room buffer m.log.taken)

-- the machine is finished and gone, C reads how it ended, and how many outcomes came is kept, with
-- what a replay's log has
abbrev pub HasFinished : RunEnd → Session → Session → Type 0
HasFinished words old new = IsSomeAnd old.machine (λ m. IsSomeAnd new.left
    (λ left. Finishes m left.sink.bytes left.sink.failures left.stop
    × (words ≡ run_end left.stop (have_ended m.whole.threads) left.sink.bytes)))
    × (new.machine ≡ None) × (counts_of new ≡ counts_of old) × (new.logged ≡ old.logged)

-- this may be the thread that a stop names, if it names one
abbrev pub MayName : ℕ → Stop → Type 0
MayName threads (stop.EndOfLog thread) = thread < threads
MayName threads (stop.Diverged thread number) = thread < threads
MayName threads why = Unit {0}

-- the machine is stopped for the cause with this number
abbrev pub HasStopped : ℕ → ℕ → Session → Session → Type 0
HasStopped cause i old new = IsSomeAnd (stop_of cause i (came_for old i)) (λ why.
    IsSomeAnd old.machine (λ m. (m.stop ≡ None) × MayName (length m.whole.threads) why
    × (new ≡ record old { machine = Some (record m { stop = Some why }) })))

-- what is true of two sessions, if both are there
abbrev pub InBoth : Option Session → Option Session → (Session → Session → Type 0) → Type 0
InBoth (Some old) (Some new) P = P old new
InBoth old new P = ⊥
