-- Believed: a contract of the headline stands on it.
-- How the data of a run stand for a state of the lock machine.
use Rattle.std.specs.Prelude.{◌≡◌, ℕ, ◌<◌, ◌≤◌, ◌^◌, List, [], ◌∷◌, ◌++◌, length, map, slice_get}
use Rattle.std.specs.Prelude.{is_some, Option, Some, None, IfSome, Bool, true, false, ◌==◌}
use Rattle.std.specs.Prelude.{if◌then◌else◌}
use Rattle.descriptor_table.specs.Agreement.{query_of}
use Rattle.call_turns.specs.Patience.{ended, outside_ending}
use Rattle.sequential_object.specs.Locked.{keeps_table}
use Rattle.sequential_object.specs.Step.{asks, step}
use Rattle.posix_terms.specs.Calls.{Call}
use Rattle.posix_terms.specs.Outcomes.{dated}
use Rattle.posix_terms.specs.declared.outcome.Given.{Given}
use Rattle.posix_terms.specs.declared.outcome.Outcome.{Outcome}
use Rattle.posix_terms.specs.declared.limits.TheConstants.Limits as limit
use Rattle.posix_terms.specs.declared.reply.Answer as posix
use Rattle.posix_terms.specs.declared.reply.Answer.TheVariants as answer
use Rattle.posix_terms.specs.declared.reply.Reply.{Reply}
use Rattle.posix_terms.specs.declared.step.Step.{Step}
use Rattle.posix_terms.specs.declared.transcript.HistoryRow.{HistoryRow}
use Rattle.lock_model.specs.CallTable.{Way}
use Rattle.lock_model.specs.CallTable.Plan.{Object}
use Rattle.lock_model.specs.CallTable.Way.{Inside}
use Rattle.lock_model.specs.Held.{row_of}
use Rattle.lock_model.specs.Machine.{advance, attempt, can_advance, can_attempt}
use Rattle.lock_model.specs.RealCalls.{plan_of, way_of}
use Rattle.sequential_object.specs.Answers.{answer_in, numbered, outcome_in}
use Rattle.lock_model.specs.Runs.{Arises}
use Rattle.lock_model.specs.State as lock
use Rattle.lock_model.specs.State.{Job, Row, State, live_clocks, thread_of}
use Rattle.lock_model.specs.State.Phase.{Working, WantsTable, WantsObject, Granted, ToOutside}
use Rattle.lock_model.specs.State.Phase.{Outside, Recorded, Blocked, Ended}
use Rattle.lock_model.specs.Rows.{shown}
use Rattle.lock_machine.specs.Conditions.{Conditions, setup_under, start_under}
use Rattle.call_turns.specs.Errands.{door_taken, waits_outside}
use Rattle.call_turns.specs.Store.{Stands}
use Rattle.lock_machine.specs.Diverging.{is_diverging}
use Rattle.lock_machine.specs.declared.outside.Progress.{Progress}
use Rattle.lock_machine.specs.declared.outside.Progress.TheVariants as progress
use Rattle.lock_machine.specs.declared.thread.Outing.{Outing}
use Rattle.sequential_object.specs.declared.turn_end.TurnEnd.{TurnEnd}
use Rattle.lock_machine.specs.declared.thread.Phase.{Phase}
use Rattle.lock_machine.specs.declared.thread.Phase.TheVariants as phase
use Rattle.lock_machine.specs.Threads.{Thread}
use Rattle.lock_machine.specs.Views.{clocks_of}
use Rattle.lock_machine.specs.Whole.{Whole, thread_at}

-- ## Threads

-- the call that a thread was granted, with the row of its place, and how its turn ended
pub record IsGranted (terms : Conditions) (i : ℕ) (rows : List Row) (place : ℕ) (object : Option ℕ)
    (ends : TurnEnd) (job : Job) : Type 0 where
  pub plan : job.plan ≡ plan_of Inside object
  pub in_range : IfSome object (λ n. n < limit.OBJECTS)
  pub thread : job.turn.thread ≡ i
  pub answers : answer_in
      (step terms.settings job.found.object job.call (outcome_in job.outcome) job.carried) ≡ ends
  pub row : slice_get rows place ≡ Some (row_of job)

-- the call that a thread was granted and goes outside with: what it asks, at whose door, and
-- whether EAGAIN makes it wait
pub record IsOut (terms : Conditions) (i : ℕ) (rows : List Row) (o : Outing) (job : Job)
    : Type 0 where
  pub object : ℕ
  pub object_is : o.object ≡ Some object
  pub in_range : object < limit.OBJECTS
  pub plan : job.plan ≡ Object object (way_of true o.keeps_table)
  pub thread : job.turn.thread ≡ i
  pub carried : job.carried ≡ o.carried
  pub asks_is : asks job.found.object job.call job.carried ≡ query_of job.call o.errand
  pub door : o.errand.door ≡ numbered job.found (door_taken job.found.object job.call job.carried)
  pub waits : o.errand.waits ≡ waits_outside job.found.object job.call job.carried
  pub keeps : o.keeps_table ≡ keeps_table job.call
  -- whatever comes, unless it keeps the table
  pub ends : o.keeps_table ≡ false → (x : Outcome)
      → let stepped = step terms.settings job.found.object job.call (Some x) job.carried in
      (stepped.answer, stepped.carried)
      ≡ ended terms.settings job.found.object job.carried (outside_ending o.errand (Some x))
  pub row : slice_get rows o.row ≡ Some (row_of job)

-- this phase of thread i in a run's data stands for the phase that it has in the state
abbrev pub PhaseShows : Conditions → ℕ → List Row → Thread → lock.Thread → Phase → Type 0
PhaseShows terms i rows t u phase.Working = u.phase ≡ Working
PhaseShows terms i rows t u (phase.WantsTable call carried) = u.phase ≡ WantsTable call carried
PhaseShows terms i rows t u (phase.WantsObject call carried clock object) =
    (way : Way) × ((u.phase ≡ WantsObject call carried clock object way) × (object < limit.OBJECTS))
PhaseShows terms i rows t u (phase.Granted place object ends) =
    (job : Job) × ((u.phase ≡ Granted job) × IsGranted terms i rows place object ends job)
PhaseShows terms i rows t u (phase.ToOutside o) =
    (job : Job) × ((u.phase ≡ ToOutside job) × IsOut terms i rows o job)
PhaseShows terms i rows t u (phase.Outside o) =
    (job : Job) × ((u.phase ≡ Outside job) × IsOut terms i rows o job × (t.came < limit.OUTCOMES))
PhaseShows terms i rows t u (phase.Recorded o) =
    (job : Job) × ((u.phase ≡ Recorded job) × IsOut terms i rows o job)
PhaseShows terms i rows t u (phase.Blocked carried) =
    (call : Call) × (u.phase ≡ Blocked call carried)
PhaseShows terms i rows t u phase.Ended = u.phase ≡ Ended

-- thread i in a run's data stands for the one of the state: clock, steps, outcomes and phase
pub record ThreadShows (terms : Conditions) (i : ℕ) (rows : List Row) (t : Thread) (u : lock.Thread)
    : Type 0 where
  pub clock : u.clock ≡ t.clock
  pub in_time : t.clock ≤ 2 ^ 62
  pub asked : u.asked ≡ t.asked
  pub came : length u.came ≡ t.came
  pub phase : PhaseShows terms i rows t u t.phase

-- ## The whole

-- a run's data stand for this state: settings, threads, locks, table and rows
pub record Shows (terms : Conditions) (w : Whole) (s : State) : Type 0 where
  pub settings : terms.settings ≡ w.settings
  pub count : length s.threads ≡ length w.threads
  pub threads : (k : ℕ) → ThreadShows terms k s.rows (thread_at w k) (thread_of s k)
  pub table : s.table ≡ w.lock
  pub objects : s.objects ≡ w.objects
  pub object_count : length w.objects ≡ limit.OBJECTS
  pub world : Stands w.table s.world
  pub rows : map shown s.rows ≡ w.rows

-- by both the clocks of the live threads are the same
abbrev pub ClocksShown : Type 0
ClocksShown = (terms : Conditions) (w : Whole) (s : State) → Shows terms w s
    → live_clocks s ≡ clocks_of w.threads

-- ## Phases

-- thread i is in this phase
abbrev pub IsAt : Whole → ℕ → Phase → Type 0
IsAt w i p = (thread_at w i).phase ≡ p

-- in this phase a thread is in a call that was granted with this row and object, if with one
abbrev pub GrantedIn : Phase → ℕ → Option ℕ → Type 0
GrantedIn (phase.Granted row object e) place other = (row ≡ place) × (object ≡ other)
GrantedIn p place other = ⊥

-- thread i is in a call that was granted with this row and object, if with one
abbrev pub IsGrantedAt : Whole → ℕ → ℕ → Option ℕ → Type 0
IsGrantedAt w i row object = GrantedIn (thread_at w i).phase row object

-- in this phase a thread is in a call that is blocked
abbrev pub BlockedIn : Phase → Type 0
BlockedIn (phase.Blocked carried) = Unit {0}
BlockedIn p = ⊥

-- thread i is in a call that is blocked
abbrev pub IsBlockedAt : Whole → ℕ → Type 0
IsBlockedAt w i = BlockedIn (thread_at w i).phase

-- in this phase a thread wants this object
abbrev pub WantsIn : Phase → ℕ → Type 0
WantsIn (phase.WantsObject call carried clock object) other = object ≡ other
WantsIn p other = ⊥

-- thread i wants this object
abbrev pub WantsAt : Whole → ℕ → ℕ → Type 0
WantsAt w i object = WantsIn (thread_at w i).phase object

-- ## Events, whoever supplies the steps and the outcomes

-- the event is made
abbrev pub has_moved : Progress → Bool
has_moved progress.Moves = true
has_moved progress.Stays = false
has_moved progress.Diverges = false

-- the outcome does not answer what was asked
abbrev pub has_diverged : Progress → Bool
has_diverged progress.Diverges = true
has_diverged progress.Moves = false
has_diverged progress.Stays = false

-- the outcomes of a thread after what came of this one
abbrev pub came_with : Progress → Given → List Given → List Given
came_with progress.Moves g came = came ++ g ∷ []
came_with p g came = came

-- this outcome, with the clock of the row of the call with which thread i is outside
abbrev pub dated_by : Option HistoryRow → Given → Given
dated_by (Some q) g = dated q.turn g
dated_by None g = g

-- the row of the call with which a thread in this phase is outside
abbrev pub row_outside : Phase → List HistoryRow → Option HistoryRow
row_outside (phase.Outside o) rows = slice_get rows o.row
row_outside p rows = None

-- this outcome as it comes for thread i, with the clock of its call's turn where it is outside
abbrev pub as_it_comes : Whole → ℕ → Given → Given
as_it_comes w i g = dated_by (row_outside (thread_at w i).phase w.rows) g

-- the clock of the turn of this row, if there is one
abbrev pub clock_in_row : Option HistoryRow → Option ℕ
clock_in_row (Some q) = Some q.turn.clock
clock_in_row None = None

-- the clock that a log of the version of these settings has of the next outcome of thread i
abbrev pub logged_clock : Whole → ℕ → Option ℕ
logged_clock w i =
    if w.settings.version == 2 then clock_in_row (row_outside (thread_at w i).phase w.rows)
    else None

-- this outcome comes for thread i, exactly when it can, and it diverges exactly when the outcome
-- does not answer
pub record Advanced (made : Progress) (i : ℕ) (g : Given) (new : Whole) (terms : Conditions)
    (s : State) : Type 0 where
  pub can : can_advance (setup_under terms) s i ≡ has_moved made
  pub diverges : is_diverging (setup_under terms) s i ≡ has_diverged made
  pub shows : Shows terms new (advance (setup_under terms) i s)
  pub came : (thread_of (advance (setup_under terms) i s) i).came
      ≡ came_with made g (thread_of s i).came

-- it makes an event in which no outcome comes, exactly when it can
pub record Quietly (moved : Bool) (i : ℕ) (new : Whole) (terms : Conditions) (s : State)
    : Type 0 where
  pub can : can_advance (setup_under terms) s i ≡ moved
  pub shows : Shows terms new (advance (setup_under terms) i s)

-- the run has come to this state
abbrev pub StandsAt : Whole → Conditions → State → Type 0
StandsAt w terms s = Arises (setup_under terms) (start_under terms) s × Shows terms w s

-- it goes outside, or makes a blocked call again
abbrev pub AdvancesQuietly : Bool → ℕ → Whole → Whole → Type 0
AdvancesQuietly moved i old new = (terms : Conditions) (s : State) → StandsAt old terms s
    → Quietly moved i new terms s

-- it asks this step
abbrev pub AsksFor : Bool → ℕ → Step → Whole → Whole → Type 0
AsksFor moved i x old new =
    (terms : Conditions) (s : State) → StandsAt old terms s
    → (let u : lock.Thread = thread_of s i in terms.supply.next i u.asked u.replies ≡ Some x)
    → Quietly moved i new terms s

-- no number forbids that thread i asks this step
abbrev pub MayAsk : ℕ → Step → Whole → Type 0
MayAsk i x w =
    (terms : Conditions) (s : State) → StandsAt w terms s
    → (let u : lock.Thread = thread_of s i in terms.supply.next i u.asked u.replies ≡ Some x)
    → can_advance (setup_under terms) s i ≡ true

-- nor that it makes an event in which nothing comes
abbrev pub MayAdvance : ℕ → Whole → Type 0
MayAdvance i w = (terms : Conditions) (s : State) → StandsAt w terms s
    → can_advance (setup_under terms) s i ≡ true

-- the replies of a thread after its answer, if it has one
abbrev pub replied : Option posix.Answer → List Reply → List Reply
replied (Some (answer.Reply r)) rs = rs ++ r ∷ []
replied (Some answer.Again) rs = rs
replied None rs = rs

-- its call has this answer, if it has one
abbrev pub Tells : Option posix.Answer → ℕ → Whole → Whole → Type 0
Tells told i old new =
    (terms : Conditions) (s : State) → StandsAt old terms s
    → Quietly (is_some told) i new terms s
    × ((thread_of (advance (setup_under terms) i s) i).replies
    ≡ replied told (thread_of s i).replies)

-- this outcome comes, with the clock of its call's turn
abbrev pub RecordsGiven : Progress → ℕ → Given → Whole → Whole → Type 0
RecordsGiven made i g old new =
    (terms : Conditions) (s : State) → StandsAt old terms s
    → slice_get (terms.supply.outcomes i) (length (thread_of s i).came) ≡ Some g
    → Advanced made i (as_it_comes old i g) new terms s

-- thread i makes its attempt, exactly when it can
abbrev pub Attempts : Bool → ℕ → Whole → Whole → Type 0
Attempts made i old new =
    (terms : Conditions) (s : State) → StandsAt old terms s
    → (can_attempt (setup_under terms) s i ≡ made)
    × Shows terms new (attempt (setup_under terms) i s)
