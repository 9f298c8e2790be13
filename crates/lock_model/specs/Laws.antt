-- Internal: no contract of the headline or of a command stands on it.
-- The laws of the lock machine.
use Rattle.posix_terms.specs.declared.outcome.Given.{Given}
use Rattle.std.specs.Prelude.{◌≡◌, ℕ, suc, ◌<◌, ◌⊎◌, ◌↔◌, List, get_or, Option, Some, None, true}
use Rattle.std.specs.Prelude.{false, [], ◌∷◌}
use Rattle.lock_model.specs.Held.{AreHeld, HaveAsked, HavePlans, HaveRows}
use Rattle.lock_model.specs.History.{IsBeginning, IsPrefixOf, rows_of}
use Rattle.lock_model.specs.Legal.{IsLegalHistory}
use Rattle.lock_model.specs.Machine.{Setup, Event, is_allowed, happens}
use Rattle.lock_model.specs.Programs.{Supply, Finite}
use Rattle.lock_model.specs.Rising.{IsRising}
use Rattle.lock_model.specs.Runs.{Arises, Keeps, LeadsTo, Follows, run, supplied, own, with_came}
use Rattle.lock_model.specs.Schedule.{EndsIn, IsOver, next_event, plain_run}
use Rattle.lock_model.specs.State.{State, thread_of, live_clocks, start, Row}
use Rattle.lock_model.specs.State.Phase.{Ended}
use Rattle.sequential_object.specs.Worlds.{World}
use Rattle.lock_model.specs.Transcripts.{outcomes_of, answers_of, transcript}
use Rattle.logical_clocks.specs.TurnOrder.{has_turn, turn_holder}

-- every thread has ended
abbrev pub HaveEnded : State → Type 0
HaveEnded s = (i : ℕ) → (thread_of s i).phase ≡ Ended

-- what s shows is the beginning of what last shows
pub record Begins (s last : State) : Type 0 where
  -- the rows of all threads, in their order
  pub together : IsBeginning s.rows last.rows
  -- of each thread the rows, the steps that it asked, the outcomes, the answers and the transcript
  pub rows : (i : ℕ) → IsBeginning (rows_of i s.rows) (rows_of i last.rows)
  pub steps : (i : ℕ) → IsPrefixOf (thread_of s i).asked (thread_of last i).asked
  pub outcomes : (i : ℕ) → IsPrefixOf (outcomes_of i s.rows) (outcomes_of i last.rows)
  pub answers : (i : ℕ) → IsPrefixOf (answers_of i s.rows) (answers_of i last.rows)
  pub transcripts : (i : ℕ) → IsPrefixOf (transcript i s.rows) (transcript i last.rows)
  -- and where all threads have ended, s is last
  pub whole : HaveEnded s → s ≡ last

-- ## The prefix law

-- under the very programs and outcomes of the run
abbrev pub PrefixLaw : Type 0
PrefixLaw =
    (setup : Setup) (threads objects : ℕ) (w : World) (events : List Event) (last : State)
    → EndsIn setup (start threads objects w) last
    → Begins (run setup events (start threads objects w)) last

-- under the same programs and what is kept of the outcomes that came in the run
abbrev pub PrefixLawOfCame : Type 0
PrefixLawOfCame =
    (kept : Given → Given) (setup : Setup) (threads objects : ℕ) (w : World)
    (events : List Event) (last : State)
    → Keeps kept
    → let first = start threads objects w in
    EndsIn (supplied setup (with_came kept setup.supply (run setup events first))) first last
    → Begins (run setup events (start threads objects w)) last

-- under the steps that were asked, as lists, and the outcomes that came
abbrev pub PrefixLawOfOwn : Type 0
PrefixLawOfOwn =
    (setup : Setup) (threads objects : ℕ) (w : World) (s last : State)
    → Arises setup (start threads objects w) s
    → EndsIn (supplied setup (own s)) (start threads objects w) last
    → Begins s last

-- under any programs that the steps follow, and any longer lists of outcomes
abbrev pub PrefixLawOfFollowed : Type 0
PrefixLawOfFollowed =
    (setup : Setup) (threads objects : ℕ) (w : World) (s last : State) (given : Supply)
    → Arises setup (start threads objects w) s
    → Follows given s
    → EndsIn (supplied setup given) (start threads objects w) last
    → Begins s last

-- a run that can't go on has come to where the plain run ends
abbrev pub StuckLaw : Type 0
StuckLaw =
    (setup : Setup) (first last : State) (events : List Event)
    → EndsIn setup first last
    → ((e : Event) → is_allowed setup e (run setup events first) ≡ false)
    → run setup events first ≡ last

-- ## Turns

-- no two threads have the turn at once
abbrev pub OneTurn : Type 0
OneTurn = (clocks : List (Option ℕ)) (i j : ℕ) → has_turn clocks i ≡ true → has_turn clocks j ≡ true
    → i ≡ j

-- a thread is the holder of the turn exactly when it has the turn
abbrev pub HolderHasTurn : Type 0
HolderHasTurn = (clocks : List (Option ℕ)) (i : ℕ)
    → (turn_holder clocks ≡ Some i) ↔ (has_turn clocks i ≡ true)

-- where any thread is live, some thread has the turn
abbrev pub SomeTurn : Type 0
SomeTurn = (clocks : List (Option ℕ)) (i clock : ℕ) → get_or clocks i None ≡ Some clock → (k : ℕ)
    × (turn_holder clocks ≡ Some k)

-- all threads have ended, or some thread has the turn
abbrev pub EndedOrTurn : Type 0
EndedOrTurn = (s : State) → HaveEnded s ⊎ ((i : ℕ) × (turn_holder (live_clocks s) ≡ Some i))

-- ## Ends of plain runs

-- the plain run has one end at most
abbrev pub UniqueEnd : Type 0
UniqueEnd = (setup : Setup) (first last other : State) → EndsIn setup first last
    → EndsIn setup first other → last ≡ other

-- the plain run comes to an end where the programs do
abbrev pub SomeEnd : Type 0
SomeEnd = (setup : Setup) (first : State) → Finite setup.supply → (last : State)
    × EndsIn setup first last

-- where it is over, nothing can happen at all
abbrev pub OverLaw : Type 0
OverLaw = (setup : Setup) (s : State) → IsOver setup s → (e : Event) → is_allowed setup e s ≡ false

-- a plain run that is over ends in the state where it is
abbrev pub EndsHere : Type 0
EndsHere = (setup : Setup) (s : State) → IsOver setup s → EndsIn setup s s

-- the plain run from before its next event ends where the one from after that event ends
abbrev pub EndsNext : Type 0
EndsNext = (setup : Setup) (s last : State) (e : Event) → next_event setup s ≡ Some e
    → EndsIn setup (happens setup e s) last → EndsIn setup s last

-- after one event more the plain run is where its next event leads
abbrev pub OneEventMore : Type 0
OneEventMore = (setup : Setup) (first s : State) (n : ℕ) (e : Event) → plain_run setup n first ≡ s
    → next_event setup s ≡ Some e → plain_run setup (suc n) first ≡ happens setup e s

-- the plain run is a run that leads to its end
abbrev pub PlainIsRun : Type 0
PlainIsRun = (setup : Setup) (first last : State) → EndsIn setup first last
    → LeadsTo setup first last

-- no run goes on for ever: some number falls at each event
abbrev pub EachEventLowers : Type 0
EachEventLowers = (setup : Setup) → Finite setup.supply → (measure : State → ℕ)
    × ((s : State) (e : Event) → is_allowed setup e s ≡ true
    → measure (happens setup e s) < measure s)

-- lists of steps are finite
abbrev pub OwnFinite : Type 0
OwnFinite = (s : State) → Finite (own s)

-- ## Histories

-- at every moment of every run the history is legal
abbrev pub LegalLaw : Type 0
LegalLaw = (setup : Setup) (threads objects : ℕ) (w : World) (events : List Event)
    → IsLegalHistory setup.calls w (run setup events (start threads objects w)).rows

-- at every moment of every run the granted turns rise
abbrev pub RisingLaw : Type 0
RisingLaw = (setup : Setup) (threads objects : ℕ) (w : World) (events : List Event)
    → IsRising (run setup events (start threads objects w)).rows

-- ## States that arise

-- the start arises
abbrev pub ArisesAtStart : Type 0
ArisesAtStart = (setup : Setup) (threads objects : ℕ) (w : World)
    → Arises setup (start threads objects w) (start threads objects w)

-- whatever programs and outcomes the setup supplies
abbrev pub ArisesByEvent : Type 0
ArisesByEvent = (setup : Setup) (first s : State) (e : Event) → Arises setup first s
    → Arises setup first (happens setup e s)

-- the state to which a run leads arises
abbrev pub ArisesByRun : Type 0
ArisesByRun = (setup : Setup) (threads objects : ℕ) (w : World) (events : List Event)
    → Arises setup (start threads objects w) (run setup events (start threads objects w))

-- the threads of a run follow their programs
abbrev pub RunFollows : Type 0
RunFollows = (setup : Setup) (threads objects : ℕ) (w : World) (events : List Event)
    → Follows setup.supply (run setup events (start threads objects w))

-- the history of a state that arises is legal
abbrev pub LegalOfArisen : Type 0
LegalOfArisen = (setup : Setup) (threads objects : ℕ) (w : World) (s : State)
    → Arises setup (start threads objects w) s → IsLegalHistory setup.calls w s.rows

-- in a state that arises the granted turns rise
abbrev pub RisingOfArisen : Type 0
RisingOfArisen = (setup : Setup) (threads objects : ℕ) (w : World) (s : State)
    → Arises setup (start threads objects w) s → IsRising s.rows

-- in a state that arises each lock is held by the thread whose phase says so
abbrev pub LocksOfArisen : Type 0
LocksOfArisen = (setup : Setup) (threads objects : ℕ) (w : World) (s : State)
    → Arises setup (start threads objects w) s → AreHeld s

-- in a state that arises each call was planned in the world that it found
abbrev pub PlansOfArisen : Type 0
PlansOfArisen = (setup : Setup) (threads objects : ℕ) (w : World) (s : State)
    → Arises setup (start threads objects w) s → HavePlans setup.calls s

-- in a state that arises a thread in a granted call has one row without an answer
abbrev pub RowsOfArisen : Type 0
RowsOfArisen = (setup : Setup) (threads objects : ℕ) (w : World) (s : State)
    → Arises setup (start threads objects w) s → HaveRows s

-- in a state that arises each thread asked last what its phase says
abbrev pub StepsOfArisen : Type 0
StepsOfArisen = (setup : Setup) (threads objects : ℕ) (w : World) (s : State)
    → Arises setup (start threads objects w) s → HaveAsked s

-- the outcome of a row has the clock of its turn
abbrev pub IsDated : Row → Type 0
IsDated r = (o : Given) → r.outcome ≡ Some o → o.clock ≡ Some r.turn.clock

-- the outcome of each row has the clock of its turn
abbrev pub AreDated : List Row → Type 0
AreDated [] = Unit {0}
AreDated (r ∷ rs) = IsDated r × AreDated rs

-- in a state that arises the outcome of each row has the clock of its turn
abbrev pub DatedOfArisen : Type 0
DatedOfArisen =
    (setup : Setup) (threads objects : ℕ) (w : World) (s : State)
    → Arises setup (start threads objects w) s → AreDated s.rows
