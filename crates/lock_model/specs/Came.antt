-- Internal: no contract of the headline or of a command stands on it.
-- The plain run under the outcomes that came in it.
use Rattle.lock_model.specs.CallTable.{CallTable}
use Rattle.std.specs.Prelude.{◌≡◌, ℕ, ◌+◌, ◌≤◌, ◌⊎◌, length, Some, true, nat_lt, slice_get}
use Rattle.lock_model.specs.History.{IsPrefixOf}
use Rattle.lock_model.specs.Machine.{Event, Setup, fits_job, happens}
use Rattle.lock_model.specs.Machine.Event.{Advances}
use Rattle.lock_model.specs.Runs.{Arises, Becomes, Keeps, LeadsTo, supplied, with_came}
use Rattle.lock_model.specs.Schedule.{IsOver, plain_run}
use Rattle.lock_model.specs.State.{Job, State, Thread, start, thread_of}
use Rattle.lock_model.specs.State.Phase.{Outside}
use Rattle.sequential_object.specs.Worlds.{World}
use Rattle.lock_model.specs.Transcripts.{outcomes_of, replies_of}
use Rattle.posix_terms.specs.declared.outcome.Given.{Given}

-- the same setup, with only what is kept of the outcomes that came
abbrev pub under_came : (Given → Given) → Setup → State → Setup
under_came kept setup s = supplied setup (with_came kept setup.supply s)

-- what becomes an outcome fits where that does
abbrev pub FitsAlike : Type 0
FitsAlike =
    (calls : CallTable) (job : Job) (given came : Given) → Becomes given came
    → fits_job calls job came ≡ true → fits_job calls job given ≡ true

-- up to there it is the same run
abbrev pub SameUnderCame : Type 0
SameUnderCame =
    (kept : Given → Given) (setup : Setup) (threads objects : ℕ) (w : World) (n k : ℕ)
    → Keeps kept → k ≤ n
    → let first = start threads objects w in
    plain_run (under_came kept setup (plain_run setup n first)) k first ≡ plain_run setup k first

-- and where it is over, it is over
abbrev pub OverUnderCame : Type 0
OverUnderCame =
    (kept : Given → Given) (setup : Setup) (s : State)
    → IsOver setup s → IsOver (under_came kept setup s) s

-- so many events of the plain run are a run
abbrev pub PlainLeads : Type 0
PlainLeads = (setup : Setup) (first : State) (n : ℕ) → LeadsTo setup first (plain_run setup n first)

-- they lead to a state that arises
abbrev pub PlainArises : Type 0
PlainArises = (setup : Setup) (threads objects : ℕ) (w : World) (n : ℕ)
    → Arises setup (start threads objects w) (plain_run setup n (start threads objects w))

-- of as many threads
abbrev pub PlainCount : Type 0
PlainCount = (setup : Setup) (first : State) (n : ℕ)
    → length (plain_run setup n first).threads ≡ length first.threads

-- what came is only added to
abbrev pub CameGrows : Type 0
CameGrows = (setup : Setup) (first : State) (n m i : ℕ)
    → IsPrefixOf (thread_of (plain_run setup n first) i).came
    (thread_of (plain_run setup (n + m) first) i).came

-- a thread that was outside is there still, or the outcome
-- that came next for it answers what it asked
abbrev pub StaysOrFits : Setup → Job → Thread → Thread → Type 0
StaysOrFits setup job t u = (u ≡ t)
    ⊎ ((o : Given) × (slice_get u.came (length t.came) ≡ Some o)
    × (fits_job setup.calls job o ≡ true))

-- in the plain run a thread that is outside stays so until an outcome comes that answers it
abbrev pub OutsideStays : Type 0
OutsideStays =
    (setup : Setup) (first : State) (n m i : ℕ) (job : Job)
    → (thread_of (plain_run setup n first) i).phase ≡ Outside job
    → StaysOrFits setup job (thread_of (plain_run setup n first) i)
    (thread_of (plain_run setup (n + m) first) i)

-- what came for a thread are the outcomes of its rows
abbrev pub CameIsRows : Type 0
CameIsRows = (setup : Setup) (threads objects : ℕ) (w : World) (s : State)
    → Arises setup (start threads objects w) s → (i : ℕ)
    → (thread_of s i).came ≡ outcomes_of i s.rows

-- and the replies that it got are those of its rows
abbrev pub RepliesAreRows : Type 0
RepliesAreRows = (setup : Setup) (threads objects : ℕ) (w : World) (s : State)
    → Arises setup (start threads objects w) s → (i : ℕ)
    → (thread_of s i).replies ≡ replies_of i s.rows

-- a thread that is outside has room for an outcome
abbrev pub RoomOutside : Type 0
RoomOutside =
    (setup : Setup) (threads objects : ℕ) (w : World) (s : State)
    → Arises setup (start threads objects w) s
    → (i : ℕ) (job : Job) → (thread_of s i).phase ≡ Outside job
    → nat_lt (length (thread_of s i).came) setup.limits.outcome_limit ≡ true

-- an outcome comes in the event of a thread that is outside alone, and for it alone
abbrev pub CameOutside : Type 0
CameOutside =
    (setup : Setup) (s : State) (e : Event) (k : ℕ)
    → (e ≡ Advances k → (job : Job) → (thread_of s k).phase ≡ Outside job → ⊥)
    → (thread_of (happens setup e s) k).came ≡ (thread_of s k).came
