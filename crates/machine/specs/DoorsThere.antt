-- Believed: a contract of the headline stands on it.
-- Which doors a machine has: whenever one goes out, it is there.
use Rattle.std.specs.Prelude.{◌≡◌, ◌⊎◌, ℕ, Bool, true, false, List, Option, Some, None, get_or}
use Rattle.std.specs.Prelude.{is_some, slice_get}
use Rattle.descriptor_table.specs.Doors.{HaveOne, LeadsTo}
use Rattle.call_turns.specs.Doors.{brings_back, is_listener, is_ok, takes_along}
use Rattle.call_turns.specs.Store.{Stored}
use Rattle.lock_machine.specs.Refusals.{phase_at}
use Rattle.lock_machine.specs.Whole.{Whole}
use Rattle.lock_machine.specs.declared.thread.Outing.{Outing}
use Rattle.lock_machine.specs.declared.thread.Phase.{Phase}
use Rattle.lock_machine.specs.declared.thread.Phase.TheVariants as phase
use Rattle.posix_terms.specs.declared.object.Door.{Door}
use Rattle.posix_terms.specs.declared.outcome.Outcome.{Outcome}
use Rattle.posix_terms.specs.declared.transcript.HistoryRow.{HistoryRow}

-- the object with this number is a door: a description of it leads outside
abbrev pub Names : Stored → ℕ → Door → Type 0
Names h n d = LeadsTo h.table.descriptions n d

-- ## Calls that go outside

-- an outcome came, and it is a success
abbrev pub is_success : Option Outcome → Bool
is_success (Some x) = is_ok x
is_success None = false

-- the outcome of a row, if it is there and has one
abbrev pub outcome_of : Option HistoryRow → Option Outcome
outcome_of (Some q) = q.outcome
outcome_of None = None

-- how far a call is that goes outside: it is to go, is there, or is back, with a success or not
pub data Stage : Type 0 where
  Going : Stage
  Out : Stage
  Back : (opened : Bool) → Stage

-- what such a call has to do with doors: which number's door it takes along, which number's lock it
-- holds, whether it keeps the table to open a door, whether the door that it takes along comes
-- back, and whether its kind takes one
pub record Claim : Type 0 where
  pub stage : Stage
  pub takes : Option ℕ
  pub locks : Option ℕ
  pub keeps : Bool
  pub returns : Bool
  pub along : Bool

-- by the call
abbrev pub claim_by : Stage → Outing → Claim
claim_by stage o = record {
  stage = stage;
  takes = o.errand.door;
  locks = o.object;
  keeps = o.keeps_table;
  returns = brings_back o.errand.kind;
  along = takes_along o.errand.kind;
}

-- that of a thread in this phase
abbrev pub claim_in : List HistoryRow → Phase → Option Claim
claim_in rows (phase.ToOutside o) = Some (claim_by Going o)
claim_in rows (phase.Outside o) = Some (claim_by Out o)
claim_in rows (phase.Recorded o) =
    Some (claim_by (Back (is_success (outcome_of (slice_get rows o.row)))) o)
claim_in rows p = None

-- those of all threads
abbrev pub claims_in : Whole → ℕ → Option Claim
claims_in w i = claim_in w.rows (phase_at w i)

-- ## Which doors have to be there

-- nobody is outside with the door of this number
abbrev pub IsHome : (ℕ → Option Claim) → ℕ → Type 0
IsHome claims n = (i : ℕ) (c : Claim) → claims i ≡ Some c → c.stage ≡ Out → c.takes ≡ Some n → ⊥

-- the door of this number has to be there
pub data Needs (claims : ℕ → Option Claim) (named : ℕ → Door → Type 0) (n : ℕ) : Type 0 where
  -- its object is a door, with which nobody is outside
  IsBorn : (d : Door) → (is : named n d) → (home : IsHome claims n) → Needs claims named n
  -- a call is to go outside with it
  GoesWith : (i : ℕ) → (c : Claim) → (has : claims i ≡ Some c) → (goes : c.stage ≡ Going)
      → (takes : c.takes ≡ Some n) → Needs claims named n
  -- it was opened, and its object is born with the answer
  WasOpened : (i : ℕ) → (c : Claim) → (has : claims i ≡ Some c) → (back : c.stage ≡ Back true)
      → (keeps : c.keeps ≡ true) → (locks : c.locks ≡ Some n) → Needs claims named n

-- a door stands there
abbrev pub is_there : {D : Type 0} → List (Option D) → ℕ → Bool
is_there doors n = is_some (get_or doors n None)

-- a call takes along the door of this number, or opens it
abbrev pub Has : Claim → ℕ → Type 0
Has c n = (c.takes ≡ Some n) ⊎ ((c.keeps ≡ true) × (c.locks ≡ Some n))

-- under these claims, and where these numbers are those of doors, each door that has to be there is
pub record AreThere (D : Type 0) (claims : ℕ → Option Claim) (named : ℕ → Door → Type 0)
    (doors : List (Option D)) : Type 0 where
  pub needed : (n : ℕ) → Needs claims named n → is_there doors n ≡ true
  -- a call that freed the table holds the lock of its door's number, which is then that of no
  -- listener, nor of any door if it is closed
  pub apart : (i n : ℕ) (c : Claim) (d : Door) → claims i ≡ Some c → c.keeps ≡ false
      → c.takes ≡ Some n → named n d → (is_listener d ≡ false) × (c.returns ≡ true)
  -- nobody else has the door that a call takes along
  pub own : (i k n : ℕ) (c e : Claim) → claims i ≡ Some c → claims k ≡ Some e → c.takes ≡ Some n
      → Has e n → i ≡ k
  -- a call takes a door exactly when its kind does; with the table kept, one that comes back
  pub kinds : (i : ℕ) (c : Claim) → claims i ≡ Some c → (is_some c.takes ≡ c.along)
      × ((n : ℕ) → c.keeps ≡ true → c.takes ≡ Some n → c.returns ≡ true)

-- each door that a call of the machine needs is there when the call goes outside
pub record DoorsThere (D : Type 0) (w : Whole) (doors : List (Option D)) : Type 0 where
  pub there : AreThere D (claims_in w) (Names w.table) doors
  pub single : HaveOne w.table.table.descriptions
