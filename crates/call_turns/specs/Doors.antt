-- Believed: a contract of the headline stands on it.
-- What turns of calls do to the descriptions that lead outside, and whose door they take along.
use Rattle.std.specs.Prelude.{◌≡◌, ℕ, Bool, true, false, Some, is_some}
use Rattle.descriptor_table.specs.Doors.{AddsNone, LeadsTo}
use Rattle.descriptor_table.specs.declared.plan.Errand.{Errand}
use Rattle.posix_terms.specs.declared.object.Door.{Door}
use Rattle.posix_terms.specs.declared.object.Door.TheVariants as door
use Rattle.posix_terms.specs.declared.outcome.OutKind.{OutKind}
use Rattle.posix_terms.specs.declared.outcome.OutKind.TheVariants as out
use Rattle.posix_terms.specs.declared.outcome.Outcome.{Outcome}
use Rattle.posix_terms.specs.declared.outcome.Outcome.TheVariants as outcome
use Rattle.call_turns.specs.Store.{Stored}
use Rattle.call_turns.specs.declared.patience.TurnStart.{TurnStart}
use Rattle.call_turns.specs.declared.patience.TurnStart.TheVariants as start

-- the kinds of requests for which a door goes out and comes back
abbrev pub brings_back : OutKind → Bool
brings_back out.Read = true
brings_back out.Write = true
brings_back out.Seek = true
brings_back out.Shutdown = true
brings_back out.Accept = true
brings_back k = false

-- those for which one goes out: a door that is closed does not come back
abbrev pub takes_along : OutKind → Bool
takes_along out.Close = true
takes_along k = brings_back k

-- the outcome is a success
abbrev pub is_ok : Outcome → Bool
is_ok (outcome.Ok value bytes) = true
is_ok (outcome.Fail error) = false

-- the door is a listener
abbrev pub is_listener : Door → Bool
is_listener (door.Listener port) = true
is_listener d = false

-- a call that locked this number goes outside with this errand: with a door exactly when its kind
-- takes one. A call that frees the table takes the door of that number, which is no listener after
-- it, nor any door if it is closed; one that keeps it takes none, or a listener, which comes back
pub record GoesBy (object : ℕ) (keeps : Bool) (errand : Errand) (old new : Stored) : Type 0 where
  pub along : is_some errand.door ≡ takes_along errand.kind
  pub own : keeps ≡ false → errand.door ≡ Some object
  pub finds : (n : ℕ) → errand.door ≡ Some n
      → (d : Door) × (LeadsTo old.table.descriptions n d
      × (keeps ≡ true → (brings_back errand.kind ≡ true) × (is_listener d ≡ true)))
  pub apart : (d : Door) → keeps ≡ false → LeadsTo new.table.descriptions object d
      → (is_listener d ≡ false) × (brings_back errand.kind ≡ true)

-- no description that leads outside is new
abbrev pub KeepsDoors : Stored → Stored → Type 0
KeepsDoors old new = AddsNone old.table.descriptions new.table.descriptions

-- nor is any by the start of a turn, and one that goes outside has its door
abbrev pub MovesDoors : ℕ → Bool → TurnStart → Stored → Stored → Type 0
MovesDoors object keeps (start.Ended e) old new = KeepsDoors old new
MovesDoors object keeps (start.GoesOut errand) old new =
    KeepsDoors old new × GoesBy object keeps errand old new
