-- Which phase a thread is at, by the tests that an event makes; and what its event is, refused or not.
use Rattle.std.proofs.Common.{◌≡◌, Bool, true, false, Option, Some, None, is_some, sym, refl, ap, subst}
use Rattle.std.proofs.lemmas.Bool.{false≢true, true≢false}
use Rattle.std.specs.Prelude.{Result, Ok, Err, IfErr, OnErr, is_ok, ok_or}
use Rattle.posix_terms.specs.Calls.{Call}
use Rattle.lock_machine.specs.Refusals.{Comes, Rests, WantsNone, wants_object, wants_table}
use Rattle.lock_machine.specs.Whole.{Whole}
use Rattle.lock_machine.specs.declared.refused.LockRefused.{LockRefused}
use Rattle.lock_machine.specs.declared.refused.LockRefused.TheVariants as refused
use Rattle.lock_machine.specs.declared.thread.Phase.{Phase}
use Rattle.lock_machine.specs.declared.thread.Phase.TheVariants as phase
use Rattle.lock_machine.proofs.AttemptEvents.{Idles}
use Rattle.sequential_object.specs.Step.{Carried}

-- ## Phases

abbrev pub IsTable : Phase → Type 0
IsTable p = (call : Call) × (carried : Carried) × (p ≡ phase.WantsTable call carried)

pub table_phase : (p : Phase) → wants_table p ≡ true → IsTable p
table_phase (phase.WantsTable call carried) h = (call, carried, refl)
table_phase p h = absurd (false≢true h)

pub idles_by : (p : Phase) → wants_table p ≡ false → wants_object p ≡ false → Idles p
idles_by (phase.WantsTable call carried) table object = absurd (true≢false table)
idles_by (phase.WantsObject call carried clock n) table object = absurd (true≢false object)
idles_by p table object = tt

-- ## What an event gives

abbrev is_full : LockRefused → Bool
is_full refused.ClockFull = true
is_full refused.WrongPhase = false
is_full refused.Memory = false

-- made or not, where it has its phase
pub comes_moved : {A : Type 0} (right moved : Bool) (r : Result A LockRefused) (old new : Whole) (P : Bool → Type 0)
    → right ≡ true → is_ok r ≡ moved → IfErr r (λ e. e ≡ refused.ClockFull) → Rests moved old new → P moved
    → Comes right r old new (λ (o : Option A). P (is_some o))
comes_moved right moved (Ok a) old new P there made full rests h = (there, subst P (sym made) h)
comes_moved right moved (Err refused.ClockFull) old new P there made full rests h =
    let R : Bool → Type 0 = λ b. Rests b old new in (there, subst R (sym made) rests, subst P (sym made) h)
comes_moved right moved (Err refused.WrongPhase) old new P there made full rests h =
    absurd (false≢true (ap is_full full))
comes_moved right moved (Err refused.Memory) old new P there made full rests h = absurd (false≢true (ap is_full full))

-- what is refused so leaves all as it was
pub moved_rests : {A : Type 0} (moved : Bool) (r : Result A LockRefused) (old new : Whole) → is_ok r ≡ moved
    → Rests moved old new → OnErr r (new ≡ old)
moved_rests moved (Ok a) old new made rests = tt
moved_rests moved (Err e) old new made rests = let R : Bool → Type 0 = λ b. Rests b old new in subst R (sym made) rests

-- it gives something, or a number forbids it
pub comes_given : {A : Type 0} (right : Bool) (o : Option A) (old new : Whole) (made : Option A → Type 0) → right ≡ true
    → Rests (is_some o) old new → made o → Comes right (ok_or o refused.ClockFull) old new made
comes_given right (Some a) old new made there rests h = (there, h)
comes_given right None old new made there rests h = (there, rests, h)

-- where a number forbids it, all is as it was
pub given_rests : {A : Type 0} (o : Option A) (old new : Whole) → Rests (is_some o) old new
    → OnErr (ok_or o refused.ClockFull) (new ≡ old)
given_rests (Some a) old new rests = tt
given_rests None old new rests = rests

pub given_wants_none : {A : Type 0} (o : Option A) → WantsNone (ok_or o refused.ClockFull)
given_wants_none (Some a) = tt
given_wants_none None = tt
