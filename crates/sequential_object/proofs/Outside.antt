-- What calls that go outside lock and leave.
use Rattle.std.proofs.Common.{◌≡◌, ◌&&◌, ℕ, ◌+◌, Bool, true, false, Option, Some, None, Result, Ok, Err, if◌then◌else◌}
use Rattle.std.proofs.Common.{is_some, ap, refl, sym, subst, ◌∙◌}
use Rattle.std.proofs.lemmas.Bool.{false≢true, true≢false}
use Rattle.std.specs.Prelude.{IfOk, nat_lt, ℤ, pos}
use Rattle.posix_terms.specs.Calls.{Call}
use Rattle.posix_terms.specs.declared.carried.Moved.{Moved}
use Rattle.posix_terms.specs.declared.errno.Errno.{Errno}
use Rattle.posix_terms.specs.declared.outcome.Outcome.{Outcome}
use Rattle.posix_terms.specs.declared.outcome.Outcome.TheVariants as out
use Rattle.posix_terms.specs.declared.reply.Reply.TheVariants as reply
use Rattle.posix_terms.specs.declared.transcript.Settings.{Settings}
use Rattle.sequential_object.specs.Acts.{Acted, Ending, Replies}
use Rattle.sequential_object.specs.Acts as ending
use Rattle.sequential_object.specs.Changes.{changed}
use Rattle.sequential_object.specs.Decided.{decided}
use Rattle.sequential_object.specs.Deciding.{leads_outside}
use Rattle.sequential_object.specs.Effects.{Effect, nothing_moved}
use Rattle.sequential_object.specs.Locked.{HasDoor, KeepsOutside, LeavesAlike, LocksDoor, OutsideLocks, keeps_table}
use Rattle.sequential_object.specs.Locked.{locked_object}
use Rattle.sequential_object.specs.Meant.{acted_at, ended, locks_of, meant, put, seen}
use Rattle.sequential_object.specs.Object.{State}
use Rattle.sequential_object.specs.So.{IsDoor, IsLastDoor, IsSo}
use Rattle.sequential_object.specs.Step.{Carried, concluded, failed, held_up, is_again, query_of, waited}
use Rattle.sequential_object.specs.declared.decision.Seen.{Seen}
use Rattle.sequential_object.specs.declared.decision.Decision.{Decision}
use Rattle.sequential_object.specs.declared.decision.Decision.TheVariants as decision
use Rattle.sequential_object.specs.declared.decision.Deed.TheVariants as deed
use Rattle.sequential_object.proofs.Seeing.{next_is, shown_by}
use Rattle.sequential_object.proofs.So.{decided_so}

-- what is decided of a call was looked up
pub so_of : (s : State) (c : Call) (moved : Moved) → IfOk (decided (seen s) c moved) (IsSo (seen s) c)
so_of s c moved = decided_so.so (seen s) c moved (let known = decided_so.shows s in known.numbered)

-- ## What it locks

none_asked : (c : Call) (after : State) (e : Ending) → is_some (query_of c (ended after e)) ≡ false
none_asked c after (Replies (reply.Fail e)) = refl
none_asked c after (Replies r) = refl
none_asked c after (ending.Blocks moved) = refl

has_door : (s : State) (object : ℕ) (descriptor : ℤ) (at : Seen) → (let v = seen s in v.described descriptor ≡ Ok at)
    → at.object ≡ object → leads_outside at.«end» ≡ true → HasDoor s object
has_door s object descriptor at found object_is outside =
    let its = shown_by s descriptor at found in
    record {
      key = at.key;
      description = its.description;
      there = its.found.there;
      own = ap (λ x. x.object) (sym its.is_seen) ∙ object_is;
      outside = ap (λ x. leads_outside x.«end») (sym its.is_seen) ∙ outside;
    }

asks_door : (s : State) (object : ℕ) → IsDoor (seen s) object → HasDoor s object
asks_door s object door = has_door s object door.found.descriptor door.at door.found.found door.object_is door.outside

closes_door : (s : State) (object n : ℕ) → IsLastDoor (seen s) object n → HasDoor s object
closes_door s object n door = has_door s object (pos n) door.at door.found door.object_is door.outside

locks : (s : State) (c : Call) (r : Result Decision Errno) → IfOk r (IsSo (seen s) c)
    → is_some (query_of c (meant s c r)) ≡ true → LocksDoor s (keeps_table c) (locks_of r)
locks s c (Err e) so asks = absurd (false≢true asks)
locks s c (Ok (decision.Replies r x)) so asks = absurd (false≢true asks)
locks s c (Ok (decision.Locks object (deed.Acts a x))) so asks =
    let after : State = changed s c x in
    let done : Acted = acted_at after object a c in
    absurd (false≢true (sym (none_asked c (put after object a done) done.ending) ∙ asks))
locks s c (Ok (decision.Locks object (deed.Asks blocks))) so asks =
    subst (λ (keeps : Bool). LocksDoor s keeps (Some object)) (sym so.2) (asks_door s object so.0)
locks s c (Ok (decision.Locks object (deed.Closes n key))) so asks =
    subst (λ (keeps : Bool). LocksDoor s keeps (Some object)) (sym so.3) (closes_door s object n so.0)
locks s c (Ok (decision.Locks object (deed.Opens blocks listener new))) so asks =
    subst (λ (keeps : Bool). LocksDoor s keeps (Some object)) (sym so.0.keeps) (so.1 ∙ next_is s new.object so.0.next)

pub outside_locks : OutsideLocks
unfolding locked_object
outside_locks s c carried asks = locks s c (decided (seen s) c carried.moved) (so_of s c carried.moved) asks

keeps : (s : State) (c : Call) (r : Result Decision Errno) → IfOk r (IsSo (seen s) c)
    → keeps_table c ≡ true → is_some (locks_of r) ≡ is_some (query_of c (meant s c r))
keeps s c (Err e) so keep = refl
keeps s c (Ok (decision.Replies r x)) so keep = absurd (false≢true (sym so.3 ∙ keep))
keeps s c (Ok (decision.Locks object (deed.Acts a x))) so keep = absurd (false≢true (sym so.3 ∙ keep))
keeps s c (Ok (decision.Locks object (deed.Asks blocks))) so keep = refl
keeps s c (Ok (decision.Locks object (deed.Closes n key))) so keep = refl
keeps s c (Ok (decision.Locks object (deed.Opens blocks listener new))) so keep = refl

pub keeps_outside : KeepsOutside
unfolding locked_object
keeps_outside s c carried keep = keeps s c (decided (seen s) c carried.moved) (so_of s c carried.moved) keep

-- ## What it leaves

-- a call that waits, or gives up, leaves what its turn left
pub waited_leaves : (settings : Settings) (after : State) (moved : Moved) (carried : Carried)
    → (waited settings after moved carried).after ≡ after
waited_leaves settings after moved carried = by_test (nat_lt (carried.turns + 1) settings.patience)
  where
    by_test : (b : Bool) → (held_up b after moved carried).after ≡ after
    by_test true = refl
    by_test false = refl

-- a turn that is blocked changes nothing
pub waited_alone : (settings : Settings) (s : State) (carried : Carried)
    → (waited settings s nothing_moved carried).after ≡ s
waited_alone settings s carried = waited_leaves settings s nothing_moved carried

module _ (settings : Settings) (s : State) (carried : Carried) where
  abbrev left : Option Outcome → Result Effect Errno → State
  left o r = (concluded settings s o carried r).after

  ends_alike : (after : State) (e : Ending) (o : Option Outcome) → left o (ended after e) ≡ left None (ended after e)
  ends_alike after (Replies (reply.Fail e)) o = refl
  ends_alike after (Replies r) o = refl
  ends_alike after (ending.Blocks moved) o = refl

  asks_alike : (e : Errno) (b : Bool)
      → (if b && is_again e then waited settings s nothing_moved carried else failed s e).after ≡ s
  asks_alike e b = by_test (b && is_again e)
    where
      by_test : (b : Bool) → (if b then waited settings s nothing_moved carried else failed s e).after ≡ s
      by_test true = waited_alone settings s carried
      by_test false = refl

  leaves : (c : Call) (r : Result Decision Errno) (o : Option Outcome) → IfOk r (IsSo (seen s) c)
      → keeps_table c ≡ false
      → left o (meant s c r) ≡ left None (meant s c r)
  leaves c (Err e) o so frees = refl
  leaves c (Ok (decision.Replies r x)) o so frees = refl
  leaves c (Ok (decision.Locks object (deed.Acts a x))) o so frees =
      let after : State = changed s c x in
      let done : Acted = acted_at after object a c in
      ends_alike (put after object a done) done.ending o
  leaves c (Ok (decision.Locks object (deed.Asks blocks))) (Some (out.Ok value bytes)) so frees = refl
  leaves c (Ok (decision.Locks object (deed.Asks blocks))) (Some (out.Fail e)) so frees = asks_alike e blocks
  leaves c (Ok (decision.Locks object (deed.Asks blocks))) None so frees = refl
  leaves c (Ok (decision.Locks object (deed.Closes n key))) (Some (out.Ok value bytes)) so frees = refl
  leaves c (Ok (decision.Locks object (deed.Closes n key))) (Some (out.Fail e)) so frees = refl
  leaves c (Ok (decision.Locks object (deed.Closes n key))) None so frees = refl
  leaves c (Ok (decision.Locks object (deed.Opens blocks listener new))) o so frees =
      absurd (true≢false (sym so.0.keeps ∙ frees))

pub leaves_alike : LeavesAlike
leaves_alike settings s c o carried frees = leaves settings s carried c (decided (seen s) c carried.moved) o
    (so_of s c carried.moved) frees
