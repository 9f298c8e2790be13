-- Internal: no contract of the headline or of a command stands on it.
-- What is decided of a call was looked up so: what a change and an act need is there.
use Rattle.std.specs.Prelude.{◌≡◌, ◌≢◌, ◌⊎◌, ℕ, ◌+◌, ◌≤◌, ◌==◌, ℤ, pos, nat_lt, length, List}
use Rattle.std.specs.Prelude.{Bool, true, false, Option}
use Rattle.std.specs.Prelude.{Some, None, Ok, Err, IfOk}
use Rattle.std.specs.Option.{option_map}
use Rattle.std.specs.FinMap as map
use Rattle.sequential_object.specs.Locked.{keeps_table}
use Rattle.sequential_object.specs.Object.{State, Description, Directory, FileNode}
use Rattle.posix_terms.specs.Calls.{Call}
use Rattle.posix_terms.specs.declared.carried.Moved.{Moved}
use Rattle.posix_terms.specs.declared.errno.Errno.{Errno}
use Rattle.posix_terms.specs.declared.object.Side.{Side}
use Rattle.sequential_object.specs.Changes.{old_path_of, path_of}
use Rattle.sequential_object.specs.Paths.{components_of}
use Rattle.posix_terms.specs.declared.reply.Reply.{Reply}
use Rattle.posix_terms.specs.declared.reply.Reply.TheVariants as reply
use Rattle.sequential_object.specs.Decided.{decided}
use Rattle.sequential_object.specs.Deciding.{leads_outside}
use Rattle.sequential_object.specs.Descriptors.{described, is_last}
use Rattle.sequential_object.specs.Bytes.{bytes_of_kind, most_asked, read_count, reply_bytes}
use Rattle.sequential_object.specs.Doors.{must_be_listener}
use Rattle.sequential_object.specs.Meant.{may_ask, request_asked, request_kind, seen, transfers}
use Rattle.sequential_object.specs.Transfers.{not_listener}
use Rattle.sequential_object.specs.View.{View}
use Rattle.sequential_object.specs.declared.decision.Act.{Act}
use Rattle.sequential_object.specs.declared.decision.Change.{Change}
use Rattle.sequential_object.specs.declared.decision.Decision.{Decision}
use Rattle.sequential_object.specs.declared.decision.Deed.{Deed}
use Rattle.sequential_object.specs.declared.decision.NewDescriptor.{NewDescriptor}
use Rattle.sequential_object.specs.declared.decision.NewEnds.{NewEnds}
use Rattle.sequential_object.specs.declared.decision.Seen.{Seen}
use Rattle.posix_terms.specs.declared.call.Call.TheVariants as call
use Rattle.posix_terms.specs.declared.limits.TheConstants.Limits as limit
use Rattle.posix_terms.specs.declared.object.End.TheVariants as part
use Rattle.sequential_object.specs.declared.decision.Act.TheVariants as act
use Rattle.sequential_object.specs.declared.decision.Change.TheVariants as change
use Rattle.sequential_object.specs.declared.decision.Decision.TheVariants as decision
use Rattle.sequential_object.specs.declared.decision.Deed.TheVariants as deed

-- ## What was looked up

-- a descriptor refers to this
pub record IsSeen (v : View) (at : Seen) : Type 0 where
  pub descriptor : ℤ
  pub found : v.described descriptor ≡ Ok at

-- number n is open, and refers to the description of this key
pub record Refers (v : View) (n key : ℕ) : Type 0 where
  pub at : Seen
  pub found : v.described (pos n) ≡ Ok at
  pub key_is : at.key ≡ key

-- some descriptor refers to the description of this key
pub record IsKey (v : View) (key : ℕ) : Type 0 where
  pub at : Seen
  pub found : IsSeen v at
  pub key_is : at.key ≡ key

-- another descriptor than number n does
pub record IsOtherKey (v : View) (n key : ℕ) : Type 0 where
  pub descriptor : ℤ
  pub at : Seen
  pub found : v.described descriptor ≡ Ok at
  pub key_is : at.key ≡ key
  pub apart : descriptor ≢ pos n

-- a number is the least from some number on that is not open
pub record IsFree (v : View) (n : ℕ) : Type 0 where
  pub least : ℕ
  pub found : v.lowest least ≡ Some n

-- a number that a descriptor can have is not open
pub record IsShut (v : View) (n : ℕ) : Type 0 where
  pub inside : nat_lt n limit.DESCRIPTORS ≡ true
  pub error : Errno
  pub found : v.described (pos n) ≡ Err error

-- a path names this file
pub record IsNamed (v : View) (object : ℕ) : Type 0 where
  pub path : List ℕ
  pub found : v.named path ≡ Ok (Some (FileNode object))

-- a path names nothing, and there is room for a name
pub record CanAdd (v : View) (path : List ℕ) : Type 0 where
  pub missing : v.named path ≡ Ok None
  pub room : v.names_full ≡ false

-- two numbers and an object are free
pub record CanEnds (v : View) (new : NewEnds) : Type 0 where
  pub first : v.lowest 0 ≡ Some new.first
  pub second : v.lowest (new.first + 1) ≡ Some new.second
  pub next : v.next ≡ Some new.object

-- what a change needs was found
abbrev pub Can : View → Call → Change → Type 0
Can v c change.Nothing = Unit {0}
Can v c (change.Share n key) = (IsFree v n ⊎ IsShut v n) × IsKey v key
Can v c (change.Close n key) = Refers v n key
Can v c (change.Replace n old_key key) = Refers v n old_key × IsOtherKey v n key
Can v c (change.SetFlags key append nonblock) = IsKey v key
Can v c (change.AddFile object) = IsNamed v object × CanAdd v (path_of c)
Can v c change.AddDirectory = CanAdd v (path_of c)
Can v c (change.RemoveFile object) = v.named (path_of c) ≡ Ok (Some (FileNode object))
Can v c change.RemoveDirectory =
    (v.named (path_of c) ≡ Ok (Some Directory))
    × ((length (components_of (path_of c)) == 0) ≡ false)
Can v c (change.Rename object lost) =
    (v.named (old_path_of c) ≡ Ok (Some (FileNode object)))
    × (v.named (path_of c) ≡ Ok (option_map (λ other. FileNode other) lost))
Can v c (change.OpenFile new) = IsFree v new.number × IsNamed v new.object
Can v c (change.MakeFile new) =
    IsFree v new.number × (v.next ≡ Some new.object) × CanAdd v (path_of c)
Can v c (change.MakePipe new) = CanEnds v new
Can v c (change.MakeSockets new) = CanEnds v new

-- ## What a call does with the object that it locks

-- a descriptor refers to this object
pub record IsReferred (v : View) (object : ℕ) : Type 0 where
  pub at : Seen
  pub found : IsSeen v at
  pub object_is : at.object ≡ object

-- to an object in memory, by the description that an act reads or moves
pub record IsHeld (v : View) (object : ℕ) (at : Seen) : Type 0 where
  pub found : IsSeen v at
  pub object_is : at.object ≡ object
  pub inside : leads_outside at.«end» ≡ false

-- to a file
pub record IsFile (v : View) (object : ℕ) (at : Seen) : Type 0 where
  pub found : IsSeen v at
  pub object_is : at.object ≡ object
  pub only : at.«end» ≡ part.Only

-- to a file, by some description
pub record IsFileOfSome (v : View) (object : ℕ) : Type 0 where
  pub at : Seen
  pub file : IsFile v object at

-- to a pair of sockets, by one side
pub record IsSocket (v : View) (object : ℕ) (side : Side) : Type 0 where
  pub at : Seen
  pub found : IsSeen v at
  pub object_is : at.object ≡ object
  pub socket : at.«end» ≡ part.Socket side

-- the object and the description of an act were found, and it reads no more bytes than the call
abbrev pub CanAct : View → Call → ℕ → Act → Type 0
CanAct v c object (act.Open n cut) = IsNamed v object × IsFree v n
CanAct v c object (act.Create n) = (v.next ≡ Some object) × IsFree v n
CanAct v c object act.Release = IsNamed v object ⊎ IsReferred v object
CanAct v c object (act.Read from count) = IsHeld v object from × (count ≤ read_count c)
CanAct v c object (act.Write to before) = IsHeld v object to
CanAct v c object (act.Pread count position) = IsFileOfSome v object × (count ≤ read_count c)
CanAct v c object (act.Pwrite position) = IsFileOfSome v object
CanAct v c object (act.Lseek at) = IsFile v object at
CanAct v c object (act.Ftruncate size) = IsFileOfSome v object × (size ≤ limit.FILE_BYTES)
CanAct v c object (act.Fstat links) = IsFileOfSome v object
CanAct v c object (act.Pipe first second) =
    CanEnds v (record { first = first; second = second; object = object })
CanAct v c object (act.Socketpair first second) =
    CanEnds v (record { first = first; second = second; object = object })
CanAct v c object (act.Shutdown side how) = IsSocket v object side

-- an act that reads or writes its object changes nothing in the table, and one that opens a file
-- that is there opens it there
abbrev pub ChangesWith : ℕ → Act → Change → Type 0
ChangesWith object (act.Open n cut) x =
    (new : NewDescriptor) × (x ≡ change.OpenFile new) × (new.object ≡ object)
ChangesWith object (act.Create n) x = Unit {0}
ChangesWith object act.Release x = Unit {0}
ChangesWith object (act.Pipe first second) x = Unit {0}
ChangesWith object (act.Socketpair first second) x = Unit {0}
ChangesWith object a x = x ≡ change.Nothing

-- how many bytes a call asks of the outside
abbrev pub read_asked : Call → ℕ
read_asked c = bytes_of_kind (request_kind c) (request_asked c)

-- a door that a descriptor refers to, and that is not a listener
pub record IsDoor (v : View) (object : ℕ) : Type 0 where
  pub at : Seen
  pub found : IsSeen v at
  pub object_is : at.object ≡ object
  pub outside : leads_outside at.«end» ≡ true
  pub carries : not_listener at.«end» ≡ Ok tt

-- a door that number n refers to, the last one of its description
pub record IsLastDoor (v : View) (object n : ℕ) : Type 0 where
  pub at : Seen
  pub found : v.described (pos n) ≡ Ok at
  pub object_is : at.object ≡ object
  pub outside : leads_outside at.«end» ≡ true
  pub last : at.last ≡ true

-- the listener that a descriptor refers to
pub record IsListener (v : View) (descriptor : ℤ) (listener : Option ℕ) : Type 0 where
  pub at : Seen
  pub found : v.described descriptor ≡ Ok at
  pub outside : leads_outside at.«end» ≡ true
  pub listens : must_be_listener at.«end» ≡ Ok tt
  pub listener_is : listener ≡ Some at.object

-- `tcp_accept` takes along the listener of its descriptor, and no other call takes one
abbrev pub TakesAlong : View → Call → Option ℕ → Type 0
TakesAlong v (call.TcpAccept descriptor) listener = IsListener v descriptor listener
TakesAlong v c listener = listener ≡ None

-- a call can open a door: a number and an object are free, and its listener was found
pub record IsOpening (v : View) (c : Call) (listener : Option ℕ) (new : NewDescriptor)
    : Type 0 where
  pub takes : TakesAlong v c listener
  pub keeps : keeps_table c ≡ true
  pub number : IsFree v new.number
  pub next : v.next ≡ Some new.object

-- `close` alone closes a door
abbrev pub IsClose : Call → Type 0
IsClose (call.Close descriptor) = Unit {0}
IsClose c = ⊥

-- a call that goes outside is one that may, and what it asks has a place in a record
abbrev pub AsksLittle : Call → Type 0
AsksLittle c = (may_ask c ≡ true) × (request_asked c ≤ most_asked (request_kind c))

-- all that holds of what a call does with the object that it locks
abbrev pub CanDo : View → Call → ℕ → Deed → Type 0
CanDo v c object (deed.Acts a x) =
    Can v c x × CanAct v c object a × ChangesWith object a x × (keeps_table c ≡ false)
CanDo v c object (deed.Asks blocks) =
    IsDoor v object × (read_asked c ≤ read_count c) × (keeps_table c ≡ false) × AsksLittle c
    × (transfers c ≡ true)
CanDo v c object (deed.Closes n key) =
    IsLastDoor v object n × Refers v n key × (read_asked c ≤ read_count c)
    × (keeps_table c ≡ false) × IsClose c
CanDo v c object (deed.Opens blocks listener new) =
    IsOpening v c listener new × (object ≡ new.object) × AsksLittle c

-- whether a reply is a failure
abbrev pub is_failure : Reply → Bool
is_failure (reply.Fail e) = true
is_failure r = false

-- and of what is decided of a call
abbrev pub IsSo : View → Call → Decision → Type 0
IsSo v c (decision.Replies r x) =
    Can v c x × (is_failure r ≡ false) × (reply_bytes r ≡ 0) × (keeps_table c ≡ false)
IsSo v c (decision.Locks object does) = CanDo v c object does

-- a descriptor that was found has its own number
abbrev pub IsNumbered : View → Type 0
IsNumbered v =
    (descriptor : ℤ) (at : Seen) → v.described descriptor ≡ Ok at → descriptor ≡ pos at.number

-- what was seen by a descriptor is a description of the state
pub record IsShown (s : State) (descriptor : ℤ) (at : Seen) : Type 0 where
  pub description : Description
  pub found : described s descriptor ≡ Ok (at.key, description)
  pub there : map.get s.descriptions at.key ≡ Some description
  pub object_is : description.object ≡ at.object
  pub end_is : description.«end» ≡ at.«end»
  pub last_is : at.last ≡ is_last s descriptor at.key

-- the next object, and a file that a path names, are those of the state
pub record Shows (s : State) : Type 0 where
  pub numbered : IsNumbered (seen s)
  pub described : (descriptor : ℤ) (at : Seen)
      → (let v = seen s in v.described descriptor ≡ Ok at) → IsShown s descriptor at
  pub next : (object : ℕ) → (let v = seen s in v.next ≡ Some object) → object ≡ s.next_object
  pub named : (path : List ℕ) (object : ℕ)
      → (let v = seen s in v.named path ≡ Ok (Some (FileNode object)))
      → map.get s.paths (components_of path) ≡ Some (FileNode object)

-- what a call sees is in the state, and what is decided of it was looked up so
pub record DecidedSo : Type 0 where
  pub shows : (s : State) → Shows s
  pub so : (v : View) (c : Call) (moved : Moved) → IsNumbered v
      → IfOk (decided v c moved) (IsSo v c)
