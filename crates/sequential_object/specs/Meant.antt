-- Believed: a contract of the headline stands on it.
-- What a decision means for the state that it was made of: which object's lock the call takes, and
-- what it does then.
use Rattle.std.specs.Prelude.{ℕ, ℤ, pos, negsuc, Bool, true, false, List, length, nat_le, Option}
use Rattle.std.specs.Prelude.{Some, None, Result, Ok, Err, if◌then◌else◌, ◌-◌}
use Rattle.posix_terms.specs.Calls.{Call}
use Rattle.sequential_object.specs.Effects.{Effect, Completes, asks_of, Asks}
use Rattle.sequential_object.specs.Object.{State, Description, Content, content_of, with_content}
use Rattle.sequential_object.specs.Refusals.{◌>>=◌}
use Rattle.posix_terms.specs.declared.errno.Errno.{Errno}
use Rattle.posix_terms.specs.declared.reply.Reply.{Reply}
use Rattle.sequential_object.specs.Names.{has_entries, links_of}
use Rattle.sequential_object.specs.Paths.{components_of, node_at, resolved}
use Rattle.posix_terms.specs.declared.outcome.OutKind.{OutKind}
use Rattle.sequential_object.specs.Acts.{Acted, Ending, Replies, Blocks, acted}
use Rattle.sequential_object.specs.Changes.{changed, door_opened}
use Rattle.sequential_object.specs.View.{View}
use Rattle.sequential_object.specs.declared.decision.Act.{Act}
use Rattle.sequential_object.specs.declared.decision.Decision.{Decision}
use Rattle.sequential_object.specs.declared.decision.Deed.{Deed}
use Rattle.sequential_object.specs.declared.decision.NewDescriptor.{NewDescriptor}
use Rattle.sequential_object.specs.declared.decision.Seen.{Seen}
use Rattle.std.specs.FinMap as map
use Rattle.posix_terms.specs.declared.limits.TheConstants.Limits as limit
use Rattle.posix_terms.specs.declared.outcome.OutKind.TheVariants as kind
use Rattle.posix_terms.specs.declared.reply.Reply.TheVariants as reply
use Rattle.sequential_object.specs.Descriptors as posix
use Rattle.sequential_object.specs.Effects as effect
use Rattle.posix_terms.specs.declared.call.Call.TheVariants as call
use Rattle.sequential_object.specs.declared.decision.Act.TheVariants as act
use Rattle.sequential_object.specs.declared.decision.Change.TheVariants as change
use Rattle.sequential_object.specs.declared.decision.Decision.TheVariants as decision
use Rattle.sequential_object.specs.declared.decision.Deed.TheVariants as deed

-- the description of this key has this offset from now on
abbrev pub with_offset : State → ℕ → Description → ℕ → State
with_offset s key d offset =
    record s { descriptions = map.insert s.descriptions key (record d { offset = offset }) }

-- ## What a call sees of the state

-- a number that is not negative; for others 0, which no decision is about
abbrev pub natural_of : ℤ → ℕ
natural_of (pos n) = n
natural_of (negsuc n) = 0

-- the key of a description is never used again, so it is its birth
abbrev pub seen_of : State → ℤ → ℕ × Description → Seen
seen_of s descriptor (key, d) = record {
  number = natural_of descriptor;
  key = key;
  birth = key;
  object = d.object;
  «end» = d.«end»;
  access = d.access;
  append = d.append;
  nonblock = d.nonblock;
  last = posix.is_last s descriptor key;
}

-- the object that is made next, if there is room for one
abbrev pub next_of : State → Option ℕ
next_of s = if nat_le limit.OBJECTS (map.len s.objects) then None else Some s.next_object

-- what a call may look at in this state
unfoldable pub seen : State → View
seen s = record {
  described = λ descriptor.
      posix.described s descriptor >>= (λ found. Ok (seen_of s descriptor found));
  lowest = λ n. posix.lowest_from s (limit.DESCRIPTORS - n) n;
  named = λ path.
      resolved s.paths path >>= (λ components. Ok (node_at s.paths components));
  names_full = nat_le limit.NAMES (map.len s.paths);
  has_entries = λ path. has_entries s.paths (components_of path);
  links = links_of s.paths;
  is_open = posix.has_description s;
  next = next_of s;
}

-- ## Acts, at the object and the description that they were decided for

-- the description that an act reads or moves
abbrev pub key_of : Act → Option ℕ
key_of (act.Read from count) = Some from.key
key_of (act.Write to before) = Some to.key
key_of (act.Lseek at) = Some at.key
key_of a = None

-- the description of an act, if it reads or moves one
abbrev pub description_of : State → Option ℕ → Option Description
description_of s (Some key) = map.get s.descriptions key
description_of s None = None

-- its offset
abbrev pub offset_in : Option Description → ℕ
offset_in (Some d) = d.offset
offset_in None = 0

-- it has this offset from now on
abbrev pub moved_to : State → Option ℕ → Option ℕ → Option Description → State
moved_to s (Some offset) (Some key) (Some d) = with_offset s key d offset
moved_to s offset key d = s

-- an object holds this from now on
abbrev pub holding : State → ℕ → Option Content → State
holding s object (Some content) = with_content s object content
holding s object None = s

-- the state after an act: its description is moved, and its object holds what the act left
abbrev pub put : State → ℕ → Act → Acted → State
put s object a done =
    holding (moved_to s done.offset (key_of a) (description_of s (key_of a))) object done.content

-- a failure leaves the state as it was
abbrev pub ended : State → Ending → Result Effect Errno
ended after (Replies (reply.Fail e)) = Err e
ended after (Replies r) = Ok (Completes after r)
ended after (Blocks moved) = Ok (effect.Blocks after moved)

-- how an act ends at this object, in this state
abbrev pub acted_at : State → ℕ → Act → Call → Acted
acted_at s object a c =
    acted (posix.has_end s object) a c (content_of s object)
    (offset_in (description_of s (key_of a)))

-- what comes of an act at this object, or why it fails
abbrev pub acts : State → ℕ → Act → Call → Result Effect Errno
acts s object a c =
    let done = acted_at s object a c in
    ended (put s object a done) done.ending

-- ## What is asked outside

-- the calls that may go outside by a door that stays open
abbrev pub transfers : Call → Bool
transfers (call.Read descriptor count) = true
transfers (call.Write descriptor bytes) = true
transfers (call.Lseek descriptor offset whence) = true
transfers (call.Shutdown descriptor how) = true
transfers c = false

-- all calls that may go outside
abbrev pub may_ask : Call → Bool
may_ask (call.Read descriptor count) = true
may_ask (call.Write descriptor bytes) = true
may_ask (call.Lseek descriptor offset whence) = true
may_ask (call.Shutdown descriptor how) = true
may_ask (call.Close descriptor) = true
may_ask (call.HostOpen path access flags) = true
may_ask (call.TcpListen port) = true
may_ask (call.TcpConnect port) = true
may_ask (call.TcpAccept descriptor) = true
may_ask c = false

-- what kind of request such a call makes
abbrev pub request_kind : Call → OutKind
request_kind (call.Read descriptor count) = kind.Read
request_kind (call.Write descriptor bytes) = kind.Write
request_kind (call.Lseek descriptor offset whence) = kind.Seek
request_kind (call.Close descriptor) = kind.Close
request_kind (call.Shutdown descriptor how) = kind.Shutdown
request_kind (call.HostOpen path access flags) = kind.Open
request_kind (call.TcpListen port) = kind.Listen
request_kind (call.TcpConnect port) = kind.Connect
request_kind (call.TcpAccept descriptor) = kind.Accept
-- never met: other calls ask nothing
request_kind c = kind.Close

-- how much it asks: bytes, or a port
abbrev pub request_asked : Call → ℕ
request_asked (call.Read descriptor count) = natural_of count
request_asked (call.Write descriptor bytes) = length bytes
request_asked (call.TcpListen port) = natural_of port
request_asked (call.TcpConnect port) = natural_of port
request_asked c = 0

-- the reply to a success with this value and these bytes
abbrev pub reply_outside : Call → ℕ → List ℕ → Reply
reply_outside (call.Read descriptor count) value bytes = reply.Data bytes
reply_outside (call.Write descriptor sent) value bytes = reply.Count value
reply_outside (call.Lseek descriptor offset whence) value bytes = reply.Number (pos value)
reply_outside (call.Close descriptor) value bytes = reply.Done
reply_outside (call.Shutdown descriptor how) value bytes = reply.Done
-- never met: other calls ask nothing, or open a door
reply_outside c value bytes = reply.Done

-- there is a new door only where it was opened outside
abbrev pub asks_to_open : State → Call → Bool → NewDescriptor → Effect
asks_to_open s c blocks new = Asks (record {
  kind = request_kind c;
  asked = request_asked c;
  succeeds = λ value bytes. (door_opened s c new value, reply.Number (pos new.number));
  otherwise = s;
  waits = blocks;
})

-- ## All decisions

-- what a call does with the object that it locks
abbrev pub does : State → Call → ℕ → Deed → Result Effect Errno
does s c object (deed.Acts a x) = acts (changed s c x) object a c
does s c object (deed.Asks blocks) =
    Ok (asks_of s (request_kind c) (request_asked c) blocks (reply_outside c))
does s c object (deed.Closes n key) =
    let after = changed s c (change.Close n key) in
    Ok (asks_of after (request_kind c) (request_asked c) false (reply_outside c))
does s c object (deed.Opens blocks listener new) = Ok (asks_to_open s c blocks new)

-- what a call does of which this was decided, or why it is refused
abbrev pub meant : State → Call → Result Decision Errno → Result Effect Errno
meant s c (Ok (decision.Replies r x)) = Ok (Completes (changed s c x) r)
meant s c (Ok (decision.Locks object d)) = does s c object d
meant s c (Err e) = Err e

-- the object whose lock it takes beside the table's: none where the table alone refuses or answers
-- it
abbrev pub locks_of : Result Decision Errno → Option ℕ
locks_of (Ok (decision.Locks object d)) = Some object
locks_of other = None
