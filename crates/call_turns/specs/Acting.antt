-- Internal: no contract of the headline or of a command stands on it.
-- What the acts and the changes of calls make of the table and the bodies.
use Rattle.std.specs.Prelude.{◌≡◌, ◌<◌, ◌≤◌, ◌+◌, ◌==◌, nat_le, if◌then◌else◌, ℕ, List, [], take}
use Rattle.std.specs.Prelude.{slice_index_or, slice_set, Bool, true, false}
use Rattle.std.specs.Prelude.{Option, Some, None}
use Rattle.posix_terms.specs.Calls.{Call}
use Rattle.posix_terms.specs.declared.limits.TheConstants.Limits as limit
use Rattle.posix_terms.specs.declared.object.End.{End}
use Rattle.posix_terms.specs.declared.object.End.TheVariants as part
use Rattle.sequential_object.specs.Object.{State, Content, DoorTo, File, Pair, Pipe}
use Rattle.sequential_object.specs.Streams.{new_pair}
use Rattle.sequential_object.specs.Numbers.{world_with}
use Rattle.sequential_object.specs.Worlds.{World}
use Rattle.sequential_object.specs.declared.turn_end.ActEnd.{ActEnd}
use Rattle.file_descriptions.specs.Descriptions.{ContainsKey, description_at, with_offset}
use Rattle.file_descriptions.specs.declared.description.Description.{Description}
use Rattle.sequential_object.specs.Acts.{Acted, acted, blocked_after}
use Rattle.sequential_object.specs.declared.decision.Seen.{Seen}
use Rattle.sequential_object.specs.Changes as posix
use Rattle.sequential_object.specs.Meant.{key_of}
use Rattle.sequential_object.specs.Renaming.{change_by}
use Rattle.sequential_object.specs.declared.decision.Act.{Act}
use Rattle.sequential_object.specs.declared.decision.Act.TheVariants as act
use Rattle.sequential_object.specs.declared.decision.Change.{Change}
use Rattle.sequential_object.specs.declared.decision.Change.TheVariants as change
use Rattle.descriptor_table.specs.Table.{TableState, is_open}
use Rattle.descriptor_table.specs.View.{names_of}
use Rattle.call_turns.specs.Bodies.{Kept, first_kept, keeping}
use Rattle.call_turns.specs.Patience.{end_of, stopped_ending}
use Rattle.pipes.specs.declared.body.PipeAnswer.{PipeAnswer}
use Rattle.pipes.specs.declared.body.PipeAnswer.TheVariants as pipe
use Rattle.posix_terms.specs.declared.errno.Errno.TheVariants.{EPIPE}
use Rattle.posix_terms.specs.declared.reply.Reply.TheVariants as reply
use Rattle.sequential_object.specs.declared.turn_end.ActEnd.TheVariants as act_end
use Rattle.call_turns.specs.Store.{Stands, Stored, kept_at}

-- ## Acts

-- a description has this offset from now on
abbrev pub moved : Stored → ℕ → ℕ → Stored
moved h key n =
    record h { table = record h.table { descriptions = with_offset h.table.descriptions key n } }

-- an object holds this from now on
abbrev pub holding : Stored → ℕ → Content → Stored
holding h object content =
    record h { bodies = slice_set h.bodies object (keeping content (kept_at h object)) }

-- the offset is moved where the act has a description and a new offset for it
abbrev pub moved_if : Stored → Option ℕ → Option ℕ → Stored
moved_if h (Some key) (Some n) = moved h key n
moved_if h key n = h

-- an object holds a new content, where the act gave it one
abbrev pub holding_if : Stored → ℕ → Option Content → Stored
holding_if h object (Some content) = holding h object content
holding_if h object None = h

-- what an act leaves, of its object and of the description under this key
abbrev pub left_by : Stored → ℕ → Option ℕ → Acted → Stored
left_by h object key done = holding_if (moved_if h key done.offset) object done.content

-- it ended so, and left this
abbrev pub Leaves : Acted → Stored → ℕ → Option ℕ → ActEnd → Stored → Type 0
Leaves done old object key e new =
    (e ≡ end_of done.ending) × (new ≡ left_by old object key done)

-- the offset of the description under this key
abbrev pub offset_of_key : Stored → ℕ → ℕ
offset_of_key h key =
    let d : Description = description_at h.table.descriptions key in d.offset

-- the offset at which an act starts; 0 for an act that uses no description
abbrev pub stands_at : Stored → Option ℕ → ℕ
stands_at h (Some key) = offset_of_key h key
stands_at h None = 0

-- what the object holds that has this end
abbrev pub held_by : End → Kept → Content
held_by part.Only k = File k.file
held_by part.Read k = Pipe k.pipe
held_by part.Write k = Pipe k.pipe
held_by (part.Socket side) k = Pair k.pair
held_by (part.Door door) k = DoorTo door

-- what the object of an act holds
abbrev pub held_for : Act → Kept → Content
held_for (act.Read from count) k = held_by from.«end» k
held_for (act.Write to before) k = held_by to.«end» k
held_for (act.Shutdown side how) k = Pair k.pair
held_for a k = File k.file

-- how an act on an object ends here
abbrev pub acts_at : Stored → ℕ → Act → Call → Acted
acts_at h object a c =
    acted (is_open h.table object) a c (held_for a (kept_at h object)) (stands_at h (key_of a))

-- an act that reads or writes its object: the description whose offset it reads or moves is there,
-- and it reads no more bytes than this
abbrev pub IsReady : TableState → ℕ → Act → Type 0
IsReady t most (act.Read from count) = ContainsKey t.descriptions from.key × (count ≤ most)
IsReady t most (act.Write to before) = ContainsKey t.descriptions to.key
IsReady t most (act.Pread count position) = count ≤ most
IsReady t most (act.Pwrite position) = Unit {0}
IsReady t most (act.Lseek at) = ContainsKey t.descriptions at.key
IsReady t most (act.Ftruncate size) = size ≤ limit.FILE_BYTES
IsReady t most (act.Fstat links) = Unit {0}
IsReady t most (act.Shutdown side how) = Unit {0}
IsReady t most a = ⊥

-- a file that may be cut to nothing
abbrev pub cut_to : Stored → ℕ → Bool → Stored
cut_to h object true = holding h object (File [])
cut_to h object false = h

-- ## Streams, by what their bodies answer

-- of a read, which put these bytes into its place
abbrev pub ending_of_read : PipeAnswer → List ℕ → Bool → ActEnd
ending_of_read (pipe.Data count) bytes nonblock =
    act_end.Reply (reply.Data (take count bytes))
ending_of_read pipe.End bytes nonblock = act_end.Reply (reply.Data [])
ending_of_read _ bytes nonblock = stopped_ending nonblock

-- of a write to a socket, of which all bytes go at once or none
abbrev pub ending_of_write : PipeAnswer → Bool → ActEnd
ending_of_write (pipe.Count count) nonblock = act_end.Reply (reply.Count count)
ending_of_write pipe.Broken nonblock = act_end.Reply (reply.Fail EPIPE)
ending_of_write _ nonblock = stopped_ending nonblock

-- how many bytes a body took
abbrev pub taken_by : PipeAnswer → ℕ
taken_by (pipe.Count count) = count
taken_by answer = 0

-- of a write of a pipe, of so many bytes in all, of which so many went before
abbrev pub ending_of_pipe : Seen → (all before : ℕ) → PipeAnswer → ActEnd
ending_of_pipe to all before (pipe.Count now) =
    let total = before + now in
    if nat_le all total then act_end.Reply (reply.Count total) else end_of (blocked_after to total)
ending_of_pipe to all before pipe.Broken =
    act_end.Reply (if before == 0 then reply.Fail EPIPE else reply.Count before)
ending_of_pipe to all before _ =
    if before == 0 then stopped_ending to.nonblock else end_of (blocked_after to before)

-- ## Changes

-- a new object has nothing in it, whatever was under its number before
abbrev pub emptied : List Kept → ℕ → Content → List Kept
emptied bodies object content =
    slice_set bodies object (keeping content (slice_index_or bodies object first_kept))

-- the bodies after a change: the object that it makes, if any, has nothing in it
abbrev pub cleared : List Kept → Change → List Kept
cleared bodies (change.MakeFile new) = emptied bodies new.object (File [])
cleared bodies (change.MakePipe new) = emptied bodies new.object (Pipe [])
cleared bodies (change.MakeSockets new) = emptied bodies new.object (Pair new_pair)
cleared bodies x = bodies

-- the number of an object that a change makes is one
abbrev pub IsInside : Change → Type 0
IsInside (change.MakeFile new) = new.object < limit.OBJECTS
IsInside (change.MakePipe new) = new.object < limit.OBJECTS
IsInside (change.MakeSockets new) = new.object < limit.OBJECTS
IsInside x = Unit {0}

-- in whatever world they stood for, now they stand for one whose object this makes of it
abbrev pub StandsBy : (State → State) → Stored → Stored → Type 0
StandsBy f old new = (w : World) → Stands old w → Stands new (world_with w (f w.object))

-- a change of a call was made, under the names that the state has
abbrev pub StandsChanged : Stored → Call → Change → Stored → Type 0
StandsChanged old c x new =
    StandsBy (λ s. posix.changed s c (change_by (names_of old.table) x)) old new
