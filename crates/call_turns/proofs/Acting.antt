-- An act that reads or writes an object ends in the store as in the state that it stands for.
use Rattle.std.proofs.Common.{◌≡◌, ℕ, ◌+◌, ◌==◌, nat_le, List, [], length, unwrap_or, Result, Ok, Err, Option, Some}
use Rattle.std.proofs.Common.{None, is_some, Bool, true, false, if◌then◌else◌, refl, sym, ap, ◌∙◌, subst, arith}
use Rattle.std.proofs.lemmas.Bool.{false≢true}
use Rattle.std.specs.FinMap as fin
use Rattle.std.specs.Option.{option_map}
use Rattle.sequential_object.specs.Descriptors as posix
use Rattle.sequential_object.specs.Object as sequential
use Rattle.sequential_object.specs.Object.{State, Content, DoorTo, File, Pair, Pipe, content_of}
use Rattle.sequential_object.specs.Streams.{Breaks, Ends, NoRoom, NothingYet, PairState, Reading, Reads, Writes}
use Rattle.sequential_object.specs.Streams.{Writing}
use Rattle.sequential_object.specs.Worlds.{World}
use Rattle.posix_terms.specs.Calls.{Call}
use Rattle.posix_terms.specs.Ends.{peer_of, side_of}
use Rattle.posix_terms.specs.declared.object.Door.{Door}
use Rattle.posix_terms.specs.declared.object.End.{End}
use Rattle.posix_terms.specs.declared.object.End.TheVariants as part
use Rattle.posix_terms.specs.declared.call.Call.TheVariants as call
use Rattle.file_descriptions.specs.Descriptions.{description_at}
use Rattle.sequential_object.specs.Acts.{Acted, Blocks, Ending, Replies, acted, blocked, blocked_after, concludes}
use Rattle.sequential_object.specs.Acts.{has_read, has_written, holds, pipe_written, read_acted, replies, sought, wrote}
use Rattle.sequential_object.specs.Acts.{write_acted}
use Rattle.sequential_object.specs.Effects.{nothing_moved}
use Rattle.sequential_object.specs.Files.{written}
use Rattle.sequential_object.specs.Acts.{moved_by}
use Rattle.posix_terms.specs.declared.errno.Errno.{Errno}
use Rattle.posix_terms.specs.declared.errno.Errno.TheVariants.{EAGAIN, EPIPE}
use Rattle.posix_terms.specs.declared.reply.Reply.TheVariants as reply
use Rattle.sequential_object.specs.Meant.{description_of, key_of, offset_in}
use Rattle.sequential_object.specs.Renaming.{act_by}
use Rattle.sequential_object.specs.So.{CanAct, IsFile, IsSeen}
use Rattle.sequential_object.specs.declared.decision.Act.{Act}
use Rattle.sequential_object.specs.declared.decision.Act.TheVariants as act
use Rattle.sequential_object.specs.declared.decision.Seen.{Seen}
use Rattle.descriptor_table.specs.Laws.{HasEndsOf, IsThere, TableFollows}
use Rattle.descriptor_table.specs.Shows.{birth_at, birth_of, is_of, same_door}
use Rattle.descriptor_table.specs.Table.{is_open, is_used}
use Rattle.descriptor_table.specs.View.{names_of, view}
use Rattle.call_turns.specs.Acting.{held_by, held_for, offset_of_key, stands_at}
use Rattle.call_turns.specs.Bodies.{Kept, kept_as}
use Rattle.call_turns.specs.Store.{Stands, Stored, kept_at}
use Rattle.call_turns.proofs.Found.{birth_is, known_at}
use Rattle.call_turns.proofs.Putting.{IsAlike, IsKnown}

-- ## What the object of an act holds

is_held : (same : (one other : Door) → same_door one other ≡ true → other ≡ one) (e : End) (c : Content) (k : Kept)
    → is_of e c ≡ true
    → kept_as c k ≡ held_by e k
is_held same part.Only (File bytes) k is = refl
is_held same part.Read (Pipe bytes) k is = refl
is_held same part.Write (Pipe bytes) k is = refl
is_held same (part.Socket side) (Pair p) k is = refl
is_held same (part.Door one) (DoorTo other) k is = ap (λ (d : Door). DoorTo d) (same one other is)
is_held same part.Only (Pipe bytes) k is = absurd (false≢true is)
is_held same part.Only (Pair p) k is = absurd (false≢true is)
is_held same part.Only (DoorTo d) k is = absurd (false≢true is)
is_held same part.Read (File bytes) k is = absurd (false≢true is)
is_held same part.Read (Pair p) k is = absurd (false≢true is)
is_held same part.Read (DoorTo d) k is = absurd (false≢true is)
is_held same part.Write (File bytes) k is = absurd (false≢true is)
is_held same part.Write (Pair p) k is = absurd (false≢true is)
is_held same part.Write (DoorTo d) k is = absurd (false≢true is)
is_held same (part.Socket side) (File bytes) k is = absurd (false≢true is)
is_held same (part.Socket side) (Pipe bytes) k is = absurd (false≢true is)
is_held same (part.Socket side) (DoorTo d) k is = absurd (false≢true is)
is_held same (part.Door one) (File bytes) k is = absurd (false≢true is)
is_held same (part.Door one) (Pipe bytes) k is = absurd (false≢true is)
is_held same (part.Door one) (Pair p) k is = absurd (false≢true is)

some_content : (o : Option Content) → is_some o ≡ true → o ≡ Some (unwrap_or o (File []))
some_content None is = absurd (false≢true is)
some_content (Some c) is = refl

-- an act that reads or writes its object
abbrev pub ReadsOrWrites : Act → Type 0
ReadsOrWrites (act.Open n cut) = ⊥
ReadsOrWrites (act.Create n) = ⊥
ReadsOrWrites act.Release = ⊥
ReadsOrWrites (act.Pipe first second) = ⊥
ReadsOrWrites (act.Socketpair first second) = ⊥
ReadsOrWrites a = Unit {0}

module _ (law : TableFollows) (h : Stored) (w : World) (st : Stands h w) where
  s : State
  s = w.object

  -- the key of an act under the names of the state
  pub key_named : (a : Act) → key_of (act_by (names_of h.table) a) ≡ option_map (birth_of h.table) (key_of a)
  key_named a = grind arith

  module _ (object : ℕ) (used : is_used h.table object ≡ true) where
    -- what the object holds that has this end
    held_is : (e : End) → is_of e (content_of w.object (birth_at h.table object)) ≡ true
        → content_of w.object (birth_at h.table object) ≡ held_by e (kept_at h object)
    held_is e its =
        let at = birth_is h.table object used in
        let got = some_content (fin.get w.object.objects (birth_at h.table object))
        (st.shows.objects object (birth_at h.table object) at) in
        st.contents object (birth_at h.table object) at (content_of w.object (birth_at h.table object)) got
        ∙ is_held law.doors e (content_of w.object (birth_at h.table object)) (kept_at h object) its

    same_end : (which : End) → is_of which (content_of w.object (birth_at h.table object)) ≡ true
        → posix.has_end w.object (birth_at h.table object) which ≡ is_open h.table object which
    same_end which its = law.ends h.table w.object object which st.sound st.described st.shows used its

  there : (at : Seen) → IsSeen (view h.table) at → IsThere h.table at
  there at its = law.seen h.table at st.sound its

  -- the object of a description that was seen
  end_at : (at : Seen) (object : ℕ) → IsSeen (view h.table) at → at.object ≡ object
      → is_of at.«end» (content_of w.object (birth_at h.table object)) ≡ true
  end_at at object its is =
      let known : IsThere h.table at = there at its in
      subst (λ (n : ℕ). is_of at.«end» (content_of w.object (birth_at h.table n)) ≡ true) is
      (known.ends w.object st.shows)

  used_at : (at : Seen) (object : ℕ) → IsSeen (view h.table) at → at.object ≡ object → is_used h.table object ≡ true
  used_at at object its is = let known : IsThere h.table at = there at its in
      subst (λ (n : ℕ). is_used h.table n ≡ true) is known.used

  file_at : (at : Seen) (object : ℕ) → IsFile (view h.table) object at
      → is_of part.Only (content_of w.object (birth_at h.table object)) ≡ true
  file_at at object file = subst (λ (e : End). is_of e (content_of w.object (birth_at h.table object)) ≡ true) file.only
      (end_at at object file.found file.object_is)

  -- its birth
  offset_at : (at : Seen) → IsSeen (view h.table) at
      → offset_in (description_of w.object (Some (birth_of h.table at.key))) ≡ offset_of_key h at.key
  offset_at at its =
      let known : IsThere h.table at = there at its in
      let got : fin.get h.table.descriptions.by_key at.key ≡ Some (description_at h.table.descriptions at.key) =
      known_at h.table.descriptions at.key known.key in
      ap (λ (o : Option sequential.Description). offset_in o)
      (st.shows.descriptions at.key (description_at h.table.descriptions at.key) got)

  -- ## What holds of the object of each act

  pub record Ready (object : ℕ) (a : Act) : Type 0 where
    pub used : is_used h.table object ≡ true
    pub known : IsKnown h.table (key_of a)
    pub content : content_of w.object (birth_at h.table object) ≡ held_for a (kept_at h object)
    pub offset : offset_in (description_of w.object (option_map (birth_of h.table) (key_of a))) ≡ stands_at h (key_of a)

  by_seen : (at : Seen) (object : ℕ) (a : Act) → key_of a ≡ Some at.key → IsSeen (view h.table) at → at.object ≡ object
      → held_by at.«end» (kept_at h object) ≡ held_for a (kept_at h object) → Ready object a
  by_seen at object a key its is same =
      let known : IsThere h.table at = there at its in
      record {
        used = used_at at object its is;
        known = subst (IsKnown h.table) (sym key) known.key;
        content = held_is object (used_at at object its is) at.«end» (end_at at object its is) ∙ same;
        offset =
            ap (λ (k : Option ℕ). offset_in (description_of w.object (option_map (birth_of h.table) k))) key
            ∙ offset_at at its ∙ sym (ap (stands_at h) key);
      }

  by_file : (at : Seen) (object : ℕ) (a : Act) → key_of a ≡ None → IsFile (view h.table) object at
      → held_for a (kept_at h object) ≡ File (kept_at h object).file → Ready object a
  by_file at object a key file same =
      record {
        used = used_at at object file.found file.object_is;
        known = subst (IsKnown h.table) (sym key) tt;
        content = held_is object (used_at at object file.found file.object_is) part.Only (file_at at object file)
            ∙ sym same;
        offset =
            ap (λ (k : Option ℕ). offset_in (description_of w.object (option_map (birth_of h.table) k))) key
            ∙ sym (ap (stands_at h) key);
      }

  pub ready : (c : Call) (object : ℕ) (a : Act) → ReadsOrWrites a → CanAct (view h.table) c object a → Ready object a
  ready c object (act.Read from count) its can =
      by_seen from object (act.Read from count) refl can.0.found can.0.object_is refl
  ready c object (act.Write to before) its can =
      by_seen to object (act.Write to before) refl can.found can.object_is refl
  ready c object (act.Pread count position) its can = by_file can.0.at object (act.Pread count position) refl can.0.file
      refl
  ready c object (act.Pwrite position) its can = by_file can.at object (act.Pwrite position) refl can.file refl
  ready c object (act.Lseek at) its can = by_seen at object (act.Lseek at) refl can.found can.object_is
      (ap (λ (e : End). held_by e (kept_at h object)) can.only)
  ready c object (act.Ftruncate size) its can = by_file can.0.at object (act.Ftruncate size) refl can.0.file refl
  ready c object (act.Fstat links) its can = by_file can.at object (act.Fstat links) refl can.file refl
  ready c object (act.Shutdown side how) its can =
      let used = used_at can.at object can.found can.object_is in
      record {
        used = used;
        known = tt;
        content =
            held_is object used (part.Socket side)
            (subst (λ (e : End). is_of e (content_of w.object (birth_at h.table object)) ≡ true) can.socket
            (end_at can.at object can.found can.object_is));
        offset = refl;
      }
  ready c object (act.Open n cut) its can = absurd its
  ready c object (act.Create n) its can = absurd its
  ready c object act.Release its can = absurd its
  ready c object (act.Pipe first second) its can = absurd its
  ready c object (act.Socketpair first second) its can = absurd its

  -- ## It does the same

  Open : ℕ → End → Bool
  Open object which = is_open h.table object which

  pub acts_alike : (c : Call) (object : ℕ) (a : Act) (offset : ℕ) → ReadsOrWrites a → is_used h.table object ≡ true
      → acted (posix.has_end w.object (birth_at h.table object)) (act_by (names_of h.table) a) c
      (content_of w.object (birth_at h.table object)) offset
      ≡ acted (is_open h.table object) a c (content_of w.object (birth_at h.table object)) offset
  acts_alike c object (act.Read from count) offset its used = by_content (content_of w.object (birth_at h.table object))
      refl
    where
      by_content : (content : Content) → content_of w.object (birth_at h.table object) ≡ content
          → acted (posix.has_end w.object (birth_at h.table object)) (act_by (names_of h.table) (act.Read from count)) c
          content offset
          ≡ acted (is_open h.table object) (act.Read from count) c content offset
      by_content (File file) is = refl
      by_content (Pipe waiting) is = rw (same_end object used part.Write (ap (is_of part.Write) is)) grind arith
      by_content (Pair p) is =
          let peer = part.Socket (peer_of (side_of from.«end»)) in
          rw (same_end object used peer (ap (is_of peer) is)) grind arith
      by_content (DoorTo door) is = refl
  acts_alike c object (act.Write to before) offset its used = by_content (content_of w.object (birth_at h.table object))
      refl
    where
      by_content : (content : Content) → content_of w.object (birth_at h.table object) ≡ content
          → acted (posix.has_end w.object (birth_at h.table object)) (act_by (names_of h.table) (act.Write to before)) c
          content offset
          ≡ acted (is_open h.table object) (act.Write to before) c content offset
      by_content (File file) is = grind arith
      by_content (Pipe waiting) is =
          let readers = same_end object used part.Read (ap (is_of part.Read) is) in
          grind (arith, readers)
      by_content (Pair p) is =
          let peer = part.Socket (peer_of (side_of to.«end»)) in
          let others = same_end object used peer (ap (is_of peer) is) in
          grind (arith, others)
      by_content (DoorTo door) is = grind arith
  acts_alike c object (act.Pread count position) offset its used = grind arith
  acts_alike c object (act.Pwrite position) offset its used = grind arith
  acts_alike c object (act.Lseek at) offset its used = grind arith
  acts_alike c object (act.Ftruncate size) offset its used = grind arith
  acts_alike c object (act.Fstat links) offset its used = grind arith
  acts_alike c object (act.Shutdown side how) offset its used = grind arith
  acts_alike c object (act.Open n cut) offset its used = absurd its
  acts_alike c object (act.Create n) offset its used = absurd its
  acts_alike c object act.Release offset its used = absurd its
  acts_alike c object (act.Pipe first second) offset its used = absurd its
  acts_alike c object (act.Socketpair first second) offset its used = absurd its
  -- ## Its content stays of one kind, and a failure changes nothing

-- of one kind
pub alike_file : (bytes other : List ℕ) → HasEndsOf (File bytes) (File other)
alike_file bytes other which its = grind (arith, its)

alike_pipe : (bytes other : List ℕ) → HasEndsOf (Pipe bytes) (Pipe other)
alike_pipe bytes other which its = grind (arith, its)

alike_pair : (p other : PairState) → HasEndsOf (Pair p) (Pair other)
alike_pair p other which its = grind (arith, its)

-- it fails, and leaves all as it is
abbrev pub FailsAlone : Acted → Type 0
FailsAlone done = (e : Errno) → done.ending ≡ Replies (reply.Fail e) → (done.content ≡ None) × (done.offset ≡ None)

-- what holds of what each act makes of each content that it finds
abbrev pub IsTame : Content → Acted → Type 0
IsTame content done = IsAlike done.content content × FailsAlone done

tame_concludes : (ending : Ending) (content : Content) → IsTame content (concludes ending)
tame_concludes ending content = (tt, λ e is. (refl, refl))

tame_blocked : (at : Seen) (content : Content) → IsTame content (blocked at)
tame_blocked at content = by_flag at.nonblock
  where
    by_flag : (b : Bool) → IsTame content (if b then replies (reply.Fail EAGAIN) else concludes (Blocks nothing_moved))
    by_flag true = tame_concludes (Replies (reply.Fail EAGAIN)) content
    by_flag false = tame_concludes (Blocks nothing_moved) content

tame_holds : (ending : Ending) (new content : Content) → HasEndsOf new content
    → ((e : Errno) → ending ≡ Replies (reply.Fail e) → ⊥) → IsTame content (holds ending new)
tame_holds ending new content alike goes_on = (alike, λ e is. absurd (goes_on e is))

tame_read : (from : Seen) (left : List ℕ → Content) (r : Reading) (content : Content)
    → ((bytes : List ℕ) → HasEndsOf (left bytes) content) → IsTame content (has_read from left r)
tame_read from left (Reads bytes rest) content alike = tame_holds (Replies (reply.Data bytes)) (left rest) content
    (alike rest) (λ e is. cc)
tame_read from left Ends content alike = tame_concludes (Replies (reply.Data [])) content
tame_read from left NothingYet content alike = tame_blocked from content

tame_written : (to : Seen) (left : List ℕ → Content) (count : ℕ) (r : Writing) (content : Content)
    → ((bytes : List ℕ) → HasEndsOf (left bytes) content) → IsTame content (has_written to left count r)
tame_written to left count (Writes rest) content alike = tame_holds (Replies (reply.Count count)) (left rest) content
    (alike rest) (λ e is. cc)
tame_written to left count Breaks content alike = tame_concludes (Replies (reply.Fail EPIPE)) content
tame_written to left count NoRoom content alike = tame_blocked to content

tame_pipe : (to : Seen) (all before now : ℕ) (r : Writing) (waiting : List ℕ)
    → IsTame (Pipe waiting) (pipe_written to all before now r)
tame_pipe to all before now (Writes rest) waiting = by_tests (nat_le all (before + now)) to.nonblock
  where
    by_tests : (b n : Bool) → IsTame (Pipe waiting)
        (holds (if b then Replies (reply.Count (before + now)) else if n then Replies (reply.Count (before + now))
        else Blocks (moved_by to.birth (before + now))) (Pipe rest))
    by_tests true n = tame_holds (Replies (reply.Count (before + now))) (Pipe rest) (Pipe waiting)
        (alike_pipe rest waiting) (λ e is. cc)
    by_tests false true = tame_holds (Replies (reply.Count (before + now))) (Pipe rest) (Pipe waiting)
        (alike_pipe rest waiting) (λ e is. cc)
    by_tests false false = tame_holds (Blocks (moved_by to.birth (before + now))) (Pipe rest) (Pipe waiting)
        (alike_pipe rest waiting) (λ e is. cc)
tame_pipe to all before now Breaks waiting = tame_concludes _ (Pipe waiting)
tame_pipe to all before now NoRoom waiting = by_test (before == 0)
  where
    by_test : (b : Bool) → IsTame (Pipe waiting) (if b then blocked to else concludes (blocked_after to before))
    by_test true = tame_blocked to (Pipe waiting)
    by_test false = tame_concludes (blocked_after to before) (Pipe waiting)

tame_wrote : (r : Result (List ℕ × ℕ) Errno) (to : ℕ → Option ℕ) (file : List ℕ) → IsTame (File file) (wrote r to)
tame_wrote (Ok w) to file = (alike_file w.0 file, λ e is. cc)
tame_wrote (Err e) to file = tame_concludes (Replies (reply.Fail e)) (File file)

tame_write : (none : Bool) (done : Acted) (content : Content) → IsTame content done
    → IsTame content (if none then replies (reply.Count 0) else done)
tame_write true done content tame = tame_concludes (Replies (reply.Count 0)) content
tame_write false done content tame = tame

tame_sought : (r : Result ℕ Errno) (content : Content) → IsTame content (sought r)
tame_sought (Ok to) content = (tt, λ e is. cc)
tame_sought (Err e) content = tame_concludes (Replies (reply.Fail e)) content

done_tame : (content : Content) → IsTame content (replies reply.Done)
done_tame content = tame_concludes (Replies reply.Done) content

read_tame : (has_end : End → Bool) (from : Seen) (count : ℕ) (content : Content) (offset : ℕ)
    → IsTame content (read_acted has_end from count content offset)
read_tame has_end from count (File file) offset = (tt, λ e is. cc)
read_tame has_end from count (Pipe waiting) offset =
    tame_read from Pipe _ (Pipe waiting) (λ bytes. alike_pipe bytes waiting)
read_tame has_end from count (Pair p) offset = tame_read from _ _ (Pair p) (λ bytes. alike_pair _ p)
read_tame has_end from count (DoorTo door) offset = done_tame (DoorTo door)

write_tame : (has_end : End → Bool) (to : Seen) (bytes : List ℕ) (before : ℕ) (content : Content) (offset : ℕ)
    → IsTame content (write_acted has_end to bytes before content offset)
write_tame has_end to bytes before (File file) offset =
    tame_write (length bytes == 0) _ (File file)
    (tame_wrote (written file (if to.append then length file else offset) bytes) _ file)
write_tame has_end to bytes before (Pipe waiting) offset = tame_pipe to (length bytes) before _ _ waiting
write_tame has_end to bytes before (Pair p) offset =
    tame_written to _ (length bytes) _ (Pair p) (λ rest. alike_pair _ p)
write_tame has_end to bytes before (DoorTo door) offset = done_tame (DoorTo door)

pub acts_tame : (has_end : End → Bool) (a : Act) (c : Call) (content : Content) (offset : ℕ) → ReadsOrWrites a
    → IsTame content (acted has_end a c content offset)
acts_tame has_end (act.Read from count) c content offset its = read_tame has_end from count content offset
acts_tame has_end (act.Write to before) (call.Write descriptor bytes) content offset its =
    write_tame has_end to bytes before content offset
acts_tame has_end (act.Write to before) c content offset its = done_tame content
acts_tame has_end (act.Pread count position) c (File file) offset its = tame_concludes _ (File file)
acts_tame has_end (act.Pread count position) c content offset its = done_tame content
acts_tame has_end (act.Pwrite start) (call.Pwrite descriptor bytes position) (File file) offset its =
    tame_write (length bytes == 0) _ (File file) (tame_wrote (written file start bytes) _ file)
acts_tame has_end (act.Pwrite start) c content offset its = done_tame content
acts_tame has_end (act.Lseek at) (call.Lseek descriptor to whence) (File file) offset its = tame_sought _ (File file)
acts_tame has_end (act.Lseek at) c content offset its = done_tame content
acts_tame has_end (act.Ftruncate size) c (File file) offset its =
    tame_holds (Replies reply.Done) _ (File file) (alike_file _ file) (λ e is. cc)
acts_tame has_end (act.Ftruncate size) c content offset its = done_tame content
acts_tame has_end (act.Fstat links) c (File file) offset its = tame_concludes _ (File file)
acts_tame has_end (act.Fstat links) c content offset its = done_tame content
acts_tame has_end (act.Shutdown side how) c (Pair p) offset its =
    tame_holds (Replies reply.Done) _ (Pair p) (alike_pair _ p) (λ e is. cc)
acts_tame has_end (act.Shutdown side how) c content offset its = done_tame content
acts_tame has_end (act.Open n cut) c content offset its = absurd its
acts_tame has_end (act.Create n) c content offset its = absurd its
acts_tame has_end act.Release c content offset its = absurd its
acts_tame has_end (act.Pipe first second) c content offset its = absurd its
acts_tame has_end (act.Socketpair first second) c content offset its = absurd its
