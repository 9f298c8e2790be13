-- A turn of a write at which it is blocked: there is no room for it from then on.
use Rattle.std.proofs.Common.{◌≡◌, ◌⊎◌, inl, inr, ◌∙◌, ap, sym, refl, arith, ◌==◌, ◌+◌, ◌-◌, ◌++◌, ◌≤◌, ◌<◌}
use Rattle.std.proofs.Common.{ℕ, zero, suc, ℤ, pos, negsuc, List, length, take, drop, Bool, true, false, ◌&&◌}
use Rattle.std.proofs.Common.{Result, Ok, Err, Option, Some, None, if◌then◌else◌, subst}
use Rattle.std.proofs.lemmas.Bool.{true≢false, false≢true}
use Rattle.std.proofs.lemmas.Bool.Decides.{nat_tests}
use Rattle.std.proofs.lemmas.List.{length-append, length-drop, length-take}
use Rattle.std.specs.FinMap as map
use Rattle.std.specs.Prelude.{IfOk, nat_le}
use Rattle.posix_terms.specs.Ends.{peer_of, side_of}
use Rattle.posix_terms.specs.declared.call.Call.TheVariants as call
use Rattle.posix_terms.specs.declared.carried.Moved.{Moved}
use Rattle.posix_terms.specs.declared.errno.Errno.{Errno}
use Rattle.posix_terms.specs.declared.errno.Errno.TheVariants.{EAGAIN, EPIPE}
use Rattle.posix_terms.specs.declared.limits.TheConstants.Limits as limit
use Rattle.posix_terms.specs.declared.object.End.{End}
use Rattle.posix_terms.specs.declared.object.Side.{Side}
use Rattle.posix_terms.specs.declared.object.End.TheVariants as part
use Rattle.posix_terms.specs.declared.reply.Reply.TheVariants as reply
use Rattle.sequential_object.specs.Acts.{Acted, Ending, Replies, blocked, blocked_after, concludes, has_written}
use Rattle.sequential_object.specs.Acts.{moved_by}
use Rattle.sequential_object.specs.Acts.{pipe_written, replies, write_acted, write_file, write_pipe}
use Rattle.sequential_object.specs.Acts as ending
use Rattle.sequential_object.specs.Deciding.{locks}
use Rattle.sequential_object.specs.Descriptors.{described, has_end}
use Rattle.sequential_object.specs.Effects.{Blocks, Effect, nothing_moved}
use Rattle.sequential_object.specs.Meant.{acts, description_of, ended, meant, offset_in, put, seen, seen_of}
use Rattle.sequential_object.specs.Object.{Content, Description, DoorTo, File, Pair, Pipe, State, content_of}
use Rattle.sequential_object.specs.Object.{with_content}
use Rattle.sequential_object.specs.Streams.{Breaks, NoRoom, PairState, Writes, Writing, bytes_put, pair_write}
use Rattle.sequential_object.specs.Streams.{pipe_write}
use Rattle.sequential_object.specs.Streams.{with_waiting}
use Rattle.sequential_object.specs.Transfers.{first_write, goes_on, is_from, is_pipe, write_decided}
use Rattle.sequential_object.specs.Waiting.{EndsMatch, HasEnd}
use Rattle.sequential_object.specs.declared.decision.Act.TheVariants as act
use Rattle.sequential_object.specs.declared.decision.Change.TheVariants as change
use Rattle.sequential_object.specs.declared.decision.Decision.{Decision}
use Rattle.sequential_object.specs.declared.decision.Decision.TheVariants as decision
use Rattle.sequential_object.specs.declared.decision.Deed.TheVariants as deed
use Rattle.sequential_object.specs.declared.decision.Seen.{Seen}
use Rattle.deadlocks.proofs.Writes.{Grows, HasNoRoom, IsFull, content_after, found_kept, tied_same}

-- what a blocked turn of a write leaves
abbrev pub IsLeft : State → ℤ → List ℕ → State → Moved → Type 0
IsLeft s descriptor bytes after moved =
    IsFull after descriptor bytes moved × ((after ≡ s) ⊎ Grows s after)

-- what is decided of a write that moved so much before
abbrev pub IsOfWrite : State → ℤ → (count : ℕ) → Moved → Decision → Type 0
IsOfWrite s descriptor count moved (decision.Locks object (deed.Acts a x)) =
    (key : ℕ) × (d : Description) × (described s descriptor ≡ Ok (key, d))
    × (decision.Locks object (deed.Acts a x)
    ≡ locks (seen_of s descriptor (key, d)) (act.Write (seen_of s descriptor (key, d)) moved.bytes))
    × (moved.bytes ≡ 0 → first_write (seen s) descriptor count
    ≡ Ok (locks (seen_of s descriptor (key, d)) (act.Write (seen_of s descriptor (key, d)) 0)))
    × (0 < moved.bytes → is_pipe d.«end» ≡ true)
IsOfWrite s descriptor count moved (decision.Locks object (deed.Closes n key)) = ⊥
IsOfWrite s descriptor count moved (decision.Locks object (deed.Opens blocks listener new)) = ⊥
IsOfWrite s descriptor count moved other = Unit {0}

of_first : (s : State) (descriptor : ℤ) (count : ℕ) (moved : Moved) (key : ℕ) (d : Description)
    → described s descriptor ≡ Ok (key, d) → moved.bytes ≡ 0
    → (r : Result Decision Errno) → first_write (seen s) descriptor count ≡ r
    → IfOk r (IsOfWrite s descriptor count moved)
unfolding seen
of_first s descriptor count moved key d found none (Err e) is = tt
of_first s descriptor count moved key d found none (Ok (decision.Replies r x)) is = tt
of_first s descriptor count moved key d found none (Ok (decision.Locks object (deed.Asks blocks))) is = tt
of_first s descriptor count moved key d found none (Ok (decision.Locks object (deed.Closes n k))) is =
    absurd (grind (arith, found, is))
of_first s descriptor count moved key d found none (Ok (decision.Locks object (deed.Opens b l new))) is =
    absurd (grind (arith, found, is))
of_first s descriptor count moved key d found none (Ok (decision.Locks object (deed.Acts a x))) is =
    let same : decision.Locks object (deed.Acts a x)
    ≡ locks (seen_of s descriptor (key, d)) (act.Write (seen_of s descriptor (key, d)) 0) =
    grind (arith, found, is) in (
      key,
      d,
      found,
      same ∙ ap (λ n. locks (seen_of s descriptor (key, d)) (act.Write (seen_of s descriptor (key, d)) n)) (sym none),
      λ unmoved. is ∙ ap (λ (decided : Decision). Ok decided) same,
      λ some. absurd (grind (arith, none, some)),
    )

of_further : (s : State) (descriptor : ℤ) (count : ℕ) (moved : Moved) (key : ℕ) (d : Description)
    → described s descriptor ≡ Ok (key, d) → 0 < moved.bytes
    → (b : Bool) → (is_from moved key && is_pipe d.«end») ≡ b
    → IsOfWrite s descriptor count moved (if b then locks (seen_of s descriptor (key, d)) (act.Write
    (seen_of s descriptor (key, d)) moved.bytes)
    else decision.Replies (reply.Count moved.bytes) change.Nothing)
of_further s descriptor count moved key d found some true is = (
  key,
  d,
  found,
  refl,
  λ none. absurd (grind (arith, none, some)),
  λ again. second (is_from moved key)
      (is_pipe d.«end») is,
)
  where
    second : (a b : Bool) → (a && b) ≡ true → b ≡ true
    second true b is = is
    second false b is = absurd (false≢true is)
of_further s descriptor count moved key d found some false is = tt

pub of_write : (s : State) (descriptor : ℤ) (count : ℕ) (moved : Moved)
    → IfOk (write_decided (seen s) descriptor count moved) (IsOfWrite s descriptor count moved)
unfolding write_decided seen
of_write s descriptor count moved = by_test (moved.bytes == 0) refl (described s descriptor) refl
  where
    by_test : (b : Bool) → (moved.bytes == 0) ≡ b → (r : Result (ℕ × Description) Errno) → described s descriptor ≡ r
        → IfOk (if b then first_write (seen s) descriptor count
        else Ok (goes_on moved (let v = seen s in v.described descriptor))) (IsOfWrite s descriptor count moved)
    by_test true is (Err e) missing = rw missing tt
    by_test true is (Ok (key, d)) found =
        of_first s descriptor count moved key d found (grind (arith, nat_tests, is)) (first_write
        (seen s) descriptor count) refl
    by_test false is (Err e) missing = rw missing tt
    by_test false is (Ok (key, d)) found = rw found
        (of_further s descriptor count moved key d found (grind (arith, nat_tests, is))
        (is_from moved key && is_pipe d.«end») refl)

-- ## What the turn leaves

-- the description of a descriptor is there
described_there : (s : State) (descriptor : ℤ) (key : ℕ) (d : Description)
    → described s descriptor ≡ Ok (key, d) → map.get s.descriptions key ≡ Some d
described_there s (pos n) key d found = by_key (map.get s.descriptors n) refl found
  where
    by_key : (k : Option ℕ) → map.get s.descriptors n ≡ k → described s (pos n) ≡ Ok (key, d)
        → map.get s.descriptions key ≡ Some d
    by_key None is found = absurd (grind (arith, is, found))
    by_key (Some k) is found = by_description (map.get s.descriptions k) refl
      where
        by_description : (r : Option Description) → map.get s.descriptions k ≡ r → map.get s.descriptions key ≡ Some d
        by_description None there = absurd (grind (arith, is, there, found))
        by_description (Some other) there = grind (arith, is, there, found)
described_there s (negsuc n) key d found = absurd (cc found)

pipe_end : (which : End) → ((which ≡ part.Read) ⊎ (which ≡ part.Write)) → is_pipe which ≡ true
pipe_end which (inl is) = rw is refl
pipe_end which (inr is) = rw is refl

no_pipe : (which : End) → (side : Side) × (which ≡ part.Socket side) → is_pipe which ≡ false
no_pipe which (side, is) = rw is refl

by_bytes_of : (key n : ℕ) → moved_by key n ≡ moved_by key (let m = moved_by key n in m.bytes)
by_bytes_of key zero = refl
by_bytes_of key (suc n) = refl

bytes_of : (key n : ℕ) → (let m = moved_by key n in m.bytes) ≡ n
bytes_of key zero = refl
bytes_of key (suc n) = refl

-- a full pipe has no room for a write in parts
no_room_left : (left : List ℕ) (before : ℕ) (is_open : End → Bool) (which : End) (bytes : List ℕ)
    → is_open part.Read ≡ true → nat_le (length bytes) limit.PIPE_BUF ≡ false → limit.PIPE_BYTES ≤ length left
    → HasNoRoom is_open which bytes before (Pipe left)
no_room_left left before is_open which bytes readers parts full =
    let none : nat_le limit.PIPE_BYTES (length left) ≡ true = grind (arith, nat_tests, full) in
    rw (parts, readers, none) refl

content_there : (s : State) (object : ℕ) (x : Content) → content_of (with_content s object x) object ≡ x
content_there s object x = content_after s object x object ∙ rw (tied_same object) refl

module _ (s : State) (descriptor : ℤ) (bytes : List ℕ) (moved : Moved) (after : State) (next : Moved)
    (key : ℕ) (d : Description) (found : described s descriptor ≡ Ok (key, d))
    (begins : moved.bytes ≡ 0 → first_write (seen s) descriptor (length bytes)
    ≡ Ok (locks (seen_of s descriptor (key, d)) (act.Write (seen_of s descriptor (key, d)) 0)))
    (goes : 0 < moved.bytes → is_pipe d.«end» ≡ true)
    (ends : HasEnd (content_of s d.object) d.«end») where
  abbrev to : Seen
  to = seen_of s descriptor (key, d)

  abbrev before : ℕ
  before = moved.bytes

  abbrev ended_with : Acted → Result Effect Errno
  ended_with done = ended (put s d.object (act.Write to before) done) done.ending

  abbrev Turn : Result Effect Errno → Type 0
  Turn r = r ≡ Ok (Blocks after next) → IsLeft s descriptor bytes after next

  -- it blocks where it stands, with what it had moved
  stands : (m : Moved) → d.nonblock ≡ false → m ≡ moved_by key before
      → HasNoRoom (has_end s d.object) d.«end» bytes before (content_of s d.object)
      → Turn (Ok (Blocks s m))
  stands m waits is none same =
      let after_is : after ≡ s = grind (arith, same) in
      let next_is : next ≡ moved_by key before = grind (arith, same) ∙ is in
      let count_is : next.bytes ≡ before = ap (λ (m : Moved). m.bytes) next_is ∙ bytes_of key before in (
        subst (λ t. IsFull t descriptor bytes next) (sym after_is)
            (record {
              key = key;
              description = d;
              found = found;
              waits = waits;
              begins = λ unmoved. begins (sym count_is ∙ unmoved);
              goes = λ some. goes (grind (arith, count_is, some));
              counted = next_is ∙ ap (moved_by key) (sym count_is);
              full = subst (λ n. HasNoRoom (has_end s d.object) d.«end» bytes n (content_of s d.object))
                  (sym count_is) none;
            }),
        inl after_is,
      )

  -- it was blocked before a byte moved
  at_once : before ≡ 0 → HasNoRoom (has_end s d.object) d.«end» bytes before (content_of s d.object)
      → Turn (ended_with (blocked to))
  at_once unmoved none = by_flag d.nonblock refl
    where
      by_flag : (b : Bool) → d.nonblock ≡ b
          → Turn (ended_with (if b then replies (reply.Fail EAGAIN) else concludes (ending.Blocks nothing_moved)))
      by_flag true is = λ same. cc
      by_flag false is = stands nothing_moved is (ap (moved_by key) (sym unmoved)) none

  -- ## A file, a pair, a pipe

  of_file : (file : List ℕ) (offset : ℕ) → Turn (ended_with (write_file to bytes file offset))
  of_file file offset = λ same. absurd (grind (arith, same))

  of_pair : (p : PairState) → content_of s d.object ≡ Pair p → (w : Writing)
      → pair_write p (side_of d.«end») bytes (has_end s d.object (part.Socket (peer_of (side_of d.«end»)))) ≡ w
      → Turn (ended_with (has_written to (λ left. Pair (with_waiting p (peer_of (side_of d.«end»)) left))
      (length bytes) w))
  of_pair p is (Writes left) w = λ same. cc
  of_pair p is Breaks w = λ same. cc
  of_pair p is NoRoom w =
      at_once (none_before before refl)
      (subst (HasNoRoom (has_end s d.object) d.«end» bytes before) (sym is) (none_before before refl, w))
    where
      none_before : (n : ℕ) → before ≡ n → before ≡ 0
      none_before zero is = is
      none_before (suc n) more =
          absurd (true≢false (sym (goes (grind (arith, more)))
          ∙ no_pipe d.«end» (subst (λ x. HasEnd x d.«end») is ends)))

  -- the bytes that go into a pipe fill it, where others are left
  fills : (waiting left : List ℕ) (whole readers : Bool)
      → pipe_write waiting (drop before bytes) whole readers ≡ Writes left
      → nat_le (length bytes) (before + length (bytes_put limit.PIPE_BYTES waiting (drop before bytes) whole)) ≡ false
      → (readers ≡ true) × (whole ≡ false) × (length waiting < length left) × (limit.PIPE_BYTES ≤ length left)
      × (0 < length (bytes_put limit.PIPE_BYTES waiting (drop before bytes) whole))
  fills waiting left true false writes less = absurd (cc writes)
  fills waiting left true true writes less =
      let dropped = length-drop before bytes in absurd (grind (arith, nat_tests, dropped, less))
  fills waiting left false false writes less = absurd (cc writes)
  fills waiting left false true writes less = by_room (nat_le limit.PIPE_BYTES (length waiting)) refl writes
    where
      by_room : (b : Bool) → nat_le limit.PIPE_BYTES (length waiting) ≡ b
          → (if b then NoRoom else Writes (waiting ++ take (limit.PIPE_BYTES - length waiting) (drop before bytes)))
          ≡ Writes left
          → (true ≡ true) × (false ≡ false) × (length waiting < length left) × (limit.PIPE_BYTES ≤ length left)
          × (0 < length (take (limit.PIPE_BYTES - length waiting) (drop before bytes)))
      by_room true is writes = absurd (cc writes)
      by_room false is writes =
          let left_is : waiting ++ take (limit.PIPE_BYTES - length waiting) (drop before bytes)
          ≡ left = grind (arith, writes) in
          let long = length-append waiting (take (limit.PIPE_BYTES - length waiting) (drop before bytes)) in
          let taken = length-take (limit.PIPE_BYTES - length waiting) (drop before bytes) in
          let dropped = length-drop before bytes in
          let same = ap (λ (l : List ℕ). length l) left_is in (
            refl,
            refl,
            grind (arith, nat_tests, is, long, taken, dropped, same, less),
            grind (arith, nat_tests, is, long, taken, dropped, same, less),
            grind (arith, nat_tests, is, taken, dropped, less),
          )

  -- the pipe is full from now on
  module _ (waiting : List ℕ) (was : content_of s d.object ≡ Pipe waiting) where
    in_pipe : is_pipe d.«end» ≡ true
    in_pipe = pipe_end d.«end» (subst (λ x. HasEnd x d.«end») was ends)

    abbrev whole : Bool
    whole = nat_le (length bytes) limit.PIPE_BUF

    abbrev readers : Bool
    readers = has_end s d.object part.Read

    abbrev writing : Writing
    writing = pipe_write waiting (drop before bytes) whole readers

    abbrev now : ℕ
    now = length (bytes_put limit.PIPE_BYTES waiting (drop before bytes) whole)

    -- some of its bytes went, and others are left
    in_part : (left : List ℕ) → writing ≡ Writes left → nat_le (length bytes) (before + now) ≡ false
        → d.nonblock ≡ false
        → Turn (Ok (Blocks (with_content s d.object (Pipe left)) (moved_by key (before + now))))
    in_part left writes less waits same =
        let filled = fills waiting left whole readers writes less in
        let after_is : after ≡ with_content s d.object (Pipe left) = grind (arith, same) in
        let next_is : next ≡ moved_by key (before + now) = grind (arith, same) in
        let count_is : next.bytes ≡ before + now = ap (λ (m : Moved). m.bytes) next_is ∙ bytes_of key (before + now) in
        let some : 0 < next.bytes = grind (arith, count_is, filled.4) in (
          subst (λ t. IsFull t descriptor bytes next) (sym after_is)
              (record {
                key = key;
                description = d;
                found = found_kept s d.object (Pipe left) descriptor ∙ found;
                waits = waits;
                begins = λ unmoved. absurd (grind (arith, unmoved, some));
                goes = λ more. in_pipe;
                counted = next_is ∙ ap (moved_by key) (sym count_is);
                full = subst (HasNoRoom (has_end s d.object) d.«end» bytes next.bytes)
                    (sym (content_there s d.object (Pipe left)))
                    (no_room_left left next.bytes (has_end s d.object) d.«end» bytes filled.0 filled.1 filled.3);
              }),
          inr (record {
            object = d.object;
            waiting = waiting;
            left = left;
            was = was;
            more = grind (arith, filled.2);
            after_is = after_is;
          }),
        )

    none_left : writing ≡ NoRoom → HasNoRoom (has_end s d.object) d.«end» bytes before (content_of s d.object)
    none_left none = subst (HasNoRoom (has_end s d.object) d.«end» bytes before) (sym was) none

    of_pipe : (w : Writing) → writing ≡ w → Turn (ended_with (pipe_written to (length bytes) before now w))
    of_pipe (Writes left) w = by_all (nat_le (length bytes) (before + now)) refl
      where
        by_flag : nat_le (length bytes) (before + now) ≡ false → (b : Bool) → d.nonblock ≡ b
            → Turn (ended (with_content s d.object (Pipe left))
            (if b then Replies (reply.Count (before + now)) else ending.Blocks (moved_by key (before + now))))
        by_flag less true is = λ same. cc
        by_flag less false is = in_part left w less is

        by_all : (b : Bool) → nat_le (length bytes) (before + now) ≡ b
            → Turn (ended (with_content s d.object (Pipe left))
            (if b then Replies (reply.Count (before + now)) else blocked_after to (before + now)))
        by_all true is = λ same. cc
        by_all false is = by_flag is d.nonblock refl
    of_pipe Breaks w = by_none (before == 0)
      where
        by_none : (b : Bool)
            → Turn (ended_with (replies (if b then reply.Fail EPIPE else reply.Count before)))
        by_none true = λ same. cc
        by_none false = λ same. cc
    of_pipe NoRoom w = by_none (before == 0) refl
      where
        by_flag : (b : Bool) → d.nonblock ≡ b
            → Turn (ended s (if b then Replies (reply.Count before) else ending.Blocks (moved_by key before)))
        by_flag true is = λ same. cc
        by_flag false is = stands (moved_by key before) is refl (none_left w)

        by_none : (b : Bool) → (before == 0) ≡ b
            → Turn (ended_with (if b then blocked to else concludes (blocked_after to before)))
        by_none true is = at_once (grind (arith, nat_tests, is)) (none_left w)
        by_none false is = by_flag d.nonblock refl

  of_content : (offset : ℕ) (x : Content) → content_of s d.object ≡ x
      → Turn (ended_with (write_acted (has_end s d.object) to bytes before x offset))
  of_content offset (File file) is = of_file file offset
  of_content offset (Pipe waiting) is =
      of_pipe waiting is (pipe_write waiting (drop before bytes) (nat_le (length bytes) limit.PIPE_BUF)
      (has_end s d.object part.Read)) refl
  of_content offset (Pair p) is =
      of_pair p is (pair_write p (side_of d.«end») bytes (has_end s d.object (part.Socket (peer_of
      (side_of d.«end»))))) refl
  of_content offset (DoorTo door) is = λ same. cc

  pub of_act : Turn (acts s d.object (act.Write to before) (call.Write descriptor bytes))
  of_act = of_content (offset_in (description_of s (Some key))) (content_of s d.object) refl

-- a turn of a write at which it is blocked
pub blocked_write : (s : State) (descriptor : ℤ) (bytes : List ℕ) (moved : Moved) (after : State) (next : Moved)
    → EndsMatch s → (r : Result Decision Errno) → IfOk r (IsOfWrite s descriptor (length bytes) moved)
    → meant s (call.Write descriptor bytes) r ≡ Ok (Blocks after next)
    → IsLeft s descriptor bytes after next
blocked_write s descriptor bytes moved after next ends (Err e) of is = cc
blocked_write s descriptor bytes moved after next ends (Ok (decision.Replies r x)) of is = cc
blocked_write s descriptor bytes moved after next ends (Ok (decision.Locks object (deed.Asks blocks))) of is = cc
blocked_write s descriptor bytes moved after next ends (Ok (decision.Locks object (deed.Closes n key))) of is =
    absurd of
blocked_write s descriptor bytes moved after next ends (Ok (decision.Locks object (deed.Opens b l new))) of is =
    absurd of
blocked_write s descriptor bytes moved after next ends (Ok (decision.Locks object (deed.Acts a x)))
    (key, d, found, decided_is, begins, goes) is =
    of_act s descriptor bytes moved after next key d found begins goes
    (ends key d (described_there s descriptor key d found))
    (sym (ap (λ (decided : Decision). meant s (call.Write descriptor bytes) (Ok decided)) decided_is) ∙ is)
