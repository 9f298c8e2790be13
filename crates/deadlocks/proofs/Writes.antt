-- What a write that is blocked leaves: no room for it, and none for those that were blocked before.
use Rattle.std.proofs.Common.{◌≡◌, ◌∙◌, ap, sym, refl, arith, ◌==◌, ◌+◌, ◌-◌, ◌++◌, ◌≤◌, ◌<◌}
use Rattle.std.proofs.Common.{ℕ, zero, suc, ℤ, pos, negsuc, List, [], length, take, drop, Bool, true, false}
use Rattle.std.proofs.Common.{Result, Ok, Some, if◌then◌else◌, subst, cond}
use Rattle.std.proofs.lemmas.Bool.Decides.{nat_tests}
use Rattle.std.specs.FinMap as map
use Rattle.std.specs.FinMap.{get-insert}
use Rattle.std.specs.Cmp.{nat_cmp_total, unsigned_tied}
use Rattle.std.specs.Ordering.{eq_by_cmp, nat_cmp}
use Rattle.std.specs.Prelude.{nat_le, unwrap_or}
use Rattle.posix_terms.specs.Ends.{peer_of, side_of}
use Rattle.posix_terms.specs.declared.call.Call.TheVariants as call
use Rattle.posix_terms.specs.declared.carried.Moved.{Moved}
use Rattle.posix_terms.specs.declared.errno.Errno.{Errno}
use Rattle.posix_terms.specs.declared.limits.TheConstants.Limits as limit
use Rattle.posix_terms.specs.declared.object.End.{End}
use Rattle.posix_terms.specs.declared.object.End.TheVariants as part
use Rattle.sequential_object.specs.Acts.{Acted, blocked, blocked_after, concludes, moved_by}
use Rattle.sequential_object.specs.Acts.{write_acted}
use Rattle.sequential_object.specs.Deciding.{locks}
use Rattle.sequential_object.specs.Descriptors.{described, has_end}
use Rattle.sequential_object.specs.Effects.{Blocks, Effect, nothing_moved}
use Rattle.sequential_object.specs.Meant.{description_of, ended, meant, offset_in, put, seen, seen_of}
use Rattle.sequential_object.specs.Object.{Content, Description, DoorTo, File, Pair, Pipe, State, content_of}
use Rattle.sequential_object.specs.Object.{with_content}
use Rattle.sequential_object.specs.Streams.{NoRoom, Writes, pair_write, pipe_write}
use Rattle.sequential_object.specs.Transfers.{first_write, goes_on, is_from, is_pipe, write_decided}
use Rattle.sequential_object.specs.declared.decision.Act.TheVariants as act
use Rattle.sequential_object.specs.declared.decision.Decision.{Decision}
use Rattle.sequential_object.specs.declared.decision.Seen.{Seen}

-- ## No room

-- an object has no room for the rest of a write by such an end, of which so many bytes went before
abbrev pub HasNoRoom : (End → Bool) → End → List ℕ → ℕ → Content → Type 0
HasNoRoom is_open which bytes before (Pipe waiting) =
    pipe_write waiting (drop before bytes) (nat_le (length bytes) limit.PIPE_BUF) (is_open part.Read) ≡ NoRoom
HasNoRoom is_open which bytes before (Pair p) = (before ≡ 0)
    × (pair_write p (side_of which) bytes (is_open (part.Socket (peer_of (side_of which)))) ≡ NoRoom)
HasNoRoom is_open which bytes before c = ⊥

-- there is no room for a write that moved so much before
pub record IsFull (s : State) (descriptor : ℤ) (bytes : List ℕ) (moved : Moved) : Type 0 where
  pub key : ℕ
  pub description : Description
  pub found : described s descriptor ≡ Ok (key, description)
  pub waits : description.nonblock ≡ false
  pub begins : moved.bytes ≡ 0
      → first_write (seen s) descriptor (length bytes)
      ≡ Ok (locks (seen_of s descriptor (key, description)) (act.Write (seen_of s descriptor (key, description)) 0))
  pub goes : 0 < moved.bytes → is_pipe description.«end» ≡ true
  pub counted : moved ≡ moved_by key moved.bytes
  pub full : HasNoRoom (has_end s description.object) description.«end» bytes moved.bytes
      (content_of s description.object)

-- ## A write without room is blocked, and leaves the state

module _ (s : State) (descriptor : ℤ) (bytes : List ℕ) (moved : Moved) (f : IsFull s descriptor bytes moved) where
  abbrev to : Seen
  to = seen_of s descriptor (f.key, f.description)

  from_is : (n : ℕ) → moved.bytes ≡ n → 0 < n → is_from moved f.key ≡ true
  from_is zero is some = absurd (grind (arith, some))
  from_is (suc n) is some =
      ap (λ (m : Moved). is_from m f.key) (f.counted ∙ ap (moved_by f.key) is) ∙ same f.key
    where
      same : (key : ℕ) → (key == key) ≡ true
      same key = grind (arith, nat_tests)

  goes_on_is : 0 < moved.bytes → goes_on moved (Ok to) ≡ locks to (act.Write to moved.bytes)
  goes_on_is some = rw (from_is moved.bytes refl some, f.goes some) refl

  decided_is : write_decided (seen s) descriptor (length bytes) moved ≡ Ok (locks to (act.Write to moved.bytes))
  unfolding write_decided seen
  decided_is = by_test (moved.bytes == 0) refl
    where
      by_test : (b : Bool) → (moved.bytes == 0) ≡ b
          → (if b then first_write (seen s) descriptor (length bytes)
          else Ok (goes_on moved (let v = seen s in v.described descriptor)))
          ≡ Ok (locks to (act.Write to moved.bytes))
      by_test true is =
          let none : moved.bytes ≡ 0 = grind (arith, nat_tests, is) in
          f.begins none ∙ ap (λ n. Ok (locks to (act.Write to n))) (sym none)
      by_test false is =
          rw f.found (ap (λ (d : Decision). Ok d) (goes_on_is (grind (arith, nat_tests, is))))

  -- what the act does where there is no room
  module _ (offset : ℕ) where
    abbrev does_with : Content → Acted
    does_with x = write_acted (has_end s f.description.object) to bytes moved.bytes x offset

    abbrev turn_with : Content → Result Effect Errno
    turn_with x = let done = does_with x in
        ended (put s f.description.object (act.Write to moved.bytes) done) done.ending

    none_moved : moved.bytes ≡ 0 → nothing_moved ≡ moved
    none_moved none = sym (f.counted ∙ ap (moved_by f.key) none)

    blocked_is : moved.bytes ≡ 0
        → ended (put s f.description.object (act.Write to moved.bytes) (blocked to)) (blocked to).ending
        ≡ Ok (Blocks s moved)
    blocked_is none = rw f.waits (ap (λ m. Ok (Blocks s m)) (none_moved none))

    in_pipe : (b : Bool) → (moved.bytes == 0) ≡ b
        → let done = if b then blocked to else concludes (blocked_after to moved.bytes) in
        ended (put s f.description.object (act.Write to moved.bytes) done) done.ending ≡ Ok (Blocks s moved)
    in_pipe true none = blocked_is (grind (arith, nat_tests, none))
    in_pipe false some = rw f.waits (ap (λ m. Ok (Blocks s m)) (sym f.counted))

    no_room_is : (x : Content)
        → HasNoRoom (has_end s f.description.object) f.description.«end» bytes moved.bytes x
        → turn_with x ≡ Ok (Blocks s moved)
    no_room_is (File file) none = absurd none
    no_room_is (Pipe waiting) none = rw none (in_pipe (moved.bytes == 0) refl)
    no_room_is (Pair p) none = rw none.1 (blocked_is none.0)
    no_room_is (DoorTo door) none = absurd none

  pub full_blocks : meant s (call.Write descriptor bytes) (write_decided (seen s) descriptor (length bytes) moved)
      ≡ Ok (Blocks s moved)
  full_blocks = ap (meant s (call.Write descriptor bytes)) decided_is
      ∙ no_room_is (offset_in (description_of s (Some f.key))) (content_of s f.description.object) f.full

-- ## What grows

-- more bytes wait in a pipe
pub record Grows (s after : State) : Type 0 where
  pub object : ℕ
  pub waiting : List ℕ
  pub left : List ℕ
  pub was : content_of s object ≡ Pipe waiting
  pub more : length waiting ≤ length left
  pub after_is : after ≡ with_content s object (Pipe left)

pub found_kept : (s : State) (object : ℕ) (x : Content) (descriptor : ℤ)
    → described (with_content s object x) descriptor ≡ described s descriptor
found_kept s object x (pos n) = refl
found_kept s object x (negsuc n) = refl

seen_kept : (s : State) (object : ℕ) (x : Content) (descriptor : ℤ) (found : ℕ × Description)
    → seen_of (with_content s object x) descriptor found ≡ seen_of s descriptor found
seen_kept s object x (pos n) found = refl
seen_kept s object x (negsuc n) found = refl

first_kept : (s : State) (object : ℕ) (x : Content) (descriptor : ℤ) (count : ℕ)
    → first_write (seen (with_content s object x)) descriptor count ≡ first_write (seen s) descriptor count
unfolding seen
first_kept s object x (pos n) count = refl
first_kept s object x (negsuc n) count = refl

-- a pipe in which more bytes wait has no more room
no_more_room : (waiting left bytes : List ℕ) (whole readers : Bool) → length waiting ≤ length left
    → pipe_write waiting bytes whole readers ≡ NoRoom → pipe_write left bytes whole readers ≡ NoRoom
no_more_room waiting left bytes true false more none = none
no_more_room waiting left bytes false false more none = none
no_more_room waiting left bytes true true more none =
    by_room (nat_le (length waiting + length bytes) limit.PIPE_BYTES) refl none
  where
    by_room : (b : Bool) → nat_le (length waiting + length bytes) limit.PIPE_BYTES ≡ b
        → (if b then Writes (waiting ++ bytes) else NoRoom) ≡ NoRoom → pipe_write left bytes true true ≡ NoRoom
    by_room true is none = cc
    by_room false is none =
        let still : nat_le (length left + length bytes) limit.PIPE_BYTES ≡ false = grind (arith, nat_tests, is, more) in
        rw still refl
no_more_room waiting left bytes false true more none = by_room (nat_le limit.PIPE_BYTES (length waiting)) refl none
  where
    by_room : (b : Bool) → nat_le limit.PIPE_BYTES (length waiting) ≡ b
        → (if b then NoRoom else Writes (waiting ++ take (limit.PIPE_BYTES - length waiting) bytes)) ≡ NoRoom
        → pipe_write left bytes false true ≡ NoRoom
    by_room true is none =
        let still : nat_le limit.PIPE_BYTES (length left) ≡ true = grind (arith, nat_tests, is, more) in
        rw still refl
    by_room false is none = cc

pub content_after : (s : State) (object : ℕ) (x : Content) (other : ℕ)
    → content_of (with_content s object x) other ≡ (if eq_by_cmp nat_cmp other object then x else content_of s other)
content_after s object x other =
    ap (λ found. unwrap_or found (File [])) (get-insert nat_cmp_total s.objects object x other)
    ∙ by_tie (eq_by_cmp nat_cmp other object)
  where
    by_tie : (b : Bool) → unwrap_or (cond b (Some x) (map.get s.objects other)) (File [])
        ≡ (if b then x else content_of s other)
    by_tie true = refl
    by_tie false = refl

pub tied_same : (n : ℕ) → eq_by_cmp nat_cmp n n ≡ true
tied_same n = unsigned_tied n n ∙ grind (arith, nat_tests)

tied : (n m : ℕ) → eq_by_cmp nat_cmp n m ≡ true → n ≡ m
tied n m same = grind (arith, nat_tests, same)

still_none : (is_open : End → Bool) (which : End) (bytes : List ℕ) (before : ℕ) (x : Content) (waiting left : List ℕ)
    → x ≡ Pipe waiting → length waiting ≤ length left → HasNoRoom is_open which bytes before x
    → HasNoRoom is_open which bytes before (Pipe left)
still_none is_open which bytes before x waiting left is more none =
    no_more_room waiting left (drop before bytes) (nat_le (length bytes) limit.PIPE_BUF) (is_open part.Read) more
    (subst (HasNoRoom is_open which bytes before) is none)

module _ (s : State) (g : ℕ) (waiting left : List ℕ) (was : content_of s g ≡ Pipe waiting)
    (more : length waiting ≤ length left) where
  full_after : (is_open : End → Bool) (which : End) (bytes : List ℕ) (before other : ℕ)
      → HasNoRoom is_open which bytes before (content_of s other)
      → HasNoRoom is_open which bytes before (content_of (with_content s g (Pipe left)) other)
  full_after is_open which bytes before other none =
      subst (HasNoRoom is_open which bytes before) (sym (content_after s g (Pipe left) other))
      (by_tie (eq_by_cmp nat_cmp other g) refl)
    where
      by_tie : (b : Bool) → eq_by_cmp nat_cmp other g ≡ b
          → HasNoRoom is_open which bytes before (if b then Pipe left else content_of s other)
      by_tie true same = still_none is_open which bytes before (content_of s other) waiting left
          (ap (content_of s) (tied other g same) ∙ was) more none
      by_tie false apart = none

  pub grown_full : (descriptor : ℤ) (bytes : List ℕ) (moved : Moved) → IsFull s descriptor bytes moved
      → IsFull (with_content s g (Pipe left)) descriptor bytes moved
  grown_full descriptor bytes moved f =
      let same = seen_kept s g (Pipe left) descriptor (f.key, f.description) in
      record {
        key = f.key;
        description = f.description;
        found = found_kept s g (Pipe left) descriptor ∙ f.found;
        waits = f.waits;
        begins = λ none. first_kept s g (Pipe left) descriptor (length bytes) ∙ f.begins none
            ∙ ap (λ (at : Seen). Ok (locks at (act.Write at 0))) (sym same);
        goes = f.goes;
        counted = f.counted;
        full = full_after (has_end s f.description.object) f.description.«end» bytes moved.bytes f.description.object
            f.full;
      }
