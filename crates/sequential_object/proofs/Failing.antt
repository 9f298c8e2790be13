-- What a call leaves where it fails or waits.
use Rattle.std.proofs.Common.{◌≡◌, ◌⊎◌, inl, inr, ◌==◌, ℕ, ℤ, List, Bool, true, false, Some, None, Result, Ok, Err}
use Rattle.std.proofs.Common.{if◌then◌else◌, is_some, ap, arith, refl, sym, subst, ◌∙◌}
use Rattle.std.proofs.lemmas.Bool.{true≢false}
use Rattle.std.specs.Prelude.{IfOk, ◌<◌, is_ok}
use Rattle.posix_terms.specs.Calls.{Call}
use Rattle.posix_terms.specs.declared.call.Call.TheVariants as call
use Rattle.posix_terms.specs.declared.carried.Moved.{Moved}
use Rattle.posix_terms.specs.declared.errno.Errno.{Errno}
use Rattle.posix_terms.specs.declared.object.End.{End}
use Rattle.posix_terms.specs.declared.reply.Reply.TheVariants as reply
use Rattle.sequential_object.specs.Acts.{Acted, Ending, Replies, acted, read_acted, write_acted}
use Rattle.sequential_object.specs.Acts as ending
use Rattle.sequential_object.specs.Changes.{changed}
use Rattle.sequential_object.specs.Decided.{decided}
use Rattle.sequential_object.specs.Descriptors.{described, has_end}
use Rattle.sequential_object.specs.Effects.{Asks, Blocks, Completes, Effect}
use Rattle.sequential_object.specs.Meant.{acted_at, acts, description_of, ended, key_of, meant, offset_in, put}
use Rattle.sequential_object.specs.Meant.{reply_outside, seen, seen_of}
use Rattle.sequential_object.specs.Object.{Content, File, Pair, Pipe, Description, DoorTo, State, content_of}
use Rattle.sequential_object.specs.Streams.{PairState}
use Rattle.sequential_object.specs.So.{ChangesWith, IsClose, IsSo, is_failure}
use Rattle.sequential_object.specs.Step.{Carried, closes_door, effect_of, query_of}
use Rattle.sequential_object.specs.declared.decision.Act.{Act}
use Rattle.sequential_object.specs.declared.decision.Act.TheVariants as act
use Rattle.sequential_object.specs.declared.decision.Change.{Change}
use Rattle.sequential_object.specs.declared.decision.Change.TheVariants as change
use Rattle.sequential_object.specs.declared.decision.Decision.{Decision}
use Rattle.sequential_object.specs.declared.decision.Decision.TheVariants as decision
use Rattle.sequential_object.specs.declared.decision.Deed.TheVariants as deed
use Rattle.sequential_object.specs.declared.decision.Seen.{Seen}
use Rattle.sequential_object.specs.Transfers.{first_write, goes_on, is_pipe, write_decided}
use Rattle.std.proofs.lemmas.Bool.Decides.{nat_tests}
use Rattle.sequential_object.specs.Waiting.{EndsMatch, HasEnd, WaitsInParts}
use Rattle.sequential_object.proofs.Seeing.{is_found, shown_by}
use Rattle.sequential_object.proofs.Writing.{IsTurn, ReportsCount, turn}

-- ## Acts

-- an act that has to wait leaves its object and its offset, but for a write of a pipe
abbrev pub Stays : Ending → Acted → Type 0
Stays (Replies r) done = Unit {0}
Stays (ending.Blocks moved) done = (done.content ≡ None) × (done.offset ≡ None) × (moved.bytes ≡ 0)

abbrev StaysThere : Acted → Type 0
StaysThere done = Stays done.ending done

-- and the table
abbrev pub Unchanged : Ending → Change → Type 0
Unchanged (Replies r) x = Unit {0}
Unchanged (ending.Blocks moved) x = x ≡ change.Nothing

abbrev pub is_write : Call → Bool
is_write (call.Write descriptor bytes) = true
is_write c = false

stays_read : (has_end : End → Bool) (from : Seen) (count : ℕ) (content : Content) (offset : ℕ)
    → StaysThere (read_acted has_end from count content offset)
stays_read has_end from count content offset = grind arith

stays_pwrite : (has_end : End → Bool) (start : ℕ) (c : Call) (content : Content) (offset : ℕ)
    → StaysThere (acted has_end (act.Pwrite start) c content offset)
stays_pwrite has_end start c content offset = grind arith

stays_lseek : (has_end : End → Bool) (at : Seen) (c : Call) (content : Content) (offset : ℕ)
    → StaysThere (acted has_end (act.Lseek at) c content offset)
stays_lseek has_end at c content offset = grind arith

stays_file : (has_end : End → Bool) (to : Seen) (bytes : List ℕ) (before : ℕ) (file : List ℕ) (offset : ℕ)
    → StaysThere (write_acted has_end to bytes before (File file) offset)
stays_file has_end to bytes before file offset = grind arith

stays_pair : (has_end : End → Bool) (to : Seen) (bytes : List ℕ) (before : ℕ) (p : PairState) (offset : ℕ)
    → StaysThere (write_acted has_end to bytes before (Pair p) offset)
stays_pair has_end to bytes before p offset = grind arith

stays : (has_end : End → Bool) (a : Act) (c : Call) (content : Content) (offset : ℕ) → is_write c ≡ false
    → StaysThere (acted has_end a c content offset)
stays has_end (act.Open n true) c content offset plain = tt
stays has_end (act.Open n false) c content offset plain = tt
stays has_end (act.Create n) c content offset plain = tt
stays has_end act.Release c content offset plain = tt
stays has_end (act.Read from count) c content offset plain = stays_read has_end from count content offset
stays has_end (act.Write to before) (call.Write descriptor bytes) content offset plain = absurd (true≢false plain)
stays has_end (act.Write to before) c content offset plain = tt
stays has_end (act.Pread count position) c (File file) offset plain = tt
stays has_end (act.Pread count position) c content offset plain = tt
stays has_end (act.Pwrite start) c content offset plain = stays_pwrite has_end start c content offset
stays has_end (act.Lseek at) c content offset plain = stays_lseek has_end at c content offset
stays has_end (act.Ftruncate size) c (File file) offset plain = tt
stays has_end (act.Ftruncate size) c content offset plain = tt
stays has_end (act.Fstat links) c (File file) offset plain = tt
stays has_end (act.Fstat links) c content offset plain = tt
stays has_end (act.Pipe first second) c content offset plain = tt
stays has_end (act.Socketpair first second) c content offset plain = tt
stays has_end (act.Shutdown side how) c (Pair p) offset plain = tt
stays has_end (act.Shutdown side how) c content offset plain = tt

of_nothing : (e : Ending) (x : Change) → x ≡ change.Nothing → Unchanged e x
of_nothing (Replies r) x none = tt
of_nothing (ending.Blocks moved) x none = none

unchanged : (has_end : End → Bool) (object : ℕ) (a : Act) (x : Change) (c : Call) (content : Content) (offset : ℕ)
    → ChangesWith object a x → Unchanged (let done = acted has_end a c content offset in done.ending) x
unchanged has_end object (act.Open n true) x c content offset with = tt
unchanged has_end object (act.Open n false) x c content offset with = tt
unchanged has_end object (act.Create n) x c content offset with = tt
unchanged has_end object act.Release x c content offset with = tt
unchanged has_end object (act.Pipe first second) x c content offset with = tt
unchanged has_end object (act.Socketpair first second) x c content offset with = tt
unchanged has_end object a x c content offset with =
    of_nothing (let done = acted has_end a c content offset in done.ending) x with

-- what waits where it stays leaves the state as it was
put_nothing : (s : State) (c : Call) (object : ℕ) (a : Act) (x : Change) (done : Acted) → x ≡ change.Nothing
    → done.content ≡ None → done.offset ≡ None → put (changed s c x) object a done ≡ s
put_nothing s c object a x done none same stays = rw (none, same, stays) refl

-- ## Calls but a write

-- a call that completes does not fail, one that waits leaves the state
-- as it was, and one that asks leaves it where that fails
abbrev pub InPlace : State → Effect → Type 0
InPlace s (Completes after r) = is_failure r ≡ false
InPlace s (Blocks after moved) = after ≡ s
InPlace s (Asks a) = ((value : ℕ) (bytes : List ℕ) → is_failure (a.succeeds value bytes).1 ≡ false) × (a.otherwise ≡ s)

of_ending : (s : State) (c : Call) (object : ℕ) (a : Act) (x : Change) (done : Acted) (e : Ending) → Stays e done
    → Unchanged e x
    → IfOk (ended (put (changed s c x) object a done) e) (InPlace s)
of_ending s c object a x done (Replies (reply.Fail e)) still same = tt
of_ending s c object a x done (Replies r) still same = refl
of_ending s c object a x done (ending.Blocks moved) still same = put_nothing s c object a x done same still.0 still.1

pub acts_in_place : (s : State) (c : Call) (object : ℕ) (a : Act) (x : Change) → ChangesWith object a x
    → is_write c ≡ false
    → IfOk (acts (changed s c x) object a c) (InPlace s)
acts_in_place s c object a x with plain =
    let after : State = changed s c x in
    let done : Acted = acted_at after object a c in
    let content : Content = content_of after object in
    let offset : ℕ = offset_in (description_of after (key_of a)) in
    of_ending s c object a x done done.ending (stays (has_end after object) a c content offset plain)
    (unchanged (has_end after object) object a x c content offset with)

told_outside : (c : Call) (value : ℕ) (bytes : List ℕ) → is_failure (reply_outside c value bytes) ≡ false
told_outside c value bytes = grind arith

closes_is : (s : State) (c : Call) (carried : Carried) (e : Effect) → IsClose c → effect_of s c carried ≡ Ok e
    → closes_door s c carried ≡ is_some (query_of c (Ok e))
closes_is s (call.Close descriptor) carried e closes is = ap (λ r. is_some (query_of (call.Close descriptor) r)) is
closes_is s c carried e closes is = absurd closes

pub in_place : (s : State) (c : Call) (carried : Carried) (r : Result Decision Errno)
    → decided (seen s) c carried.moved ≡ r → IfOk r (IsSo (seen s) c)
    → is_write c ≡ false → closes_door s c carried ≡ false → IfOk (meant s c r) (InPlace s)
in_place s c carried (Err e) is so plain alone = tt
in_place s c carried (Ok (decision.Replies r x)) is so plain alone = so.1
in_place s c carried (Ok (decision.Locks object (deed.Acts a x))) is so plain alone =
    acts_in_place s c object a x so.2 plain
in_place s c carried (Ok (decision.Locks object (deed.Asks blocks))) is so plain alone = (told_outside c, refl)
in_place s c carried (Ok (decision.Locks object (deed.Closes n key))) is so plain alone =
    absurd (true≢false (sym (closes_is s c carried _ so.4 (ap (meant s c) is)) ∙ alone))
in_place s c carried (Ok (decision.Locks object (deed.Opens blocks listener new))) is so plain alone =
    ((λ value bytes. refl), refl)

-- ## A write

-- what is decided of a write that moved so much before
abbrev IsWriting : State → ℤ → Moved → Decision → Type 0
IsWriting s descriptor moved (decision.Replies r x) = (x ≡ change.Nothing) × ReportsCount moved.bytes r
IsWriting s descriptor moved (decision.Locks object (deed.Acts a x)) =
    (to : Seen) × (let v = seen s in v.described descriptor ≡ Ok to) × (a ≡ act.Write to moved.bytes)
    × (x ≡ change.Nothing) × (object ≡ to.object)
    × ((moved.bytes ≡ 0) ⊎ (is_pipe to.«end» ≡ true))
IsWriting s descriptor moved (decision.Locks object (deed.Asks blocks)) = moved.bytes ≡ 0
IsWriting s descriptor moved (decision.Locks object other) = ⊥

pub is_writing : (s : State) (descriptor : ℤ) (count : ℕ) (moved : Moved)
    → IfOk (write_decided (seen s) descriptor count moved) (IsWriting s descriptor moved)
unfolding write_decided
is_writing s descriptor count moved = by_moved (moved.bytes == 0) refl (let v = seen s in v.described descriptor) refl
  where
    by_moved : (b : Bool) → (moved.bytes == 0) ≡ b → (r : Result Seen Errno)
        → (let v = seen s in v.described descriptor ≡ r)
        → IfOk (if b then first_write (seen s) descriptor count
        else Ok (goes_on moved (let v = seen s in v.described descriptor))) (IsWriting s descriptor moved)
    by_moved true none (Err e) is = rw is tt
    by_moved true none (Ok to) is = grind (arith, nat_tests, none, is)
    by_moved false some (Err e) is = rw is (refl, omega arith)
    by_moved false some (Ok to) is = grind (arith, is)

-- what a call leaves where it fails
abbrev pub FailsInPlace : State → Effect → Type 0
FailsInPlace s (Completes after r) = is_failure r ≡ false
FailsInPlace s (Blocks after moved) = moved.bytes ≡ 0 → after ≡ s
FailsInPlace s (Asks a) = ((value : ℕ) (bytes : List ℕ) → is_failure (a.succeeds value bytes).1 ≡ false)
    × (a.otherwise ≡ s)

-- and where it waits, if it moved so much before
abbrev pub LeavesParts : State → Call → (before : ℕ) → Effect → Type 0
LeavesParts s c before (Completes after r) = Unit {0}
LeavesParts s c before (Blocks after moved) = WaitsInParts s c before after moved.bytes
LeavesParts s c before (Asks a) = WaitsInParts s c before s 0

fails_of_turn : (s : State) (descriptor : ℤ) (bytes : List ℕ) (before : ℕ) (r : Result Effect Errno)
    → IsTurn s descriptor bytes before r → IfOk r (FailsInPlace s)
fails_of_turn s descriptor bytes before (Ok (Completes after (reply.Count n))) h = refl
fails_of_turn s descriptor bytes before (Ok (Completes after r)) h = absurd h
fails_of_turn s descriptor bytes before (Ok (Blocks after moved)) h = h.0
fails_of_turn s descriptor bytes before (Ok (Asks a)) h = absurd h
fails_of_turn s descriptor bytes before (Err e) h = tt

parts_of_turn : (s : State) (descriptor : ℤ) (bytes : List ℕ) (before : ℕ) (r : Result Effect Errno)
    → IsTurn s descriptor bytes before r → IfOk r (LeavesParts s (call.Write descriptor bytes) before)
parts_of_turn s descriptor bytes before (Ok (Completes after r)) h = tt
parts_of_turn s descriptor bytes before (Ok (Blocks after moved)) h = h.1
parts_of_turn s descriptor bytes before (Ok (Asks a)) h = absurd h
parts_of_turn s descriptor bytes before (Err e) h = tt

module _ (s : State) (object : ℕ) (a : Act) (done : Acted) where
  left_same : done.content ≡ None → done.offset ≡ None → put s object a done ≡ s
  left_same same stays = rw (same, stays) refl

  fails_of_stays : (e : Ending) → Stays e done → IfOk (ended (put s object a done) e) (FailsInPlace s)
  fails_of_stays (Replies (reply.Fail e)) still = tt
  fails_of_stays (Replies r) still = refl
  fails_of_stays (ending.Blocks moved) still = λ none. left_same still.0 still.1

  parts_of_stays : (descriptor : ℤ) (bytes : List ℕ) (e : Ending) → Stays e done
      → IfOk (ended (put s object a done) e) (LeavesParts s (call.Write descriptor bytes) 0)
  parts_of_stays descriptor bytes (Replies (reply.Fail e)) still = tt
  parts_of_stays descriptor bytes (Replies r) still = tt
  parts_of_stays descriptor bytes (ending.Blocks moved) still = inl (left_same still.0 still.1, still.2)

module _ (s : State) (key : ℕ) (d : Description) (descriptor : ℤ) (bytes : List ℕ) (before : ℕ)
    (there : described s descriptor ≡ Ok (key, d)) where
  abbrev does : Act
  does = act.Write (seen_of s descriptor (key, d)) before

  abbrev written : Content → Acted
  written c = write_acted (has_end s d.object) (seen_of s descriptor (key, d)) bytes before c
      (offset_in (description_of s (Some key)))

  abbrev turn_by : Content → Result Effect Errno
  turn_by c = let done = written c in ended (put s d.object does done) done.ending

  pipe_turn : (waiting : List ℕ) → content_of s d.object ≡ Pipe waiting
      → IsTurn s descriptor bytes before (turn_by (Pipe waiting))
  pipe_turn waiting is = turn s key d descriptor bytes waiting there is before

  fails_by : (c : Content) → content_of s d.object ≡ c → IfOk (turn_by c) (FailsInPlace s)
  fails_by (Pipe waiting) is = fails_of_turn s descriptor bytes before (turn_by (Pipe waiting)) (pipe_turn waiting is)
  fails_by (File file) is = let done = written (File file) in
      fails_of_stays s d.object does done done.ending
      (stays_file (has_end s d.object) (seen_of s descriptor (key, d)) bytes before file
      (offset_in (description_of s (Some key))))
  fails_by (Pair p) is = let done = written (Pair p) in
      fails_of_stays s d.object does done done.ending
      (stays_pair (has_end s d.object) (seen_of s descriptor (key, d)) bytes before p
      (offset_in (description_of s (Some key))))
  fails_by (DoorTo x) is = refl

-- of whatever write that locks an object
by_shown : (s : State) (descriptor : ℤ) (bytes : List ℕ) (moved : Moved) (object : ℕ) (a : Act) (x : Change)
    (P : Result Effect Errno → Type 0)
    → IsWriting s descriptor moved (decision.Locks object (deed.Acts a x))
    → ((key : ℕ) (d : Description) → described s descriptor ≡ Ok (key, d) → (moved.bytes ≡ 0) ⊎ (is_pipe d.«end» ≡ true)
    → P (acts s d.object (act.Write (seen_of s descriptor (key, d)) moved.bytes) (call.Write descriptor bytes)))
    → P (acts (changed s (call.Write descriptor bytes) x) object a (call.Write descriptor bytes))
by_shown s descriptor bytes moved object a x P its each =
    let to : Seen = its.0 in
    let shown = shown_by s descriptor to its.1 in
    let by_to : P (acts s to.object (act.Write to moved.bytes) (call.Write descriptor bytes)) =
    subst (λ (to : Seen). P (acts s to.object (act.Write to moved.bytes) (call.Write descriptor bytes)))
    (sym shown.is_seen)
    (each to.key shown.description shown.is_described
    (subst (λ (to : Seen). (moved.bytes ≡ 0) ⊎ (is_pipe to.«end» ≡ true)) shown.is_seen its.5)) in
    rw (its.2, its.3, its.4) by_to

pub write_fails : (s : State) (descriptor : ℤ) (bytes : List ℕ) (moved : Moved) (r : Result Decision Errno)
    → IfOk r (IsWriting s descriptor moved)
    → IfOk (meant s (call.Write descriptor bytes) r) (FailsInPlace s)
write_fails s descriptor bytes moved (Err e) its = tt
write_fails s descriptor bytes moved (Ok (decision.Replies (reply.Count n) x)) its = refl
write_fails s descriptor bytes moved (Ok (decision.Replies r x)) its = absurd its.1
write_fails s descriptor bytes moved (Ok (decision.Locks object (deed.Acts a x))) its =
    by_shown s descriptor bytes moved object a x (λ r. IfOk r (FailsInPlace s)) its
    (λ key d there pipe. fails_by s key d descriptor bytes moved.bytes there (content_of s d.object) refl)
write_fails s descriptor bytes moved (Ok (decision.Locks object (deed.Asks blocks))) its = ((λ value sent. refl), refl)
write_fails s descriptor bytes moved (Ok (decision.Locks object (deed.Closes n key))) its = absurd its
write_fails s descriptor bytes moved (Ok (decision.Locks object (deed.Opens blocks listener new))) its = absurd its

-- ## Where the ends match

pipe_only : (c : Content) (e : End) → HasEnd c e → is_pipe e ≡ true → (waiting : List ℕ) × (c ≡ Pipe waiting)
pipe_only (Pipe waiting) e has is = (waiting, refl)
pipe_only (File file) e has is = absurd (true≢false (sym is ∙ ap is_pipe has))
pipe_only (Pair p) e has is = absurd (true≢false (sym is ∙ ap is_pipe has.1))
pipe_only (DoorTo x) e has is = absurd (true≢false (sym is ∙ ap is_pipe has))

module _ (s : State) (descriptor : ℤ) (bytes : List ℕ) (ends : EndsMatch s) where
  -- one that moved bytes before goes on at a pipe
  goes_on_turn : (key : ℕ) (d : Description) (before : ℕ) (there : described s descriptor ≡ Ok (key, d))
      → is_pipe d.«end» ≡ true
      → IsTurn s descriptor bytes before
      (acts s d.object (act.Write (seen_of s descriptor (key, d)) before) (call.Write descriptor bytes))
  goes_on_turn key d before there pipe =
      let its = is_found s descriptor (key, d) there in
      let (waiting, holds) = pipe_only (content_of s d.object) d.«end» (ends key d its.there) pipe in
      subst (λ (c : Content). IsTurn s descriptor bytes before (turn_by s key d descriptor bytes before there c))
      (sym holds)
      (pipe_turn s key d descriptor bytes before there waiting holds)

  pub resumed_turn : (moved : Moved) (r : Result Decision Errno) → 0 < moved.bytes
      → IfOk r (IsWriting s descriptor moved) → is_ok r ≡ true
      → IsTurn s descriptor bytes moved.bytes (meant s (call.Write descriptor bytes) r)
  resumed_turn moved (Err e) some its ok = absurd (true≢false (sym ok))
  resumed_turn moved (Ok (decision.Replies r x)) some its ok = its.1
  resumed_turn moved (Ok (decision.Locks object (deed.Acts a x))) some its ok =
      by_shown s descriptor bytes moved object a x (IsTurn s descriptor bytes moved.bytes) its
      (λ key d there pipe. goes_on_turn key d moved.bytes there (by_pipe d pipe))
    where
      by_pipe : (d : Description) → (moved.bytes ≡ 0) ⊎ (is_pipe d.«end» ≡ true) → is_pipe d.«end» ≡ true
      by_pipe d (inl none) = absurd (omega (arith, none, some))
      by_pipe d (inr is) = is
  resumed_turn moved (Ok (decision.Locks object (deed.Asks blocks))) some its ok = absurd (omega (arith, its, some))
  resumed_turn moved (Ok (decision.Locks object (deed.Closes n key))) some its ok = absurd its
  resumed_turn moved (Ok (decision.Locks object (deed.Opens blocks listener new))) some its ok = absurd its

  -- one that moved nothing
  first_parts : (key : ℕ) (d : Description) (there : described s descriptor ≡ Ok (key, d)) (c : Content)
      → content_of s d.object ≡ c
      → IfOk (turn_by s key d descriptor bytes 0 there c) (LeavesParts s (call.Write descriptor bytes) 0)
  first_parts key d there (Pipe waiting) is =
      parts_of_turn s descriptor bytes 0 (turn_by s key d descriptor bytes 0 there (Pipe waiting))
      (pipe_turn s key d descriptor bytes 0 there waiting is)
  first_parts key d there (File file) is =
      let done = written s key d descriptor bytes 0 there (File file) in
      parts_of_stays s d.object (does s key d descriptor bytes 0 there) done descriptor bytes done.ending
      (stays_file (has_end s d.object) (seen_of s descriptor (key, d)) bytes 0 file
      (offset_in (description_of s (Some key))))
  first_parts key d there (Pair p) is =
      let done = written s key d descriptor bytes 0 there (Pair p) in
      parts_of_stays s d.object (does s key d descriptor bytes 0 there) done descriptor bytes done.ending
      (stays_pair (has_end s d.object) (seen_of s descriptor (key, d)) bytes 0 p
      (offset_in (description_of s (Some key))))
  first_parts key d there (DoorTo x) is = tt

  pub write_parts : (moved : Moved) (r : Result Decision Errno) → IfOk r (IsWriting s descriptor moved)
      → IfOk (meant s (call.Write descriptor bytes) r) (LeavesParts s (call.Write descriptor bytes) moved.bytes)
  write_parts moved (Err e) its = tt
  write_parts moved (Ok (decision.Replies r x)) its = tt
  write_parts moved (Ok (decision.Locks object (deed.Acts a x))) its =
      by_shown s descriptor bytes moved object a x
      (λ r. IfOk r (LeavesParts s (call.Write descriptor bytes) moved.bytes)) its each
    where
      each : (key : ℕ) (d : Description) → described s descriptor ≡ Ok (key, d) → (moved.bytes ≡ 0)
          ⊎ (is_pipe d.«end» ≡ true)
          → IfOk (acts s d.object (act.Write (seen_of s descriptor (key, d)) moved.bytes) (call.Write descriptor bytes))
          (LeavesParts s (call.Write descriptor bytes) moved.bytes)
      each key d there (inl none) = rw none (first_parts key d there (content_of s d.object) refl)
      each key d there (inr pipe) = parts_of_turn s descriptor bytes moved.bytes _
          (goes_on_turn key d moved.bytes there pipe)
  write_parts moved (Ok (decision.Locks object (deed.Asks blocks))) its = inl (refl, sym its)
  write_parts moved (Ok (decision.Locks object (deed.Closes n key))) its = absurd its
  write_parts moved (Ok (decision.Locks object (deed.Opens blocks listener new))) its = absurd its
