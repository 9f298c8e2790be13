-- A turn that goes outside, and one that opens a door there.
use Rattle.std.proofs.Common.{◌≡◌, ◌≤◌, ℕ, ◌==◌, ◌&&◌, ◌||◌, List, length, Option, Some, None, Result, Ok, Err, Bool}
use Rattle.std.proofs.Common.{true, false, if◌then◌else◌, refl, sym, ap, ◌∙◌, subst, arith}
use Rattle.std.proofs.lemmas.Bool.{and_parts, false≢true, true≢false}
use Rattle.std.specs.Option.{option_map}
use Rattle.std.specs.Prelude.{ℤ, nat_le, pos}
use Rattle.sequential_object.specs.Descriptors as descriptors
use Rattle.sequential_object.specs.Effects.{Effect, asks_of, nothing_moved}
use Rattle.sequential_object.specs.Locked.{keeps_table}
use Rattle.sequential_object.specs.Object.{State, Description}
use Rattle.sequential_object.specs.Numbers.{number_of, world_with}
use Rattle.sequential_object.specs.Answers.{answer_in, numbered}
use Rattle.sequential_object.specs.Refusals.{◌>>=◌}
use Rattle.sequential_object.specs.Step as posix
use Rattle.sequential_object.specs.Step.{Carried, Stepped, asks, concluded, failed, is_again, nothing_carried, step}
use Rattle.sequential_object.specs.Step.{waited}
use Rattle.sequential_object.specs.Worlds.{World}
use Rattle.sequential_object.specs.declared.turn_end.TurnEnd.{TurnEnd}
use Rattle.sequential_object.specs.declared.turn_end.TurnEnd.TheVariants as end
use Rattle.posix_terms.specs.Calls.{Call}
use Rattle.posix_terms.specs.Outcomes.{bytes_fit, fits, value_fits}
use Rattle.posix_terms.specs.declared.limits.TheConstants.Limits as limit
use Rattle.posix_terms.specs.Queries.{Query}
use Rattle.posix_terms.specs.declared.call.Call.TheVariants as call
use Rattle.posix_terms.specs.declared.errno.Errno.{Errno}
use Rattle.posix_terms.specs.declared.outcome.OutKind.{OutKind}
use Rattle.posix_terms.specs.declared.outcome.OutKind.TheVariants as out
use Rattle.posix_terms.specs.declared.outcome.Outcome.{Outcome}
use Rattle.posix_terms.specs.declared.outcome.Outcome.TheVariants as outcome
use Rattle.posix_terms.specs.declared.reply.Reply.{Reply}
use Rattle.posix_terms.specs.declared.reply.Reply.TheVariants as reply
use Rattle.posix_terms.specs.declared.transcript.Settings.{Settings}
use Rattle.sequential_object.specs.Changes.{changed, door_opened}
use Rattle.sequential_object.specs.Meant.{asks_to_open, reply_outside, request_asked, request_kind, seen, seen_of}
use Rattle.sequential_object.specs.Renaming.{Alike, change_by, new_by, ok_by, seen_by}
use Rattle.sequential_object.specs.So.{CanDo, TakesAlong}
use Rattle.sequential_object.specs.declared.decision.Change.TheVariants as change
use Rattle.sequential_object.specs.View.{View}
use Rattle.sequential_object.specs.declared.decision.Deed.{Deed}
use Rattle.sequential_object.specs.declared.decision.Deed.TheVariants as deed
use Rattle.sequential_object.specs.declared.decision.Seen.{Seen}
use Rattle.descriptor_table.specs.Laws.{IsThere, TableFollows}
use Rattle.descriptor_table.specs.Table.{TableState, free_object, is_used}
use Rattle.sequential_object.specs.declared.decision.NewDescriptor.{NewDescriptor}
use Rattle.posix_terms.specs.declared.reply.Answer.TheVariants as answer
use Rattle.sequential_object.specs.declared.turn_end.ActEnd.TheVariants as act_end
use Rattle.descriptor_table.specs.Plans.{errand_of}
use Rattle.descriptor_table.specs.Shows.{birth_at}
use Rattle.descriptor_table.specs.View.{names_of, view}
use Rattle.descriptor_table.specs.declared.plan.Errand.{Errand}
use Rattle.call_turns.specs.Acting.{StandsChanged}
use Rattle.call_turns.specs.Errands.{TakesLocked, door_taken, object_found, waits_by}
use Rattle.call_turns.specs.Patience.{EndsOutside, as_answer, ended, outside_ending, told_outside}
use Rattle.call_turns.specs.Store.{IsDecided, Performs, Opens, Stands, Stored, at_port}
use Rattle.call_turns.specs.declared.patience.Locking.{Locking}
use Rattle.call_turns.specs.declared.patience.TurnStart.TheVariants as start
use Rattle.call_turns.proofs.Standing.{number_known, used_number}
use Rattle.call_turns.proofs.Changing.{stands_opened}
use Rattle.call_turns.proofs.Stepping.{Leaves}
use Rattle.call_turns.proofs.Turning.{answered, effect_is, stands_same, waited_after}
use Rattle.std.proofs.lemmas.Option.{same_Some}
use Rattle.std.proofs.lemmas.Bool.Decides.{nat_tests}

err-ok : {A : Type 0} (e : Errno) (x : A) → ◌≡◌ {A = Result A Errno} (Err e) (Ok x) → ⊥
err-ok e x is = cc

ok_same : {A : Type 0} (x y : A) → ◌≡◌ {A = Result A Errno} (Ok x) (Ok y) → x ≡ y
ok_same x y is = cc

-- ## What comes of a request

-- the reply to a success is that of the call
told_same : (c : Call) (value : ℕ) (bytes : List ℕ)
    → reply_outside c value bytes ≡ told_outside (request_kind c) value bytes
told_same c value bytes = grind arith

-- a request that leaves this state whatever comes
asks_ends : (settings : Settings) (s after : State) (c : Call) (blocks : Bool) (door : Option ℕ) (carried : Carried)
    (o : Outcome)
    → answered (concluded settings s (Some o) carried
    (Ok (asks_of after (request_kind c) (request_asked c) blocks (reply_outside c))))
    ≡ ended settings s carried (outside_ending (errand_of c blocks door) (Some o))
asks_ends settings s after c blocks door carried (outcome.Ok value bytes) =
    ap (λ (r : Reply). answered (record { after = after; answer = answer.Reply r; carried = nothing_carried }))
    (told_same c value bytes)
asks_ends settings s after c blocks door carried (outcome.Fail e) = by_test (blocks && is_again e)
  where
    by_test : (b : Bool)
        → answered (if b then waited settings s nothing_moved carried else failed after e)
        ≡ ended settings s carried (if b then act_end.Waits nothing_moved else act_end.Reply (reply.Fail e))
    by_test true = refl
    by_test false = refl

abbrev asked_of : State → Call → Bool → Effect
asked_of s c blocks = asks_of s (request_kind c) (request_asked c) blocks (reply_outside c)

-- ## A call that goes outside

takes_locked : TakesLocked
takes_locked s c carried frees = grind (arith, frees)

module _ (law : TableFollows) (h : Stored) (c : Call) (carried : Carried) where
  -- the door of the object that it locks
  locks_door : (w : World) → Stands h w → (x : Locking) → IsDecided h c carried.moved x → keeps_table c ≡ false
      → Some x.object ≡ numbered w (door_taken w.object c carried)
  locks_door w st x decided frees =
      sym (ap (option_map (λ (l : Locking). l.object)) decided)
      ∙ sym (number_known law h w st c carried)
      ∙ ap (numbered w) (sym (takes_locked w.object c carried frees))

  -- with a request that leaves this, at the door that it locks
  goes_by : (x : Locking) (after : State → State) (blocks : Bool) (new : Stored) → IsDecided h c carried.moved x
      → keeps_table c ≡ false
      → ((w : World) → Stands h w → posix.effect_of w.object c carried ≡ Ok (asked_of (after w.object) c blocks))
      → ((w : World) → Stands h w → Stands new (world_with w (after w.object)))
      → (patience : ℕ) → Performs patience carried h c (start.GoesOut (errand_of c blocks (Some x.object))) new
  goes_by x after blocks new decided frees effect stands patience settings w same st = record {
    request = ap (posix.query_of c) (effect w st);
    door = locks_door w st x decided frees;
    waits = sym (ap waits_by (effect w st));
    change = λ free. subst (λ (r : Result Effect Errno). Stands new
        (world_with w (concluded settings w.object None carried r).after)) (sym (effect w st)) (stands w st);
    ends = λ free o. ap (λ (r : Result Effect Errno). answered (concluded settings w.object (Some o) carried r))
        (effect w st) ∙ asks_ends settings w.object (after w.object) c blocks (Some x.object) carried o;
    kept = λ keeps. absurd (true≢false (sym keeps ∙ frees));
  }

  pub goes_asking : (object : ℕ) (blocks : Bool)
      → IsDecided h c carried.moved (record { object = object; deed = deed.Asks blocks }) → keeps_table c ≡ false
      → (patience : ℕ) → Performs patience carried h c (start.GoesOut (errand_of c blocks (Some object))) h
  goes_asking object blocks decided frees =
      goes_by (record { object = object; deed = deed.Asks blocks }) (λ s. s) blocks h decided frees
      (λ w st. effect_is law h w st c carried (record { object = object; deed = deed.Asks blocks }) decided)
      (λ w st. stands_same law h w st)

  pub goes_closing : (object n key : ℕ) (new : Stored)
      → IsDecided h c carried.moved (record { object = object; deed = deed.Closes n key }) → keeps_table c ≡ false
      → StandsChanged h c (change.Close n key) new
      → (patience : ℕ) → Performs patience carried h c (start.GoesOut (errand_of c false (Some object))) new
  goes_closing object n key new decided frees stands =
      goes_by (record { object = object; deed = deed.Closes n key })
      (λ s. changed s c (change_by (names_of h.table) (change.Close n key))) false new decided frees
      (λ w st. effect_is law h w st c carried (record { object = object; deed = deed.Closes n key }) decided) stands

-- ## A call that opens a door

module _ (law : TableFollows) (h : Stored) (w : World) (st : Stands h w) where
  -- the object of a descriptor that was seen
  found_object : (descriptor : ℤ) (at : Seen) → (view h.table).described descriptor ≡ Ok at
      → Some at.object ≡ numbered w (object_found (descriptors.described w.object descriptor))
  unfolding seen
  found_object descriptor at is = by_found (descriptors.described w.object descriptor) refl
    where
      like : Alike (names_of h.table) (view h.table) (seen w.object)
      like = law.alike h.table w.object st.sound st.described st.shows

      seen_so : (descriptors.described w.object descriptor >>= (λ found. Ok (seen_of w.object descriptor found)))
          ≡ Ok (seen_by (names_of h.table) at)
      seen_so = like.described descriptor ∙ ap (ok_by (seen_by (names_of h.table))) is

      used : is_used h.table at.object ≡ true
      used = let there : IsThere h.table at = law.seen h.table at st.sound
          (record { descriptor = descriptor; found = is }) in there.used

      by_found : (r : Result (ℕ × Description) Errno) → descriptors.described w.object descriptor ≡ r
          → Some at.object ≡ numbered w (object_found r)
      by_found (Err e) its = absurd (err-ok e (seen_by (names_of h.table) at)
          (sym (ap (λ (r : Result (ℕ × Description) Errno). r >>= (λ found. Ok (seen_of w.object descriptor found)))
          its) ∙ seen_so))
      by_found (Ok found) its =
          let same : seen_of w.object descriptor found ≡ seen_by (names_of h.table) at =
          ok_same _ _ (sym (ap (λ (r : Result (ℕ × Description) Errno).
          r >>= (λ found. Ok (seen_of w.object descriptor found))) its) ∙ seen_so) in
          let object : found.1.object ≡ birth_at h.table at.object = object_of_seen found same in
          ap (λ (n : ℕ). Some n) (sym (used_number h w at.object st used) ∙ ap (number_of w) (sym object))
        where
          object_of_seen : (found : ℕ × Description) → seen_of w.object descriptor found ≡ seen_by (names_of h.table) at
              → found.1.object ≡ birth_at h.table at.object
          object_of_seen (key, d) same = ap (λ (x : Seen). x.object) same

  taken_along : (c : Call) (carried : Carried) (listener : Option ℕ) → keeps_table c ≡ true
      → TakesAlong (view h.table) c listener
      → listener ≡ numbered w (door_taken w.object c carried)
  taken_along (call.TcpAccept descriptor) carried listener keeps takes = takes.listener_is
      ∙ found_object descriptor takes.at takes.found
  taken_along (call.HostOpen path access flags) carried listener keeps takes = takes
  taken_along (call.TcpListen port) carried listener keeps takes = takes
  taken_along (call.TcpConnect port) carried listener keeps takes = takes
  taken_along c carried listener keeps takes = absurd (false≢true keeps)

pub goes_opening : (law : TableFollows) (h : Stored) (c : Call) (carried : Carried) (object : ℕ) (blocks : Bool)
    (listener : Option ℕ) (new : NewDescriptor)
    → IsDecided h c carried.moved (record { object = object; deed = deed.Opens blocks listener new })
    → keeps_table c ≡ true → TakesAlong (view h.table) c listener
    → (patience : ℕ) → Performs patience carried h c (start.GoesOut (errand_of c blocks listener)) h
goes_opening law h c carried object blocks listener new decided keeps takes patience settings w same st =
    let effect = effect_is law h w st c carried (record { object = object; deed = deed.Opens blocks listener new })
    decided in
    record {
      request = ap (posix.query_of c) effect;
      door = taken_along law h w st c carried listener keeps takes;
      waits = sym (ap waits_by effect);
      change = λ frees. absurd (true≢false (sym keeps ∙ frees));
      ends = λ frees o. absurd (true≢false (sym keeps ∙ frees));
      kept = λ its. refl;
    }

-- ## A door that was opened, or not

both_first : (a b : Bool) → (a && b) ≡ true → a ≡ true
both_first a b is = (and_parts a b is).0

both_second : (a b : Bool) → (a && b) ≡ true → b ≡ true
both_second a b is = (and_parts a b is).1

-- what fits a listener is at a port
port_fits : (c : Call) (value : ℕ) (bytes : List ℕ) → fits (request_kind c) (request_asked c) (outcome.Ok value bytes)
    ≡ true → at_port c value ≡ true
unfolding fits
port_fits (call.TcpListen port) value bytes fit =
    let asked = request_asked (call.TcpListen port) in
    let value_fit = both_first (value_fits out.Listen asked value (length bytes)) (bytes_fit out.Listen (length bytes))
    fit in
    both_second (nat_le 1 value) (nat_le value 65535)
    (both_first (nat_le 1 value && nat_le value 65535) (asked == 0 || value == asked) value_fit)
port_fits c value bytes fit = refl

module _ (law : TableFollows) (h : Stored) (c : Call) (carried : Carried) (object : ℕ) (blocks : Bool)
    (listener : Option ℕ) (new : NewDescriptor)
    (decided : IsDecided h c carried.moved (record { object = object; deed = deed.Opens blocks listener new })) where
  by_deed : (w : World) → Stands h w
      → posix.effect_of w.object c carried ≡ Ok (asks_to_open w.object c blocks (new_by (names_of h.table) new))
  by_deed w st = effect_is law h w st c carried (record { object = object; deed = deed.Opens blocks listener new })
      decided

  pub door_opens : (u : TableState) (value : ℕ) (bytes : List ℕ) (patience : ℕ) → length h.bodies ≡ limit.OBJECTS
      → free_object h.table ≡ Some new.object
      → ((w : World) → Stands h w → Leaves h.table u (door_opened w.object c (new_by (names_of h.table) new) value))
      → Opens patience carried h c (outcome.Ok value bytes) (end.Reply (reply.Number (pos new.number)))
      (record { table = u; bodies = h.bodies })
  door_opens u value bytes patience long free leaves settings w r same st keeps asked fit = (
    ap (λ (e : Result Effect Errno). answer_in (concluded settings w.object (Some (outcome.Ok value bytes)) carried e))
        (by_deed w st),
    subst (λ (e : Result Effect Errno). Stands (record { table = u; bodies = h.bodies })
        (world_with w (concluded settings w.object (Some (outcome.Ok value bytes)) carried e).after))
        (sym (by_deed w st))
        (stands_opened law h w st long c u new value free (leaves w st)),
  )

  pub door_fails : (error : Errno) (e : TurnEnd) (patience : ℕ)
      → EndsOutside patience carried (errand_of c blocks listener) (outcome.Fail error) e
      → Opens patience carried h c (outcome.Fail error) e h
  door_fails error e patience ends settings w r same st keeps asked fit = (
    ap (λ (x : Result Effect Errno). answer_in (concluded settings w.object (Some (outcome.Fail error)) carried x))
        (by_deed w st)
        ∙ by_test (blocks && is_again error) ∙ ends settings w.object same,
    subst (λ (x : Result Effect Errno). Stands h
        (world_with w (concluded settings w.object (Some (outcome.Fail error)) carried x).after)) (sym (by_deed w st))
        (subst (λ (s : State). Stands h (world_with w s)) (sym (left_alone (blocks && is_again error)))
        (stands_same law h w st)),
  )
    where
      by_test : (b : Bool)
          → answer_in (if b then waited settings w.object nothing_moved carried else failed w.object error)
          ≡ as_answer (ended settings w.object carried (if b then act_end.Waits nothing_moved
          else act_end.Reply (reply.Fail error)))
      by_test true = refl
      by_test false = refl

      left_alone : (b : Bool) → (if b then waited settings w.object nothing_moved carried
          else failed w.object error).after ≡ w.object
      left_alone true = waited_after settings w.object nothing_moved carried
      left_alone false = refl

  pub off_port : (value : ℕ) (bytes : List ℕ) (e : TurnEnd) (after : Stored) (patience : ℕ) → at_port c value ≡ false
      → Opens patience carried h c (outcome.Ok value bytes) e after
  off_port value bytes e after patience off settings w r same st keeps asked fit =
      let own : Query = record { kind = request_kind c; asked = request_asked c; call = c } in
      let its : own ≡ r = same_Some own r (sym (ap (posix.query_of c) (by_deed w st)) ∙ asked) in
      let fit_own : fits (request_kind c) (request_asked c) (outcome.Ok value bytes) ≡ true =
      subst (λ (q : Query). fits q.kind q.asked (outcome.Ok value bytes) ≡ true) (sym its) fit in
      absurd (false≢true (sym off ∙ port_fits c value bytes fit_own))

pub keeps_none : (v : View) (c : Call) (object : ℕ) (d : Deed) → CanDo v c object d
    → ((blocks : Bool) (listener : Option ℕ) (new : NewDescriptor) → d ≡ deed.Opens blocks listener new → ⊥)
    → keeps_table c ≡ false
keeps_none v c object (deed.Acts a x) can other = can.3
keeps_none v c object (deed.Asks blocks) can other = can.2
keeps_none v c object (deed.Closes n key) can other = can.3
keeps_none v c object (deed.Opens blocks listener new) can other = absurd (other blocks listener new refl)

-- what was to ask nothing keeps no table
pub no_door : (h : Stored) (c : Call) (carried : Carried) (o : Outcome) (e : TurnEnd) (after : Stored) (patience : ℕ)
    → keeps_table c ≡ false → Opens patience carried h c o e after
no_door h c carried o e after patience frees settings w r same st keeps asked fit =
    absurd (true≢false (sym keeps ∙ frees))

-- ## What came of a request

pub succeeds : (patience : ℕ) (carried : Carried) (errand : Errand) (o : Outcome) (value : ℕ) (bytes : List ℕ)
    (r : Reply) → o ≡ outcome.Ok value bytes → r ≡ told_outside errand.kind value bytes
    → EndsOutside patience carried errand o (end.Reply r)
succeeds patience carried errand o value bytes r is told settings s same =
    ap (λ (x : Outcome). as_answer (ended settings s carried (outside_ending errand (Some x)))) is
    ∙ ap end.Reply (sym told)

at_most : (asked value count : ℕ) → (value == count) ≡ true → nat_le value asked ≡ true → count ≤ asked
at_most asked value count same within = grind (arith, nat_tests)

-- what is no read, no write and no seek tells no more than that it is done
pub told_done : (k : OutKind) (value : ℕ) (bytes : List ℕ) → (k ≡ out.Read → ⊥) → (k ≡ out.Write → ⊥)
    → (k ≡ out.Seek → ⊥) → reply.Done ≡ told_outside k value bytes
told_done out.Read value bytes read write seek = absurd (read refl)
told_done out.Write value bytes read write seek = absurd (write refl)
told_done out.Seek value bytes read write seek = absurd (seek refl)
told_done k value bytes read write seek = refl

-- an offset that fits is below 2^63
pub offset_fits : (asked value : ℕ) (bytes : List ℕ) → fits out.Seek asked (outcome.Ok value bytes) ≡ true
    → nat_le value 9223372036854775807 ≡ true
unfolding fits
offset_fits asked value bytes fit = both_first (nat_le value 9223372036854775807) (bytes_fit out.Seek (length bytes))
    fit

-- a read brings no more bytes than it asks
pub read_fits : (asked value : ℕ) (bytes : List ℕ) → fits out.Read asked (outcome.Ok value bytes) ≡ true
    → length bytes ≤ asked
unfolding fits
read_fits asked value bytes fit =
    let value_fit = both_first (value == length bytes && nat_le value asked) (bytes_fit out.Read (length bytes)) fit in
    at_most asked value (length bytes) (both_first (value == length bytes) (nat_le value asked) value_fit)
    (both_second (value == length bytes) (nat_le value asked) value_fit)
