-- What turns of calls do to the descriptions that lead outside.
use Rattle.std.proofs.Common.{◌≡◌, ◌⊎◌, ℕ, ◌==◌, ℤ, pos, Option, Some, None, Result, Ok, Err, Bool, true, false}
use Rattle.std.proofs.Common.{is_some, List, length, inl, inr, refl, sym, ap, ◌∙◌, subst}
use Rattle.std.proofs.lemmas.Bool.{false≢true, true≢false}
use Rattle.std.proofs.lemmas.Option.{none-some, same_Some}
use Rattle.std.specs.FinMap as fin
use Rattle.std.specs.Ordering.{nat_cmp}
use Rattle.std.specs.Prelude.{IfSome, is_ok, slice_index_or}
use Rattle.file_descriptions.specs.Descriptions.{ContainsKey, DescriptionMap, description_at, is_last_held}
use Rattle.file_descriptions.specs.Descriptions.{no_descriptions, with_offset}
use Rattle.file_descriptions.specs.declared.description.Description.{Description}
use Rattle.posix_terms.specs.Calls.{Call}
use Rattle.posix_terms.specs.declared.call.Call.TheVariants as call
use Rattle.posix_terms.specs.declared.errno.Errno.{Errno}
use Rattle.posix_terms.specs.declared.errno.Errno.TheVariants.{EBADF}
use Rattle.posix_terms.specs.declared.object.Door.{Door}
use Rattle.posix_terms.specs.declared.object.Door.TheVariants as door
use Rattle.posix_terms.specs.declared.object.End.{End}
use Rattle.posix_terms.specs.declared.object.End.TheVariants as part
use Rattle.sequential_object.specs.Acts.{Acted}
use Rattle.sequential_object.specs.Deciding.{leads_outside}
use Rattle.sequential_object.specs.Doors.{must_be_listener}
use Rattle.sequential_object.specs.Locked.{keeps_table}
use Rattle.sequential_object.specs.Meant.{key_of, request_kind, transfers}
use Rattle.sequential_object.specs.Object.{Content}
use Rattle.sequential_object.specs.Refusals.{◌>>=◌, some_or}
use Rattle.sequential_object.specs.So.{CanDo, IsClose, IsOpening}
use Rattle.sequential_object.specs.Transfers.{not_listener}
use Rattle.sequential_object.specs.declared.decision.Act.{Act}
use Rattle.sequential_object.specs.declared.decision.Act.TheVariants as act
use Rattle.sequential_object.specs.declared.decision.Change.TheVariants as change
use Rattle.sequential_object.specs.declared.decision.Deed.TheVariants as deed
use Rattle.sequential_object.specs.declared.decision.NewDescriptor.{NewDescriptor}
use Rattle.sequential_object.specs.declared.decision.Seen.{Seen}
use Rattle.descriptor_table.specs.Doors.{AddsNone, AddsOne, GoneWithLast, HaveOne, LeadsTo, WasThere}
use Rattle.descriptor_table.specs.Laws.{TableFollows}
use Rattle.descriptor_table.specs.Plans.{errand_of}
use Rattle.descriptor_table.specs.Table.{IsSound, TableState, key_at}
use Rattle.descriptor_table.specs.View.{seen_of, view}
use Rattle.call_turns.specs.Acting.{IsReady, holding_if, left_by, moved_if}
use Rattle.call_turns.specs.Doors.{GoesBy, KeepsDoors, brings_back, is_listener, takes_along}
use Rattle.call_turns.specs.Store.{Stored}
use Rattle.call_turns.proofs.Found.{known_at, put_at}

-- ## What adds no door

pub adds_none : (m : DescriptionMap) → AddsNone m m
adds_none m q e at out = record { before = e; there = at; node = refl; «end» = refl }

pub offset_adds : (m : DescriptionMap) (key offset : ℕ) → ContainsKey m key → AddsNone m (with_offset m key offset)
offset_adds m key offset there q e at out = by_place (put_at m.by_key key x q e at)
  where
    x : Description
    x = record (description_at m key) { offset = offset }

    by_place : ((q ≡ key) × (x ≡ e)) ⊎ ((q ≡ key → ⊥) × (fin.get m.by_key q ≡ Some e)) → WasThere m q e
    by_place (inl (is, same)) = record {
      before = description_at m key;
      there = ap (fin.get m.by_key) is ∙ known_at m key there;
      node = ap (λ (d : Description). d.node) same;
      «end» = ap (λ (d : Description). d.«end») same;
    }
    by_place (inr (apart, old)) = record { before = e; there = old; node = refl; «end» = refl }

pub one_adds : (m later : DescriptionMap) → AddsNone m later → HaveOne m → HaveOne later
one_adds m later adds one q r e f at_q at_r same out also =
    let left = adds q e at_q out in
    let right = adds r f at_r also in
    one q r left.before right.before left.there right.there (left.node ∙ same ∙ sym right.node)
    (ap leads_outside left.«end» ∙ out) (ap leads_outside right.«end» ∙ also)

-- the object of a new door had no description
pub one_opened : (t : TableState) (object : ℕ) (later : DescriptionMap) → IsSound t
    → slice_index_or t.objects object None ≡ None → AddsOne t.descriptions object later → HaveOne t.descriptions
    → HaveOne later
one_opened t object later sound free opens one q r e f at_q at_r same out also =
    by_two (opens.adds q e at_q out) (opens.adds r f at_r also)
  where
    mixed : {A : Type 0} (x : ℕ) (y : Description) → WasThere t.descriptions x y → y.node ≡ object → A
    mixed x y was is = absurd (false≢true (sym (ap (λ (n : ℕ). is_some (slice_index_or t.objects n None))
        (was.node ∙ is) ∙ ap is_some free) ∙ sound.described_objects x was.before was.there))

    by_two : WasThere t.descriptions q e ⊎ ((q ≡ opens.key) × (e.node ≡ object))
        → WasThere t.descriptions r f ⊎ ((r ≡ opens.key) × (f.node ≡ object)) → q ≡ r
    by_two (inl left) (inl right) =
        one q r left.before right.before left.there right.there (left.node ∙ same ∙ sym right.node)
        (ap leads_outside left.«end» ∙ out) (ap leads_outside right.«end» ∙ also)
    by_two (inl left) (inr new) = mixed q e left (same ∙ new.1)
    by_two (inr new) (inl right) = mixed r f right (sym same ∙ new.1)
    by_two (inr new) (inr other) = new.0 ∙ sym other.0

pub empty_one : HaveOne no_descriptions
empty_one q r e f at_q at_r same out also = absurd (none-some e (sym (fin.get-empty nat_cmp q) ∙ at_q))

moved_adds : (h : Stored) (key offset : Option ℕ) → IfSome key (ContainsKey h.table.descriptions)
    → AddsNone h.table.descriptions (moved_if h key offset).table.descriptions
moved_adds h (Some key) (Some n) known = offset_adds h.table.descriptions key n known
moved_adds h (Some key) None known = adds_none h.table.descriptions
moved_adds h None offset known = adds_none h.table.descriptions

pub left_adds : (h : Stored) (object : ℕ) (key : Option ℕ) (done : Acted)
    → IfSome key (ContainsKey h.table.descriptions) → KeepsDoors h (left_by h object key done)
left_adds h object key done known = by_content done.content
  where
    by_content : (o : Option Content) → AddsNone h.table.descriptions
        (holding_if (moved_if h key done.offset) object o).table.descriptions
    by_content (Some content) = moved_adds h key done.offset known
    by_content None = moved_adds h key done.offset known

-- the description that an act reads or moves is there
pub key_known : (h : Stored) (a : Act) (room : List ℕ) → IsReady h.table (length room) a
    → IfSome (key_of a) (ContainsKey h.table.descriptions)
key_known h (act.Read from count) room ready = ready.0
key_known h (act.Write to before) room ready = ready
key_known h (act.Lseek at) room ready = ready
key_known h a room ready = tt

-- ## What a call sees

-- a description that a call sees
pub record IsSeenAt (m : DescriptionMap) (at : Seen) : Type 0 where
  pub description : Description
  pub there : fin.get m.by_key at.key ≡ Some description
  pub object : description.node ≡ at.object
  pub which : description.«end» ≡ at.«end»
  pub last : is_last_held m at.key ≡ at.last

seen_at : (law : TableFollows) (t : TableState) (descriptor : ℤ) (at : Seen) → IsSound t
    → (let v = view t in v.described descriptor ≡ Ok at) → IsSeenAt t.descriptions at
seen_at law t descriptor at sound found = by_key (key_at t descriptor) found
  where
    known : ContainsKey t.descriptions at.key
    known = let its = law.seen t at sound (record { descriptor = descriptor; found = found }) in its.key

    seen_in : Seen → Result Seen Errno → Seen
    seen_in other (Ok x) = x
    seen_in other (Err e) = other

    by_key : (o : Option ℕ)
        → (let r : Result Seen Errno = some_or o EBADF >>= (λ key. Ok (key, description_at t.descriptions key))
        >>= (λ found. Ok (seen_of descriptor found)) in r ≡ Ok at) → IsSeenAt t.descriptions at
    by_key (Some key) is =
        let same : seen_of descriptor (key, description_at t.descriptions key) ≡ at = ap (seen_in at) is in
        let own : key ≡ at.key = ap (λ (x : Seen). x.key) same in
        let d : Description = description_at t.descriptions at.key in
        let moved : description_at t.descriptions at.key ≡ description_at t.descriptions key =
        ap (description_at t.descriptions) (sym own) in
        record {
          description = d;
          there = known_at t.descriptions at.key known;
          object = ap (λ (x : Description). x.node) moved ∙ ap (λ (x : Seen). x.object) same;
          which = ap (λ (x : Description). x.«end») moved ∙ ap (λ (x : Seen). x.«end») same;
          last = ap (λ (x : Description). x.holders == 1) moved ∙ ap (λ (x : Seen). x.last) same;
        }
    by_key None is = absurd (false≢true (ap is_ok is))

door_end : (which : End) → leads_outside which ≡ true → (d : Door) × (which ≡ part.Door d)
door_end (part.Door d) is = (d, refl)
door_end part.Only is = absurd (false≢true is)
door_end part.Read is = absurd (false≢true is)
door_end part.Write is = absurd (false≢true is)
door_end (part.Socket side) is = absurd (false≢true is)

-- which leads outside
leads : (m : DescriptionMap) (at : Seen) (d : Door) → IsSeenAt m at → at.«end» ≡ part.Door d → LeadsTo m at.object d
leads m at d its is = record {
  key = at.key;
  description = its.description;
  there = its.there;
  own = its.object;
  which = its.which ∙ is;
}

abbrev door_in : Door → End → Door
door_in other (part.Door d) = d
door_in other which = other

one_door : (m : DescriptionMap) (n : ℕ) (d e : Door) → HaveOne m → LeadsTo m n d → LeadsTo m n e → d ≡ e
one_door m n d e one x y =
    let key : x.key ≡ y.key = one x.key y.key x.description y.description x.there y.there (x.own ∙ sym y.own)
    (ap leads_outside x.which) (ap leads_outside y.which) in
    let same : x.description ≡ y.description =
    same_Some x.description y.description (sym x.there ∙ ap (fin.get m.by_key) key ∙ y.there) in
    ap (door_in d) (sym x.which ∙ ap (λ (z : Description). z.«end») same ∙ y.which)

no_listener : (which : End) (d : Door) → which ≡ part.Door d → not_listener which ≡ Ok tt → is_listener d ≡ false
no_listener which (door.Listener port) is free =
    absurd (false≢true (ap (λ (e : End). is_ok (not_listener e)) (sym is) ∙ ap is_ok free))
no_listener which door.HostFile is free = refl
no_listener which door.Stream is free = refl

a_listener : (which : End) (d : Door) → which ≡ part.Door d → must_be_listener which ≡ Ok tt → is_listener d ≡ true
a_listener which (door.Listener port) is must = refl
a_listener which door.HostFile is must =
    absurd (false≢true (ap (λ (e : End). is_ok (must_be_listener e)) (sym is) ∙ ap is_ok must))
a_listener which door.Stream is must =
    absurd (false≢true (ap (λ (e : End). is_ok (must_be_listener e)) (sym is) ∙ ap is_ok must))

-- ## Calls that go outside

record IsTransfer (c : Call) : Type 0 where
  frees : keeps_table c ≡ false
  returns : brings_back (request_kind c) ≡ true
  along : takes_along (request_kind c) ≡ true

transfer : (c : Call) → transfers c ≡ true → IsTransfer c
transfer (call.Read descriptor count) is = record { frees = refl; returns = refl; along = refl }
transfer (call.Write descriptor bytes) is = record { frees = refl; returns = refl; along = refl }
transfer (call.Lseek descriptor offset whence) is = record { frees = refl; returns = refl; along = refl }
transfer (call.Shutdown descriptor how) is = record { frees = refl; returns = refl; along = refl }
transfer c is = absurd (false≢true is)

closes : (c : Call) → IsClose c → (keeps_table c ≡ false) × (takes_along (request_kind c) ≡ true)
closes (call.Close descriptor) is = (refl, refl)
closes c is = absurd is

module _ (law : TableFollows) (h : Stored) (c : Call) (object : ℕ) (sound : IsSound h.table)
    (one : HaveOne h.table.descriptions) where
  frees_finds : (at : Seen) (d : Door) (n : ℕ) → IsSeenAt h.table.descriptions at → at.object ≡ object
      → at.«end» ≡ part.Door d → keeps_table c ≡ false → Some object ≡ Some n
      → (d : Door) × (LeadsTo h.table.descriptions n d
      × (keeps_table c ≡ true → (brings_back (request_kind c) ≡ true) × (is_listener d ≡ true)))
  frees_finds at d n its own which frees is = (
    d,
    (
      subst (λ (m : ℕ). LeadsTo h.table.descriptions m d) (own ∙ same_Some object n is)
          (leads h.table.descriptions at d its which),
      λ keeps. absurd (true≢false (sym keeps ∙ frees)),
    ),
  )

  pub goes_asking : (blocks : Bool) → CanDo (view h.table) c object (deed.Asks blocks)
      → GoesBy object (keeps_table c) (errand_of c blocks (Some object)) h h
  goes_asking blocks can =
      let its = can.0 in
      let free = transfer c can.4 in
      let seen = seen_at law h.table its.found.descriptor its.at sound its.found.found in
      let e = door_end its.at.«end» its.outside in
      record {
        along = sym free.along;
        own = λ frees. refl;
        finds = λ n is. frees_finds its.at e.0 n seen its.object_is e.1 free.frees is;
        apart = λ d frees l. (
          ap is_listener (one_door h.table.descriptions object d e.0 one l
              (subst (λ (m : ℕ). LeadsTo h.table.descriptions m e.0) its.object_is
              (leads h.table.descriptions its.at e.0 seen e.1)))
              ∙ no_listener its.at.«end» e.0 e.1 its.carries,
          free.returns,
        );
      }

  pub goes_closing : (number key : ℕ) (new : Stored) → CanDo (view h.table) c object (deed.Closes number key)
      → KeepsDoors h new → GoneWithLast h.table.descriptions (change.Close number key) new.table.descriptions
      → GoesBy object (keeps_table c) (errand_of c false (Some object)) h new
  goes_closing number key new can adds ends =
      let its = can.0 in
      let refers = can.1 in
      let free = closes c can.4 in
      let seen = seen_at law h.table (pos number) its.at sound its.found in
      let e = door_end its.at.«end» its.outside in
      let own : (let x = its.at in x.key) ≡ key = ap key_of (sym its.found ∙ refers.found) ∙ refers.key_is in
      let gone : fin.get new.table.descriptions.by_key key ≡ None =
      ends (ap (is_last_held h.table.descriptions) (sym own) ∙ seen.last ∙ its.last) in
      record {
        along = sym free.1;
        own = λ frees. refl;
        finds = λ n is. frees_finds its.at e.0 n seen its.object_is e.1 free.0 is;
        apart = λ d frees l.
            let was = adds l.key l.description l.there (ap leads_outside l.which) in
            let same : l.key ≡ (let x = its.at in x.key) =
            one l.key (let x = its.at in x.key) was.before seen.description was.there seen.there
            (was.node ∙ l.own ∙ sym (seen.object ∙ its.object_is)) (ap leads_outside (was.«end» ∙ l.which))
            (ap leads_outside seen.which ∙ its.outside) in
            absurd (none-some l.description (sym gone ∙ ap (fin.get new.table.descriptions.by_key) (sym (same ∙ own))
            ∙ l.there));
      }
    where
      key_of : Result Seen Errno → ℕ
      key_of (Ok x) = x.key
      key_of (Err e) = 0

  pub goes_opening : (blocks : Bool) (listener : Option ℕ) (new : NewDescriptor)
      → IsOpening (view h.table) c listener new → GoesBy object (keeps_table c) (errand_of c blocks listener) h h
  goes_opening blocks listener new can =
      let parts = by_call c listener can in
      record {
        along = parts.0;
        own = λ frees. absurd (true≢false (sym can.keeps ∙ frees));
        finds = parts.1;
        apart = λ d frees l. absurd (true≢false (sym can.keeps ∙ frees));
      }
    where
      by_call : (c : Call) (listener : Option ℕ) → IsOpening (view h.table) c listener new
          → (is_some listener ≡ takes_along (request_kind c)) × ((n : ℕ) → listener ≡ Some n
          → (d : Door) × (LeadsTo h.table.descriptions n d
          × (keeps_table c ≡ true → (brings_back (request_kind c) ≡ true) × (is_listener d ≡ true))))
      by_call (call.HostOpen path access flags) listener is = (
        ap is_some is.takes,
        λ n at. absurd (none-some n (sym is.takes ∙ at)),
      )
      by_call (call.TcpListen port) listener is = (
        ap is_some is.takes,
        λ n at. absurd (none-some n (sym is.takes ∙ at)),
      )
      by_call (call.TcpConnect port) listener is = (
        ap is_some is.takes,
        λ n at. absurd (none-some n (sym is.takes ∙ at)),
      )
      by_call (call.TcpAccept descriptor) listener is =
          let its = is.takes in
          let e = door_end its.at.«end» its.outside in (
            ap is_some its.listener_is,
            λ n at. (
              e.0,
              (
                subst (λ (m : ℕ). LeadsTo h.table.descriptions m e.0)
                    (same_Some (let x = its.at in x.object) n (sym its.listener_is ∙ at))
                    (leads h.table.descriptions its.at e.0 (seen_at law h.table descriptor its.at sound its.found) e.1),
                λ keeps. (refl, a_listener its.at.«end» e.0 e.1 its.listens),
              ),
            ),
          )
      by_call c listener is = absurd (false≢true is.keeps)
