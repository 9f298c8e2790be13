-- A turn that acts on the object which its call locked.
use Rattle.std.proofs.Common.{◌≡◌, ℕ, [], length, Option, Some, None, Result, Bool, true, false, refl, sym, ap, ◌∙◌}
use Rattle.std.proofs.Common.{subst, arith}
use Rattle.std.specs.Option.{option_map}
use Rattle.std.specs.Prelude.{pos}
use Rattle.sequential_object.specs.Descriptors as posix
use Rattle.sequential_object.specs.Effects.{Effect}
use Rattle.sequential_object.specs.Object.{State, Content, File, content_of, with_content}
use Rattle.sequential_object.specs.Numbers.{world_with}
use Rattle.sequential_object.specs.Step.{Carried, concluded, step}
use Rattle.sequential_object.specs.Worlds.{World}
use Rattle.sequential_object.specs.declared.turn_end.ActEnd.{ActEnd}
use Rattle.sequential_object.specs.declared.turn_end.ActEnd.TheVariants as act_end
use Rattle.posix_terms.specs.Calls.{Call}
use Rattle.posix_terms.specs.declared.call.Call.TheVariants as call
use Rattle.posix_terms.specs.declared.errno.Errno.{Errno}
use Rattle.posix_terms.specs.declared.limits.TheConstants.Limits as limit
use Rattle.posix_terms.specs.declared.object.End.TheVariants as part
use Rattle.posix_terms.specs.declared.reply.Reply.{Reply}
use Rattle.posix_terms.specs.declared.reply.Reply.TheVariants as reply
use Rattle.posix_terms.specs.declared.transcript.Settings.{Settings}
use Rattle.sequential_object.specs.Acts.{Acted, Replies, acted, released_reply}
use Rattle.sequential_object.specs.Changes.{changed}
use Rattle.sequential_object.specs.Meant as meant
use Rattle.sequential_object.specs.Meant.{acts, description_of, does, holding, key_of, moved_to, offset_in, put}
use Rattle.sequential_object.specs.Renaming.{act_by, change_by}
use Rattle.sequential_object.specs.So.{CanAct, CanDo, ChangesWith}
use Rattle.sequential_object.specs.declared.decision.Act.{Act}
use Rattle.sequential_object.specs.declared.decision.Act.TheVariants as act
use Rattle.sequential_object.specs.declared.decision.Change.{Change}
use Rattle.sequential_object.specs.declared.decision.Change.TheVariants as change
use Rattle.sequential_object.specs.declared.decision.Deed.TheVariants as deed
use Rattle.descriptor_table.specs.Laws.{HasEndsOf, IsThere, TableFollows}
use Rattle.descriptor_table.specs.Shows.{birth_at, birth_of, is_of}
use Rattle.descriptor_table.specs.Table.{IsSound, TableState, is_open}
use Rattle.descriptor_table.specs.View.{names_of, view}
use Rattle.call_turns.specs.Acting.{IsReady, Leaves, StandsChanged, acts_at, cut_to, held_for, holding_if, left_by}
use Rattle.call_turns.specs.Acting.{moved_if, stands_at}
use Rattle.sequential_object.specs.Bytes.{read_count}
use Rattle.call_turns.specs.Patience.{end_of}
use Rattle.call_turns.specs.Store.{EndsTurn, IsDecided, Stands, Stored, kept_at}
use Rattle.call_turns.specs.declared.patience.Locking.{Locking}
use Rattle.call_turns.proofs.Acting.{ReadsOrWrites, Ready, acts_alike, acts_tame, key_named, ready}
use Rattle.call_turns.proofs.Putting.{IsAlike, moved_state, puts}
use Rattle.call_turns.proofs.Turning.{EndsSo, effect_is, ends_by}

nothing_by : (object : ℕ) (a : Act) (x : Change) → ReadsOrWrites a → ChangesWith object a x → x ≡ change.Nothing
nothing_by object (act.Read from count) x its is = is
nothing_by object (act.Write to before) x its is = is
nothing_by object (act.Pread count position) x its is = is
nothing_by object (act.Pwrite position) x its is = is
nothing_by object (act.Lseek at) x its is = is
nothing_by object (act.Ftruncate size) x its is = is
nothing_by object (act.Fstat links) x its is = is
nothing_by object (act.Shutdown side how) x its is = is
nothing_by object (act.Open n cut) x its is = absurd its
nothing_by object (act.Create n) x its is = absurd its
nothing_by object act.Release x its is = absurd its
nothing_by object (act.Pipe first second) x its is = absurd its
nothing_by object (act.Socketpair first second) x its is = absurd its

abbrev locked_for : ℕ → Act → Change → Locking
locked_for object a x = record { object = object; deed = deed.Acts a x }

module _ (law : TableFollows) (h : Stored) (c : Call) (object : ℕ) (a : Act) (x : Change)
    (can : CanDo (view h.table) c object (deed.Acts a x)) (long : length h.bodies ≡ limit.OBJECTS) (carried : Carried)
    (decided : IsDecided h c carried.moved (record { object = object; deed = deed.Acts a x })) where
  -- what the step makes of it
  by_effect : (settings : Settings) (w : World) (st : Stands h w) (e : ActEnd) (new : Stored)
      → EndsSo settings w carried (concluded settings w.object None carried
      (acts (changed w.object c (change_by (names_of h.table) x)) (birth_at h.table object)
      (act_by (names_of h.table) a) c)) e new
      → EndsSo settings w carried (step settings w.object c None carried) e new
  by_effect settings w st e new ends =
      subst (λ (r : Result Effect Errno). EndsSo settings w carried (concluded settings w.object None carried r) e new)
      (sym (effect_is law h w st c carried (record { object = object; deed = deed.Acts a x }) decided)) ends

  -- ## An act that reads or writes

  module _ (its : ReadsOrWrites a) (settings : Settings) (w : World) (st : Stands h w) where
    ready_is : Ready law h w st object a
    ready_is = ready law h w st c object a its can.1

    done : Acted
    done = acts_at h object a c

    key : Option ℕ
    key = key_of (act_by (names_of h.table) a)

    same_done : acted (posix.has_end w.object (birth_at h.table object)) (act_by (names_of h.table) a) c
        (content_of w.object (birth_at h.table object))
        (offset_in (description_of w.object (key_of (act_by (names_of h.table) a)))) ≡ acts_at h object a c
    same_done =
        acts_alike law h w st c object a _ its ready_is.used
        ∙ ap (λ (content : Content). acted (is_open h.table object) a c content
        (offset_in (description_of w.object (key_of (act_by (names_of h.table) a))))) ready_is.content
        ∙ ap (λ (k : Option ℕ). acted (is_open h.table object) a c (held_for a (kept_at h object))
        (offset_in (description_of w.object k))) (key_named law h w st a)
        ∙ ap (λ (n : ℕ). acted (is_open h.table object) a c (held_for a (kept_at h object)) n) ready_is.offset

    tame : IsAlike (acts_at h object a c).content (content_of w.object (birth_at h.table object))
    tame =
        subst (λ (content : Content). IsAlike (acts_at h object a c).content content) (sym ready_is.content)
        (acts_tame (is_open h.table object) a c (held_for a (kept_at h object)) (stands_at h (key_of a)) its).0

    after : State
    after = holding (moved_state law h w st (key_of a) (acts_at h object a c).offset) (birth_at h.table object)
        (acts_at h object a c).content

    stands_after : Stands (left_by h object (key_of a) (acts_at h object a c))
        (world_with w (holding (moved_state law h w st (key_of a) (acts_at h object a c).offset)
        (birth_at h.table object) (acts_at h object a c).content))
    stands_after = puts law h w st object (key_of a) (acts_at h object a c).offset (acts_at h object a c).content
        ready_is.used long ready_is.known tame

    fails_alone : (e : Errno) → (acts_at h object a c).ending ≡ Replies (reply.Fail e)
        → holding (moved_state law h w st (key_of a) (acts_at h object a c).offset) (birth_at h.table object)
        (acts_at h object a c).content ≡ w.object
    fails_alone e is =
        let none = (acts_tame (is_open h.table object) a c (held_for a (kept_at h object)) (stands_at h (key_of a))
        its).1 e is in
        ap (λ (o : Option Content). holding (moved_state law h w st (key_of a) (acts_at h object a c).offset)
        (birth_at h.table object) o) none.0
        ∙ ap (λ (o : Option ℕ). moved_state law h w st (key_of a) o) none.1

    same_put : (k : Option ℕ) → key_of (act_by (names_of h.table) a) ≡ k → (d : Acted)
        → put w.object (birth_at h.table object) (act_by (names_of h.table) a) d
        ≡ holding (moved_to w.object d.offset k (description_of w.object k)) (birth_at h.table object) d.content
    same_put k is d = ap (λ (q : Option ℕ). holding (moved_to w.object d.offset q (description_of w.object q))
        (birth_at h.table object) d.content) is

    ends_so : EndsSo settings w carried
        (concluded settings w.object None carried
        (acts w.object (birth_at h.table object) (act_by (names_of h.table) a) c))
        (end_of (acts_at h object a c).ending) (left_by h object (key_of a) (acts_at h object a c))
    ends_so =
        subst (λ (d : Acted). EndsSo settings w carried
        (concluded settings w.object None carried
        (meant.ended (put w.object (birth_at h.table object) (act_by (names_of h.table) a) d) d.ending))
        (end_of (acts_at h object a c).ending) (left_by h object (key_of a) (acts_at h object a c)))
        (sym same_done)
        (subst (λ (after : State). EndsSo settings w carried
        (concluded settings w.object None carried (meant.ended after (acts_at h object a c).ending))
        (end_of (acts_at h object a c).ending) (left_by h object (key_of a) (acts_at h object a c)))
        (sym (same_put (option_map (birth_of h.table) (key_of a)) (key_named law h w st a) (acts_at h object a c)))
        (ends_by settings w carried (acts_at h object a c).ending _ (left_by h object (key_of a) (acts_at h object a c))
        fails_alone stands_after))

  pub ends_acting : ReadsOrWrites a → (e : ActEnd) (new : Stored)
      → Leaves (acts_at h object a c) h object (key_of a) e new → EndsTurn carried h c e new
  ends_acting its e new leaves = λ settings w st.
      by_effect settings w st e new
      (subst (λ (y : Change). EndsSo settings w carried
      (concluded settings w.object None carried
      (acts (changed w.object c (change_by (names_of h.table) y)) (birth_at h.table object)
      (act_by (names_of h.table) a) c)) e new)
      (sym (nothing_by object a x its can.2))
      (subst (λ (y : ActEnd). EndsSo settings w carried
      (concluded settings w.object None carried
      (acts w.object (birth_at h.table object) (act_by (names_of h.table) a) c)) y new) (sym leaves.0)
      (subst (λ (n : Stored). EndsSo settings w carried
      (concluded settings w.object None carried
      (acts w.object (birth_at h.table object) (act_by (names_of h.table) a) c))
      (end_of (acts_at h object a c).ending) n) (sym leaves.1)
      (ends_so its settings w st))))

  -- ## An act that only replies

  pub ends_replying : (r : Reply) (new : Stored) → ((e : Errno) → Replies r ≡ Replies (reply.Fail e) → ⊥)
      → ((s : State) → acts s (birth_at h.table object) (act_by (names_of h.table) a) c ≡ meant.ended s (Replies r))
      → StandsChanged h c x new → EndsTurn carried h c (act_end.Reply r) new
  ends_replying r new succeeds replies stands = λ settings w st.
      by_effect settings w st (act_end.Reply r) new
      (subst (λ (y : Result Effect Errno). EndsSo settings w carried (concluded settings w.object None carried y)
      (act_end.Reply r) new)
      (sym (replies (changed w.object c (change_by (names_of h.table) x))))
      (ends_by settings w carried (Replies r) (changed w.object c (change_by (names_of h.table) x)) new
      (λ e is. absurd (succeeds e is)) (stands w st)))

-- ## A file that is opened, and may be cut first

file_of_any : (content : Content) → is_of part.Only content ≡ true → HasEndsOf (File []) content
file_of_any content is which its = grind (arith, is, its)

module _ (law : TableFollows) (h : Stored) (c : Call) (object n : ℕ) (cut : Bool) (x : Change)
    (can : CanDo (view h.table) c object (deed.Acts (act.Open n cut) x)) (long : length h.bodies ≡ limit.OBJECTS)
    (carried : Carried)
    (decided : IsDecided h c carried.moved (record { object = object; deed = deed.Acts (act.Open n cut) x })) where
  -- what a cut file is in the world
  abbrev cut_world : World → World
  cut_world w = record w { object = with_content w.object (birth_at h.table object) (File []) }

  stands_cut : (w : World) → Stands h w → Stands (cut_to h object true) (cut_world w)
  unfolding world_with
  stands_cut w st =
      let named = law.named h.table object st.sound can.1.0 in
      let left = puts law h w st object None None (Some (File [])) named.0 long tt
      (file_of_any (content_of w.object (birth_at h.table object)) (named.1 w.object st.shows)) in
      record {
        sound = left.sound;
        described = left.described;
        shows = left.shows;
        contents = left.contents;
        numbers = st.numbers;
      }

  by_cut : (b : Bool) → cut ≡ b → (new : Stored) → StandsChanged (cut_to h object b) c x new
      → EndsTurn carried h c (act_end.Reply (reply.Number (pos n))) new
  unfolding world_with
  by_cut false is new stands = λ settings w st.
      by_effect law h c object (act.Open n cut) x can long carried decided settings w st
      (act_end.Reply (reply.Number (pos n))) new
      (subst (λ (b : Bool). EndsSo settings w carried
      (concluded settings w.object None carried
      (acts (changed w.object c (change_by (names_of h.table) x)) (birth_at h.table object) (act.Open n b) c))
      (act_end.Reply (reply.Number (pos n))) new)
      (sym is)
      (ends_by settings w carried (Replies (reply.Number (pos n))) (changed w.object c (change_by (names_of h.table) x))
      new (λ e is. cc) (stands w st)))
  by_cut true is new stands = λ settings w st.
      by_effect law h c object (act.Open n cut) x can long carried decided settings w st
      (act_end.Reply (reply.Number (pos n))) new
      (subst (λ (b : Bool). EndsSo settings w carried
      (concluded settings w.object None carried
      (acts (changed w.object c (change_by (names_of h.table) x)) (birth_at h.table object) (act.Open n b) c))
      (act_end.Reply (reply.Number (pos n))) new)
      (sym is)
      (subst (λ (y : Change). EndsSo settings w carried
      (concluded settings w.object None carried
      (acts (changed w.object c (change_by (names_of h.table) y)) (birth_at h.table object) (act.Open n true) c))
      (act_end.Reply (reply.Number (pos n))) new)
      (sym can.2.1)
      (ends_by settings w carried (Replies (reply.Number (pos n))) _ new (λ e is. cc)
      (subst (λ (y : Change). Stands new
      (world_with (cut_world w) (changed (cut_world w).object c (change_by (names_of h.table) y)))) can.2.1
      (stands (cut_world w) (stands_cut w st))))))

  pub ends_opening : (new : Stored) → StandsChanged (cut_to h object cut) c x new
      → EndsTurn carried h c (act_end.Reply (reply.Number (pos n))) new
  ends_opening new stands = by_cut cut refl new stands

-- ## What an act needs, and what it leaves alone

pub reads_or_writes : (t : TableState) (most : ℕ) (a : Act) → IsReady t most a → ReadsOrWrites a
reads_or_writes t most (act.Read from count) ready = tt
reads_or_writes t most (act.Write to before) ready = tt
reads_or_writes t most (act.Pread count position) ready = tt
reads_or_writes t most (act.Pwrite position) ready = tt
reads_or_writes t most (act.Lseek at) ready = tt
reads_or_writes t most (act.Ftruncate size) ready = tt
reads_or_writes t most (act.Fstat links) ready = tt
reads_or_writes t most (act.Shutdown side how) ready = tt
reads_or_writes t most (act.Open n cut) ready = absurd ready
reads_or_writes t most (act.Create n) ready = absurd ready
reads_or_writes t most act.Release ready = absurd ready
reads_or_writes t most (act.Pipe first second) ready = absurd ready
reads_or_writes t most (act.Socketpair first second) ready = absurd ready

pub ready_for : (law : TableFollows) (t : TableState) (c : Call) (object : ℕ) (a : Act) → IsSound t
    → CanAct (view t) c object a → ReadsOrWrites a
    → IsReady t (read_count c) a
ready_for law t c object (act.Read from count) sound can its =
    let there : IsThere t from = law.seen t from sound can.0.found in (there.key, can.1)
ready_for law t c object (act.Write to before) sound can its =
    let there : IsThere t to = law.seen t to sound can.found in there.key
ready_for law t c object (act.Pread count position) sound can its = can.1
ready_for law t c object (act.Pwrite position) sound can its = tt
ready_for law t c object (act.Lseek at) sound can its = let there : IsThere t at = law.seen t at sound can.found in
    there.key
ready_for law t c object (act.Ftruncate size) sound can its = can.1
ready_for law t c object (act.Fstat links) sound can its = tt
ready_for law t c object (act.Shutdown side how) sound can its = tt
ready_for law t c object (act.Open n cut) sound can its = absurd its
ready_for law t c object (act.Create n) sound can its = absurd its
ready_for law t c object act.Release sound can its = absurd its
ready_for law t c object (act.Pipe first second) sound can its = absurd its
ready_for law t c object (act.Socketpair first second) sound can its = absurd its

-- it makes nothing
abbrev pub MakesNothing : Stored → Stored → Type 0
MakesNothing h new = (new.table.descriptions.made ≡ h.table.descriptions.made)
    × (new.table.made_objects ≡ h.table.made_objects)

pub left_made : (h : Stored) (object : ℕ) (key : Option ℕ) (done : Acted) → MakesNothing h (left_by h object key done)
left_made h object key done = by_parts key done.offset done.content
  where
    by_parts : (key offset : Option ℕ) (content : Option Content)
        → MakesNothing h (holding_if (moved_if h key offset) object content)
    by_parts None None None = (refl, refl)
    by_parts None None (Some content) = (refl, refl)
    by_parts None (Some offset) None = (refl, refl)
    by_parts None (Some offset) (Some content) = (refl, refl)
    by_parts (Some key) None None = (refl, refl)
    by_parts (Some key) None (Some content) = (refl, refl)
    by_parts (Some key) (Some offset) None = (refl, refl)
    by_parts (Some key) (Some offset) (Some content) = (refl, refl)

-- what lets an object go succeeds
pub released_succeeds : (c : Call) (e : Errno) → Replies (released_reply c) ≡ Replies (reply.Fail e) → ⊥
released_succeeds (call.Dup2 descriptor target) e is = cc
released_succeeds c e is = cc

pub released_ends : (s : State) (c : Call)
    → meant.ended s (Replies (released_reply c)) ≡ meant.ended s (Replies (released_reply c))
released_ends s c = refl
