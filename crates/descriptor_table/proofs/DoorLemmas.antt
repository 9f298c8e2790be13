-- No change brings a description that leads outside, but that a door was opened.
use Rattle.std.proofs.Common.{◌≡◌, ℕ, ◌-◌, Option, Some, None, Bool, true, false, if◌then◌else◌, unwrap_or, inl, inr}
use Rattle.std.proofs.Common.{sym, refl, ap, ◌∙◌, subst, ⊎_elim, arith}
use Rattle.std.proofs.lemmas.Bool.{cases_eq, true≢false}
use Rattle.std.proofs.lemmas.Bool.Decides.{nat_tests}
use Rattle.std.proofs.lemmas.Option.{none-some, same_Some}
use Rattle.std.specs.Cmp.{nat_cmp_is, nat_cmp_total, unsigned_tied}
use Rattle.std.specs.FinMap as map
use Rattle.std.specs.FinMap.{FinMap, get-insert, get-remove}
use Rattle.std.specs.Ordering.{nat_cmp, eq_by_cmp}
use Rattle.std.specs.declared.cmp.Ordering.TheVariants.{Equal}
use Rattle.file_descriptions.specs.Descriptions.{DescriptionMap, description_at, is_last_held, new_description}
use Rattle.file_descriptions.specs.Descriptions.{no_description, with_description, with_holder, with_new}
use Rattle.file_descriptions.specs.Descriptions.{with_offset, without, without_holder}
use Rattle.file_descriptions.specs.declared.description.Description.{Description}
use Rattle.posix_terms.specs.Calls.{Call}
use Rattle.posix_terms.specs.declared.call.Access.{Access}
use Rattle.posix_terms.specs.declared.object.End.{End}
use Rattle.sequential_object.specs.Deciding.{leads_outside}
use Rattle.sequential_object.specs.declared.decision.Change.{Change}
use Rattle.sequential_object.specs.declared.decision.Change.TheVariants as change
use Rattle.sequential_object.specs.declared.decision.NewDescriptor.{NewDescriptor}
use Rattle.sequential_object.specs.declared.decision.NewEnds.{NewEnds}
use Rattle.descriptor_table.proofs.Closing.{over_closed, over_gone, over_holder}
use Rattle.descriptor_table.specs.Changes.{AreOpened, Changed, IsDoorOpened, IsOpened, closed, no_flags, opened}
use Rattle.descriptor_table.specs.Changes.{with_object, without_gone}
use Rattle.descriptor_table.specs.Doors.{AddsNone, AddsOne, GoneWithLast, WasThere}
use Rattle.descriptor_table.specs.Table.{TableState}

-- ## Maps

tied_not : (x y : ℕ) → (x ≡ y → ⊥) → eq_by_cmp nat_cmp x y ≡ false
tied_not x y apart = unsigned_tied x y ∙ grind (arith, nat_tests)

inserted : {X A : Type 0} (m : FinMap nat_cmp X) (k : ℕ) (x : X) (q : ℕ) (y : X) → map.get (map.insert m k x) q ≡ Some y
    → (q ≡ k → x ≡ y → A) → (map.get m q ≡ Some y → A) → A
inserted m k x q y at new old =
    ⊎_elim
    (λ (is : q ≡ k). new is (same_Some x y (sym (ap (map.get (map.insert m k x)) is ∙ get-insert nat_cmp_total m k x k
    ∙ rw (sym (nat_cmp_is k k Equal refl)) refl) ∙ at)))
    (λ (apart : q ≡ k → ⊥). old (sym (get-insert nat_cmp_total m k x q ∙ rw (tied_not q k apart) refl) ∙ at))
    (cases_eq q k)

remove_same : {X : Type 0} (m : FinMap nat_cmp X) (k : ℕ) → map.get (map.remove m k) k ≡ None
remove_same m k = get-remove nat_cmp_total m k k ∙ rw (sym (nat_cmp_is k k Equal refl)) refl

removed_there : {X : Type 0} (m : FinMap nat_cmp X) (k q : ℕ) (x : X) → map.get (map.remove m k) q ≡ Some x
    → map.get m q ≡ Some x
removed_there m k q x h =
    ⊎_elim
    (λ (is : q ≡ k). absurd (none-some x (sym (ap (map.get (map.remove m k)) is ∙ remove_same m k) ∙ h)))
    (λ (apart : q ≡ k → ⊥). sym (get-remove nat_cmp_total m k q ∙ rw (tied_not q k apart) refl) ∙ h)
    (cases_eq q k)

-- ## Descriptions

pub none_more : (m : DescriptionMap) → AddsNone m m
none_more m q e at out = record { before = e; there = at; node = refl; «end» = refl }

-- one that was there has other flags, another offset or other holders. Where none was there it does not lead outside
none_more_own : (m later : DescriptionMap) (key : ℕ) (y : Description)
    → y.node ≡ (let d : Description = description_at later key in d.node)
    → y.«end» ≡ (let d : Description = description_at later key in d.«end») → AddsNone m later
    → AddsNone m (with_description later key y)
none_more_own m later key y node which h q e at out =
    inserted later.by_key key y q e at
    (λ is same. by_there (map.get later.by_key key) refl is same)
    (λ old. h q e old out)
  where
    by_there : (o : Option Description) → map.get later.by_key key ≡ o → q ≡ key → y ≡ e → WasThere m q e
    by_there (Some x) there is same =
        let own : description_at later key ≡ x = ap (λ (o : Option Description). unwrap_or o no_description) there in
        let part : x.«end» ≡ e.«end» = ap (λ (d : Description). d.«end») (sym own) ∙ sym which
        ∙ ap (λ (d : Description). d.«end») same in
        let was = h q x (ap (map.get later.by_key) is ∙ there) (ap leads_outside part ∙ out) in
        record {
          before = was.before;
          there = was.there;
          node = was.node ∙ ap (λ (d : Description). d.node) (sym own) ∙ sym node
              ∙ ap (λ (d : Description). d.node) same;
          «end» = was.«end» ∙ part;
        }
    by_there None none is same =
        let own : description_at later key ≡ no_description =
        ap (λ (o : Option Description). unwrap_or o no_description) none in
        absurd (true≢false (sym out ∙ ap (λ (d : Description). leads_outside d.«end») (sym same)
        ∙ ap leads_outside which ∙ ap (λ (d : Description). leads_outside d.«end») own))

none_more_new : (m later : DescriptionMap) (key : ℕ) (x : Description) → leads_outside x.«end» ≡ false
    → AddsNone m later → AddsNone m (with_new later key x)
none_more_new m later key x plain h q e at out =
    inserted later.by_key key x q e at
    (λ is same. absurd (true≢false (sym out ∙ ap (λ (d : Description). leads_outside d.«end») (sym same) ∙ plain)))
    (λ old. h q e old out)

none_more_held : (m : DescriptionMap) (key : ℕ) → AddsNone m (without_holder m key)
none_more_held m key =
    over_holder (AddsNone m) m key (λ q e at out. none_more m q e (removed_there m.by_key key q e at) out)
    (λ more. none_more_own m m key _ refl refl (none_more m))

pub offset_adds : (m : DescriptionMap) (key offset : ℕ) → AddsNone m (with_offset m key offset)
offset_adds m key offset = none_more_own m m key (record (description_at m key) { offset = offset }) refl refl
    (none_more m)

-- ## Changes

gone_same : (m : DescriptionMap) (t : TableState) (node : ℕ) → AddsNone m t.descriptions
    → AddsNone m (without_gone t node).descriptions
gone_same m t node h = over_gone (λ (u : TableState). AddsNone m u.descriptions) t node h (λ gone. h)

closed_adds : (t : TableState) (n key : ℕ) → AddsNone t.descriptions (closed t n key).descriptions
closed_adds t n key =
    let left : AddsNone t.descriptions (without_holder t.descriptions key) = none_more_held t.descriptions key in
    over_closed (λ (u : TableState). AddsNone t.descriptions u.descriptions) t n key left (λ node gone. left)

opened_adds : (m : DescriptionMap) (t : TableState) (new : NewDescriptor) (which : End) (after : TableState)
    → leads_outside which ≡ false → AddsNone m t.descriptions → IsOpened t new which after
    → AddsNone m after.descriptions
opened_adds m t new which after plain h (key, free, is) =
    subst (λ (u : TableState). AddsNone m u.descriptions) (sym is)
    (none_more_new m t.descriptions key (new_description new.object which new.access _ t.descriptions.made) plain h)

ends_add : (t : TableState) (one other : End × Access) (new : NewEnds) (after : TableState)
    → leads_outside one.0 ≡ false → leads_outside other.0 ≡ false → AreOpened t one other new after
    → AddsNone t.descriptions after.descriptions
ends_add t one other new after plain also (key, free, (next, apart, is)) =
    let between : TableState = opened (with_object t new.object) new.first key new.object one.0 one.1 no_flags in
    subst (λ (u : TableState). AddsNone t.descriptions u.descriptions) (sym is)
    (none_more_new t.descriptions between.descriptions next _ also
    (none_more_new t.descriptions t.descriptions key _ plain (none_more t.descriptions)))

pub changed_adds : (t : TableState) (c : Call) (x : Change) (after : TableState) → Changed t c x after
    → AddsNone t.descriptions after.descriptions
changed_adds t c x after is = by_change x is
  where
    by_same : (u : TableState) → AddsNone t.descriptions u.descriptions → after ≡ u
        → AddsNone t.descriptions after.descriptions
    by_same u h same = subst (λ (v : TableState). AddsNone t.descriptions v.descriptions) (sym same) h

    shares : (u : TableState) (key : ℕ) → AddsNone t.descriptions u.descriptions
        → AddsNone t.descriptions (with_holder u.descriptions key)
    shares u key h = let d : Description = description_at u.descriptions key in
        none_more_own t.descriptions u.descriptions key _ refl refl h

    by_change : (x : Change) → Changed t c x after → AddsNone t.descriptions after.descriptions
    by_change change.Nothing same = by_same t (none_more t.descriptions) same
    by_change (change.Share n key) same = by_same _ (shares t key (none_more t.descriptions)) same
    by_change (change.Close n key) same = by_same _ (closed_adds t n key) same
    by_change (change.Replace n old_key key) same =
        by_same _ (shares (closed t n old_key) key (closed_adds t n old_key)) same
    by_change (change.SetFlags key append nonblock) same =
        by_same _ (none_more_own t.descriptions t.descriptions key _ refl refl (none_more t.descriptions)) same
    by_change (change.AddFile object) same = by_same _ (none_more t.descriptions) same
    by_change change.AddDirectory same = by_same _ (none_more t.descriptions) same
    by_change (change.RemoveFile object) same =
        by_same _ (gone_same t.descriptions _ object (none_more t.descriptions)) same
    by_change change.RemoveDirectory same = by_same _ (none_more t.descriptions) same
    by_change (change.Rename object None) same = by_same _ (none_more t.descriptions) same
    by_change (change.Rename object (Some lost)) same =
        by_same _ (gone_same t.descriptions _ lost (none_more t.descriptions)) same
    by_change (change.OpenFile new) h = opened_adds t.descriptions t new _ after refl (none_more t.descriptions) h
    by_change (change.MakeFile new) h = opened_adds t.descriptions _ new _ after refl (none_more t.descriptions) h
    by_change (change.MakePipe new) h = ends_add t _ _ new after refl refl h
    by_change (change.MakeSockets new) h = ends_add t _ _ new after refl refl h

-- ## What closes, and what opens

held_ends : (m : DescriptionMap) (key : ℕ) → is_last_held m key ≡ true
    → map.get (without_holder m key).by_key key ≡ None
held_ends m key last =
    let d : Description = description_at m key in
    ap (λ (b : Bool). let x : DescriptionMap = if b then without m key else with_description m key
    (record d { holders = d.holders - 1 }) in map.get x.by_key key) last ∙ remove_same m.by_key key

closed_ends : (t : TableState) (n key : ℕ) → is_last_held t.descriptions key ≡ true
    → map.get (closed t n key).descriptions.by_key key ≡ None
closed_ends t n key last =
    over_closed (λ (u : TableState). map.get u.descriptions.by_key key ≡ None) t n key
    (held_ends t.descriptions key last) (λ node gone. held_ends t.descriptions key last)

pub changed_ends : (t : TableState) (c : Call) (x : Change) (after : TableState) → Changed t c x after
    → GoneWithLast t.descriptions x after.descriptions
changed_ends t c (change.Close n key) after is =
    λ last. ap (λ (u : TableState). map.get u.descriptions.by_key key) is ∙ closed_ends t n key last
changed_ends t c change.Nothing after is = tt
changed_ends t c (change.Share n key) after is = tt
changed_ends t c (change.Replace n old_key key) after is = tt
changed_ends t c (change.SetFlags key append nonblock) after is = tt
changed_ends t c (change.AddFile object) after is = tt
changed_ends t c change.AddDirectory after is = tt
changed_ends t c (change.RemoveFile object) after is = tt
changed_ends t c change.RemoveDirectory after is = tt
changed_ends t c (change.Rename object lost) after is = tt
changed_ends t c (change.OpenFile new) after is = tt
changed_ends t c (change.MakeFile new) after is = tt
changed_ends t c (change.MakePipe new) after is = tt
changed_ends t c (change.MakeSockets new) after is = tt

pub door_adds : (t : TableState) (c : Call) (new : NewDescriptor) (value : ℕ) (after : TableState)
    → IsDoorOpened t c new value after → AddsOne t.descriptions new.object after.descriptions
door_adds t c new value after (key, free, is) =
    record {
      key = key;
      adds = λ q e at out. inserted t.descriptions.by_key key _ q e
          (sym (ap (λ (u : TableState). map.get u.descriptions.by_key q) is) ∙ at)
          (λ own same. inr (own, ap (λ (d : Description). d.node) (sym same)))
          (λ old. inl (none_more t.descriptions q e old out));
    }
