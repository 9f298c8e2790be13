-- States that hold nothing unused, by what refers to what, and how the changes of a state keep them so.
use Rattle.std.proofs.Common.{◌≡◌, ◌⊎◌, ℕ, zero, suc, ◌<◌, ◌||◌, ◌&&◌, ℤ, pos, negsuc, List, [], Option, Some, None}
use Rattle.std.proofs.Common.{is_some, Bool, true, false, if◌then◌else◌, inl, inr, refl, sym, ap, ◌∙◌, subst, arith}
use Rattle.std.proofs.lemmas.Bool.{cases_eq, false≢true}
use Rattle.std.proofs.lemmas.Option.{none-some, same_Some}
use Rattle.std.specs.FinMap as fin
use Rattle.std.specs.FinMap.{FinMap, get-empty}
use Rattle.std.specs.Ordering.{nat_cmp}
use Rattle.sequential_object.specs.Descriptors.{freed, has_description, has_descriptor, has_end, has_path, is_file}
use Rattle.sequential_object.specs.Descriptors.{is_key, is_of, is_of_end, key_at, opened, released, with_file}
use Rattle.sequential_object.specs.Descriptors.{without_unused}
use Rattle.sequential_object.specs.Duplicates.{shared}
use Rattle.sequential_object.specs.Names.{PathMap, with_paths}
use Rattle.sequential_object.specs.Object.{Content, Description, Directory, File, FileNode, Node, State, any_below}
use Rattle.sequential_object.specs.Object.{empty_state, path_cmp, with_content, with_object}
use Rattle.sequential_object.specs.Unused.{EndsAreOpen, HoldsNothingUnused, IsOpenAt, is_a_file}
use Rattle.posix_terms.specs.declared.call.Access.{Access}
use Rattle.posix_terms.specs.declared.limits.TheConstants.Limits as limit
use Rattle.posix_terms.specs.declared.object.End.{End}
use Rattle.sequential_object.proofs.Maps.{any_of, insert_keeps, insert_other, insert_same, left_there, number_same}
use Rattle.sequential_object.proofs.Maps.{paths_total, remove_other, same_number, standing_in}
use Rattle.sequential_object.proofs.Whole.{AreNumbered, IsWhole, NamesKnown, StaysFile, content_whole, file_is_there}
use Rattle.sequential_object.proofs.Whole.{file_whole, freed_whole, object_whole, opened_whole, own_whole, paths_whole}
use Rattle.sequential_object.proofs.Whole.{removed_whole, shared_whole, undescribed_whole}

-- ## What refers to what

-- a descriptor of a description
pub record Open (descriptors : FinMap nat_cmp ℕ) (key : ℕ) : Type 0 where
  pub number : ℕ
  pub below : number < limit.DESCRIPTORS
  pub refers : fin.get descriptors number ≡ Some key

-- a description of an object
pub record Described (descriptions : FinMap nat_cmp Description) (object : ℕ) : Type 0 where
  pub key : ℕ
  pub description : Description
  pub there : fin.get descriptions key ≡ Some description
  pub refers : description.object ≡ object

-- a path of an object
pub record Named (paths : PathMap) (object : ℕ) : Type 0 where
  pub path : List (List ℕ)
  pub refers : fin.get paths path ≡ Some (FileNode object)

-- what refers to an object of this content; a path refers to a file
abbrev pub Used : State → ℕ → Content → Type 0
Used s object c = Described s.descriptions object ⊎ ((is_a_file (Some c) ≡ true) × Named s.paths object)

pub record IsTidy (s : State) : Type 0 where
  pub opens : (key : ℕ) (d : Description) → fin.get s.descriptions key ≡ Some d → Open s.descriptors key
  pub uses : (object : ℕ) (c : Content) → fin.get s.objects object ≡ Some c → Used s object c
  pub whole : IsWhole s

-- nothing is unused but one object, which may be
pub record IsTidyBut (object : ℕ) (s : State) : Type 0 where
  pub opens : (key : ℕ) (d : Description) → fin.get s.descriptions key ≡ Some d → Open s.descriptors key
  pub uses : (other : ℕ) (c : Content) → (other ≡ object → ⊥) → fin.get s.objects other ≡ Some c → Used s other c
  pub whole : IsWhole s

-- nothing is unused but one description, which may be
pub record IsTidyWithout (key : ℕ) (s : State) : Type 0 where
  pub opens : (other : ℕ) (d : Description) → (other ≡ key → ⊥) → fin.get s.descriptions other ≡ Some d
      → Open s.descriptors other
  pub uses : (object : ℕ) (c : Content) → fin.get s.objects object ≡ Some c → Used s object c
  pub whole : IsWhole s

pub but_one : (s : State) (object : ℕ) → IsTidy s → IsTidyBut object s
but_one s object h = record { opens = h.opens; uses = λ other c apart at. h.uses other c at; whole = h.whole }

-- ## By tests

or_right : (a b : Bool) → b ≡ true → (a || b) ≡ true
or_right true b h = refl
or_right false b h = h

any_of_first : (n : ℕ) (p : ℕ → Bool) → any_below n p ≡ true → (m : ℕ) × (m < n) × (p m ≡ true)
any_of_first zero p any = absurd (false≢true any)
any_of_first (suc n) p any = by_test (p n) refl (λ below. any_of_first n p below)
  where
    or_left : (a : Bool) → (a || false) ≡ true → a ≡ true
    or_left true h = refl
    or_left false h = absurd (false≢true h)

    by_test : (b : Bool) → p n ≡ b → (any_below n p ≡ true → (m : ℕ) × (m < n) × (p m ≡ true)) → (m : ℕ) × (m < suc n)
        × (p m ≡ true)
    by_test true h earlier = (n, omega arith, h)
    by_test false h earlier =
        let at = earlier (or_left (any_below n p) (ap (λ (b : Bool). any_below n p || b) (sym h) ∙ any)) in
        let below : at.0 < n = at.1 in
        (at.0, omega arith, at.2)

first_of_any : (n : ℕ) (p : ℕ → Bool) (m : ℕ) → m < n → p m ≡ true → any_below n p ≡ true
first_of_any zero p m below holds = absurd (omega arith)
first_of_any (suc n) p m below holds =
    elim (cases_eq m n) [
      | inl e ↦ or_right (any_below n p) (p n) (ap p (sym e) ∙ holds)
      | inr apart ↦ ap (λ (b : Bool). b || p n) (first_of_any n p m (omega arith) holds)
    ]

is_key_some : (o : Option ℕ) (key : ℕ) → is_key o key ≡ true → o ≡ Some key
is_key_some None key h = absurd (false≢true h)
is_key_some (Some other) key h = ap (λ (n : ℕ). Some n) (same_number other key h)

is_of_some : (o : Option Description) (object : ℕ) → is_of o object ≡ true → (d : Description) × (o ≡ Some d)
    × (d.object ≡ object)
is_of_some None object h = absurd (false≢true h)
is_of_some (Some d) object h = (d, refl, same_number d.object object h)

is_file_of : (node : Node) (object : ℕ) → is_file node object ≡ true → node ≡ FileNode object
is_file_of (FileNode other) object h = ap (λ (n : ℕ). FileNode n) (same_number other object h)
is_file_of Directory object h = absurd (false≢true h)

open_of : (s : State) (key : ℕ) → has_descriptor s key ≡ true → Open s.descriptors key
open_of s key has =
    let at = any_of_first limit.DESCRIPTORS (λ (n : ℕ). is_key (fin.get s.descriptors n) key) has in
    record { number = at.0; below = at.1; refers = is_key_some (fin.get s.descriptors at.0) key at.2 }

has_open : (s : State) (key : ℕ) → Open s.descriptors key → has_descriptor s key ≡ true
has_open s key o =
    first_of_any limit.DESCRIPTORS (λ (n : ℕ). is_key (fin.get s.descriptors n) key) o.number o.below
    (ap (λ (x : Option ℕ). is_key x key) o.refers ∙ number_same key key refl)

described_of : (s : State) (object : ℕ) → has_description s object ≡ true → Described s.descriptions object
described_of s object has =
    let at = any_of_first s.next_description (λ (key : ℕ). is_of (fin.get s.descriptions key) object) has in
    let its = is_of_some (fin.get s.descriptions at.0) object at.2 in
    record { key = at.0; description = its.0; there = its.1; refers = its.2 }

has_described : (s : State) (object : ℕ) → AreNumbered s → Described s.descriptions object
    → has_description s object ≡ true
has_described s object numbered d =
    first_of_any s.next_description (λ (key : ℕ). is_of (fin.get s.descriptions key) object) d.key
    (numbered d.key d.description d.there)
    (ap (λ (x : Option Description). is_of x object) d.there ∙ number_same _ object d.refers)

is_of_end_some :
    (o : Option Description) (object : ℕ) (which : End)
    → is_of_end o object which ≡ true
    → (d : Description) × (o ≡ Some d) × (is_of_end (Some d) object which ≡ true)
is_of_end_some None object which h = absurd (false≢true h)
is_of_end_some (Some d) object which h = (d, refl, h)

-- an end counts as open exactly when some description is of it
pub ends_are_open : EndsAreOpen
ends_are_open s object which tidy = (found, counted)
  where
    found : has_end s object which ≡ true → IsOpenAt s object which
    found has =
        let at = any_of_first s.next_description (λ (key : ℕ). is_of_end (fin.get s.descriptions key) object which)
        has in
        let its = is_of_end_some (fin.get s.descriptions at.0) object which at.2 in
        record { key = at.0; description = its.0; there = its.1; its = its.2 }

    counted : IsOpenAt s object which → has_end s object which ≡ true
    counted h =
        first_of_any s.next_description (λ (key : ℕ). is_of_end (fin.get s.descriptions key) object which) h.key
        (tidy.numbered h.key h.description h.there)
        (ap (λ (x : Option Description). is_of_end x object which) h.there ∙ h.its)

named_of : (s : State) (object : ℕ) → has_path s object ≡ true → Named s.paths object
named_of s object has =
    let at = standing_in paths_total (λ (entry : List (List ℕ) × Node). is_file entry.1 object) s.paths has in
    record { path = at.0; refers = at.2 ∙ ap (λ (x : Node). Some x) (is_file_of at.1 object at.3) }

has_named : (s : State) (object : ℕ) → Named s.paths object → has_path s object ≡ true
has_named s object n = any_of path_cmp (λ (x : Node). is_file x object) s.paths n.path (FileNode object) n.refers
    (number_same object object refl)

either_used : (s : State) (object : ℕ) (c : Content) (named : Bool)
    → (named ≡ true → (is_a_file (Some c) ≡ true) × Named s.paths object) → (has_description s object || named) ≡ true
    → Used s object c
either_used s object c named by_path has = by_test (has_description s object) refl
  where
    by_test : (b : Bool) → has_description s object ≡ b → Used s object c
    by_test true h = inl (described_of s object h)
    by_test false h = inr (by_path (ap (λ (b : Bool). b || named) (sym h) ∙ has))

used_of : (s : State) (object : ℕ) (c : Content)
    → (has_description s object || (is_a_file (Some c) && has_path s object)) ≡ true → Used s object c
used_of s object c has = either_used s object c (is_a_file (Some c) && has_path s object) (by_file (is_a_file (Some c)))
    has
  where
    by_file : (b : Bool) → (b && has_path s object) ≡ true → (b ≡ true) × Named s.paths object
    by_file true h = (refl, named_of s object h)
    by_file false h = absurd (false≢true h)

-- where a path names files only
kept_used : (s : State) (object : ℕ) (c : Content) → IsWhole s → fin.get s.objects object ≡ Some c
    → (has_description s object || has_path s object) ≡ true → Used s object c
kept_used s object c whole at has =
    either_used s object c (has_path s object)
    (λ h. let n = named_of s object h in (ap is_a_file (sym at) ∙ whole.names n.path object n.refers, n)) has

has_used : (s : State) (object : ℕ) (c : Content) → AreNumbered s → Used s object c
    → (has_description s object || (is_a_file (Some c) && has_path s object)) ≡ true
has_used s object c numbered (inl d) = ap (λ (b : Bool). b || (is_a_file (Some c) && has_path s object))
    (has_described s object numbered d)
has_used s object c numbered (inr n) = or_right (has_description s object) (is_a_file (Some c) && has_path s object)
    (ap (λ (b : Bool). b && has_path s object) n.0 ∙ has_named s object n.1)

-- what is used is there
used_there : (s : State) (object : ℕ) (c : Content) → IsWhole s → Used s object c
    → is_some (fin.get s.objects object) ≡ true
used_there s object c whole (inl d) = ap (λ (k : ℕ). is_some (fin.get s.objects k)) (sym d.refers)
    ∙ whole.refers d.key d.description d.there
used_there s object c whole (inr n) = file_is_there (fin.get s.objects object) (whole.names n.1.path object n.1.refers)

pub tidy_of : (s : State) → HoldsNothingUnused s → IsTidy s
tidy_of s h =
    record {
      opens = λ key d at. open_of s key (h.described key d at);
      uses = λ object c at. used_of s object c (h.used object c at);
      whole = record {
        opens = h.opens;
        refers = h.refers;
        names = h.names;
        within = h.within;
        numbered = h.numbered;
        made = h.made;
      };
    }

pub nothing_unused : (s : State) → IsTidy s → HoldsNothingUnused s
nothing_unused s h =
    let whole = h.whole in
    record {
      described = λ key d at. has_open s key (h.opens key d at);
      used = λ object c at. has_used s object c whole.numbered (h.uses object c at);
      opens = whole.opens;
      refers = whole.refers;
      names = whole.names;
      within = whole.within;
      numbered = whole.numbered;
      made = whole.made;
    }

pub starts_tidy : HoldsNothingUnused empty_state
starts_tidy =
    record {
      described = λ key d at. absurd (none-some d (sym (get-empty nat_cmp key) ∙ at));
      used = λ object c at. absurd (none-some c (sym (get-empty nat_cmp object) ∙ at));
      opens = λ n key at. absurd (none-some key (sym (get-empty nat_cmp n) ∙ at));
      refers = λ key d at. absurd (none-some d (sym (get-empty nat_cmp key) ∙ at));
      names = λ path object at. absurd (none-some (FileNode object) (sym (get-empty path_cmp path) ∙ at));
      within = λ n key at. absurd (none-some key (sym (get-empty nat_cmp n) ∙ at));
      numbered = λ key d at. absurd (none-some d (sym (get-empty nat_cmp key) ∙ at));
      made = λ object c at. absurd (none-some c (sym (get-empty nat_cmp object) ∙ at));
    }

-- ## States

-- a new content of an object that is used
pub content_tidy : (s : State) (object : ℕ) (c : Content) → Used s object c → StaysFile s object c → IsTidy s
    → IsTidy (with_content s object c)
content_tidy s object c used kind h =
    record {
      opens = h.opens;
      uses = λ other d at. elim (cases_eq other object) [
        | inl own ↦
            let same : c ≡ d = same_Some c d (sym (insert_same s.objects object c)
            ∙ ap (fin.get (fin.insert s.objects object c)) (sym own) ∙ at) in
            subst (Used s other) same (subst (λ (k : ℕ). Used s k c) (sym own) used)
        | inr apart ↦ h.uses other d (sym (insert_other s.objects object c other apart) ∙ at)
      ];
      whole = content_whole s object c (used_there s object c h.whole used) kind h.whole;
    }

-- a new object, which nothing refers to yet
pub object_tidy : (s : State) (c : Content) → IsTidy s → IsTidyBut s.next_object (with_object s c)
object_tidy s c h =
    record {
      opens = h.opens;
      uses = λ other d apart at. h.uses other d (sym (insert_other s.objects s.next_object c other apart) ∙ at);
      whole = object_whole s c h.whole;
    }

-- paths by which each file that has a name keeps one
abbrev pub KeepsFiles : PathMap → PathMap → Type 0
KeepsFiles old new = (object : ℕ) → Named old object → Named new object

-- and each but one, which may lose it
abbrev pub KeepsOthers : ℕ → PathMap → PathMap → Type 0
KeepsOthers object old new = (other : ℕ) → (other ≡ object → ⊥) → Named old other → Named new other

used_by : (s : State) (paths : PathMap) (object : ℕ) (c : Content) → (Named s.paths object → Named paths object)
    → Used s object c → Used (with_paths s paths) object c
used_by s paths object c kept (inl d) = inl d
used_by s paths object c kept (inr n) = inr (n.0, kept n.1)

pub paths_tidy : (s : State) (paths : PathMap) → KeepsFiles s.paths paths → NamesKnown s.paths paths → IsTidy s
    → IsTidy (with_paths s paths)
paths_tidy s paths kept known h =
    record {
      opens = h.opens;
      uses = λ object c at. used_by s paths object c (kept object) (h.uses object c at);
      whole = paths_whole s paths known h.whole;
    }

pub unnamed_tidy : (s : State) (paths : PathMap) (object : ℕ) → KeepsOthers object s.paths paths
    → NamesKnown s.paths paths
    → IsTidy s → IsTidyBut object (with_paths s paths)
unnamed_tidy s paths object kept known h =
    record {
      opens = h.opens;
      uses = λ other c apart at. used_by s paths other c (kept other apart) (h.uses other c at);
      whole = paths_whole s paths known h.whole;
    }

pub file_tidy : (s : State) (components : List (List ℕ)) → fin.get s.paths components ≡ None → IsTidy s
    → IsTidyBut s.next_object (with_file s components)
file_tidy s components new h =
    record {
      opens = h.opens;
      uses = λ other c apart at.
          used_by s (fin.insert s.paths components (FileNode s.next_object)) other c (λ n. record {
            path = n.path;
            refers =
                insert_keeps paths_total s.paths components (FileNode s.next_object) n.path (FileNode other)
                (λ at. none-some (FileNode other) (sym new ∙ at)) n.refers;
          })
          (h.uses other c (sym (insert_other s.objects s.next_object (File []) other apart) ∙ at));
      whole = file_whole s components h.whole;
    }

-- a description that is changed, and stays one of its object
redescribed : (m : FinMap nat_cmp Description) (key : ℕ) (x y : Description) (object : ℕ) → fin.get m key ≡ Some x
    → x.object ≡ y.object → Described m object → Described (fin.insert m key y) object
redescribed m key x y object there own d =
    elim (cases_eq d.key key) [
      | inl is ↦
          let same : x ≡ d.description = same_Some x d.description (sym there ∙ ap (fin.get m) (sym is) ∙ d.there) in
          record {
            key = key;
            description = y;
            there = insert_same m key y;
            refers = sym own
                ∙ ap (λ (z : Description). z.object) same ∙ d.refers;
          }
      | inr apart ↦ record {
        key = d.key;
        description = d.description;
        there = insert_other m key y d.key apart
            ∙ d.there;
        refers = d.refers;
      }
    ]

pub own_tidy : (s : State) (key : ℕ) (x y : Description) → fin.get s.descriptions key ≡ Some x → x.object ≡ y.object
    → IsTidy s → IsTidy (record s { descriptions = fin.insert s.descriptions key y })
own_tidy s key x y there own h =
    record {
      opens = λ other d at. elim (cases_eq other key) [
        | inl is ↦ subst (Open s.descriptors) (sym is) (h.opens key x there)
        | inr apart ↦ h.opens other d (sym (insert_other s.descriptions key y other apart) ∙ at)
      ];
      uses = λ object c at. by_use object c (h.uses object c at);
      whole = own_whole s key x y there own h.whole;
    }
  where
    by_use : (object : ℕ) (c : Content) → Used s object c
        → Used (record s { descriptions = fin.insert s.descriptions key y }) object c
    by_use object c (inl d) = inl (redescribed s.descriptions key x y object there own d)
    by_use object c (inr n) = inr n

-- a number that refers to no description is no description's only one
open_still : (m : FinMap nat_cmp ℕ) (n key other : ℕ) → (fin.get m n ≡ Some other → ⊥) → Open m other
    → Open (fin.insert m n key) other
open_still m n key other free o =
    record {
      number = o.number;
      below = o.below;
      refers = insert_other m n key o.number (λ (is : o.number ≡ n). free (ap (fin.get m) (sym is) ∙ o.refers))
          ∙ o.refers;
    }

pub shared_tidy : (s : State) (n key : ℕ)
    → ((other : ℕ) (d : Description) → fin.get s.descriptions other ≡ Some d → fin.get s.descriptors n ≡ Some other → ⊥)
    → n < limit.DESCRIPTORS → is_some (fin.get s.descriptions key) ≡ true → IsTidy s → IsTidy (shared s n key)
shared_tidy s n key free below there h =
    record {
      opens = λ other d at. open_still s.descriptors n key other (free other d at) (h.opens other d at);
      uses = h.uses;
      whole = shared_whole s n key below there h.whole;
    }

-- a number that is free
pub record IsFree (s : State) (n : ℕ) : Type 0 where
  pub free : fin.get s.descriptors n ≡ None
  pub below : n < limit.DESCRIPTORS

pub opened_tidy : (s : State) (n object : ℕ) (which : End) (access : Access) (append nonblock : Bool) → IsFree s n
    → is_some (fin.get s.objects object) ≡ true → IsTidyBut object s
    → IsTidy (opened s n object which access append nonblock)
opened_tidy s n object which access append nonblock number there h =
    record {
      opens = λ key d at. elim (cases_eq key s.next_description) [
        | inl is ↦ record {
          number = n;
          below = number.below;
          refers = insert_same s.descriptors n s.next_description
              ∙ ap (λ (k : ℕ). Some k) (sym is);
        }
        | inr apart ↦ open_still s.descriptors n s.next_description key (λ is. none-some key (sym number.free ∙ is))
            (h.opens key d (sym (insert_other s.descriptions s.next_description x key apart) ∙ at))
      ];
      uses = λ other c at. elim (cases_eq other object) [
        | inl is ↦ inl (record {
          key = s.next_description;
          description = x;
          there = insert_same s.descriptions s.next_description x;
          refers = sym is;
        })
        | inr apart ↦ by_use other c (h.uses other c apart at)
      ];
      whole = opened_whole s n object which access append nonblock number.below there h.whole;
    }
  where
    x : Description
    x = record { object = object; «end» = which; access = access; offset = 0; append = append; nonblock = nonblock }

    still : (other : ℕ) → Described s.descriptions other
        → Described (fin.insert s.descriptions s.next_description x) other
    still other d =
        let whole = h.whole in
        let below : d.key < s.next_description = whole.numbered d.key d.description d.there in
        let apart : d.key ≡ s.next_description → ⊥ = λ is. omega arith in
        record {
          key = d.key;
          description = d.description;
          there = insert_other s.descriptions s.next_description x d.key apart ∙ d.there;
          refers = d.refers;
        }

    by_use : (other : ℕ) (c : Content) → Used s other c → Used (opened s n object which access append nonblock) other c
    by_use other c (inl d) = inl (still other d)
    by_use other c (inr n) = inr n

-- an object that may be unused is removed where it is
pub unused_tidy : (s : State) (object : ℕ) → IsTidyBut object s → IsTidy (without_unused s object)
unused_tidy s object h = by_test (has_description s object || has_path s object) refl
  where
    by_test : (b : Bool) → (has_description s object || has_path s object) ≡ b
        → IsTidy (if b then s else record s { objects = fin.remove s.objects object })
    by_test true has =
        record {
          opens = h.opens;
          uses = λ other c at. elim (cases_eq other object) [
            | inl own ↦ subst (λ (k : ℕ). Used s k c) (sym own)
                (kept_used s object c h.whole (ap (fin.get s.objects) (sym own) ∙ at) has)
            | inr apart ↦ h.uses other c apart at
          ];
          whole = h.whole;
        }
    by_test false has =
        record {
          opens = h.opens;
          uses = λ other c at. let was = left_there s.objects object other c at in h.uses other c was.0 was.1;
          whole =
              removed_whole s object
              (λ key d at is. neither (ap (λ (b : Bool). b || has_path s object)
              (has_described s object (let whole = h.whole in whole.numbered)
              (record { key = key; description = d; there = at; refers = is }))))
              (λ path at. neither (or_right (has_description s object) (has_path s object)
              (has_named s object (record { path = path; refers = at }))))
              h.whole;
        }
      where
        neither : (has_description s object || has_path s object) ≡ true → ⊥
        neither it = false≢true (sym has ∙ it)

-- a description that may have no descriptor is removed where it has none, and then its object
pub released_tidy : (s : State) (key : ℕ) (d : Description) → fin.get s.descriptions key ≡ Some d → IsTidyWithout key s
    → IsTidy (released s key d)
released_tidy s key d there h = by_test (has_descriptor s key) refl
  where
    left : State
    left = record s { descriptions = fin.remove s.descriptions key }

    still : (object : ℕ) (c : Content) → (object ≡ d.object → ⊥) → Used s object c → Used left object c
    still object c apart (inl e) =
        let kept : e.key ≡ key → ⊥ = λ is.
        apart (sym e.refers ∙ ap (λ (z : Description). z.object)
        (same_Some e.description d (sym e.there ∙ ap (fin.get s.descriptions) is ∙ there))) in
        inl (record {
          key = e.key;
          description = e.description;
          there = remove_other s.descriptions key e.key kept
              ∙ e.there;
          refers = e.refers;
        })
    still object c apart (inr n) = inr n

    by_test : (b : Bool) → has_descriptor s key ≡ b → IsTidy (if b then s else without_unused left d.object)
    by_test true has =
        record {
          opens = λ other e at. elim (cases_eq other key) [
            | inl own ↦ subst (Open s.descriptors) (sym own) (open_of s key has)
            | inr apart ↦ h.opens other e apart at
          ];
          uses = h.uses;
          whole = h.whole;
        }
    by_test false has =
        unused_tidy left d.object (record {
          opens = λ other e at. let was = left_there s.descriptions key other e at in h.opens other e was.0 was.1;
          uses = λ object c apart at. still object c apart (h.uses object c at);
          whole =
              undescribed_whole s key
              (λ n at. false≢true (sym has ∙ has_open s key
              (record { number = n; below = (let whole = h.whole in whole.within n key at); refers = at })))
              h.whole;
        })

pub freed_tidy : (s : State) (descriptor : ℤ) (key : ℕ) → key_at s descriptor ≡ Some key → IsTidy s
    → IsTidyWithout key (freed s descriptor)
freed_tidy s (negsuc n) key is h = absurd (none-some key is)
freed_tidy s (pos n) key is h =
    record {
      opens = λ other d apart at. still other apart (h.opens other d at);
      uses = h.uses;
      whole = freed_whole s n h.whole;
    }
  where
    still : (other : ℕ) → (other ≡ key → ⊥) → Open s.descriptors other → Open (fin.remove s.descriptors n) other
    still other apart o =
        let kept : o.number ≡ n → ⊥ = λ own.
        apart (same_Some other key (sym o.refers ∙ ap (fin.get s.descriptors) own ∙ is)) in
        record { number = o.number; below = o.below; refers = remove_other s.descriptors n o.number kept ∙ o.refers }
