-- States in which all that is referred to is there, and each key in use is
-- below the next one, and how the changes of a state keep them so.
use Rattle.std.proofs.Common.{◌≡◌, ◌⊎◌, ℕ, ◌+◌, ◌<◌, List, [], Option, Some, None, is_some, Bool, true, inl, inr, refl}
use Rattle.std.proofs.Common.{sym, ap, ◌∙◌, subst, arith}
use Rattle.std.proofs.lemmas.Bool.{cases_eq, false≢true}
use Rattle.std.proofs.lemmas.Option.{same_Some}
use Rattle.std.specs.FinMap as fin
use Rattle.std.specs.Prelude.{unwrap_or}
use Rattle.sequential_object.specs.Descriptors.{opened, with_file}
use Rattle.sequential_object.specs.Duplicates.{shared}
use Rattle.sequential_object.specs.Names.{PathMap, with_paths}
use Rattle.sequential_object.specs.Object.{Content, Description, File, FileNode, State, content_of, with_content}
use Rattle.sequential_object.specs.Object.{with_object}
use Rattle.sequential_object.specs.Unused.{is_a_file}
use Rattle.posix_terms.specs.declared.call.Access.{Access}
use Rattle.posix_terms.specs.declared.limits.TheConstants.Limits as limit
use Rattle.posix_terms.specs.declared.object.End.{End}
use Rattle.sequential_object.proofs.Maps.{insert_other, insert_same, insert_there, inserted_is, left_there, paths_total}
use Rattle.sequential_object.proofs.Maps.{remove_other}

abbrev pub AreNumbered : State → Type 0
AreNumbered s = (key : ℕ) (d : Description) → fin.get s.descriptions key ≡ Some d → key < s.next_description

pub record IsWhole (s : State) : Type 0 where
  pub opens : (n key : ℕ) → fin.get s.descriptors n ≡ Some key → is_some (fin.get s.descriptions key) ≡ true
  pub refers : (key : ℕ) (d : Description) → fin.get s.descriptions key ≡ Some d
      → is_some (fin.get s.objects d.object) ≡ true
  pub names : (path : List (List ℕ)) (object : ℕ) → fin.get s.paths path ≡ Some (FileNode object)
      → is_a_file (fin.get s.objects object) ≡ true
  pub within : (n key : ℕ) → fin.get s.descriptors n ≡ Some key → n < limit.DESCRIPTORS
  pub numbered : AreNumbered s
  pub made : (object : ℕ) (c : Content) → fin.get s.objects object ≡ Some c → object < s.next_object

-- ## What is there

pub some_is : {X : Type 0} (o : Option X) → is_some o ≡ true → (x : X) × (o ≡ Some x)
some_is (Some x) h = (x, refl)
some_is None h = absurd (false≢true h)

pub file_is_there : (o : Option Content) → is_a_file o ≡ true → is_some o ≡ true
file_is_there (Some c) h = refl
file_is_there None h = absurd (false≢true h)

-- a new content is a file wherever the old one is
abbrev pub StaysFile : State → ℕ → Content → Type 0
StaysFile s object c = is_a_file (fin.get s.objects object) ≡ true → is_a_file (Some c) ≡ true

-- so what an object holds is of its own kind
pub same_kind : (s : State) (object : ℕ) (c : Content) → content_of s object ≡ c → StaysFile s object c
same_kind s object c is h = ap (λ (x : Content). is_a_file (Some x)) (sym is) ∙ of_content (fin.get s.objects object) h
  where
    of_content : (o : Option Content) → is_a_file o ≡ true → is_a_file (Some (unwrap_or o (File []))) ≡ true
    of_content (Some x) h = h
    of_content None h = refl

still_file : (s : State) (object : ℕ) (c : Content) (other : ℕ) → StaysFile s object c
    → is_a_file (fin.get s.objects other) ≡ true → is_a_file (fin.get (fin.insert s.objects object c) other) ≡ true
still_file s object c other kind h =
    elim (cases_eq other object) [
      | inl is ↦
          ap is_a_file (ap (fin.get (fin.insert s.objects object c)) is ∙ insert_same s.objects object c)
          ∙ kind (ap (λ (k : ℕ). is_a_file (fin.get s.objects k)) (sym is) ∙ h)
      | inr apart ↦ ap is_a_file (insert_other s.objects object c other apart) ∙ h
    ]

-- the next object is not there yet
none_yet : (s : State) (c : Content) → IsWhole s → StaysFile s s.next_object c
none_yet s c h file =
    let its = some_is (fin.get s.objects s.next_object) (file_is_there (fin.get s.objects s.next_object) file) in
    let below : s.next_object < s.next_object = h.made s.next_object its.0 its.1 in
    absurd (omega arith)

-- ## Changes of the objects

-- a new content of an object that is there
pub content_whole : (s : State) (object : ℕ) (c : Content) → is_some (fin.get s.objects object) ≡ true
    → StaysFile s object c → IsWhole s → IsWhole (with_content s object c)
content_whole s object c there kind h =
    record {
      opens = h.opens;
      refers = λ key d at. insert_there s.objects object c d.object (h.refers key d at);
      names = λ path other at. still_file s object c other kind (h.names path other at);
      within = h.within;
      numbered = h.numbered;
      made = λ other x at. elim (cases_eq other object) [
        | inl is ↦ let its = some_is (fin.get s.objects object) there in
            subst (λ (n : ℕ). n < s.next_object) (sym is) (h.made object its.0 its.1)
        | inr apart ↦ h.made other x (sym (insert_other s.objects object c other apart) ∙ at)
      ];
    }

-- a new object
pub object_whole : (s : State) (c : Content) → IsWhole s → IsWhole (with_object s c)
object_whole s c h =
    record {
      opens = h.opens;
      refers = λ key d at. insert_there s.objects s.next_object c d.object (h.refers key d at);
      names = λ path other at. still_file s s.next_object c other (none_yet s c h) (h.names path other at);
      within = h.within;
      numbered = h.numbered;
      made = λ other x at. elim (cases_eq other s.next_object) [
        | inl is ↦ omega arith
        | inr apart ↦ later other (h.made other x (sym (insert_other s.objects s.next_object c other apart) ∙ at))
      ];
    }
  where
    later : (other : ℕ) → other < s.next_object → other < s.next_object + 1
    later other below = omega arith

-- an object that nothing refers to is removed
pub removed_whole : (s : State) (object : ℕ)
    → ((key : ℕ) (d : Description) → fin.get s.descriptions key ≡ Some d → d.object ≡ object → ⊥)
    → ((path : List (List ℕ)) → fin.get s.paths path ≡ Some (FileNode object) → ⊥)
    → IsWhole s → IsWhole (record s { objects = fin.remove s.objects object })
removed_whole s object undescribed unnamed h =
    record {
      opens = h.opens;
      refers = λ key d at. ap (λ (o : Option Content). is_some o)
          (remove_other s.objects object d.object (undescribed key d at)) ∙ h.refers key d at;
      names = λ path other at.
          ap is_a_file (remove_other s.objects object other
          (λ is. unnamed path (at ∙ ap (λ (k : ℕ). Some (FileNode k)) is))) ∙ h.names path other at;
      within = h.within;
      numbered = h.numbered;
      made = λ other c at. h.made other c (left_there s.objects object other c at).1;
    }

-- ## Changes of the paths

-- paths whose files had a name before
abbrev pub NamesKnown : PathMap → PathMap → Type 0
NamesKnown old new = (path : List (List ℕ)) (object : ℕ) → fin.get new path ≡ Some (FileNode object)
    → (before : List (List ℕ)) × (fin.get old before ≡ Some (FileNode object))

pub paths_whole : (s : State) (paths : PathMap) → NamesKnown s.paths paths → IsWhole s → IsWhole (with_paths s paths)
paths_whole s paths known h =
    record {
      opens = h.opens;
      refers = h.refers;
      names = λ path object at. let old = known path object at in h.names old.0 object old.1;
      within = h.within;
      numbered = h.numbered;
      made = h.made;
    }

-- a new file with its name
pub file_whole : (s : State) (components : List (List ℕ)) → IsWhole s → IsWhole (with_file s components)
file_whole s components h =
    let made = object_whole s (File []) h in
    record {
      opens = made.opens;
      refers = made.refers;
      names = λ path object at. by_name object (made.names path object)
          (inserted_is paths_total s.paths components (FileNode s.next_object) path (FileNode object) at);
      within = made.within;
      numbered = made.numbered;
      made = made.made;
    }
  where
    same_file : (a b : ℕ) → FileNode a ≡ FileNode b → a ≡ b
    same_file a b e = cc

    by_name : {P : Type 0} (object : ℕ)
        → (P → is_a_file (fin.get (fin.insert s.objects s.next_object (File [])) object) ≡ true)
        → (FileNode s.next_object ≡ FileNode object) ⊎ P
        → is_a_file (fin.get (fin.insert s.objects s.next_object (File [])) object) ≡ true
    by_name object old (inl is) =
        ap is_a_file (ap (fin.get (fin.insert s.objects s.next_object (File [])))
        (sym (same_file s.next_object object is)) ∙ insert_same s.objects s.next_object (File []))
    by_name object old (inr at) = old at

-- ## Changes of the descriptions

-- a description that stays one of its object
pub own_whole : (s : State) (key : ℕ) (x y : Description) → fin.get s.descriptions key ≡ Some x → x.object ≡ y.object
    → IsWhole s → IsWhole (record s { descriptions = fin.insert s.descriptions key y })
own_whole s key x y there own h =
    record {
      opens = λ n k at. insert_there s.descriptions key y k (h.opens n k at);
      refers = λ other d at. elim (cases_eq other key) [
        | inl is ↦
            let same : y ≡ d = same_Some y d (sym (insert_same s.descriptions key y)
            ∙ ap (fin.get (fin.insert s.descriptions key y)) (sym is) ∙ at) in
            ap (λ (k : ℕ). is_some (fin.get s.objects k)) (ap (λ (z : Description). z.object) (sym same) ∙ sym own)
            ∙ h.refers key x there
        | inr apart ↦ h.refers other d (sym (insert_other s.descriptions key y other apart) ∙ at)
      ];
      names = h.names;
      within = h.within;
      numbered = λ other d at. elim (cases_eq other key) [
        | inl is ↦ subst (λ (n : ℕ). n < s.next_description) (sym is) (h.numbered key x there)
        | inr apart ↦ h.numbered other d (sym (insert_other s.descriptions key y other apart) ∙ at)
      ];
      made = h.made;
    }

-- a description that no descriptor refers to is removed
pub undescribed_whole : (s : State) (key : ℕ) → ((n : ℕ) → fin.get s.descriptors n ≡ Some key → ⊥) → IsWhole s
    → IsWhole (record s { descriptions = fin.remove s.descriptions key })
undescribed_whole s key unopened h =
    record {
      opens = λ n k at.
          ap (λ (o : Option Description). is_some o)
          (remove_other s.descriptions key k (λ is. unopened n (at ∙ ap (λ (j : ℕ). Some j) is))) ∙ h.opens n k at;
      refers = λ other d at. h.refers other d (left_there s.descriptions key other d at).1;
      names = h.names;
      within = h.within;
      numbered = λ other d at. h.numbered other d (left_there s.descriptions key other d at).1;
      made = h.made;
    }

-- ## Changes of the descriptors

-- a number that refers to a description from now on
pub shared_whole : (s : State) (n key : ℕ) → n < limit.DESCRIPTORS → is_some (fin.get s.descriptions key) ≡ true
    → IsWhole s → IsWhole (shared s n key)
shared_whole s n key below there h =
    record {
      opens = λ m k at. elim (cases_eq m n) [
        | inl is ↦
            let same : key ≡ k = same_Some key k (sym (insert_same s.descriptors n key)
            ∙ ap (fin.get (fin.insert s.descriptors n key)) (sym is) ∙ at) in
            ap (λ (j : ℕ). is_some (fin.get s.descriptions j)) (sym same) ∙ there
        | inr apart ↦ h.opens m k (sym (insert_other s.descriptors n key m apart) ∙ at)
      ];
      refers = h.refers;
      names = h.names;
      within = λ m k at. elim (cases_eq m n) [
        | inl is ↦ subst (λ (j : ℕ). j < limit.DESCRIPTORS) (sym is) below
        | inr apart ↦ h.within m k (sym (insert_other s.descriptors n key m apart) ∙ at)
      ];
      numbered = h.numbered;
      made = h.made;
    }

-- a new description of an object that is there
described_whole : (s : State) (x : Description) → is_some (fin.get s.objects x.object) ≡ true → IsWhole s
    → IsWhole (record s {
      descriptions = fin.insert s.descriptions s.next_description x;
      next_description = s.next_description + 1;
    })
described_whole s x there h =
    record {
      opens = λ n k at. insert_there s.descriptions s.next_description x k (h.opens n k at);
      refers = λ key d at. elim (cases_eq key s.next_description) [
        | inl is ↦
            let same : x ≡ d = same_Some x d (sym (insert_same s.descriptions s.next_description x)
            ∙ ap (fin.get (fin.insert s.descriptions s.next_description x)) (sym is) ∙ at) in
            ap (λ (z : Description). is_some (fin.get s.objects z.object)) (sym same) ∙ there
        | inr apart ↦ h.refers key d (sym (insert_other s.descriptions s.next_description x key apart) ∙ at)
      ];
      names = h.names;
      within = h.within;
      numbered = λ key d at. elim (cases_eq key s.next_description) [
        | inl is ↦ omega arith
        | inr apart ↦ later key (h.numbered key d (sym (insert_other s.descriptions s.next_description x key apart)
            ∙ at))
      ];
      made = h.made;
    }
  where
    later : (key : ℕ) → key < s.next_description → key < s.next_description + 1
    later key below = omega arith

pub opened_whole : (s : State) (n object : ℕ) (which : End) (access : Access) (append nonblock : Bool)
    → n < limit.DESCRIPTORS → is_some (fin.get s.objects object) ≡ true → IsWhole s
    → IsWhole (opened s n object which access append nonblock)
opened_whole s n object which access append nonblock below there h =
    shared_whole (record s {
      descriptions = fin.insert s.descriptions s.next_description x;
      next_description = s.next_description + 1;
    }) n s.next_description below
    (ap (λ (o : Option Description). is_some o) (insert_same s.descriptions s.next_description x))
    (described_whole s x there h)
  where
    x : Description
    x = record { object = object; «end» = which; access = access; offset = 0; append = append; nonblock = nonblock }

-- a number that is free from now on
pub freed_whole : (s : State) (n : ℕ) → IsWhole s → IsWhole (record s { descriptors = fin.remove s.descriptors n })
freed_whole s n h =
    record {
      opens = λ m k at. h.opens m k (left_there s.descriptors n m k at).1;
      refers = h.refers;
      names = h.names;
      within = λ m k at. h.within m k (left_there s.descriptors n m k at).1;
      numbered = h.numbered;
      made = h.made;
    }
