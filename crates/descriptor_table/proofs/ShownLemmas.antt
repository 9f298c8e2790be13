-- What a table shows of a state: descriptors and their descriptions.
use Rattle.std.proofs.Common.{◌≡◌, ℕ, zero, suc, ◌+◌, ◌<◌, ◌==◌, ◌||◌, List, [], ◌∷◌, length, Option, Some, None}
use Rattle.std.proofs.Common.{is_some, Bool, true, false, cond, not, if◌then◌else◌, refl, sym, ap, ◌∙◌, inl, inr, arith}
use Rattle.std.proofs.lemmas.Bool.{cases_eq, eq-eqb, eqb-true, false≢true}
use Rattle.std.proofs.lemmas.Bool.Decides.{nat_tests}
use Rattle.std.proofs.lemmas.List.{length-set, get_or-set_same, get_or-set_other}
use Rattle.std.proofs.lemmas.List.Sums.{sum_by-cons}
use Rattle.std.proofs.lemmas.Option.{none-some}
use Rattle.std.specs.FinMap as fin
use Rattle.std.specs.FinMap.{get-empty}
use Rattle.std.specs.Ordering.{nat_cmp}
use Rattle.std.specs.Option.{option_map}
use Rattle.std.specs.Prelude.{ℤ, pos, negsuc, slice_index_or, slice_set}
use Rattle.sequential_object.specs.Descriptors as posix
use Rattle.sequential_object.specs.Descriptors.{is_key}
use Rattle.sequential_object.specs.Object.{State, Content, Description as ADescription, any_below, empty_state}
use Rattle.sequential_object.specs.Object.{path_cmp}
use Rattle.file_descriptions.specs.Descriptions.{AreSound, description_at}
use Rattle.file_descriptions.specs.declared.description.Description.{Description}
use Rattle.std.specs.Cmp.{both_ways}
use Rattle.descriptor_table.proofs.MapLemmas.{get-remove_other, get-remove_same}
use Rattle.descriptor_table.proofs.SoundLemmas.{description_got, held-set, held_by, key_inside, known_at, known_of}
use Rattle.descriptor_table.proofs.SoundLemmas.{slot_replicate}
use Rattle.descriptor_table.specs.Shows.{RefersAlike, Shows, birth_of, shown_node}
use Rattle.descriptor_table.specs.Shows.RefersAlike.{Open, Shut}
use Rattle.descriptor_table.specs.Table.{TableState, IsSound, empty_table, key_at, lowest_from}

pub key_shown : (t : TableState) (s : State) (descriptor : ℤ) → Shows t s
    → posix.key_at s descriptor ≡ option_map (birth_of t) (key_at t descriptor)
key_shown t s (pos n) shows = shows.descriptors n
key_shown t s (negsuc n) shows = refl

pub key_known : (t : TableState) (descriptor : ℤ) (key : ℕ) → IsSound t → key_at t descriptor ≡ Some key
    → fin.get t.descriptions.by_key key ≡ Some (description_at t.descriptions key)
key_known t (pos n) key sound is = known_at t.descriptions key (known_of t n key sound is)
key_known t (negsuc n) key sound is = cc

pub found_both : (t : TableState) (s : State) (descriptor : ℤ) → IsSound t → Shows t s → RefersAlike t s descriptor
found_both t s descriptor sound shows = by_key (key_at t descriptor) refl
  where
    by_key : (o : Option ℕ) → key_at t descriptor ≡ o → RefersAlike t s descriptor
    by_key None at =
        let none : posix.key_at s descriptor ≡ None = key_shown t s descriptor shows
        ∙ ap (option_map (birth_of t)) at in
        Shut (rw at refl) (rw none refl)
    by_key (Some key) at =
        let d : Description = description_at t.descriptions key in
        let got : fin.get t.descriptions.by_key key ≡ Some d = key_known t descriptor key sound at in
        let there = shows.descriptions key d got in
        let under : posix.key_at s descriptor ≡ Some d.birth = key_shown t s descriptor shows
        ∙ ap (option_map (birth_of t)) at in
        Open key d at got there (rw at refl) (rw (under, there) refl)

-- ## The lowest number

same_open : (t : TableState) (s : State) (n : ℕ) → Shows t s
    → is_some (fin.get s.descriptors n) ≡ is_some (slice_index_or t.descriptors n None)
same_open t s n shows = ap (λ (o : Option ℕ). is_some o) (shows.descriptors n)
    ∙ kept (slice_index_or t.descriptors n None)
  where
    kept : (o : Option ℕ) → is_some (option_map (birth_of t) o) ≡ is_some o
    kept None = refl
    kept (Some key) = refl

pub lowest_shown : (t : TableState) (s : State) (left n : ℕ) → Shows t s
    → posix.lowest_from s left n ≡ lowest_from t.descriptors left n
unfolding posix.lowest_from lowest_from
lowest_shown t s zero n shows = refl
lowest_shown t s (suc left) n shows =
    ap (λ (b : Bool). if b then posix.lowest_from s left (n + 1) else Some n) (same_open t s n shows)
    ∙ ap (λ (o : Option ℕ). if is_some (slice_index_or t.descriptors n None) then o else Some n)
    (lowest_shown t s left (n + 1) shows)

-- ## The last descriptor of a description

-- a descriptor that is open refers to this key exactly when the state has its birth there
key_by_birth : (t : TableState) (o : Option ℕ) (key : ℕ)
    → ((q : ℕ) → o ≡ Some q → birth_of t q ≡ birth_of t key → q ≡ key)
    → is_key (option_map (birth_of t) o) (birth_of t key) ≡ is_key o key
key_by_birth t None key apart = refl
key_by_birth t (Some q) key apart =
    both_ways (birth_of t q == birth_of t key) (q == key)
    (λ x. eq-eqb q key (apart q refl (eqb-true (birth_of t q) (birth_of t key) x)))
    (λ y. eq-eqb (birth_of t q) (birth_of t key) (ap (birth_of t) (eqb-true q key y)))

-- whether one of the first n slots has a key
abbrev keyed : List (Option ℕ) → ℕ → ℕ → Bool
keyed slots n key = any_below n (λ m. is_key (slice_index_or slots m None) key)

any_alike : (n : ℕ) (p q : ℕ → Bool) → ((m : ℕ) → p m ≡ q m) → any_below n p ≡ any_below n q
any_alike zero p q same = refl
any_alike (suc n) p q same = ap (λ (b : Bool). b || p n) (any_alike n p q same)
    ∙ ap (λ (b : Bool). any_below n q || b) (same n)

or_assoc : (a b c : Bool) → (a || (b || c)) ≡ ((a || b) || c)
or_assoc true b c = refl
or_assoc false b c = refl

or_false : (a : Bool) → (a || false) ≡ a
or_false true = refl
or_false false = refl

-- from the other end
any_from_first : (n : ℕ) (p : ℕ → Bool) → any_below (suc n) p ≡ (p 0 || any_below n (λ m. p (suc m)))
any_from_first zero p = sym (or_false (p 0))
any_from_first (suc n) p = ap (λ (b : Bool). b || p (suc n)) (any_from_first n p)
    ∙ sym (or_assoc (p 0) (any_below n (λ m. p (suc m))) (p (suc n)))

-- a key stands among some slots exactly when it is counted there
keyed_counted : (slots : List (Option ℕ)) (key : ℕ) → keyed slots (length slots) key ≡ not (held_by slots key == 0)
keyed_counted [] key = refl
keyed_counted (o ∷ os) key =
    any_from_first (length os) (λ m. is_key (slice_index_or (o ∷ os) m None) key)
    ∙ by_test (is_key o key) refl (keyed_counted os key)
  where
    one_more : (n : ℕ) → not (1 + n == 0) ≡ true
    one_more n = ap not (never n)
      where
        never : (n : ℕ) → (1 + n == 0) ≡ false
        never n = grind (arith, nat_tests)

    by_test : (b : Bool) → is_key o key ≡ b → keyed os (length os) key ≡ not (held_by os key == 0)
        → (is_key o key || keyed os (length os) key) ≡ not (held_by (o ∷ os) key == 0)
    by_test true h rest =
        let one : ◌≡◌ {A = ℕ} (cond (is_key o key) 1 0) 1 = ap (λ (b : Bool). cond b 1 0) h in
        let more : held_by (o ∷ os) key ≡ 1 + held_by os key =
        omega (arith, one, sum_by-cons (λ (x : Option ℕ). cond (is_key x key) 1 0) o os) in
        ap (λ (b : Bool). b || keyed os (length os) key) h
        ∙ sym (ap (λ (n : ℕ). not (n == 0)) more ∙ one_more (held_by os key))
    by_test false h rest =
        let zero : ◌≡◌ {A = ℕ} (cond (is_key o key) 1 0) 0 = ap (λ (b : Bool). cond b 1 0) h in
        let same : held_by (o ∷ os) key ≡ held_by os key =
        omega (arith, zero, sum_by-cons (λ (x : Option ℕ). cond (is_key x key) 1 0) o os) in
        ap (λ (b : Bool). b || keyed os (length os) key) h ∙ rest ∙ sym (ap (λ (n : ℕ). not (n == 0)) same)

-- without descriptor n
slot_freed : (t : TableState) (s : State) (n m : ℕ) → Shows t s → n < length t.descriptors
    → fin.get (fin.remove s.descriptors n) m
    ≡ option_map (birth_of t) (slice_index_or (slice_set t.descriptors n None) m None)
slot_freed t s n m shows inside =
    elim (cases_eq m n) [
      | inl e ↦ ap (fin.get (fin.remove s.descriptors n)) e ∙ get-remove_same s.descriptors n
          ∙ sym (ap (option_map (birth_of t)) (ap (λ (k : ℕ). slice_index_or (slice_set t.descriptors n None) k None) e
          ∙ get_or-set_same t.descriptors n None None inside))
      | inr apart ↦ get-remove_other s.descriptors n m apart ∙ shows.descriptors m
          ∙ sym (ap (option_map (birth_of t)) (get_or-set_other t.descriptors n m None None apart))
    ]

-- a descriptor that stays open refers to a description that is there
still_known : (t : TableState) (n m q : ℕ) → IsSound t → n < length t.descriptors
    → slice_index_or (slice_set t.descriptors n None) m None ≡ Some q
    → fin.get t.descriptions.by_key q ≡ Some (description_at t.descriptions q)
still_known t n m q sound inside is =
    elim (cases_eq m n) [
      | inl e ↦ absurd (none-some _ (sym (ap (λ (k : ℕ). slice_index_or (slice_set t.descriptors n None) k None) e
          ∙ get_or-set_same t.descriptors n None None inside) ∙ is))
      | inr apart ↦ key_known t (pos m) q sound (sym (get_or-set_other t.descriptors n m None None apart) ∙ is)
    ]

one_left : (n k : ℕ) → n ≡ k + 1 → (k == 0) ≡ (n == 1)
one_left n k e = grind (arith, nat_tests)

-- a description has another descriptor exactly when this one is not its last
pub last_shown : (t : TableState) (s : State) (n key : ℕ) (d : Description) → IsSound t → AreSound t.descriptions
    → Shows t s → slice_index_or t.descriptors n None ≡ Some key → fin.get t.descriptions.by_key key ≡ Some d
    → posix.has_descriptor (posix.freed s (pos n)) d.birth ≡ not (d.holders == 1)
last_shown t s n key d sound all shows at got =
    any_alike 32 (λ m. is_key (fin.get (fin.remove s.descriptors n) m) d.birth)
    (λ m. is_key (slice_index_or left m None) key) each
    ∙ ap (λ (k : ℕ). keyed left k key) (sym long)
    ∙ keyed_counted left key
    ∙ ap not (one_left d.holders (held_by left key) fewer)
  where
    left : List (Option ℕ)
    left = slice_set t.descriptors n None

    within : n < length t.descriptors
    within = key_inside t.descriptors n key at

    long : length left ≡ 32
    long = length-set t.descriptors n None ∙ sound.numbers

    here : description_at t.descriptions key ≡ d
    here = description_got t.descriptions key d got

    each : (m : ℕ) → is_key (fin.get (fin.remove s.descriptors n) m) d.birth ≡ is_key (slice_index_or left m None) key
    each m =
        ap (λ (o : Option ℕ). is_key o d.birth) (slot_freed t s n m shows within)
        ∙ ap (λ (b : ℕ). is_key (option_map (birth_of t) (slice_index_or left m None)) b)
        (sym (ap (λ (x : Description). x.birth) here))
        ∙ key_by_birth t (slice_index_or left m None) key
        (λ q is same. all.distinct q key (description_at t.descriptions q) d (still_known t n m q sound within is)
        got (same ∙ ap (λ (x : Description). x.birth) here))

    fewer : d.holders ≡ held_by left key + 1
    fewer =
        let set : held_by left key + cond (is_key (slice_index_or t.descriptors n None) key) 1 0
        ≡ held_by t.descriptors key + 0 = held-set t.descriptors n key None within in
        let was : ◌≡◌ {A = ℕ} (cond (is_key (slice_index_or t.descriptors n None) key) 1 0) 1 = ap
        (λ (o : Option ℕ). cond (is_key o key) 1 0) at ∙ ap (λ (b : Bool). cond b 1 0) (eq-eqb key key refl) in
        let count : (description_at t.descriptions key).holders ≡ held_by t.descriptors key = sound.held key in
        omega (arith, set, was, count, ap (λ (x : Description). x.holders) here)

-- whether a description ends with this descriptor
pub last_open : (t : TableState) (s : State) → IsSound t → AreSound t.descriptions → Shows t s
    → (descriptor : ℤ) (key : ℕ) (d : Description) → key_at t descriptor ≡ Some key
    → fin.get t.descriptions.by_key key ≡ Some d
    → posix.has_descriptor (posix.freed s descriptor) d.birth ≡ not (d.holders == 1)
last_open t s sound all shows (pos n) key d at got = last_shown t s n key d sound all shows at got
last_open t s sound all shows (negsuc n) key d at got = cc

-- ## The empty table

pub shows-empty : Shows empty_table empty_state
shows-empty =
    record {
      descriptors = λ n. get-empty nat_cmp n ∙ sym (ap (option_map (birth_of empty_table)) (slot_replicate 32 n));
      descriptions = λ key d got. absurd (none-some _ (sym (get-empty nat_cmp key) ∙ got));
      described = λ birth is. absurd
          (false≢true (sym (ap (λ (o : Option ADescription). is_some o) (get-empty nat_cmp birth)) ∙ is));
      paths = λ path. get-empty path_cmp path
          ∙ sym (ap (option_map (shown_node empty_table)) (get-empty path_cmp path));
      objects = λ node birth is. absurd (none-some _ (sym (slot_replicate 48 node) ∙ is));
      numbered = λ birth is. absurd (false≢true (sym (ap (λ (o : Option Content). is_some o) (get-empty nat_cmp birth))
          ∙ is));
      ends = λ key d got. absurd (none-some _ (sym (get-empty nat_cmp key) ∙ got));
      files = λ path node is. absurd (none-some _ (sym (get-empty path_cmp path) ∙ is));
      next_description = refl;
      next_object = refl;
    }
