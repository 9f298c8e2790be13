-- What clap has of an argument, as its rules are added.
use Rattle.std.proofs.Common.{◌≡◌, ◌∙◌, ◌<◌, ◌+◌, ◌&&◌, ℕ, Bool, true, false, not, List, [], ◌∷◌, ◌++◌}
use Rattle.std.proofs.Common.{length, get_or, map, take}
use Rattle.std.proofs.Common.{ap, arith, refl, sym}
use Rattle.std.proofs.lemmas.Bool.{ne_eqb}
use Rattle.std.proofs.lemmas.List.{map-append, map_more}
use Rattle.std.specs.Borrow.{Bor}
use Rattle.std.specs.Prelude.{IfOk, Result, Ok, Err, Some}
use Rattle.std.proofs.lemmas.List.Sums.{fold_more}
use Rattle.std.specs.List.{fold}
use Rattle.clap.specs.Simple.{new_rule}
use Rattle.clap.specs.Texts.{items_of}
use Rattle.clap.specs.Walk.{Rule as Read, is_empty, is_free_arg, rule_of, texts}
use Rattle.clap.specs.Words.{AddsConflicts, AddsRequiredUnless, AddsRequirements}
use Rattle.clap.specs.declared.builder.arg.Arg.{Arg}
use Rattle.clap.specs.declared.builder.arg.ArgPredicate.{ArgPredicate}
use Rattle.clap.specs.declared.builder.arg.ArgPredicate.TheVariants.{IsPresent}
use Rattle.command_line.specs.Options.{View, need, plain_view, ruled, view_by, view_of}
use Rattle.command_line.specs.declared.options.Argument.{Argument}
use Rattle.command_line.specs.declared.options.Rule.{Rule}
use Rattle.command_line.specs.declared.options.Rule.TheVariants as rule

-- borrowed texts
abbrev Texts : Type 0
Texts = List (Bor (List ℕ))

-- what is false at its end is false
off : (b : Bool) {r : Bool} → r ≡ false → (b && r) ≡ false
off true is = is
off false is = refl

-- and so where it is false before the end
off_before : (r : Bool) {b : Bool} → b ≡ false → (b && r) ≡ false
off_before r is = rw is refl

-- a list with one more is not empty
one_more : {X : Type 0} (xs : List X) (x : X) → is_empty (xs ++ x ∷ []) ≡ false
one_more [] x = refl
one_more (y ∷ ys) x = ne_eqb _ _ (λ e. omega (arith, e))

-- an argument that does not go with one more
now_excludes : (id : List ℕ) (old new : Arg) (other : Bor (List ℕ)) → AddsConflicts old new (other ∷ [])
    → view_of new ≡ ruled id (view_of old) (rule.Excludes other)
now_excludes id old new other (same, added) =
    let is : is_empty new.conflicts.items ≡ false = ap is_empty added ∙ one_more old.conflicts.items other in
    let free : is_free_arg (record old { conflicts = new.conflicts }) ≡ false =
    off (not old.exclusive) (off_before _ is) in
    let list : texts new.conflicts.items ≡ texts old.conflicts.items ++ other.now ∷ [] =
    ap texts added
    ∙ map-append (λ (s : Bor (List ℕ)). s.now) old.conflicts.items (other ∷ []) in
    ap view_of same
    ∙ ap (λ (b : Bool). made b (texts new.conflicts.items)) free
    ∙ ap (made false) list
  where
    made : Bool → List (List ℕ) → View
    made free l = record (view_of old) { read = record (rule_of old) { is_free = free }; conflicts = l }

-- one that needs one more
now_needs : (id : List ℕ) (old new : Arg) (other : Bor (List ℕ)) → AddsRequirements old new ((IsPresent, other) ∷ [])
    → view_of new ≡ ruled id (view_of old) (rule.Needs other)
now_needs id old new other (same, added) =
    let is : is_empty new.needs.items ≡ false = ap is_empty added ∙ one_more old.needs.items (IsPresent, other) in
    let free : is_free_arg (record old { needs = new.needs }) ≡ false =
    off (not old.exclusive) (off (is_empty old.conflicts.items) (off_before _ is)) in
    let list = ap (map need) added
    ∙ map-append need old.needs.items ((IsPresent, other) ∷ []) in
    ap view_of same
    ∙ ap (λ (b : Bool). made b (map need new.needs.items)) free
    ∙ ap (made false) list
  where
    made : Bool → List (ArgPredicate × List ℕ) → View
    made free l = record (view_of old) { read = record (rule_of old) { is_free = free }; needs = l }

-- one that is required without one more
now_required_without : (id : List ℕ) (old new : Arg) (other : Bor (List ℕ)) → AddsRequiredUnless old new (other ∷ [])
    → view_of new ≡ ruled id (view_of old) (rule.RequiredWithout other)
now_required_without id old new other (same, added) =
    let is : is_empty new.r_unless.items ≡ false = ap is_empty added ∙ one_more old.r_unless.items other in
    let free : is_free_arg (record old { r_unless = new.r_unless }) ≡ false =
    off (not old.exclusive) (off (is_empty old.conflicts.items) (off (is_empty old.needs.items)
    (off (is_empty old.r_ifs.items) (off (is_empty old.r_ifs_all.items) (off_before _ is))))) in
    let list : texts new.r_unless.items ≡ texts old.r_unless.items ++ other.now ∷ [] =
    ap texts added
    ∙ map-append (λ (s : Bor (List ℕ)). s.now) old.r_unless.items (other ∷ []) in
    ap view_of same
    ∙ ap (λ (b : Bool). made b (texts new.r_unless.items)) free
    ∙ ap (made false) list
  where
    made : Bool → List (List ℕ) → View
    made free l = record (view_of old) { read = record (rule_of old) { is_free = free }; unless = l }

-- ## Of a new argument

and_left : (b : Bool) (r : Bool) → (b && r) ≡ true → b ≡ true
and_left true r is = refl
and_left false r is = is

and_right : (b : Bool) {r : Bool} → (b && r) ≡ true → r ≡ true
and_right true is = is
and_right false is = cc

no_items : {X : Type 0} (xs : List X) → length xs ≡ 0 → xs ≡ []
no_items [] is = refl
no_items (x ∷ xs) is = absurd (omega (arith, is))

is_nil : {X : Type 0} (xs : List X) → is_empty xs ≡ true → xs ≡ []
is_nil [] is = refl
is_nil (x ∷ xs) is =
    let bad : false ≡ true = sym (ne_eqb (length (x ∷ xs)) 0 (λ e. omega (arith, e))) ∙ is in
    cc

-- one with its help, and no rule yet
pub started : (a : Arg) (id : List ℕ) (help : Bor (List ℕ)) → rule_of a ≡ new_rule id
    → a.conflicts.items ≡ [] → a.global ≡ false → view_of (record a { help = Some help }) ≡ plain_view id help.now
started a id help read conflicts global =
    let free : is_free_arg a ≡ true = ap (λ (r : Read). r.is_free) read in
    let after_needs = and_right (is_empty a.conflicts.items) (and_right (not a.exclusive) free) in
    let needs : a.needs.items ≡ [] = is_nil _ (and_left (is_empty a.needs.items) _ after_needs) in
    let after_ifs = and_right (is_empty a.r_ifs_all.items) (and_right (is_empty a.r_ifs.items)
    (and_right (is_empty a.needs.items) after_needs)) in
    let unless : a.r_unless.items ≡ [] = is_nil _ (and_left (is_empty a.r_unless.items) _ after_ifs) in
    let names : items_of a.val_names ≡ [] = no_items _ (ap (λ (r : Read). r.value_names) read) in
    ap (λ (r : Read). made r (items_of a.val_names) a.conflicts.items a.needs.items a.r_unless.items a.global) read
    ∙ ap (λ (n : Texts). made (new_rule id) n a.conflicts.items a.needs.items a.r_unless.items a.global) names
    ∙ ap (λ (n : Texts). made (new_rule id) [] n a.needs.items a.r_unless.items a.global) conflicts
    ∙ ap (λ (n : List (ArgPredicate × Bor (List ℕ))). made (new_rule id) [] [] n a.r_unless.items a.global) needs
    ∙ ap (λ (n : Texts). made (new_rule id) [] [] [] n a.global) unless
    ∙ ap (λ (g : Bool). made (new_rule id) [] [] [] [] g) global
  where
    made : Read → Texts → Texts → List (ArgPredicate × Bor (List ℕ)) → Texts → Bool → View
    made r names conflicts needs unless global = record {
      read = r;
      help = Some help.now;
      value_names = texts names;
      conflicts = texts conflicts;
      needs = map need needs;
      unless = texts unless;
      global = global;
    }

-- ## Of rules and arguments one after another

pub next_rule : (id : List ℕ) (start : View) (rules : List Rule) (i : ℕ) (d : Rule) {old new : View}
    → i < length rules → new ≡ ruled id old (get_or rules i d) → old ≡ fold (ruled id) start (take i rules)
    → new ≡ fold (ruled id) start (take (i + 1) rules)
next_rule id start rules i d less adds known =
    adds ∙ ap (λ (v : View). ruled id v (get_or rules i d)) known ∙ sym (fold_more (ruled id) start rules i d less)

pub next_argument : (xs : List Arg) (x : Arg) (given : List Argument) (i : ℕ) (d : Argument) {all : List Arg}
    → i < length given → all ≡ xs ++ x ∷ [] → view_of x ≡ view_by (get_or given i d)
    → map view_of xs ≡ map view_by (take i given) → map view_of all ≡ map view_by (take (i + 1) given)
next_argument xs x given i d less added is known =
    ap (map view_of) added ∙ map-append view_of xs (x ∷ [])
    ∙ ap (λ (l : List View). l ++ view_of x ∷ []) known
    ∙ ap (λ (v : View). map view_by (take i given) ++ v ∷ []) is
    ∙ sym (map_more view_by given i d less)

-- ## The same of a result that may be an error

pub excludes : {E : Type 0} (id : List ℕ) (old : Arg) (other : Bor (List ℕ)) {given : Rule} (r : Result Arg E)
    → given ≡ rule.Excludes other → IfOk r (λ new. AddsConflicts old new (other ∷ []))
    → IfOk r (λ new. view_of new ≡ ruled id (view_of old) given)
excludes id old other (Ok new) is adds = rw is (now_excludes id old new other adds)
excludes id old other (Err e) is adds = tt

pub needs : {E : Type 0} (id : List ℕ) (old : Arg) (other : Bor (List ℕ)) {given : Rule} (r : Result Arg E)
    → given ≡ rule.Needs other → IfOk r (λ new. AddsRequirements old new ((IsPresent, other) ∷ []))
    → IfOk r (λ new. view_of new ≡ ruled id (view_of old) given)
needs id old other (Ok new) is adds = rw is (now_needs id old new other adds)
needs id old other (Err e) is adds = tt

pub required_without : {E : Type 0} (id : List ℕ) (old : Arg) (other : Bor (List ℕ)) {given : Rule} (r : Result Arg E)
    → given ≡ rule.RequiredWithout other → IfOk r (λ new. AddsRequiredUnless old new (other ∷ []))
    → IfOk r (λ new. view_of new ≡ ruled id (view_of old) given)
required_without id old other (Ok new) is adds = rw is (now_required_without id old new other adds)
required_without id old other (Err e) is adds = tt
