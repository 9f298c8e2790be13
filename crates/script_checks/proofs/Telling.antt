-- Descriptors that more than one script names: one more is told, and all that lines name are.
use Rattle.std.proofs.Common.{◌≡◌, ℕ, suc, ◌+◌, ◌<◌, ◌≤◌, Bool, true, false, ◌||◌, cond, ℤ, List}
use Rattle.std.proofs.Common.{[], ◌∷◌, ◌++◌, length, map, take, get_or, slice_get, Option, Some, refl, ap}
use Rattle.std.proofs.Common.{sym, ◌∙◌, ◌⊎◌, inl, inr, arith}
use Rattle.std.specs.Borrow.{Bor}
use Rattle.std.specs.List.{IsDistinct, list_any}
use Rattle.std.specs.Ordering.{int_eq}
use Rattle.std.proofs.lemmas.Bool.{cases_lt, or_cases}
use Rattle.std.proofs.lemmas.Cmp.{int_eq_equiv}
use Rattle.std.proofs.lemmas.List.{map-append}
use Rattle.std.proofs.lemmas.List.Elements.{All-nil, All-push}
use Rattle.std.proofs.lemmas.List.Folds.{list_any-append, list_any_more}
use Rattle.std.proofs.lemmas.Map.Keys.{IsDistinct-push}
use Rattle.std.proofs.lemmas.Option.{get_or_from_slice_get, slice_get_within}
use Rattle.answered_calls.specs.OperandsSeen.{operand_seen}
use Rattle.answered_calls.specs.declared.operand.Operand.{Operand}
use Rattle.thread_scripts.specs.declared.line.Data.{Data}
use Rattle.thread_scripts.specs.declared.line.Line.{Line}
use Rattle.thread_scripts.specs.declared.line.Number.{Number}
use Rattle.script_checks.specs.Sharing.{Adds, AddsOf, AreAllShared, AreSharedOnce, IsSharedIn}
use Rattle.script_checks.specs.Sharing.{IsToldIfShared, fixed_descriptors, fixed_operand, fixed_seen}
use Rattle.script_checks.specs.Sharing.{has_number, is_number, names, naming_from}
use Rattle.script_checks.specs.declared.descriptors.SharedDescriptor.{SharedDescriptor}
use Rattle.script_checks.proofs.Naming.{or_false, three}

numbers_any : (n : ℤ) (shared : List SharedDescriptor)
    → list_any (int_eq n) (map (λ s. s.number) shared) ≡ has_number n shared
numbers_any n [] = refl
numbers_any n (s ∷ shared) = ap (λ (b : Bool). int_eq n s.number || b) (numbers_any n shared)

still_there : (n : ℤ) (shared : List SharedDescriptor) (s : SharedDescriptor)
    → has_number n shared ≡ true → has_number n (shared ++ s ∷ []) ≡ true
still_there n shared s there =
    list_any-append (λ (t : SharedDescriptor). int_eq n t.number) shared (s ∷ [])
    ∙ ap (λ (b : Bool). b || has_number n (s ∷ [])) there

or_true : (a b : Bool) → b ≡ true → (a || b) ≡ true
or_true true b e = refl
or_true false b e = e

now_there : (n : ℤ) (shared : List SharedDescriptor) (s : SharedDescriptor)
    → int_eq n s.number ≡ true → has_number n (shared ++ s ∷ []) ≡ true
now_there n shared s same =
    list_any-append (λ (t : SharedDescriptor). int_eq n t.number) shared (s ∷ [])
    ∙ or_true (has_number n shared) (has_number n (s ∷ [])) (ap (λ (b : Bool). b || false) same)

-- one more that is shared, and was not there
pub added : (scripts : List (List Line)) (shared : List SharedDescriptor) (s : SharedDescriptor)
    → AreSharedOnce scripts shared → IsSharedIn scripts s → has_number s.number shared ≡ false
    → Adds scripts (Some s.number) shared (shared ++ s ∷ [])
added scripts shared s were is new = record {
  once = record {
    each = All-push (IsSharedIn scripts) shared s were.each is;
    once = rw (map-append (λ (t : SharedDescriptor). t.number) shared (s ∷ []))
        (IsDistinct-push int_eq_equiv (map (λ t. t.number) shared) s.number were.once
        (numbers_any s.number shared ∙ new));
  };
  kept = λ m there. still_there m shared s there;
  told = λ m same two. now_there m shared s same;
}

-- what the operands of a line name, one after another, is what the line names
pub added_operands : (scripts : List (List Line)) (l : Line) (a b c : Option (Operand Number (Bor Data)))
    (s0 s1 s2 s3 : List SharedDescriptor)
    → fixed_descriptors l ≡ map fixed_operand (operand_seen a ++ (operand_seen b ++ operand_seen c))
    → Adds scripts (fixed_seen a) s0 s1 → Adds scripts (fixed_seen b) s1 s2 → Adds scripts (fixed_seen c) s2 s3
    → AddsOf scripts (l ∷ []) s0 s3
added_operands scripts l a b c s0 s1 s2 s3 is first second third = record {
  once = third.once;
  kept = λ m there. third.kept m (second.kept m (first.kept m there));
  told = λ m named. by_first m
      (or_cases (is_number m (fixed_seen a)) (is_number m (fixed_seen b) || is_number m (fixed_seen c))
      (sym (ap (list_any (is_number m)) is ∙ three m a b c) ∙ sym (or_false (names m l)) ∙ named));
} where
  by_second : (m : ℤ) → (is_number m (fixed_seen b) ≡ true) ⊎ (is_number m (fixed_seen c) ≡ true)
      → IsToldIfShared scripts s3 m
  by_second m (inl now) two = third.kept m (second.told m now two)
  by_second m (inr later) two = third.told m later two

  by_first : (m : ℤ)
      → (is_number m (fixed_seen a) ≡ true) ⊎ ((is_number m (fixed_seen b) || is_number m (fixed_seen c)) ≡ true)
      → IsToldIfShared scripts s3 m
  by_first m (inl now) two = third.kept m (second.kept m (first.told m now two))
  by_first m (inr later) two =
      by_second m (or_cases (is_number m (fixed_seen b)) (is_number m (fixed_seen c)) later) two

-- what one more line names is told too
pub added_lines : (scripts : List (List Line)) (lines : List Line) (i : ℕ) (l : Line)
    (first before after : List SharedDescriptor) → i < length lines → l ≡ get_or lines i l
    → AddsOf scripts (take i lines) first before → AddsOf scripts (l ∷ []) before after
    → AddsOf scripts (take (i + 1) lines) first after
added_lines scripts lines i l first before after h at were more = record {
  once = more.once;
  kept = λ m there. more.kept m (were.kept m there);
  told = λ m named. here m
      (or_cases (list_any (names m) (take i lines)) (names m (get_or lines i l))
      (sym (list_any_more (names m) lines i l h) ∙ named));
} where
  here : (m : ℤ) → (list_any (names m) (take i lines) ≡ true) ⊎ (names m (get_or lines i l) ≡ true)
      → IsToldIfShared scripts after m
  here m (inl earlier) two = more.kept m (were.told m earlier two)
  here m (inr now) two = more.told m (ap (λ (b : Bool). b || false) (ap (names m) at ∙ now)) two

-- what one more script names is told too
pub added_script : (scripts : List (List Line)) (i : ℕ) (script : List Line)
    (before after : List SharedDescriptor) → i < length scripts → script ≡ get_or scripts i script
    → ((k : ℕ) (s : List Line) (n : ℤ) → k < i → slice_get scripts k ≡ Some s → list_any
    (names n) s ≡ true → IsToldIfShared scripts before n)
    → AddsOf scripts script before after
    → (k : ℕ) (s : List Line) (n : ℤ) → k < i + 1 → slice_get scripts k ≡ Some s
    → list_any (names n) s ≡ true → IsToldIfShared scripts after n
added_script scripts i script before after h at were more k s n below is named two =
    elim (cases_lt k i) [
      | inl earlier ↦ more.kept n (were k s n earlier is named two)
      | inr later ↦ let e : k ≡ i = omega arith in let there : get_or scripts k script ≡ s =
          get_or_from_slice_get scripts k s script is in
          let same : s ≡ script = sym there ∙ ap (λ (j : ℕ). get_or scripts j script) e ∙ sym at in
          more.told n (rw same at named) two
    ]

-- a script names this descriptor by its number
abbrev pub Names : List (List Line) → ℤ → Type 0
Names scripts n = (k : ℕ) × (s : List Line) × (slice_get scripts k ≡ Some s)
    × (list_any (names n) s ≡ true)

one_further : (script : List Line) (scripts : List (List Line)) (n : ℤ) → Names scripts n
    → Names (script ∷ scripts) n
one_further script scripts n found = (suc found.0, found.1, found.2, found.3)

first_or_later : (i : ℕ) (n : ℤ) (script : List Line) (scripts : List (List Line)) (b : Bool)
    → list_any (names n) script ≡ b → (1 ≤ length (naming_from (i + 1) n scripts) → Names scripts n)
    → 1 ≤ length (cond b (i ∷ naming_from (i + 1) n scripts) (naming_from (i + 1) n scripts))
    → Names (script ∷ scripts) n
first_or_later i n script scripts true e later h = (0, script, refl, e)
first_or_later i n script scripts false e later h = one_further script scripts n (later h)

-- a script among those of these numbers names it
some_names : (i : ℕ) (n : ℤ) (scripts : List (List Line)) → 1 ≤ length (naming_from i n scripts)
    → Names scripts n
some_names i n [] h = absurd (omega arith)
some_names i n (script ∷ scripts) h =
    first_or_later i n script scripts (list_any (names n) script) refl
    (some_names (i + 1) n scripts) h

pub all_told : (scripts : List (List Line)) (end : ℕ) (shared : List SharedDescriptor)
    → length scripts ≤ end → AreSharedOnce scripts shared
    → ((k : ℕ) (s : List Line) (n : ℤ) → k < end → slice_get scripts k ≡ Some s → list_any
    (names n) s ≡ true → IsToldIfShared scripts shared n)
    → AreAllShared scripts shared
all_told scripts end shared past once told =
    record {
      shared_once = once;
      all = λ n two. named n two
          (some_names 0 n scripts (omega arith));
    } where
      named : (n : ℤ) → 2 ≤ length (naming_from 0 n scripts) → Names scripts n
          → has_number n shared ≡ true
      named n two found = let within : found.0 < length scripts =
          slice_get_within scripts found.0 found.1 found.2 in
          told found.0 found.1 n (omega arith) found.2 found.3 two

pub none_told : (scripts : List (List Line)) → AreSharedOnce scripts []
unfolding IsDistinct
none_told scripts = record { each = All-nil _; once = tt }
