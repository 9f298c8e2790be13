-- What no step that may be taken takes away stands after it.
use Rattle.std.proofs.Common.{◌≡◌, ◌∙◌, ℕ, zero, suc, ◌+◌, ◌<◌, ◌==◌, Bool, true, false, List, []}
use Rattle.std.proofs.Common.{◌∷◌, All, Contains, length, Option, Some, None, refl, sym, subst}
use Rattle.std.proofs.Common.{map, arith, ◌⊎◌, inl, inr}
use Rattle.std.proofs.lemmas.Bool.{eqb-false, eqb-true, ltb-true}
use Rattle.std.proofs.lemmas.List.{get_or-set_other, get_or-set_same}
use Rattle.std.proofs.lemmas.List.Elements.{All-append, All-cons, All-contains, All-nil}
use Rattle.std.proofs.lemmas.List.Elements.{All-contains_itself}
use Rattle.std.specs.Prelude.{if◌then◌else◌, is_some, option_map, slice_index_or, slice_set, unwrap_or}
use Rattle.thread_scripts.specs.Words.{lines_of, words_of}
use Rattle.minimiser.specs.Parts.{IsRest, is_delay, part_of, units_among, units_of}
use Rattle.minimiser.specs.Reductions.{Kept, after, after_all, is_fewer, is_kept, kept_of, part_at}
use Rattle.minimiser.specs.Reductions.{with_part, without}
use Rattle.minimiser.specs.Rounds.{all_of, delay_at, delays_among, delays_of}
use Rattle.minimiser.specs.Scopes.{AreAllowed, IsAllowed, IsAmong, Stands}
use Rattle.minimiser.specs.declared.part.Part.{Part}
use Rattle.minimiser.specs.declared.part.Part.TheVariants as part
use Rattle.minimiser.specs.declared.scope.Scope.{Scope}
use Rattle.minimiser.specs.declared.scope.Scope.TheVariants as scope
use Rattle.minimiser.specs.declared.step.Removal.{Removal}
use Rattle.minimiser.specs.declared.step.Removal.TheVariants as step
use Rattle.minimiser.proofs.Keeping.{fewer_within, kept_within, thread_of_fewer_within}
use Rattle.minimiser.proofs.Keeping.{thread_of_line_within, thread_within}

-- ## The delays are lines

abbrev IsLine : Removal → Type 0
IsLine (step.Line thread line) = Unit {0}
IsLine _ = ⊥

delay_is_line : (thread line : ℕ) (text : List ℕ) → All IsLine (delay_at thread line text)
delay_is_line thread line text = at (is_delay text) where
  at : (b : Bool) → All IsLine (if b then step.Line thread line ∷ [] else [])
  at true = All-cons IsLine (step.Line thread line) [] tt (All-nil IsLine)
  at false = All-nil IsLine

among_are_lines : (thread line : ℕ) (texts : List (List ℕ))
    → All IsLine (delays_among thread line texts)
among_are_lines thread line [] = All-nil IsLine
among_are_lines thread line (text ∷ texts) =
    All-append IsLine (delay_at thread line text) (delays_among thread (line + 1) texts)
    (delay_is_line thread line text) (among_are_lines thread (line + 1) texts)

delays_are_lines : (thread : ℕ) (texts : List (List ℕ)) → All IsLine (delays_of thread texts)
delays_are_lines thread [] = All-nil IsLine
delays_are_lines thread (text ∷ texts) =
    All-append IsLine (delays_among thread 0 (lines_of text)) (delays_of (thread + 1) texts)
    (among_are_lines thread 0 (lines_of text)) (delays_are_lines (thread + 1) texts)

no_thread : (texts : List (List ℕ)) (thread : ℕ) → Contains (delays_of 0 texts) (step.Thread thread)
    → ⊥
no_thread texts thread among =
    All-contains IsLine (delays_of 0 texts) (step.Thread thread) (delays_are_lines 0 texts) among

-- ## Another part of a line

rest_of : ℕ → Part → Option (List Part) → Option (List Part)
rest_of line new lines = option_map (λ lines. slice_set lines line new) lines

same_some : (line : ℕ) (new : Part) (lines : Option (List Part))
    → is_some (rest_of line new lines) ≡ is_some lines
unfolding rest_of
same_some line new None = refl
same_some line new (Some lines) = refl

this_line : (line : ℕ) (new : Part) (lines : Option (List Part))
    → line < length (unwrap_or lines [])
    → slice_index_or (unwrap_or (rest_of line new lines) []) line part.Gone ≡ new
unfolding rest_of
this_line line new None inside = absurd (omega (arith, inside))
this_line line new (Some lines) inside = get_or-set_same lines line new part.Gone inside

other_line : (line other : ℕ) (new : Part) (lines : Option (List Part)) → (other ≡ line → ⊥)
    → slice_index_or (unwrap_or (rest_of line new lines) []) other part.Gone
    ≡ slice_index_or (unwrap_or lines []) other part.Gone
unfolding rest_of
other_line line other new None differ = refl
other_line line other new (Some lines) differ =
    get_or-set_other lines line other new part.Gone differ

-- the same threads are kept
same_threads : (kept : Kept) (thread line : ℕ) (new : Part) (other : ℕ) → thread < length kept
    → is_some (kept_of (with_part kept thread line new) other) ≡ is_some (kept_of kept other)
unfolding rest_of
same_threads kept thread line new other inside = at (other == thread) refl where
  rest : Option (List Part)
  rest = rest_of line new (kept_of kept thread)

  at : (b : Bool) → (other == thread) ≡ b
      → is_some (slice_index_or (slice_set kept thread rest) other None)
      ≡ is_some (slice_index_or kept other None)
  at true same =
      let one : other ≡ thread = eqb-true other thread same in
      rw (one, get_or-set_same kept thread rest None inside)
      (same_some line new (kept_of kept thread))
  at false not = rw (get_or-set_other kept thread other rest None (eqb-false other thread not)) refl

-- the part is the new one
part_here : (kept : Kept) (thread line : ℕ) (new : Part) → thread < length kept
    → line < length (unwrap_or (kept_of kept thread) [])
    → part_at (with_part kept thread line new) thread line ≡ new
unfolding rest_of
part_here kept thread line new inside among =
    let rest : Option (List Part) = rest_of line new (kept_of kept thread) in
    rw (get_or-set_same kept thread rest None inside)
    (this_line line new (kept_of kept thread) among)

-- each other one is as before
part_beside : (kept : Kept) (thread line : ℕ) (new : Part) (other at_line : ℕ)
    → thread < length kept → (other ≡ thread → at_line ≡ line → ⊥)
    → part_at (with_part kept thread line new) other at_line ≡ part_at kept other at_line
unfolding rest_of
part_beside kept thread line new other at_line inside differ = at (other == thread) refl where
  rest : Option (List Part)
  rest = rest_of line new (kept_of kept thread)

  at : (b : Bool) → (other == thread) ≡ b
      → slice_index_or (unwrap_or (slice_index_or (slice_set kept thread rest) other None) [])
      at_line part.Gone
      ≡ slice_index_or (unwrap_or (slice_index_or kept other None) []) at_line part.Gone
  at true same =
      let one : other ≡ thread = eqb-true other thread same in
      rw (one, get_or-set_same kept thread rest None inside)
      (other_line line at_line new (kept_of kept thread) (differ one))
  at false not = rw (get_or-set_other kept thread other rest None (eqb-false other thread not)) refl

-- of this line, with the new part
abbrev NewAt : Kept → ℕ → ℕ → Part → (ℕ → ℕ → Part → Type 0) → ℕ → ℕ → Type 0
NewAt kept thread line new P other at_line =
    P other at_line (part_at (with_part kept thread line new) other at_line)

-- what holds of the new part, and of each other one, holds of all
by_place : (kept : Kept) (thread line : ℕ) (new : Part) (P : ℕ → ℕ → Part → Type 0)
    → thread < length kept → line < length (unwrap_or (kept_of kept thread) [])
    → P thread line new
    → ((other at_line : ℕ) → (other ≡ thread → at_line ≡ line → ⊥)
    → P other at_line (part_at kept other at_line))
    → (other at_line : ℕ) → NewAt kept thread line new P other at_line
by_place kept thread line new P inside among here beside other at_line =
    at (other == thread) (at_line == line) refl refl
  where
    away : (other ≡ thread → at_line ≡ line → ⊥) → NewAt kept thread line new P other at_line
    away differ =
        subst (P other at_line) (sym (part_beside kept thread line new other at_line inside differ))
        (beside other at_line differ)

    at_here : NewAt kept thread line new P thread line
    at_here = subst (P thread line) (sym (part_here kept thread line new inside among)) here

    at : (a b : Bool) → (other == thread) ≡ a → (at_line == line) ≡ b
        → NewAt kept thread line new P other at_line
    at true true one two =
        let same : thread ≡ other = sym (eqb-true other thread one) in
        let also : line ≡ at_line = sym (eqb-true at_line line two) in
        subst (λ (n : ℕ). NewAt kept thread line new P other n) also
        (subst (λ (n : ℕ). NewAt kept thread line new P n line) same at_here)
    at false b one two =
        away (λ (same : other ≡ thread). λ (also : at_line ≡ line).
        eqb-false other thread one same)
    at true false one two =
        away (λ (same : other ≡ thread). λ (also : at_line ≡ line).
        eqb-false at_line line two also)

-- ## What stands

rest_of_line : (line : List ℕ) → IsRest (part_of line) (part_of line)
rest_of_line line = at (is_delay line) where
  at : (b : Bool)
      → IsRest (if b then part.Delay (units_among (words_of line)) else part.Line)
      (if b then part.Delay (units_among (words_of line)) else part.Line)
  at true = refl
  at false = tt

rest_of_lines : (lines : List (List ℕ)) (line : ℕ)
    → IsRest (slice_index_or (map part_of lines) line part.Gone)
    (slice_index_or (map part_of lines) line part.Gone)
rest_of_lines [] line = tt
rest_of_lines (first ∷ lines) zero = rest_of_line first
rest_of_lines (first ∷ lines) (suc line) = rest_of_lines lines line

rest_of_all : (texts : List (List ℕ)) (thread line : ℕ)
    → IsRest (part_at (all_of texts) thread line) (part_at (all_of texts) thread line)
rest_of_all [] thread line = tt
rest_of_all (text ∷ texts) zero line = rest_of_lines (lines_of text) line
rest_of_all (text ∷ texts) (suc thread) line = rest_of_all texts thread line

pub stands_at_first : (scope : Scope) (texts : List (List ℕ)) → Stands scope texts (all_of texts)
stands_at_first scope texts = record {
  rests = rest_of_all texts;
  lines = λ thread line not. refl;
  threads = λ thread not. refl;
}

-- fewer units are a rest too
fewer_rest : (given now : Part) (units : ℕ) → is_fewer units (units_of now) ≡ true
    → IsRest given now → IsRest given (part.Shorter units)
fewer_rest given part.Gone units fewer is = absurd (cc fewer)
fewer_rest given part.Line units fewer is = absurd (cc fewer)
fewer_rest (part.Delay m) (part.Delay n) units fewer is =
    let less : units < n = ltb-true units n fewer in
    omega (arith, less, is)
fewer_rest (part.Delay m) (part.Shorter n) units fewer is =
    let less : units < n = ltb-true units n fewer in
    omega (arith, less, is)
fewer_rest part.Gone (part.Delay n) units fewer is = absurd is
fewer_rest part.Gone (part.Shorter n) units fewer is = absurd is
fewer_rest part.Line (part.Delay n) units fewer is = absurd is
fewer_rest part.Line (part.Shorter n) units fewer is = absurd is
fewer_rest (part.Shorter m) (part.Delay n) units fewer is = absurd is
fewer_rest (part.Shorter m) (part.Shorter n) units fewer is = absurd is

-- with another part of a line that may be taken away
stands_with : (scope : Scope) (texts : List (List ℕ)) (kept : Kept) (thread line : ℕ) (new : Part)
    → thread < length kept → line < length (unwrap_or (kept_of kept thread) [])
    → IsRest (part_at (all_of texts) thread line) new
    → IsAllowed scope texts (step.Line thread line) → Stands scope texts kept
    → Stands scope texts (with_part kept thread line new)
stands_with scope texts kept thread line new inside among rest allowed stands = record {
  rests = by_place kept thread line new
      (λ (t : ℕ). λ (l : ℕ). λ (p : Part). IsRest (part_at (all_of texts) t l) p)
      inside among rest (λ t l differ. stands.rests t l);
  lines = by_place kept thread line new
      (λ (t : ℕ). λ (l : ℕ). λ (p : Part). ¬ (IsAllowed scope texts (step.Line t l))
      → p ≡ part_at (all_of texts) t l)
      inside among (λ not. absurd (not allowed)) (λ t l differ. stands.lines t l);
  threads = λ other not. same_threads kept thread line new other inside ∙ stands.threads other not;
}

-- without a thread
gone_beside : (kept : Kept) (thread other : ℕ) → thread < length kept
    → (kept_of (slice_set kept thread None) other ≡ None)
    ⊎ (kept_of (slice_set kept thread None) other ≡ kept_of kept other)
gone_beside kept thread other inside = at (other == thread) refl where
  at : (b : Bool) → (other == thread) ≡ b
      → (slice_index_or (slice_set kept thread None) other None ≡ None)
      ⊎ (slice_index_or (slice_set kept thread None) other None ≡ slice_index_or kept other None)
  at true same =
      let one : other ≡ thread = eqb-true other thread same in
      inl (rw one (get_or-set_same kept thread None None inside))
  at false not = inr (get_or-set_other kept thread other None None (eqb-false other thread not))

gone_rest : (given : Part) (new old : Option (List Part)) (line : ℕ)
    → (new ≡ None) ⊎ (new ≡ old)
    → IsRest given (slice_index_or (unwrap_or old []) line part.Gone)
    → IsRest given (slice_index_or (unwrap_or new []) line part.Gone)
gone_rest given new old line (inl none) rest =
    subst (λ (o : Option (List Part)).
    IsRest given (slice_index_or (unwrap_or o []) line part.Gone)) (sym none) tt
gone_rest given new old line (inr same) rest =
    subst (λ (o : Option (List Part)).
    IsRest given (slice_index_or (unwrap_or o []) line part.Gone)) (sym same) rest

stands_without : (texts : List (List ℕ)) (kept : Kept) (thread : ℕ) → thread < length kept
    → Stands scope.Everything texts kept
    → Stands scope.Everything texts (slice_set kept thread None)
stands_without texts kept thread inside stands = record {
  rests = λ (t : ℕ). λ (l : ℕ).
      gone_rest (part_at (all_of texts) t l) (kept_of (slice_set kept thread None) t)
      (kept_of kept t) l (gone_beside kept thread t inside) (stands.rests t l);
  lines = λ t l not. absurd (not tt);
  threads = λ t not. absurd (not tt);
}

line_of_shorter : (scope : Scope) (texts : List (List ℕ)) (thread line units : ℕ)
    → IsAllowed scope texts (step.Shorten thread line units)
    → IsAllowed scope texts (step.Line thread line)
line_of_shorter scope.Everything texts thread line units allowed = tt
line_of_shorter scope.Schedule texts thread line units allowed = allowed

pub stands_after : (scope : Scope) (texts : List (List ℕ)) (kept : Kept) (step : Removal)
    → is_kept kept step ≡ true → IsAllowed scope texts step → Stands scope texts kept
    → Stands scope texts (without kept step)
stands_after scope texts kept (step.Line thread line) is allowed stands =
    stands_with scope texts kept thread line part.Gone (thread_of_line_within kept thread line is)
    (kept_within (unwrap_or (kept_of kept thread) []) line is) tt allowed stands
stands_after scope texts kept (step.Shorten thread line units) is allowed stands =
    stands_with scope texts kept thread line (part.Shorter units)
    (thread_of_fewer_within kept thread line units is)
    (fewer_within (unwrap_or (kept_of kept thread) []) line units is)
    (fewer_rest (part_at (all_of texts) thread line) (part_at kept thread line) units is
    (stands.rests thread line))
    (line_of_shorter scope texts thread line units allowed) stands
stands_after scope.Everything texts kept (step.Thread thread) is allowed stands =
    stands_without texts kept thread (thread_within kept thread is) stands
stands_after scope.Schedule texts kept (step.Thread thread) is allowed stands =
    absurd (no_thread texts thread allowed)

stands_after_one : (scope : Scope) (texts : List (List ℕ)) (kept : Kept) (step : Removal)
    → IsAllowed scope texts step → Stands scope texts kept → Stands scope texts (after kept step)
stands_after_one scope texts kept step allowed stands = at (is_kept kept step) refl where
  at : (b : Bool) → is_kept kept step ≡ b
      → Stands scope texts (if b then without kept step else kept)
  at true is = stands_after scope texts kept step is allowed stands
  at false not = stands

pub stands_after_all : (scope : Scope) (texts : List (List ℕ)) (kept : Kept) (steps : List Removal)
    → AreAllowed scope texts steps → Stands scope texts kept
    → Stands scope texts (after_all kept steps)
stands_after_all scope texts kept [] allowed stands = stands
stands_after_all scope texts kept (step ∷ steps) allowed stands =
    stands_after_all scope texts (after kept step) steps
    (λ k d inside. allowed (suc k) d (omega (arith, inside)))
    (stands_after_one scope texts kept step (allowed 0 step (omega arith)) stands)

-- ## The steps that may be taken

pub all_allowed : (texts : List (List ℕ)) (steps : List Removal)
    → AreAllowed scope.Everything texts steps
all_allowed texts steps = λ k d inside. tt

line_among : (delays : List Removal) (step : Removal) → IsLine step → Contains delays step
    → IsAmong scope.Schedule delays step
line_among delays (step.Line thread line) is among = among
line_among delays (step.Thread thread) is among = absurd is
line_among delays (step.Shorten thread line units) is among = absurd is

each_among : (delays : List Removal) (steps : List Removal) → All IsLine steps
    → All (Contains delays) steps → All (IsAmong scope.Schedule delays) steps
each_among delays steps lines among =
    λ k d inside. line_among delays _ (lines k d inside) (among k d inside)

pub delays_allowed : (scope : Scope) (texts : List (List ℕ))
    → AreAllowed scope texts (delays_of 0 texts)
delays_allowed scope.Everything texts = all_allowed texts (delays_of 0 texts)
delays_allowed scope.Schedule texts =
    each_among (delays_of 0 texts) (delays_of 0 texts) (delays_are_lines 0 texts)
    (All-contains_itself (delays_of 0 texts))

-- a delay that may be taken away may be shortened
pub shorter_allowed : (scope : Scope) (texts : List (List ℕ)) (delay : Removal)
    (thread line units : ℕ) → delay ≡ step.Line thread line → IsAllowed scope texts delay
    → IsAllowed scope texts (step.Shorten thread line units)
shorter_allowed scope.Everything texts delay thread line units is allowed = tt
shorter_allowed scope.Schedule texts delay thread line units is allowed =
    subst (IsAmong scope.Schedule (delays_of 0 texts)) is allowed
