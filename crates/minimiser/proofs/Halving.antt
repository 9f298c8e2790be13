-- The steps that leave half of a delay are among all that are tried.
use Rattle.std.proofs.Common.{◌≡◌, ℕ, suc, ◌/◌, List, [], ◌∷◌, ◌++◌, All, Contains, Option, Some}
use Rattle.std.proofs.Common.{None, ap, arith, filter_map, lit<, refl, subst, sym}
use Rattle.std.proofs.lemmas.List.Elements.{All-append, All-cons, All-contains, All-nil}
use Rattle.std.proofs.lemmas.List.Elements.{All-weaker, Contains-append_left, Contains-append_right}
use Rattle.std.specs.List.{cons_option}
use Rattle.std.specs.Prelude.{option_map}
use Rattle.explorer.specs.Subject.{Subject}
use Rattle.minimiser.specs.Failing.{FailsIn, IsMinimal, IsRefused}
use Rattle.minimiser.specs.Parts.{units_of}
use Rattle.minimiser.specs.Reductions.{Kept, half_of, part_at}
use Rattle.minimiser.specs.Rounds.{delays_of}
use Rattle.minimiser.specs.Scopes.{AreAll, AreAllowed, AreRemovals, IsAllowed, IsAmong, Stands}
use Rattle.minimiser.specs.declared.scope.Scope.{Scope}
use Rattle.minimiser.specs.declared.scope.Scope.TheVariants as scope
use Rattle.minimiser.specs.declared.step.Removal.{Removal}
use Rattle.minimiser.specs.declared.step.Removal.TheVariants as step
use Rattle.minimiser.specs.declared.target.Target.{Target}
use Rattle.minimiser.proofs.Standing.{all_allowed, delays_allowed}

-- ## What is found for each of a list

first_there : {Y : Type 0} (found : Option Y) (ys : List Y) (y : Y) → found ≡ Some y
    → Contains (cons_option found ys) y
first_there None ys y is = absurd (cc is)
first_there (Some z) ys y is =
    let same : z ≡ y = cc is in
    subst (λ x. Contains (x ∷ ys) y) (sym same)
    (Contains-append_left (y ∷ []) ys y (0, lit< tt, refl))

others_there : {Y : Type 0} (found : Option Y) (ys : List Y) (y : Y) → Contains ys y
    → Contains (cons_option found ys) y
others_there None ys y among = among
others_there (Some z) ys y among = Contains-append_right (z ∷ []) ys y among

each_there : {X Y : Type 0} (find : X → Option Y) (xs : List X)
    → All (λ x. (y : Y) → find x ≡ Some y → Contains (filter_map find xs) y) xs
each_there find [] = All-nil (λ x. (y : _) → find x ≡ Some y → Contains [] y)
each_there find (x ∷ xs) =
    let all = filter_map find (x ∷ xs) in
    All-cons (λ x. (y : _) → find x ≡ Some y → Contains all y) x xs
    (λ y is. first_there (find x) (filter_map find xs) y is)
    (All-weaker (λ x. (y : _) → find x ≡ Some y → Contains (filter_map find xs) y)
    (λ x. (y : _) → find x ≡ Some y → Contains all y)
    (λ z there y is. others_there (find x) (filter_map find xs) y (there y is)) xs
    (each_there find xs))

all_found : {X Y : Type 0} (P : X → Type 0) (Q : Y → Type 0) (find : X → Option Y) (xs : List X)
    → ((x : X) (y : Y) → P x → find x ≡ Some y → Q y) → All P xs → All Q (filter_map find xs)
all_found P Q find [] good all = All-nil Q
all_found P Q find (x ∷ xs) good all =
    at (find x) refl
    (all_found P Q find xs good (λ k d inside. all (suc k) d (omega (arith, inside))))
  where
    at : (found : Option _) → find x ≡ found → All Q (filter_map find xs)
        → All Q (cons_option found (filter_map find xs))
    at None is rest = rest
    at (Some y) is rest =
        All-cons Q y (filter_map find xs) (good x y (all 0 x (omega arith)) is) rest

-- ## Halves

half_allowed : (kept : Kept) (delays : List Removal) (delay half : Removal)
    → IsAmong scope.Schedule delays delay → half_of kept delay ≡ Some half
    → IsAmong scope.Schedule delays half
half_allowed kept delays (step.Line thread line) half among is =
    at (units_of (part_at kept thread line)) is
  where
    at : (units : Option ℕ)
        → option_map (λ (n : ℕ). step.Shorten thread line (n / 2)) units ≡ Some half
        → IsAmong scope.Schedule delays half
    at None is = absurd (cc is)
    at (Some n) is =
        let same : step.Shorten thread line (n / 2) ≡ half = cc is in
        subst (IsAmong scope.Schedule delays) same among
half_allowed kept delays (step.Thread thread) half among is = absurd (cc is)
half_allowed kept delays (step.Shorten thread line units) half among is = absurd (cc is)

halves_allowed : (scope : Scope) (texts : List (List ℕ)) (kept : Kept)
    → AreAllowed scope texts (filter_map (half_of kept) (delays_of 0 texts))
halves_allowed scope.Everything texts kept =
    all_allowed texts (filter_map (half_of kept) (delays_of 0 texts))
halves_allowed scope.Schedule texts kept =
    let delays = delays_of 0 texts in
    all_found (IsAmong scope.Schedule delays) (IsAmong scope.Schedule delays) (half_of kept) delays
    (half_allowed kept delays) (delays_allowed scope.Schedule texts)

pub steps_allowed : (scope : Scope) (texts : List (List ℕ)) (kept : Kept) (first : List Removal)
    → AreAllowed scope texts first
    → AreAllowed scope texts (first ++ filter_map (half_of kept) (delays_of 0 texts))
steps_allowed scope texts kept first allowed =
    All-append (IsAllowed scope texts) first (filter_map (half_of kept) (delays_of 0 texts)) allowed
    (halves_allowed scope texts kept)

half_there : (texts : List (List ℕ)) (kept : Kept) (first : List Removal) (thread line units : ℕ)
    → Contains (delays_of 0 texts) (step.Line thread line)
    → units_of (part_at kept thread line) ≡ Some units
    → Contains (first ++ filter_map (half_of kept) (delays_of 0 texts))
    (step.Shorten thread line (units / 2))
half_there texts kept first thread line units among is =
    let delays = delays_of 0 texts in
    let halves = filter_map (half_of kept) delays in
    let made : half_of kept (step.Line thread line) ≡ Some (step.Shorten thread line (units / 2)) =
    ap (option_map (λ (n : ℕ). step.Shorten thread line (n / 2))) is in
    Contains-append_right first halves (step.Shorten thread line (units / 2))
    (All-contains (λ (x : Removal). (y : Removal) → half_of kept x ≡ Some y → Contains halves y)
    delays (step.Line thread line) (each_there (half_of kept) delays) among
    (step.Shorten thread line (units / 2)) made)

pub are_all : (scope : Scope) (texts : List (List ℕ)) (kept : Kept) (first : List Removal)
    → AreRemovals scope texts kept first
    → AreAll scope texts kept (first ++ filter_map (half_of kept) (delays_of 0 texts))
are_all scope texts kept first all =
    let halves = filter_map (half_of kept) (delays_of 0 texts) in
    record {
      lines = λ thread line allowed is.
          Contains-append_left first halves (step.Line thread line)
          (all (step.Line thread line) tt allowed is);
      threads = λ thread allowed is.
          Contains-append_left first halves (step.Thread thread)
          (all (step.Thread thread) tt allowed is);
      halves = half_there texts kept first;
    }

-- where all of these are refused, what is kept is minimal
pub minimal_by : (scope : Scope) (given : Subject) (target : Target) (kept : Kept)
    (steps : List Removal) → FailsIn given target kept → Stands scope given.texts kept
    → AreAll scope given.texts kept steps → All (IsRefused given target kept) steps
    → IsMinimal scope given target kept
minimal_by scope given target kept steps fails stands all refused = record {
  fails = fails;
  lines = λ thread line allowed is.
      All-contains (IsRefused given target kept) steps (step.Line thread line) refused
      (all.lines thread line allowed is) is;
  threads = λ thread allowed is.
      All-contains (IsRefused given target kept) steps (step.Thread thread) refused
      (all.threads thread allowed is) is;
  halves = λ thread line units among is.
      All-contains (IsRefused given target kept) steps (step.Shorten thread line (units / 2)) refused
      (all.halves thread line units among is);
  stands = stands;
}
