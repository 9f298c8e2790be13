-- Believed: a contract of a command stands on it.
-- What may be taken away, and what stands.
use Rattle.std.specs.Prelude.{◌≡◌, ◌/◌, ℕ, true, All, Contains, List, Some, is_some}
use Rattle.minimiser.specs.Parts.{IsRest, units_of}
use Rattle.minimiser.specs.Reductions.{Kept, is_kept, kept_of, part_at}
use Rattle.minimiser.specs.Rounds.{all_of, delays_of}
use Rattle.minimiser.specs.declared.scope.Scope.{Scope}
use Rattle.minimiser.specs.declared.scope.Scope.TheVariants as scope
use Rattle.minimiser.specs.declared.step.Removal.{Removal}
use Rattle.minimiser.specs.declared.step.Removal.TheVariants as step

-- a step that takes away a line or a thread
abbrev pub IsTaking : Removal → Type 0
IsTaking (step.Shorten thread line units) = ⊥
IsTaking _ = Unit {0}

-- a step that may be taken: any, or where the schedule alone is reduced, one that takes away one of
-- these delays or shortens it
abbrev pub IsAmong : Scope → List Removal → Removal → Type 0
IsAmong scope.Everything delays step = Unit {0}
IsAmong scope.Schedule delays (step.Shorten thread line units) =
    Contains delays (step.Line thread line)
IsAmong scope.Schedule delays step = Contains delays step

-- a step that may be taken from these texts
abbrev pub IsAllowed : Scope → List (List ℕ) → Removal → Type 0
IsAllowed scope texts step = IsAmong scope (delays_of 0 texts) step

-- steps that may be taken
abbrev pub AreAllowed : Scope → List (List ℕ) → List Removal → Type 0
AreAllowed scope texts steps = All (IsAllowed scope texts) steps

-- of each line something is kept that may be, and what no step may take away is kept as it was
pub record Stands (scope : Scope) (texts : List (List ℕ)) (kept : Kept) : Type 0 where
  pub rests : (thread line : ℕ)
      → IsRest (part_at (all_of texts) thread line) (part_at kept thread line)
  pub lines : (thread line : ℕ) → ¬ (IsAllowed scope texts (step.Line thread line))
      → part_at kept thread line ≡ part_at (all_of texts) thread line
  pub threads : (thread : ℕ) → ¬ (IsAllowed scope texts (step.Thread thread))
      → is_some (kept_of kept thread) ≡ is_some (kept_of (all_of texts) thread)

-- these are all that take away a line or a thread and may be taken
abbrev pub AreRemovals : Scope → List (List ℕ) → Kept → List Removal → Type 0
AreRemovals scope texts kept steps =
    (step : Removal) → IsTaking step → IsAllowed scope texts step → is_kept kept step ≡ true
    → Contains steps step

-- these are all steps that may be taken: those that take away lines and threads, and halves of
-- delays
pub record AreAll
    (scope : Scope) (texts : List (List ℕ)) (kept : Kept) (steps : List Removal) : Type 0 where
  pub lines : (thread line : ℕ) → IsAllowed scope texts (step.Line thread line)
      → is_kept kept (step.Line thread line) ≡ true → Contains steps (step.Line thread line)
  pub threads : (thread : ℕ) → IsAllowed scope texts (step.Thread thread)
      → is_kept kept (step.Thread thread) ≡ true → Contains steps (step.Thread thread)
  pub halves : (thread line units : ℕ) → Contains (delays_of 0 texts) (step.Line thread line)
      → units_of (part_at kept thread line) ≡ Some units
      → Contains steps (step.Shorten thread line (units / 2))
