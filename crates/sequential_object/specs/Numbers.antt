-- Believed: a contract of the headline stands on it.
-- The numbers of objects. An object has the lowest free one from its birth on, which is free again
-- once the object is gone.
use Rattle.std.specs.Prelude.{ℕ, zero, suc, ◌-◌, List, [], ◌∷◌, map, set, replicate, Option, Some}
use Rattle.std.specs.Prelude.{None, is_some, if◌then◌else◌}
use Rattle.std.specs.FinMap as fin
use Rattle.sequential_object.specs.Descriptors.{is_key}
use Rattle.sequential_object.specs.Object.{State, empty_state}
use Rattle.posix_terms.specs.declared.limits.TheConstants.Limits as limit
use Rattle.sequential_object.specs.Worlds.{World}

-- the lowest number that no object has
abbrev pub first_free : List (Option ℕ) → ℕ
first_free [] = 0
first_free (None ∷ numbers) = 0
first_free (Some object ∷ numbers) = suc (first_free numbers)

-- the number that this object has
abbrev pub number_in : List (Option ℕ) → ℕ → ℕ
number_in [] object = 0
number_in (slot ∷ numbers) object = if is_key slot object then 0 else suc (number_in numbers object)

-- the number of an object, or the one that it would have
abbrev pub number_of : World → ℕ → ℕ
number_of w object =
    if is_some (fin.get w.object.objects object) then number_in w.numbers object
    else first_free w.numbers

-- the object that has a number, if it is still there
abbrev pub if_there : State → Option ℕ → Option ℕ
if_there s None = None
if_there s (Some object) = if is_some (fin.get s.objects object) then Some object else None

-- so many objects are born, the first of which is this one
abbrev pub with_births : ℕ → ℕ → List (Option ℕ) → List (Option ℕ)
with_births zero object numbers = numbers
with_births (suc n) object numbers =
    with_births n (suc object) (set numbers (first_free numbers) (Some object))

-- the world once a call has left this state
unfoldable pub world_with : World → State → World
world_with w after =
    record {
      object = after;
      numbers =
          with_births (after.next_object - w.object.next_object) w.object.next_object
          (map (if_there after) w.numbers);
    }

-- nothing is open, and there is only the root
abbrev pub first_world : World
first_world = record { object = empty_state; numbers = replicate limit.OBJECTS None }
