-- Believed: a contract of the headline stands on it.
-- Open file descriptions, by keys that are used again, with
-- the number of descriptors that hold each.
-- POSIX.1-2017, Base Definitions, 3.258 (open file description).
use Rattle.std.specs.Prelude.{◌≡◌, ℕ, ◌+◌, ◌-◌, ◌<◌, ◌≤◌, List, Bool, false, not, ◌&&◌, ◌==◌}
use Rattle.std.specs.Prelude.{Option, Some, IsTrue, unwrap_or, count_by, if◌then◌else◌}
use Rattle.std.specs.FinMap as map
use Rattle.std.specs.FinMap.{FinMap}
use Rattle.std.specs.Ordering.{nat_cmp}
use Rattle.slab.specs.Slab.{entries_from}
use Rattle.posix_terms.specs.declared.call.Access.{Access}
use Rattle.posix_terms.specs.declared.call.Access.TheVariants.{ReadOnly}
use Rattle.posix_terms.specs.declared.limits.TheConstants.Limits as limit
use Rattle.file_descriptions.specs.declared.description.Description.{Description}
use Rattle.posix_terms.specs.declared.object.End.{End}
use Rattle.posix_terms.specs.Ends.{is_first}
use Rattle.posix_terms.specs.declared.object.End.TheVariants as part
use Rattle.file_descriptions.specs.declared.description.StatusFlags.{StatusFlags}

-- the descriptions by their keys, and how many were ever made
pub record DescriptionMap : Type 0 where
  pub by_key : FinMap nat_cmp Description
  pub made : ℕ

-- no description is there, and none was ever made
abbrev pub no_descriptions : DescriptionMap
no_descriptions = record { by_key = map.empty; made = 0 }

-- a description is there under this key
abbrev pub ContainsKey : DescriptionMap → ℕ → Type 0
ContainsKey m key = IsTrue (map.contains_key m.by_key key)

-- a description that no descriptor holds, for a key that has none
abbrev pub no_description : Description
no_description =
    record {
      node = 0;
      «end» = part.Only;
      access = ReadOnly;
      offset = 0;
      flags = record { append = false; nonblock = false };
      holders = 0;
      birth = 0;
    }

-- the description under this key, or `no_description`
abbrev pub description_at : DescriptionMap → ℕ → Description
description_at m key = unwrap_or (map.get m.by_key key) no_description

-- with this description under this key, in the place of the one before if there was one
abbrev pub with_description : DescriptionMap → ℕ → Description → DescriptionMap
with_description m key d = record m { by_key = map.insert m.by_key key d }

-- without the description under this key
abbrev pub without : DescriptionMap → ℕ → DescriptionMap
without m key = record m { by_key = map.remove m.by_key key }

-- a new description stands at offset 0, and one descriptor holds
-- it. Its birth is the number of those made before
abbrev pub new_description : ℕ → End → Access → StatusFlags → ℕ → Description
new_description node part access flags birth =
    record {
      node = node;
      «end» = part;
      access = access;
      offset = 0;
      flags = flags;
      holders = 1;
      birth = birth;
    }

-- with a new description under this key, so that one more was made
abbrev pub with_new : DescriptionMap → ℕ → Description → DescriptionMap
with_new m key d = record { by_key = map.insert m.by_key key d; made = m.made + 1 }

-- one descriptor more holds the description
abbrev pub with_holder : DescriptionMap → ℕ → DescriptionMap
with_holder m key = let d = description_at m key in
    with_description m key (record d { holders = d.holders + 1 })

-- whether one descriptor alone holds it
abbrev pub is_last_held : DescriptionMap → ℕ → Bool
is_last_held m key = (description_at m key).holders == 1

-- one descriptor less holds the description; without any it is gone
abbrev pub without_holder : DescriptionMap → ℕ → DescriptionMap
without_holder m key =
    let d = description_at m key in
    if is_last_held m key then without m key else
    with_description m key (record d { holders = d.holders - 1 })

-- the description under this key has these status flags
abbrev pub with_flags : DescriptionMap → ℕ → StatusFlags → DescriptionMap
with_flags m key flags = with_description m key (record (description_at m key) { flags = flags })

-- the description under this key has this offset
abbrev pub with_offset : DescriptionMap → ℕ → ℕ → DescriptionMap
with_offset m key offset = with_description m key
    (record (description_at m key) { offset = offset })

-- whether a description is of the first end of this object
abbrev pub has_first_end : ℕ → Description → Bool
has_first_end node d = (d.node == node) && is_first d.«end»

-- whether a description is of the second end of this object
abbrev pub has_second_end : ℕ → Description → Bool
has_second_end node d = (d.node == node) && not (is_first d.«end»)

-- how many descriptions have each end of an object
abbrev pub ends_of : DescriptionMap → ℕ → ℕ × ℕ
ends_of m node = (
  count_by (has_first_end node) (map.values m.by_key),
  count_by
      (has_second_end node) (map.values m.by_key),
)

-- ## What holds of every such map

-- descriptions that descriptors hold, no more of them than descriptors, and with distinct births
pub record AreSound (m : DescriptionMap) : Type 0 where
  -- there are no more than descriptors
  pub few : map.len m.by_key ≤ limit.DESCRIPTORS
  -- each is held by a descriptor
  pub held : (key : ℕ) (d : Description) → map.get m.by_key key ≡ Some d → 1 ≤ d.holders
  -- each was made
  pub born : (key : ℕ) (d : Description) → map.get m.by_key key ≡ Some d → d.birth < m.made
  -- no two have one birth
  pub distinct : (key other : ℕ) (d e : Description) → map.get m.by_key key ≡ Some d
      → map.get m.by_key other ≡ Some e → d.birth ≡ e.birth → key ≡ other

-- ## How they are stored

-- the values in these slots, by the slots' numbers
unfoldable pub described : List (Option Description) → FinMap nat_cmp Description
described slots = map.from_sorted (entries_from 0 slots)
