-- Internal: no contract of the headline or of a command stands on it.
-- What holds of every map of descriptions goes on holding as it is changed.
use Rattle.std.specs.Prelude.{◌≡◌, ℕ, ◌<◌, ◌≤◌, Some, None}
use Rattle.std.specs.FinMap as map
use Rattle.posix_terms.specs.declared.limits.TheConstants.Limits as limit
use Rattle.file_descriptions.specs.Descriptions.{AreSound, DescriptionMap, with_description}
use Rattle.file_descriptions.specs.Descriptions.{with_new, without}
use Rattle.file_descriptions.specs.declared.description.Description.{Description}

-- every change of a map of descriptions that is sound leaves a sound one
pub record ChangesKeepSound : Type 0 where
  -- a new one, held by one descriptor, under a key that is free
  pub made : (m : DescriptionMap) (key : ℕ) (d : Description) → AreSound m
      → map.get m.by_key key ≡ None → map.len m.by_key < limit.DESCRIPTORS
      → d.holders ≡ 1 → d.birth ≡ m.made → AreSound (with_new m key d)
  -- one that is held takes the place of an old one, with its birth
  pub changed : (m : DescriptionMap) (key : ℕ) (old d : Description) → AreSound m
      → map.get m.by_key key ≡ Some old → 1 ≤ d.holders → d.birth ≡ old.birth
      → AreSound (with_description m key d)
  -- one is taken out
  pub removed : (m : DescriptionMap) (key : ℕ) → AreSound m → AreSound (without m key)
