-- Internal: no contract of the headline or of a command stands on it.
-- Values without a float, whose texts are known.
use Rattle.std.specs.Prelude.{◌≡◌, ℕ, false, List, [], ◌∷◌, Option}
use Rattle.posix_terms.specs.declared.transcript.Row.{Row}
use Rattle.serde_json.specs.Data.{Data, array}
use Rattle.serde_json.specs.View.{items_of}
use Rattle.serde_json.specs.Written.{has_float}
use Rattle.json_views.specs.Ends.{unmet_value}
use Rattle.json_views.specs.Objects.{Member, object_of, optional_value, text_value}
use Rattle.json_views.specs.Sides.{seen_value}

-- none of these members has a float
abbrev pub AreExact : List Member → Type 0
AreExact [] = Unit {0}
AreExact (m ∷ more) = (has_float m.1 ≡ false) × AreExact more

-- none of these values has one
abbrev pub AllExact : List Data → Type 0
AllExact [] = Unit {0}
AllExact (value ∷ more) = (has_float value ≡ false) × AllExact more

-- neither has an object of such members, nor an array of such values, nor a number that may be
-- lacking, nor a text, nor a row
pub record ValuesAreExact : Type 0 where
  pub objects : (members : List Member) → AreExact members
      → has_float (object_of members) ≡ false
  pub arrays : (values : List Data) → AllExact values
      → has_float (array (items_of values)) ≡ false
  pub numbers : (n : Option ℕ) → has_float (optional_value n) ≡ false
  pub texts : (text : List ℕ) → has_float (text_value text) ≡ false
  pub unmet : (line : Option (List ℕ)) → has_float (unmet_value line) ≡ false
  pub rows : (row : Option Row) → has_float (seen_value row) ≡ false
