-- Believed: a contract of a command stands on it.
-- What the JSON of runs and logs is made of.
use Rattle.std.specs.Prelude.{ℕ, List, [], ◌∷◌, ◌++◌, codes, if◌then◌else◌, Option, Some, None}
use Rattle.hex.specs.Hex.{encode_lower}
use Rattle.serde_json.specs.Data.{Data, Members, no_members, null, number, object, put, string}
use Rattle.serde_json.specs.Data.{unsigned}
use Rattle.serde_json.specs.Written.{compact_text}
use Rattle.thread_scripts.specs.Words.{is_ascii}

-- a member of an object: its name and its value
abbrev pub Member : Type 0
Member = List ℕ × Data

-- the members with more of them; JSON has them in the order of their names
abbrev pub with_members : Members → List Member → Members
with_members before [] = before
with_members before (m ∷ more) = with_members (put m.0 m.1 before) more

-- the object with these members
abbrev pub object_of : List Member → Data
object_of members = object (with_members no_members members)

-- a number that is not below zero
abbrev pub count_value : ℕ → Data
count_value n = number (unsigned n)

-- a number, and null where there is none
abbrev pub optional_value : Option ℕ → Data
optional_value None = null
optional_value (Some n) = count_value n

-- bytes as hexadecimal digits in lower case
abbrev pub hex_value : List ℕ → Data
hex_value bytes = string (encode_lower bytes)

-- a text: a string, or its hexadecimal digits where it is not ASCII
abbrev pub text_value : List ℕ → Data
text_value text =
    if is_ascii text then string text else object_of ((codes "hex", hex_value text) ∷ [])

-- the line of a value: its text without spaces, and a line feed
abbrev pub line_of : Data → List ℕ
line_of value = compact_text value ++ codes "\n"
