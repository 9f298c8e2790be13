-- Believed: a contract of a command stands on it.
-- The printed warnings of descriptors that more than one script names.
use Rattle.std.specs.Prelude.{ℕ, ℤ, Bool, List, [], ◌∷◌, ◌++◌, slice_get, codes, Option, Some, None}
use Rattle.std.specs.Prelude.{if◌then◌else◌}
use Rattle.std.specs.Fmt.{signed_decimal}
use Rattle.command_texts.specs.Transcripts.{◌+++◌}
use Rattle.thread_scripts.specs.declared.line.Line.{Line}
use Rattle.script_checks.specs.Sharing.{first_use_from}
use Rattle.script_checks.specs.declared.checking.ActingLine.{ActingLine}
use Rattle.script_checks.specs.declared.descriptors.SharedDescriptor.{SharedDescriptor}
use Rattle.serde_json.specs.Data.{string}
use Rattle.json_views.specs.Objects.{line_of}
use Rattle.check_commands.specs.Findings.{warning_head}
use Rattle.check_commands.specs.Json.{message_value, warning_place}
use Rattle.check_commands.specs.declared.scripts.ScriptPlace.{ScriptPlace}
use Rattle.check_commands.specs.declared.scripts.Scripts.{Scripts}

-- the path of a script, and nothing where there is none
abbrev pub path_of : Option ScriptPlace → List ℕ
path_of None = []
path_of (Some place) = place.path.now

-- the paths of these scripts, each after a comma
abbrev pub more_paths : List ScriptPlace → List ℕ → List ℕ
more_paths places [] = []
more_paths places (i ∷ others) =
    (codes ", " +++ path_of (slice_get places i)) ++ more_paths places others

-- the paths of these scripts
abbrev pub paths_text : List ScriptPlace → List ℕ → List ℕ
paths_text places [] = []
paths_text places (i ∷ others) = path_of (slice_get places i) ++ more_paths places others

-- the word before the number of a descriptor
unfoldable pub descriptor_word : List ℕ
descriptor_word = codes "descriptor "

-- a descriptor, by its number
abbrev pub descriptor_text : ℤ → List ℕ
descriptor_text n = descriptor_word +++ signed_decimal n

-- the words between a descriptor and the paths of the scripts that name it
unfoldable pub shared_words : List ℕ
shared_words = codes " is named by more than one script: "

-- that these scripts name it
abbrev pub sharing_text : List ScriptPlace → List ℕ → List ℕ
sharing_text places scripts = shared_words +++ paths_text places scripts +++ codes "\n"

-- the line of one, which this line of this script names first, by this word
abbrev pub plain_line :
    List ScriptPlace → SharedDescriptor → ScriptPlace → ActingLine → ℕ → List ℕ
plain_line places s at l word =
    warning_head at.path.now l word ++ descriptor_text s.number
    ++ sharing_text places s.scripts.items

-- that these scripts name it, in words
abbrev pub shared_message : List ScriptPlace → SharedDescriptor → List ℕ
shared_message places s =
    (descriptor_text s.number ++ shared_words) ++ paths_text places s.scripts.items

-- the same line in JSON
abbrev pub json_line :
    List ScriptPlace → SharedDescriptor → ScriptPlace → ActingLine → ℕ → List ℕ
json_line places s at l word = line_of (
    message_value (warning_place at.path.now l word) (string (shared_message places s)))

-- in one form or the other
abbrev pub shared_line :
    Bool → List ScriptPlace → SharedDescriptor → ScriptPlace → ActingLine → ℕ → List ℕ
shared_line json places s at l word =
    if json then json_line places s at l word else plain_line places s at l word

-- the line of one where this script has such a line, and nothing where it has none
abbrev pub if_line : Bool → List ScriptPlace → SharedDescriptor → ScriptPlace → ℕ
    → Option ActingLine → List ℕ
if_line json places s at word None = []
if_line json places s at word (Some l) = shared_line json places s at l word

-- the line of one where this script names it first, and nothing where it does not
abbrev pub if_used : Bool → List ScriptPlace → SharedDescriptor → ScriptPlace → Option (ℕ × ℕ)
    → List ℕ
if_used json places s at None = []
if_used json places s at (Some found) =
    if_line json places s at found.1 (slice_get at.lines.items found.0)

-- the line of one for a script that is there, and nothing where none is
abbrev pub if_there : Bool → List ScriptPlace → SharedDescriptor → Option (List Line)
    → Option ScriptPlace → List ℕ
if_there json places s None at = []
if_there json places s (Some script) None = []
if_there json places s (Some script) (Some at) =
    if_used json places s at (first_use_from 0 s.number script)

-- the line of one for the script with this number, and nothing where no script is given
abbrev pub if_named : Bool → Scripts → SharedDescriptor → Option ℕ → List ℕ
if_named json scripts s None = []
if_named json scripts s (Some i) =
    if_there json scripts.places.items s (slice_get scripts.scripts.items i)
    (slice_get scripts.places.items i)

-- the line of a descriptor, where the first script that names it does so first
abbrev pub shared_text : Bool → Scripts → SharedDescriptor → List ℕ
shared_text json scripts s = if_named json scripts s (slice_get s.scripts.items 0)

-- the lines of these descriptors, in order
abbrev pub shared_texts : Bool → Scripts → List SharedDescriptor → List ℕ
shared_texts json scripts [] = []
shared_texts json scripts (s ∷ others) =
    shared_text json scripts s ++ shared_texts json scripts others
