-- Believed: a contract of a command stands on it.
-- What may be wrong with a script: labels to which no line jumps, lines that are never reached, and
-- paths that are refused whatever the tree holds.
use Rattle.std.specs.Prelude.{ℕ, ◌+◌, Bool, true, false, not, ◌==◌, List, [], ◌∷◌, ◌++◌, Option}
use Rattle.std.specs.Prelude.{Some, None}
use Rattle.std.specs.List.{list_any}
use Rattle.posix_terms.specs.declared.call.Call.TheVariants as call
use Rattle.script_checks.specs.Paths.{Refusal, path_refusal}
use Rattle.thread_scripts.specs.declared.line.Line.{Line}
use Rattle.thread_scripts.specs.declared.line.Line.TheVariants as line
use Rattle.script_checks.specs.declared.concerns.Concern.TheVariants as concern
use Rattle.script_checks.specs.declared.concerns.Warning.{Warning}

-- a line jumps to this place
abbrev pub jumps_to : ℕ → Line → Bool
jumps_to place (line.Jump target) = target == place
jumps_to place (line.JumpIfZero register target) = target == place
jumps_to place (line.JumpIfFailed target) = target == place
jumps_to place _ = false

-- this line is a label to which no line of the script jumps
abbrev pub is_unused_label : List Line → ℕ → Line → Bool
is_unused_label lines place line.Label = not (list_any (jumps_to place) lines)
is_unused_label lines place _ = false

-- of an unused label
abbrev pub label_warning : Bool → ℕ → List Warning
label_warning false place = []
label_warning true place = record { place = place; concern = concern.UnusedLabel } ∷ []

-- of a line, by its mark
abbrev pub reach_warning : Bool → ℕ → List Warning
reach_warning true place = []
reach_warning false place = record { place = place; concern = concern.NeverReached } ∷ []

-- the path of the tree in memory that a line has in its word 1, if it has one
abbrev pub first_path : Line → Option (List ℕ)
first_path (line.Call (call.Open path access flags)) = Some path
first_path (line.Call (call.Unlink path)) = Some path
first_path (line.Call (call.Mkdir path)) = Some path
first_path (line.Call (call.Rmdir path)) = Some path
first_path (line.Call (call.Link old_path new_path)) = Some old_path
first_path (line.Call (call.Rename old_path new_path)) = Some old_path
first_path _ = None

-- that in its word 2
abbrev pub second_path : Line → Option (List ℕ)
second_path (line.Call (call.Link old_path new_path)) = Some new_path
second_path (line.Call (call.Rename old_path new_path)) = Some new_path
second_path _ = None

-- of a path in this word of a line, by why it is refused, if it is
abbrev pub refusal_warning : ℕ → ℕ → Option Refusal → List Warning
refusal_warning place word None = []
refusal_warning place word (Some refusal) =
    record { place = place; concern = concern.PathRefused word } ∷ []

-- of the path in this word of a line, if there is one
abbrev pub path_warning : ℕ → ℕ → Option (List ℕ) → List Warning
path_warning place word None = []
path_warning place word (Some path) = refusal_warning place word (path_refusal path)

-- of the paths of a line
abbrev pub path_warnings : ℕ → Line → List Warning
path_warnings place l =
    path_warning place 1 (first_path l) ++ path_warning place 2 (second_path l)

-- of a line with this mark of a script
abbrev pub line_warnings : List Line → ℕ → Line → Bool → List Warning
line_warnings lines place l mark =
    label_warning (is_unused_label lines place l) place ++ reach_warning mark place
    ++ path_warnings place l

-- the warnings of these lines of a script with these marks, the first of which has this place
abbrev pub warnings_from : List Line → ℕ → List Line → List Bool → List Warning
warnings_from lines place [] marks = []
warnings_from lines place (l ∷ ls) [] = []
warnings_from lines place (l ∷ ls) (mark ∷ marks) =
    line_warnings lines place l mark ++ warnings_from lines (place + 1) ls marks
