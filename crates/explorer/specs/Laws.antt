-- Internal: no contract of the headline or of a command stands on it.
-- What varied texts keep to: they are the scripts before, with works put in.
use Rattle.std.specs.Prelude.{◌≡◌, ℕ, ◌≤◌, ◌⊎◌, IfSome, List, map, slice_get, Option, Some}
use Rattle.std.specs.Prelude.{option_map, Ok, Err}
use Rattle.posix_terms.specs.declared.limits.TheConstants.Limits.{WORK}
use Rattle.thread_scripts.specs.Faults.{Fault, too_long}
use Rattle.thread_scripts.specs.Grammar.{script_of}
use Rattle.thread_scripts.specs.declared.line.Line.{Line}
use Rattle.command_texts.specs.Reading.{scripts_from}
use Rattle.explorer.specs.Delayed.{calls_in, delayed, moved, redirected, works_of}
use Rattle.explorer.specs.Delays.{chance_delay}
use Rattle.explorer.specs.Lists.{Bounds, delay_in, list_of}
use Rattle.explorer.specs.Varied.{varied_text, varied_texts}

-- no delay is longer than a work of a script may be
abbrev pub AreWorks : (ℕ → Option ℕ) → Type 0
AreWorks delay = (n : ℕ) → IfSome (delay n) (λ units. units ≤ WORK)

-- the varied text of a script is too long, or it is the script with its works
abbrev pub VariedIsScript : Type 0
VariedIsScript =
    (delay : ℕ → Option ℕ) (text : List ℕ) (lines : List Line)
    → AreWorks delay → script_of text ≡ Ok lines
    → (script_of (varied_text delay text) ≡ Err too_long)
    ⊎ (script_of (varied_text delay text) ≡ Ok (delayed (works_of delay text) lines))

-- a line stands where it has moved, and jumps to where the line to which it jumped has moved
abbrev pub LinesHaveMoved : Type 0
LinesHaveMoved =
    (works : List (Option ℕ)) (lines : List Line) (place : ℕ)
    → slice_get (delayed works lines) (moved works place)
    ≡ option_map (redirected (moved works)) (slice_get lines place)

-- a varied script makes the calls of the script before, in its order
abbrev pub VariedMakesCalls : Type 0
VariedMakesCalls =
    (delay : ℕ → Option ℕ) (text : List ℕ) (lines varied : List Line)
    → AreWorks delay → script_of text ≡ Ok lines → script_of (varied_text delay text) ≡ Ok varied
    → calls_in varied ≡ calls_in lines

-- and so does that of each thread
abbrev pub ThreadsMakeCalls : Type 0
ThreadsMakeCalls =
    (delays : ℕ → ℕ → Option ℕ) (texts : List (List ℕ)) (scripts varied : List (List Line))
    → ((thread : ℕ) → AreWorks (delays thread)) → scripts_from 0 texts ≡ Ok scripts
    → scripts_from 0 (varied_texts delays 0 texts) ≡ Ok varied
    → map calls_in varied ≡ map calls_in scripts

-- where the varied texts are not scripts, one is too long
abbrev pub OnlyTooLong : Type 0
OnlyTooLong =
    (delays : ℕ → ℕ → Option ℕ) (texts : List (List ℕ)) (scripts : List (List Line))
    (thread : ℕ) (fault : Fault)
    → ((thread : ℕ) → AreWorks (delays thread)) → scripts_from 0 texts ≡ Ok scripts
    → scripts_from 0 (varied_texts delays 0 texts) ≡ Err (thread, fault)
    → fault ≡ too_long

-- delays by chance are works, where their reach is one
abbrev pub ChancesAreWorks : Type 0
ChancesAreWorks =
    (reach seed thread : ℕ) → reach ≤ WORK
    → AreWorks (λ line. Some (chance_delay reach seed thread line))

-- and so are those of lists
abbrev pub ListsAreWorks : Type 0
ListsAreWorks =
    (bounds : Bounds) (case thread : ℕ) → bounds.reach ≤ WORK
    → AreWorks (λ line. delay_in (list_of bounds case) thread line)
