-- Internal: no contract of the headline or of a command stands on it.
-- A script with works put in before its lines, and the calls that a script makes.
use Rattle.std.specs.Prelude.{ℕ, zero, suc, ◌+◌, if◌then◌else◌, List, [], ◌∷◌}
use Rattle.std.specs.Prelude.{map, filter_map, Option, Some, None, option_map}
use Rattle.std.specs.List.{cons_option}
use Rattle.std.specs.Option.{option_len}
use Rattle.thread_scripts.specs.CallLines.{CallLine}
use Rattle.thread_scripts.specs.Words.{lines_of}
use Rattle.thread_scripts.specs.declared.line.Line.{Line}
use Rattle.thread_scripts.specs.declared.line.Line.TheVariants as line
use Rattle.expectations.specs.Expected.{is_call, is_quiet}

-- the delay of each of these lines that says something, with so many lines above the first: those
-- that make a call have one, where it is given
abbrev pub works_from : (ℕ → Option ℕ) → ℕ → List (List ℕ) → List (Option ℕ)
works_from delay above [] = []
works_from delay above (text ∷ texts) =
    if is_quiet text then works_from delay (above + 1) texts
    else (if is_call text then delay (above + 1) else None) ∷ works_from delay (above + 1) texts

-- the delay of each line of the script that a text is
abbrev pub works_of : (ℕ → Option ℕ) → List ℕ → List (Option ℕ)
works_of delay text = works_from delay 0 (lines_of text)

-- lines, each after a work of so many units, if it has a delay
abbrev pub with_works : List (Option ℕ) → List Line → List Line
with_works [] lines = lines
with_works (work ∷ works) [] = []
with_works (work ∷ works) (l ∷ lines) =
    cons_option (option_map line.Work work) (l ∷ with_works works lines)

-- where the line at this place stands among the works
abbrev pub moved : List (Option ℕ) → ℕ → ℕ
moved [] place = place
moved (work ∷ works) zero = option_len work
moved (work ∷ works) (suc place) = option_len work + 1 + moved works place

-- a line, which jumps to where the line to which it jumped stands now
abbrev pub redirected : (ℕ → ℕ) → Line → Line
redirected to (line.Jump place) = line.Jump (to place)
redirected to (line.JumpIfZero register place) = line.JumpIfZero register (to place)
redirected to (line.JumpIfFailed place) = line.JumpIfFailed (to place)
redirected to l = l

-- a script with works before its lines
abbrev pub delayed : List (Option ℕ) → List Line → List Line
delayed works lines = with_works works (map (redirected (moved works)) lines)

-- the call that a line makes, if it makes one
abbrev pub call_in : Line → Option CallLine
call_in (line.Call call) = Some call
call_in l = None

-- the calls that the lines of a script make, in order
abbrev pub calls_in : List Line → List CallLine
calls_in lines = filter_map call_in lines
