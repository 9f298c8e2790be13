-- Believed: a contract of a command stands on it.
-- The texts of scripts with delays before their calls.
use Rattle.std.specs.Prelude.{ℕ, ◌+◌, List, [], ◌∷◌, ◌++◌, Option, Some, None, codes}
use Rattle.std.specs.Prelude.{if◌then◌else◌}
use Rattle.std.specs.Fmt.{decimal}
use Rattle.thread_scripts.specs.Words.{lines_of}
use Rattle.expectations.specs.Expected.{is_call}

-- a line with its line feed
abbrev pub line_text : List ℕ → List ℕ
line_text line = line ++ 10 ∷ []

-- the line of a work of so many units, if there is a delay
abbrev pub work_text : Option ℕ → List ℕ
work_text None = []
work_text (Some units) = line_text (codes "work " ++ decimal units)

-- a line with so many lines above it; that of a call stands after the delay of its number
unfoldable pub varied_line : (ℕ → Option ℕ) → ℕ → List ℕ → List ℕ
varied_line delay above line =
    if is_call line then work_text (delay (above + 1)) ++ line_text line else line_text line

-- these lines, with so many lines above the first
abbrev pub varied_lines : (ℕ → Option ℕ) → ℕ → List (List ℕ) → List ℕ
varied_lines delay above [] = []
varied_lines delay above (line ∷ lines) =
    varied_line delay above line ++ varied_lines delay (above + 1) lines

-- the text of a script with these delays before its calls
abbrev pub varied_text : (ℕ → Option ℕ) → List ℕ → List ℕ
varied_text delay text = varied_lines delay 0 (lines_of text)

-- the texts of threads, the first of which has this number, each with the delays of its thread
abbrev pub varied_texts : (ℕ → ℕ → Option ℕ) → ℕ → List (List ℕ) → List (List ℕ)
varied_texts delays thread [] = []
varied_texts delays thread (text ∷ texts) =
    varied_text (delays thread) text ∷ varied_texts delays (thread + 1) texts
