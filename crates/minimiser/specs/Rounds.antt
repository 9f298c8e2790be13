-- Believed: a contract of a command stands on it.
-- Where it begins to take away, what it tries first, and how much is kept.
use Rattle.std.specs.Prelude.{ℕ, ◌+◌, List, [], ◌∷◌, ◌++◌, map, sum_by, Option, Some, None}
use Rattle.std.specs.Prelude.{if◌then◌else◌}
use Rattle.thread_scripts.specs.Words.{lines_of}
use Rattle.minimiser.specs.Parts.{is_delay, part_of}
use Rattle.minimiser.specs.Reductions.{Kept}
use Rattle.minimiser.specs.declared.part.Part.{Part}
use Rattle.minimiser.specs.declared.part.Part.TheVariants as part
use Rattle.minimiser.specs.declared.step.Removal.{Removal}
use Rattle.minimiser.specs.declared.step.Removal.TheVariants as step

-- ## All lines

-- all lines of these texts are kept
abbrev pub all_of : List (List ℕ) → Kept
all_of texts = map (λ text. Some (map part_of (lines_of text))) texts

-- ## The delays, which are lines of work

-- the step that takes away this line of a thread, if it is a delay
abbrev pub delay_at : ℕ → ℕ → List ℕ → List Removal
delay_at thread line text = if is_delay text then step.Line thread line ∷ [] else []

-- those of lines, the first of which has this number
abbrev pub delays_among : ℕ → ℕ → List (List ℕ) → List Removal
delays_among thread line [] = []
delays_among thread line (text ∷ texts) =
    delay_at thread line text ++ delays_among thread (line + 1) texts

-- those of texts, the first of which is that of this thread
abbrev pub delays_of : ℕ → List (List ℕ) → List Removal
delays_of thread [] = []
delays_of thread (text ∷ texts) =
    delays_among thread 0 (lines_of text) ++ delays_of (thread + 1) texts

-- ## How much is kept

-- a line counts one, and each unit of a delay does
abbrev pub size_of_part : Part → ℕ
size_of_part part.Gone = 0
size_of_part part.Line = 1
size_of_part (part.Delay units) = units + 1
size_of_part (part.Shorter units) = units + 1

-- so does a thread
abbrev pub size_of_thread : Option (List Part) → ℕ
size_of_thread None = 0
size_of_thread (Some lines) = sum_by size_of_part lines + 1

-- how much is kept
abbrev pub size_of : Kept → ℕ
size_of kept = sum_by size_of_thread kept
