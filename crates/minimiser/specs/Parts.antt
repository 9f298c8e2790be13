-- Believed: a contract of a command stands on it.
-- What is kept of a line.
use Rattle.std.specs.Prelude.{◌≡◌, ℕ, ◌-◌, ◌<◌, ◌^◌, Bool, true, false, List, [], ◌∷◌, ◌++◌, Option}
use Rattle.std.specs.Prelude.{Some, None, unwrap_or, bytes_eq, codes, decimal, if◌then◌else◌}
use Rattle.thread_scripts.specs.Numbers.{natural_of, up_to}
use Rattle.thread_scripts.specs.Words.{words_of}
use Rattle.minimiser.specs.declared.part.Part.{Part}
use Rattle.minimiser.specs.declared.part.Part.TheVariants as part

-- ## The delays, which are lines of work

-- the first word is that of a work
abbrev pub work_first : Option (List (List ℕ)) → Bool
work_first (Some (word ∷ operands)) = bytes_eq word (codes "work")
work_first _ = false

-- the line is a delay
abbrev pub is_delay : List ℕ → Bool
is_delay line = work_first (words_of line)

-- the operand of these words, if there is one and it is a number
abbrev pub operand_of : List (List ℕ) → ℕ
operand_of (word ∷ units ∷ []) = unwrap_or (up_to (2 ^ 64 - 1) (natural_of units)) 0
operand_of _ = 0

-- the units of a work
abbrev pub units_among : Option (List (List ℕ)) → ℕ
units_among (Some words) = operand_of words
units_among None = 0

-- all of a line
abbrev pub part_of : List ℕ → Part
part_of line =
    if is_delay line then part.Delay (units_among (words_of line)) else part.Line

-- ## What is kept of it

-- something is kept
abbrev pub is_there : Part → Bool
is_there part.Gone = false
is_there _ = true

-- the units of a delay that is kept
abbrev pub units_of : Part → Option ℕ
units_of (part.Delay units) = Some units
units_of (part.Shorter units) = Some units
units_of _ = None

-- what may be kept of a line: nothing, all of it, or fewer units of a delay
abbrev pub IsRest : Part → Part → Type 0
IsRest given part.Gone = Unit {0}
IsRest part.Line part.Line = Unit {0}
IsRest (part.Delay given) (part.Delay units) = units ≡ given
IsRest (part.Delay given) (part.Shorter units) = units < given
IsRest _ _ = ⊥

-- its line, with its line feed
abbrev pub kept_line : Part → List ℕ → List ℕ
kept_line part.Gone line = []
kept_line (part.Shorter units) line = codes "work " ++ decimal units ++ 10 ∷ []
kept_line _ line = line ++ 10 ∷ []
