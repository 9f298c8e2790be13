-- Believed: a contract of a command stands on it.
-- What one line of a script says, given the labels of the text and how many lines lie before it.
use Rattle.std.specs.Prelude.{ℕ, List, [], ◌∷◌, ◌==◌, if◌then◌else◌, Option, Some, None, option_map}
use Rattle.std.specs.Prelude.{option_and_then, bytes_eq, codes}
use Rattle.posix_terms.specs.declared.limits.TheConstants.Limits.{WORK}
use Rattle.thread_scripts.specs.Calls.{◌>>=◌, call_line, data_operand, kind_named, number_operand}
use Rattle.thread_scripts.specs.Labels.{place_of}
use Rattle.thread_scripts.specs.Numbers.{byte_register_of, natural_of, register_of, up_to}
use Rattle.thread_scripts.specs.Words.{words_of}
use Rattle.thread_scripts.specs.declared.lines.Word.{Word}
use Rattle.thread_scripts.specs.declared.lines.Word.TheVariants as word
use Rattle.thread_scripts.specs.declared.line.Line.{Line}
use Rattle.thread_scripts.specs.declared.line.Line.TheVariants as line

-- what the first word of a line asks for
abbrev pub word_named : List ℕ → Option Word
word_named text =
    if bytes_eq text (codes "work") then Some word.Work
    else if bytes_eq text (codes "end") then Some word.End
    else if bytes_eq text (codes "set") then Some word.Set
    else if bytes_eq text (codes "add") then Some word.Add
    else if bytes_eq text (codes "setb") then Some word.SetBytes
    else if bytes_eq text (codes "label") then Some word.Label
    else if bytes_eq text (codes "jump") then Some word.Jump
    else if bytes_eq text (codes "jzero") then Some word.JumpIfZero
    else if bytes_eq text (codes "jfail") then Some word.JumpIfFailed
    else option_map word.Call (kind_named text)

-- work N
abbrev pub work_line : List (List ℕ) → Option Line
work_line (amount ∷ []) = option_map line.Work (up_to WORK (natural_of amount))
work_line _ = None

-- end
abbrev pub end_line : List (List ℕ) → Option Line
end_line [] = Some line.End
end_line _ = None

-- set REGISTER NUMBER
abbrev pub set_line : List (List ℕ) → Option Line
set_line (register ∷ value ∷ []) = do
  r ← register_of register
  v ← number_operand value
  Some (line.Set r v)
set_line _ = None

-- add REGISTER NUMBER
abbrev pub add_line : List (List ℕ) → Option Line
add_line (register ∷ value ∷ []) = do
  r ← register_of register
  v ← number_operand value
  Some (line.Add r v)
add_line _ = None

-- setb REGISTER BYTES
abbrev pub set_bytes_line : List (List ℕ) → Option Line
set_bytes_line (register ∷ value ∷ []) = do
  r ← byte_register_of register
  v ← data_operand value
  Some (line.SetBytes r v)
set_bytes_line _ = None

-- a label's line is good at the place of the first label of its name
abbrev pub label_at : ℕ → Option ℕ → Option Line
label_at place None = None
label_at place (Some first) = if first == place then Some line.Label else None

-- label NAME
abbrev pub label_line : List (List ℕ × ℕ) → ℕ → List (List ℕ) → Option Line
label_line labels place (name ∷ []) = label_at place (place_of name labels)
label_line labels place _ = None

-- jump NAME
abbrev pub jump_line : List (List ℕ × ℕ) → List (List ℕ) → Option Line
jump_line labels (name ∷ []) = option_map line.Jump (place_of name labels)
jump_line labels _ = None

-- jzero REGISTER NAME
abbrev pub jump_if_zero_line : List (List ℕ × ℕ) → List (List ℕ) → Option Line
jump_if_zero_line labels (register ∷ name ∷ []) = do
  r ← register_of register
  p ← place_of name labels
  Some (line.JumpIfZero r p)
jump_if_zero_line labels _ = None

-- jfail NAME
abbrev pub jump_if_failed_line : List (List ℕ × ℕ) → List (List ℕ) → Option Line
jump_if_failed_line labels (name ∷ []) = option_map line.JumpIfFailed (place_of name labels)
jump_if_failed_line labels _ = None

-- the line of this word with these operands
unfoldable pub line_with : List (List ℕ × ℕ) → ℕ → Word → List (List ℕ) → Option Line
line_with labels place word.Work operands = work_line operands
line_with labels place word.End operands = end_line operands
line_with labels place word.Set operands = set_line operands
line_with labels place word.Add operands = add_line operands
line_with labels place word.SetBytes operands = set_bytes_line operands
line_with labels place word.Label operands = label_line labels place operands
line_with labels place word.Jump operands = jump_line labels operands
line_with labels place word.JumpIfZero operands = jump_if_zero_line labels operands
line_with labels place word.JumpIfFailed operands = jump_if_failed_line labels operands
line_with labels place (word.Call kind) operands = option_map line.Call (call_line kind operands)

-- what words say: nothing where there are none
abbrev pub words_say : List (List ℕ × ℕ) → ℕ → List (List ℕ) → Option (Option Line)
words_say labels place [] = Some None
words_say labels place (word ∷ operands) =
    option_map Some (option_and_then (λ w. line_with labels place w operands) (word_named word))

-- what a line says, if it is good: comments, empty lines and lines of spaces say nothing
abbrev pub line_of : List (List ℕ × ℕ) → ℕ → List ℕ → Option (Option Line)
line_of labels place text = option_and_then (words_say labels place) (words_of text)
