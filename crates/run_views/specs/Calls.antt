-- Believed: a contract of a command stands on it.
-- The text of what a call was asked: its word and its operands, as the line of a script has them,
-- with values in place of registers.
use Rattle.std.specs.Prelude.{ℕ, ℤ, ◌&&◌, Bool, true, false, not, List, [], length, codes}
use Rattle.std.specs.Prelude.{nat_le, nat_lt, ◌==◌, if◌then◌else◌}
use Rattle.std.specs.Fmt.{signed_decimal}
use Rattle.std.specs.List.{flat_map, list_all}
use Rattle.answered_calls.specs.Operands as said
use Rattle.answered_calls.specs.Operands.{NamedSaid, Said, operands_of}
use Rattle.posix_terms.specs.Calls.{Call, kind_of, word_of}
use Rattle.posix_terms.specs.declared.call.OpenFlags.{OpenFlags}
use Rattle.command_texts.specs.Transcripts.{◌+++◌, data_text}

-- ---- bytes and paths

-- a printable character of ASCII, or a space, but neither `"` nor `\`
abbrev pub is_plain : ℕ → Bool
is_plain b = nat_le 32 b && nat_le b 126 && not (b == 34) && not (b == 92)

-- bytes that are text: all are plain, and there is one
abbrev pub is_quotable : List ℕ → Bool
is_quotable bytes = not (length bytes == 0) && list_all is_plain bytes

-- bytes as text in double quotes, where they are text; else as hexadecimal digits, and `-` for none
abbrev pub bytes_text : List ℕ → List ℕ
bytes_text bytes =
    if is_quotable bytes then codes "\"" +++ bytes +++ codes "\"" else data_text bytes

-- a path that stands as it is: all of its bytes are plain, and none is a space
abbrev pub is_bare : List ℕ → Bool
is_bare path = list_all (λ b. is_plain b && nat_lt 32 b) path

-- a path: `""` for the empty one, as in a script; a bare one as it is; another one in double quotes
-- where it is text, and else as hexadecimal digits after `\`, which no bare one has
abbrev pub path_text : List ℕ → List ℕ
path_text path =
    if length path == 0 then codes "\"\"" else if is_bare path then path
    else if is_quotable path then bytes_text path else codes "\\" +++ data_text path

-- ---- operands, each after a space

-- a descriptor, a count, a position, an offset, a size or a port
abbrev pub number_operand : ℤ → List ℕ
number_operand number = codes " " +++ signed_decimal number

-- what is written
abbrev pub bytes_operand : List ℕ → List ℕ
bytes_operand bytes = codes " " +++ bytes_text bytes

-- where a file, a directory or a file of the host is
abbrev pub path_operand : List ℕ → List ℕ
path_operand path = codes " " +++ path_text path

-- how it is opened, from where an offset counts, or what is shut
abbrev pub word_operand : List ℕ → List ℕ
word_operand word = codes " " +++ word

-- a flag, if it is set
abbrev pub flag_operand : Bool → List ℕ → List ℕ
flag_operand true word = word
flag_operand false word = []

-- the flags that are set
unfoldable pub flags_operands : OpenFlags → List ℕ
flags_operands flags =
    flag_operand flags.create (codes " create")
    +++ flag_operand flags.exclusive (codes " excl")
    +++ flag_operand flags.truncate (codes " trunc")
    +++ flag_operand flags.append (codes " append")
    +++ flag_operand flags.nonblock (codes " nonblock")

-- what an operand says
abbrev pub said_text : Said ℤ (List ℕ) → List ℕ
said_text (said.Descriptor number) = number_operand number
said_text (said.Number number) = number_operand number
said_text (said.Bytes bytes) = bytes_operand bytes
said_text (said.Path path) = path_operand path
said_text (said.Word word) = word_operand word
said_text (said.Flags flags) = flags_operands flags

-- an operand, whose name is not shown
abbrev pub operand_text : NamedSaid ℤ (List ℕ) → List ℕ
operand_text operand = said_text operand.1

-- ---- calls

-- the operands of a call, in the order of a script
abbrev pub operands_text : Call → List ℕ
operands_text c = flat_map operand_text (operands_of c)

-- what a call was asked
unfoldable pub asked_text : Call → List ℕ
asked_text c = word_of (kind_of c) +++ operands_text c
