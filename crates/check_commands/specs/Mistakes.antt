-- Believed: a contract of a command stands on it.
-- The printed text of a mistake: what is expected, and what stands there.
use Rattle.std.specs.Prelude.{ℕ, nat_le, List, [], ◌∷◌, length, take, codes, ◌==◌, if◌then◌else◌}
use Rattle.std.specs.Fmt.{decimal}
use Rattle.hex.specs.Hex.{encode_lower}
use Rattle.command_texts.specs.Transcripts.{◌+++◌}
use Rattle.script_checks.specs.declared.expected.Expected.{Expected}
use Rattle.script_checks.specs.declared.expected.Expected.TheVariants as expected
use Rattle.script_checks.specs.declared.expected.Found.{Found}
use Rattle.script_checks.specs.declared.expected.Found.TheVariants as found
use Rattle.script_checks.specs.declared.expected.Mistake.{Mistake}
use Rattle.script_checks.specs.declared.operand.FlagSet.{FlagSet}
use Rattle.script_checks.specs.declared.operand.FlagSet.TheVariants as flags
use Rattle.script_checks.specs.declared.operand.OperandShape.{OperandShape}
use Rattle.script_checks.specs.declared.operand.OperandShape.TheVariants as operand

-- what an operand of each type may be, in words
abbrev pub operand_words : OperandShape → List ℕ
operand_words operand.Number = codes "a number or a register r0 to r15"
operand_words operand.Amount = codes "a number from 0 to 1000000"
operand_words operand.Register = codes "a register r0 to r15"
operand_words operand.ByteRegister = codes "a byte register b0 to b3"
operand_words operand.Bytes =
    codes "x and an even number of hexadecimal digits, or a byte register b0 to b3,"
operand_words operand.Path = codes "a path"
operand_words operand.Access = codes "r, w or rw"
operand_words operand.Whence = codes "set, cur or end"
operand_words operand.HowToShut = codes "read, write or both"
operand_words operand.NewLabel = codes "a label of 1 to 14 lower-case letters and digits"
operand_words operand.KnownLabel = codes "a label of this script"

-- which flags may stand there, in words
abbrev pub flag_words : FlagSet → List ℕ
flag_words flags.Open = codes "create, excl, trunc, append or nonblock, each at most once,"
flag_words flags.Host = codes "create, trunc or append, each at most once,"
flag_words flags.Status = codes "append or nonblock, each at most once,"

-- what was expected, in words
unfoldable pub expected_text : Expected → List ℕ
expected_text expected.Ascii = codes "an ASCII character"
expected_text expected.Visible = codes "a visible ASCII character or a space"
expected_text expected.Word =
    codes "a call, work, end, set, add, setb, label, jump, jzero or jfail"
expected_text (expected.Operand o) = operand_words o
expected_text expected.NumberInRange =
    codes "a number from -9223372036854775808 to 9223372036854775807"
expected_text expected.FewerBytes = codes "x and hexadecimal digits for at most 32767 bytes"
expected_text expected.LabelName = codes "a label of 1 to 14 lower-case letters and digits"
expected_text (expected.OtherLabel line) =
    codes "another name than that of the label in line " +++ decimal line
expected_text (expected.Flag f) = flag_words f
expected_text expected.EndOfLine = codes "the end of the line"
expected_text expected.GoodLine = codes "another line"

-- a word in quotes; of a long one the first 40 bytes, and how many it has
abbrev pub quoted : List ℕ → List ℕ
quoted word =
    if nat_le (length word) 40 then codes "\"" +++ word +++ codes "\""
    else codes "\"" +++ take 40 word +++ codes "..\" of " +++ decimal
    (length word) +++ codes " bytes"

-- the name of a byte that has one
abbrev pub byte_name : ℕ → List ℕ
byte_name b =
    if b == 0 then codes ", a zero byte,"
    else if b == 9 then codes ", a tab,"
    else if b == 13 then codes ", a carriage return,"
    else []

-- what was found, in words
unfoldable pub found_text : Found → List ℕ
found_text (found.Word word) = quoted word.now +++ codes " stands there"
found_text (found.Byte b) =
    codes "byte " +++ encode_lower (b ∷ []) +++ byte_name b +++ codes " stands there"
found_text found.End = codes "the line ends here"

-- the rest of a bad line's line, after its place
abbrev pub mistake_text : Mistake → List ℕ
mistake_text mistake =
    expected_text mistake.expected +++ codes " is expected, " +++ found_text mistake.found
    +++ codes "\n"
