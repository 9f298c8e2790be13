-- Believed: a contract of a command stands on it.
-- How what is wanted is written: in the words by which it is read, one space apart.
use Rattle.std.specs.Prelude.{ℕ, List, [], ◌∷◌, length, ◌==◌, if◌then◌else◌, Option, Some, None}
use Rattle.std.specs.Prelude.{codes, decimal}
use Rattle.std.specs.Fmt.{signed_decimal}
use Rattle.std.specs.List.{join_with_byte}
use Rattle.hex.specs.Hex.{encode_lower}
use Rattle.posix_terms.specs.Errors.{name_of}
use Rattle.posix_terms.specs.Replies.{kind_code}
use Rattle.expectations.specs.declared.pattern.Pattern.{Pattern}
use Rattle.expectations.specs.declared.pattern.Pattern.TheVariants as pattern
use Rattle.expectations.specs.declared.wanted.Wanted.{Wanted}
use Rattle.expectations.specs.declared.wanted.Wanted.TheVariants as want

-- an operand's word, and `_` for any
abbrev pub operand_word : {A : Type 0} → (A → List ℕ) → Option A → List ℕ
operand_word word None = codes "_"
operand_word word (Some operand) = word operand

-- bytes as hexadecimal digits in lower case, and `-` for none
abbrev pub data_word : List ℕ → List ℕ
data_word bytes = if length bytes == 0 then codes "-" else encode_lower bytes

-- the words of a pattern
unfoldable pub pattern_words : Pattern → List (List ℕ)
pattern_words (pattern.Count n) = codes "count" ∷ operand_word decimal n ∷ []
pattern_words (pattern.Data bytes) = codes "data" ∷ operand_word data_word bytes ∷ []
pattern_words (pattern.Number n) = codes "number" ∷ operand_word signed_decimal n ∷ []
pattern_words (pattern.Pair first second) =
    codes "pair" ∷ operand_word signed_decimal first ∷ operand_word signed_decimal second ∷ []
pattern_words (pattern.Stat kind number links) =
    codes "stat" ∷ operand_word (λ kind. decimal (kind_code kind)) kind
    ∷ operand_word decimal number ∷ operand_word decimal links ∷ []
pattern_words pattern.Done = codes "done" ∷ []
pattern_words (pattern.Fail error) = codes "fail" ∷ operand_word name_of error ∷ []

-- the words of a pattern after `not`: any failure is `fail` alone
unfoldable pub excluded_words : Pattern → List (List ℕ)
excluded_words (pattern.Fail None) = codes "fail" ∷ []
excluded_words other = pattern_words other

-- the words that stand for what is expected of a reply
unfoldable pub wanted_words : Wanted → List (List ℕ)
wanted_words (want.Match pattern) = pattern_words pattern
wanted_words (want.Not pattern) = codes "not" ∷ excluded_words pattern

-- a pattern in its words, one space apart
abbrev pub pattern_text : Pattern → List ℕ
pattern_text pattern = join_with_byte 32 (pattern_words pattern)

-- what is expected of a reply, in its words, one space apart
abbrev pub wanted_text : Wanted → List ℕ
wanted_text wanted = join_with_byte 32 (wanted_words wanted)
