-- Believed: a contract of a command stands on it.
-- What a call was asked and what it got, in JSON.
use Rattle.std.specs.Prelude.{ℕ, ℤ, Bool, true, false, List, [], ◌∷◌, ◌++◌, codes, map}
use Rattle.answered_calls.specs.Operands as said
use Rattle.answered_calls.specs.Operands.{NamedSaid, Said, operands_of}
use Rattle.posix_terms.specs.Calls.{Call}
use Rattle.posix_terms.specs.Errors.{name_of}
use Rattle.posix_terms.specs.Replies.{kind_code}
use Rattle.posix_terms.specs.declared.call.OpenFlags.{OpenFlags}
use Rattle.posix_terms.specs.declared.reply.Reply.{Reply}
use Rattle.posix_terms.specs.declared.reply.Reply.TheVariants as reply
use Rattle.serde_json.specs.Data.{Data, array, boolean, item, no_items, number, string}
use Rattle.serde_json.specs.Find.{of_integer}
use Rattle.serde_json.specs.View.{items_of}
use Rattle.json_views.specs.Objects.{Member, count_value, hex_value, object_of, text_value}

-- ## Values of operands

-- a number, which may be below zero
abbrev pub number_value : ℤ → Data
number_value n = number (of_integer n)

-- the word of a flag, if it is set
abbrev pub flag_word : Bool → List ℕ → List Data
flag_word true word = string word ∷ []
flag_word false word = []

-- the words of the flags that are set
abbrev pub flag_words : OpenFlags → List Data
flag_words flags =
    flag_word flags.create (codes "create")
    ++ (flag_word flags.exclusive (codes "excl")
    ++ (flag_word flags.truncate (codes "trunc")
    ++ (flag_word flags.append (codes "append")
    ++ flag_word flags.nonblock (codes "nonblock"))))

-- the flags of a call, as an array of their words
abbrev pub flags_value : OpenFlags → Data
flags_value flags = array (items_of (flag_words flags))

-- what an operand says
abbrev pub said_value : Said ℤ (List ℕ) → Data
said_value (said.Descriptor n) = number_value n
said_value (said.Number n) = number_value n
said_value (said.Bytes bytes) = hex_value bytes
said_value (said.Path path) = text_value path
said_value (said.Word word) = string word
said_value (said.Flags flags) = flags_value flags

-- ## Calls and replies

-- an operand, under its name
abbrev pub member_of : NamedSaid ℤ (List ℕ) → Member
member_of operand = (operand.0, said_value operand.1)

-- the operands of a call
abbrev pub arguments_of : Call → List Member
arguments_of c = map member_of (operands_of c)

-- the operands of a call, as an object
abbrev pub arguments_value : Call → Data
arguments_value c = object_of (arguments_of c)

-- two numbers
abbrev pub pair_value : ℤ → ℤ → Data
pair_value first second = array (item (number_value first) (item (number_value second) no_items))

-- what a stat says; the kind has its number
abbrev pub stat_value : ℕ → ℕ → ℕ → Data
stat_value kind size links = object_of (
    (codes "kind", count_value kind) ∷ (codes "size", count_value size)
    ∷ (codes "links", count_value links) ∷ [])

-- the one member of a reply
abbrev pub reply_member : Reply → Member
reply_member (reply.Count count) = (codes "count", count_value count)
reply_member (reply.Data bytes) = (codes "data", hex_value bytes)
reply_member (reply.Number n) = (codes "number", number_value n)
reply_member (reply.Pair first second) = (codes "pair", pair_value first second)
reply_member (reply.Stat kind size links) =
    (codes "stat", stat_value (kind_code kind) size links)
reply_member reply.Done = (codes "done", boolean true)
reply_member (reply.Fail error) = (codes "fail", string (name_of error))

-- a reply, as an object of one member
abbrev pub reply_value : Reply → Data
reply_value r = object_of (reply_member r ∷ [])
