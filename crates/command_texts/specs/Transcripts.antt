-- Believed: a contract of a command stands on it.
-- The printed text of transcripts: a line for each row, and then how the run ended.
use Rattle.std.specs.Prelude.{ℕ, ◌+◌, Bool, true, false, List, [], ◌∷◌, ◌++◌, length, Option, Some}
use Rattle.std.specs.Prelude.{None, codes, if◌then◌else◌, ◌==◌}
use Rattle.std.specs.Fmt.{decimal, signed_decimal}
use Rattle.hex.specs.Hex.{encode_lower}
use Rattle.posix_terms.specs.Calls.{kind_of, word_of}
use Rattle.posix_terms.specs.Errors.{name_of}
use Rattle.posix_terms.specs.Replies.{kind_code}
use Rattle.posix_terms.specs.declared.reply.Reply.{Reply}
use Rattle.posix_terms.specs.declared.reply.Reply.TheVariants as reply
use Rattle.posix_terms.specs.declared.transcript.Row.{Row}
use Rattle.machine.specs.declared.stop.Stop.{Stop}
use Rattle.machine.specs.declared.stop.Stop.TheVariants as stop

infixr 30 ◌+++◌
-- texts one after the other
abbrev pub ◌+++◌ : List ℕ → List ℕ → List ℕ
xs +++ ys = xs ++ ys

-- bytes as hexadecimal digits in lower case, and `-` for none
abbrev pub data_text : List ℕ → List ℕ
data_text bytes = if length bytes == 0 then codes "-" else encode_lower bytes

-- a reply, in the words of a transcript
unfoldable pub reply_text : Reply → List ℕ
reply_text (reply.Count n) = codes "count " +++ decimal n
reply_text (reply.Data bytes) = codes "data " +++ data_text bytes
reply_text (reply.Number n) = codes "number " +++ signed_decimal n
reply_text (reply.Pair a b) = codes "pair " +++ signed_decimal a +++ codes " " +++ signed_decimal b
reply_text (reply.Stat kind number links) = codes "stat " +++ decimal (kind_code kind) +++ codes " "
    +++ decimal number +++ codes " " +++ decimal links
reply_text reply.Done = codes "done"
reply_text (reply.Fail e) = codes "fail " +++ name_of e

-- a call and its reply
abbrev pub call_text : Row → List ℕ
call_text row = word_of (kind_of row.call) +++ codes " " +++ reply_text row.reply

-- thread, number of the row, with turns the clock of its turn, call and reply
unfoldable pub row_text : Bool → ℕ → ℕ → Row → List ℕ
row_text false thread number row = decimal thread +++ codes " " +++ decimal number +++ codes " " +++
    word_of (kind_of row.call) +++ codes " " +++ reply_text row.reply +++ codes "\n"
row_text true thread number row = decimal thread +++ codes " " +++ decimal number +++ codes " " +++
    decimal row.turn.clock +++ codes " " +++ word_of (kind_of row.call) +++ codes " " +++ reply_text
    row.reply +++ codes "\n"

-- the rows of a thread, the first of which has this number
abbrev pub rows_text : Bool → ℕ → ℕ → List Row → List ℕ
rows_text turns thread number [] = []
rows_text turns thread number (row ∷ rows) = row_text turns thread number row
    ++ rows_text turns thread (number + 1) rows

-- the transcripts of threads, the first of which has this number
abbrev pub transcripts_text : Bool → ℕ → List (List Row) → List ℕ
transcripts_text turns thread [] = []
transcripts_text turns thread (rows ∷ transcripts) = rows_text turns thread 0 rows
    ++ transcripts_text turns (thread + 1) transcripts

-- how a run ended
unfoldable pub end_words : Option Stop → List ℕ
end_words None = codes "end"
end_words (Some stop.Memory) = codes "stop memory"
end_words (Some stop.Sink) = codes "stop sink"
end_words (Some stop.ClockFull) = codes "stop clock full"
end_words (Some stop.Strayed) = codes "stop strayed"
end_words (Some (stop.EndOfLog thread)) = codes "stop end of log " +++ decimal thread
end_words (Some (stop.Diverged thread number)) =
    codes "stop diverged " +++ decimal thread +++ codes " " +++ decimal number

-- the last line
abbrev pub end_text : Option Stop → List ℕ
end_text stop = end_words stop +++ codes "\n"

-- the exit status of a run that ended so
abbrev pub end_status : Option Stop → ℕ
end_status None = 0
end_status (Some (stop.EndOfLog thread)) = 1
end_status (Some (stop.Diverged thread number)) = 1
end_status (Some stop.Memory) = 4
end_status (Some stop.Sink) = 4
end_status (Some stop.ClockFull) = 4
end_status (Some stop.Strayed) = 4
