-- Believed: a contract of a command stands on it.
-- Texts of a run as they stand in a page.
use Rattle.std.specs.Prelude.{ℕ, ◌&&◌, List, [], ◌∷◌, codes}
use Rattle.std.specs.Prelude.{nat_le, ◌==◌, if◌then◌else◌}
use Rattle.std.specs.List.{flat_map}
use Rattle.posix_terms.specs.Calls.{Call}
use Rattle.posix_terms.specs.declared.reply.Reply.{Reply}
use Rattle.command_texts.specs.Transcripts.{◌+++◌, data_text, reply_text}
use Rattle.run_views.specs.Calls.{asked_text}

-- A byte as it stands in a page: a name of HTML for `&`, `<`, `>` and `"`; each other printable
-- one of ASCII as it is; and `\x` with two digits for what is not printable
abbrev pub escaped_byte : ℕ → List ℕ
escaped_byte b =
    if b == 38 then codes "&amp;" else if b == 60 then codes "&lt;"
    else if b == 62 then codes "&gt;" else if b == 34 then codes "&quot;"
    else if nat_le 32 b && nat_le b 126 then b ∷ [] else codes "\\x" +++ data_text (b ∷ [])

-- a text as it stands in a page
abbrev pub escaped : List ℕ → List ℕ
escaped bytes = flat_map escaped_byte bytes

-- what a call was asked
unfoldable pub asked_escaped : Call → List ℕ
asked_escaped c = escaped (asked_text c)

-- the reply that a call got
unfoldable pub reply_escaped : Reply → List ℕ
reply_escaped r = escaped (reply_text r)
