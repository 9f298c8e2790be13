-- Believed: a contract of a command stands on it.
-- A script's text in lines, and a line in words.
use Rattle.std.specs.Prelude.{ℕ, ◌-◌, Bool, false, List, [], ◌∷◌, length, take, slice_index, nat_lt}
use Rattle.std.specs.Prelude.{◌==◌, if◌then◌else◌, Option, Some, None}
use Rattle.std.specs.List.{list_all, slice_split}
use Rattle.posix_terms.specs.Text.{pieces_of}

-- the text without the line feed that ends it, if one does
abbrev pub without_last_feed : List ℕ → List ℕ
without_last_feed text = if slice_index text (length text - 1) == 10
    then take (length text - 1) text else text

-- the lines of a text: each ends with a line feed, which the last may lack
abbrev pub lines_of : List ℕ → List (List ℕ)
lines_of text = if length text == 0 then [] else slice_split (λ b. b == 10) (without_last_feed text)

-- whether all bytes of a text are ASCII
abbrev pub is_ascii : List ℕ → Bool
is_ascii text = list_all (λ b. nat_lt b 128) text

-- `#` comes first, before any space
abbrev pub is_comment : List ℕ → Bool
is_comment [] = false
is_comment (b ∷ rest) = b == 35

-- the words of a line, between one or more spaces; a comment has none
unfoldable pub words_of : List ℕ → Option (List (List ℕ))
words_of text =
    if is_ascii text then if is_comment text then Some [] else Some (pieces_of 32 text)
    else None
