-- Believed: a contract of a command stands on it.
-- The labels of a script.
use Rattle.std.specs.Prelude.{ℕ, ◌+◌, Bool, ◌&&◌, ◌||◌, List, [], ◌∷◌, length, nat_le}
use Rattle.std.specs.Prelude.{if◌then◌else◌, Option, Some, None, option_map, option_and_then}
use Rattle.std.specs.Prelude.{bytes_eq, codes}
use Rattle.std.specs.List.{cons_option, list_all}
use Rattle.thread_scripts.specs.Numbers.{is_digit}
use Rattle.thread_scripts.specs.Words.{words_of}

-- lower-case letters and digits
abbrev pub is_name_byte : ℕ → Bool
is_name_byte b = (nat_le 97 b && nat_le b 122) || is_digit b

-- 1 to 14 of them
abbrev pub is_name : List ℕ → Bool
is_name word = nat_le 1 (length word) && nat_le (length word) 14 && list_all is_name_byte word

-- the name that the words of a line make a label: `label NAME`
abbrev pub label_in : List (List ℕ) → Option (List ℕ)
label_in (word ∷ name ∷ []) = if bytes_eq word (codes "label") && is_name name then Some name
    else None
label_in _ = None

-- how many lines that do something there are up to the end of this one; a bad line counts as one
abbrev pub place_after : ℕ → Option (List (List ℕ)) → ℕ
place_after place (Some []) = place
place_after place (Some (word ∷ words)) = place + 1
place_after place None = place + 1

-- the labels of lines with their places, given how many lines that do something lie before
abbrev pub labels_from : ℕ → List (List ℕ) → List (List ℕ × ℕ)
labels_from place [] = []
labels_from place (text ∷ texts) = cons_option
    (option_map (λ name. (name, place)) (option_and_then label_in (words_of text)))
    (labels_from (place_after place (words_of text)) texts)

-- the place of the first label of this name
abbrev pub place_of : List ℕ → List (List ℕ × ℕ) → Option ℕ
place_of name [] = None
place_of name (label ∷ labels) = if bytes_eq label.0 name then Some label.1
    else place_of name labels
