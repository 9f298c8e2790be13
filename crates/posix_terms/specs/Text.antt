-- Believed: a contract of the headline stands on it.
-- Texts in pieces: the words of a line, the components of a path.
use Rattle.std.specs.Prelude.{ℕ, List, not, filter, length, ◌==◌}
use Rattle.std.specs.List.{slice_split}

-- the pieces of a text between the separators, without the empty ones
abbrev pub pieces_of : ℕ → List ℕ → List (List ℕ)
pieces_of separator text = filter (λ piece. not (length piece == 0))
    (slice_split (λ b. b == separator) text)
