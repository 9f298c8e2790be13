-- Internal: no contract of the headline or of a command stands on it.
-- What is found of cases is added to what was found before.
use Rattle.std.specs.Prelude.{◌≡◌, List, [], ◌∷◌, ◌++◌, Result, Ok, Err}
use Rattle.std.specs.declared.alloc.AllocError.{AllocError}
use Rattle.explore_texts.specs.declared.finding.Finding.{Finding}

-- all of these were found, and are added
abbrev pub ArePushed :
    List (Result Finding AllocError) → List Finding → List Finding → Type 0
ArePushed [] old new = new ≡ old
ArePushed (Ok finding ∷ found) old new = ArePushed found (old ++ finding ∷ []) new
ArePushed (Err none ∷ found) old new = ⊥
