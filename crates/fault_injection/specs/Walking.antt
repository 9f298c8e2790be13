-- Internal: no contract of the headline or of a command stands on it.
-- The places that are still to come while the code walks a history.
use Rattle.std.specs.Prelude.{ℕ, List, [], ◌∷◌, ◌++◌, if◌then◌else◌, Option, Some, None}
use Rattle.posix_terms.specs.declared.transcript.HistoryRow.{HistoryRow}
use Rattle.fault_injection.specs.Places.{places_from, takes_more}
use Rattle.fault_injection.specs.declared.places.Place.{Place}

-- those of a thread at these later turns, where the call that it is in has taken outcomes, of which
-- the last has this place
abbrev pub places_left :
    ℕ → ℕ → Option Place → List HistoryRow → List HistoryRow → List Place
places_left thread number None past later = places_from thread number past later
places_left thread number (Some place) past later =
    (if takes_more thread later then [] else place ∷ []) ++ places_from thread number past later
