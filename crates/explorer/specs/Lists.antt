-- Believed: a contract of a command stands on it.
-- Delay bounding: all lists of at most one delay or two, each before a call line of some script.
use Rattle.std.specs.Prelude.{ℕ, ◌+◌, ◌==◌, ◌&&◌, Bool, List, [], ◌∷◌, ◌++◌, map, slice_index_or}
use Rattle.std.specs.Prelude.{Option, Some, None, if◌then◌else◌}
use Rattle.std.specs.List.{cons_option, flat_map, range_with_len}
use Rattle.thread_scripts.specs.Words.{lines_of}
use Rattle.expectations.specs.Expected.{is_call}
use Rattle.explorer.specs.declared.places.CallPlace.{CallPlace}
use Rattle.explorer.specs.declared.delay_list.Delay.{Delay}
use Rattle.explorer.specs.declared.delay_list.DelayList.{DelayList}

-- ## Where a call can be delayed

-- this line of a thread, if it is that of a call
abbrev pub place_at : ℕ → ℕ → List ℕ → List CallPlace
place_at thread line text =
    if is_call text then record { thread = thread; line = line } ∷ [] else []

-- those of these lines, with so many lines above the first
abbrev pub places_in : ℕ → ℕ → List (List ℕ) → List CallPlace
places_in thread above [] = []
places_in thread above (line ∷ lines) =
    place_at thread (above + 1) line ++ places_in thread (above + 1) lines

-- those of these texts, the first of which is that of this thread
abbrev pub places_of : ℕ → List (List ℕ) → List CallPlace
places_of thread [] = []
places_of thread (text ∷ texts) =
    places_in thread 0 (lines_of text) ++ places_of (thread + 1) texts

-- ## The lists

-- what lists are made of: the places, how long a delay is at most, and whether there are two in a
-- list
pub record Bounds : Type 0 where
  pub places : List CallPlace
  pub reach : ℕ
  pub two : Bool

-- the delay of so many units at a place
abbrev pub delay_of : CallPlace → ℕ → Delay
delay_of place units = record { place = place; units = units }

-- the delays at a place: of one unit, of two, up to the reach
abbrev pub delays_at : ℕ → CallPlace → List Delay
delays_at reach place = map (delay_of place) (range_with_len 1 reach)

-- the delays at all of these places, in order
abbrev pub delays_among : ℕ → List CallPlace → List Delay
delays_among reach places = flat_map (delays_at reach) places

-- the list of two delays
abbrev pub two_of : Delay → Delay → List Delay
two_of delay other = delay ∷ other ∷ []

-- the lists of two delays at two of these places, in order
abbrev pub pairs_among : ℕ → List CallPlace → List (List Delay)
pairs_among reach [] = []
pairs_among reach (place ∷ places) =
    flat_map (λ delay. map (two_of delay) (delays_among reach places)) (delays_at reach place)
    ++ pairs_among reach places

-- the list of one delay
abbrev pub one_of : Delay → List Delay
one_of delay = delay ∷ []

-- all lists, in order: that of no delay, those of one, those of two if there are any
abbrev pub lists_of : Bounds → List (List Delay)
lists_of bounds =
    [] ∷ map one_of (delays_among bounds.reach bounds.places)
    ++ (if bounds.two then pairs_among bounds.reach bounds.places else [])

-- ## The delays of a list

-- the delays that a list has, in order
abbrev pub delays_in : DelayList → List Delay
delays_in list = cons_option list.first (cons_option list.second [])

-- by how much a list delays the call on this line of a thread, if it does
abbrev pub delay_in : List Delay → ℕ → ℕ → Option ℕ
delay_in [] thread line = None
delay_in (delay ∷ delays) thread line =
    if delay.place.thread == thread && delay.place.line == line
    then Some delay.units
    else delay_in delays thread line

-- the list of a case; after the last list it is empty
abbrev pub list_of : Bounds → ℕ → List Delay
list_of bounds case = slice_index_or (lists_of bounds) case []
