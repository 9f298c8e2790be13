-- Believed: a contract of a command stands on it.
-- What is kept of scripts, and what a step takes away of it.
use Rattle.std.specs.Prelude.{ℕ, ◌-◌, ◌/◌, Bool, false, List, [], ◌∷◌, ◌++◌, take, count_by}
use Rattle.std.specs.Prelude.{nat_lt, Option, Some, None, is_some, unwrap_or, option_map}
use Rattle.std.specs.Prelude.{slice_index_or, slice_set, if◌then◌else◌}
use Rattle.std.specs.List.{cons_option}
use Rattle.posix_terms.specs.declared.outcome.Given.{Given}
use Rattle.thread_scripts.specs.Words.{lines_of}
use Rattle.minimiser.specs.Parts.{is_there, kept_line, units_of}
use Rattle.minimiser.specs.declared.part.Part.{Part}
use Rattle.minimiser.specs.declared.part.Part.TheVariants as part
use Rattle.minimiser.specs.declared.step.Removal.{Removal}
use Rattle.minimiser.specs.declared.step.Removal.TheVariants as step
use Rattle.minimiser.specs.declared.target.Place.{Place}
use Rattle.minimiser.specs.declared.target.Target.{Target}

-- of each thread that was given, what is kept of each of its lines; None where the thread is not
abbrev pub Kept : Type 0
Kept = List (Option (List Part))

-- ## What is run

-- those of these lines that are kept
abbrev pub kept_lines : List Part → List (List ℕ) → List ℕ
kept_lines [] lines = []
kept_lines (part ∷ kept) [] = []
kept_lines (part ∷ kept) (line ∷ lines) = kept_line part line ++ kept_lines kept lines

-- the texts of the threads that are kept, in order
abbrev pub kept_texts : Kept → List (List ℕ) → List (List ℕ)
kept_texts [] texts = []
kept_texts (thread ∷ kept) [] = []
kept_texts (thread ∷ kept) (text ∷ texts) =
    cons_option (option_map (λ lines. kept_lines lines (lines_of text)) thread)
    (kept_texts kept texts)

-- and what comes for them from outside
abbrev pub kept_outcomes : Kept → List (List Given) → List (List Given)
kept_outcomes [] outcomes = []
kept_outcomes (thread ∷ kept) [] = []
kept_outcomes (thread ∷ kept) (given ∷ outcomes) =
    cons_option (option_map (λ lines. given) thread) (kept_outcomes kept outcomes)

-- ## Where a line stands in it

-- what is kept of a thread
abbrev pub kept_of : Kept → ℕ → Option (List Part)
kept_of kept thread = slice_index_or kept thread None

-- how many of these lines are kept
abbrev pub count_kept : List Part → ℕ
count_kept lines = count_by is_there lines

-- the number that this line has among the lines that are kept, if it is one; both from 1
abbrev pub line_now : List Part → ℕ → Option ℕ
line_now lines line =
    if is_there (slice_index_or lines (line - 1) part.Gone)
    then Some (count_kept (take line lines)) else None

-- a place in this thread, if its lines are kept
abbrev pub with_lines : ℕ → Option ℕ → Option ℕ → Option Place
with_lines thread (Some call) (Some line) =
    Some (record { thread = thread; call = call; line = line })
with_lines thread _ _ = None

-- a place with the numbers that its lines have now, where the lines of its thread are these
abbrev pub place_among : ℕ → Place → Option (List Part) → Option Place
place_among thread place None = None
place_among thread place (Some lines) =
    with_lines thread (line_now lines place.call) (line_now lines place.line)

-- a place with the numbers that it has now, if its thread is kept and its lines are
abbrev pub place_now : Kept → Place → Option Place
place_now kept place =
    place_among (count_by is_some (take place.thread kept)) place (kept_of kept place.thread)

-- the failure as it is now, if its place is kept
abbrev pub target_now : Kept → Target → Option Target
target_now kept target =
    option_map (λ place. record target { place = place }) (place_now kept target.place)

-- ## Steps

-- what is kept of a line of a thread
abbrev pub part_at : Kept → ℕ → ℕ → Part
part_at kept thread line = slice_index_or (unwrap_or (kept_of kept thread) []) line part.Gone

-- and where that is another
abbrev pub with_part : Kept → ℕ → ℕ → Part → Kept
with_part kept thread line part =
    slice_set kept thread (option_map (λ lines. slice_set lines line part) (kept_of kept thread))

-- these are fewer units
abbrev pub is_fewer : ℕ → Option ℕ → Bool
is_fewer units None = false
is_fewer units (Some now) = nat_lt units now

-- what a step takes away is still there
abbrev pub is_kept : Kept → Removal → Bool
is_kept kept (step.Line thread line) = is_there (part_at kept thread line)
is_kept kept (step.Thread thread) = is_some (kept_of kept thread)
is_kept kept (step.Shorten thread line units) = is_fewer units (units_of (part_at kept thread line))

-- what is kept after a step
abbrev pub without : Kept → Removal → Kept
without kept (step.Line thread line) = with_part kept thread line part.Gone
without kept (step.Thread thread) = slice_set kept thread None
without kept (step.Shorten thread line units) = with_part kept thread line (part.Shorter units)

-- what is kept after a step, if that takes something away
abbrev pub after : Kept → Removal → Kept
after kept step = if is_kept kept step then without kept step else kept

-- and after each of these
abbrev pub after_all : Kept → List Removal → Kept
after_all kept [] = kept
after_all kept (step ∷ steps) = after_all (after kept step) steps

-- the step that leaves half of the units of this line, if it is a delay
abbrev pub half_of : Kept → Removal → Option Removal
half_of kept (step.Line thread line) =
    option_map (λ units. step.Shorten thread line (units / 2)) (units_of (part_at kept thread line))
half_of kept _ = None
