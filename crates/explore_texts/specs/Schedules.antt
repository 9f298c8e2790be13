-- Believed: a contract of a command stands on it.
-- The delays that `detio explore` runs scripts with: those of seeds, or lists of them.
use Rattle.std.specs.Prelude.{ℕ, ◌-◌, ◌≤◌, ◌^◌, nat_lt, min, Bool, true, List, [], Option, Some}
use Rattle.std.specs.Prelude.{codes, length}
use Rattle.std.specs.Fmt.{decimal}
use Rattle.std.specs.List.{flat_map}
use Rattle.explorer.specs.Delays.{chance_delay}
use Rattle.explorer.specs.Lists.{delay_in, list_of, lists_of, places_of}
use Rattle.explorer.specs.declared.delay_list.Delay.{Delay}
use Rattle.explorer.specs.declared.groups.Group.{Group}
use Rattle.command_texts.specs.Transcripts.{◌+++◌}
use Rattle.explore_texts.specs.declared.schedule.Schedule.{Schedule}
use Rattle.explore_texts.specs.declared.schedule.Schedule.TheVariants as schedule
use Rattle.explore_texts.specs.declared.schedule.Schedules.{Schedules}
use Rattle.explore_texts.specs.declared.schedule.Schedules.TheVariants as schedules

-- ## The cases

-- the schedules of texts: of seeds, or of lists of at most one delay or two
abbrev pub schedule_for : Schedules → ℕ → List (List ℕ) → Schedule
schedule_for schedules.Seeds reach texts = schedule.Seeds (record { reach = reach })
schedule_for (schedules.Lists two) reach texts =
    schedule.Lists (record { places = places_of 0 texts; reach = reach; two = two })

-- a `u64` does not hold the number of the lists
abbrev pub IsTooMany : Schedule → Type 0
IsTooMany (schedule.Seeds chance) = ⊥
IsTooMany (schedule.Lists bounds) = 2 ^ 64 ≤ length (lists_of bounds)

-- by how much a case delays the call on a line of a thread, if it does
abbrev pub delays_by : Schedule → ℕ → ℕ → ℕ → Option ℕ
delays_by (schedule.Seeds chance) seed thread line =
    Some (chance_delay chance.reach seed thread line)
delays_by (schedule.Lists bounds) case thread line = delay_in (list_of bounds case) thread line

-- there is a case of this number: each seed is one, and each list
abbrev pub is_there : Schedule → ℕ → Bool
is_there (schedule.Seeds chance) seed = true
is_there (schedule.Lists bounds) case = nat_lt case (length (lists_of bounds))

-- the case after the last that is asked for and is there
abbrev pub end_by : Schedule → ℕ → ℕ
end_by (schedule.Seeds chance) end = end
end_by (schedule.Lists bounds) end = min end (length (lists_of bounds))

-- ## What is printed of them

-- the delays of a list: thread, line and units of each
abbrev pub delay_text : Delay → List ℕ
delay_text delay =
    codes "delay " +++ decimal delay.place.thread +++ codes " " +++ decimal delay.place.line
    +++ codes " " +++ decimal delay.units +++ codes " "

-- the first case of a group
abbrev pub case_words : Schedule → ℕ → List ℕ
case_words (schedule.Seeds chance) seed = codes "seed " +++ decimal seed +++ codes " "
case_words (schedule.Lists bounds) case =
    codes "list " +++ decimal case +++ codes " " +++ flat_map delay_text (list_of bounds case)

-- that, and the number of its runs
unfoldable pub front_text : Schedule → Group → List ℕ
front_text schedule group =
    case_words schedule group.first +++ codes "runs " +++ decimal group.runs +++ codes " "

-- how many lists were not run, where so many were
abbrev pub left_text : Schedule → ℕ → List ℕ
left_text (schedule.Seeds chance) runs = []
left_text (schedule.Lists bounds) runs =
    codes " left out " +++ decimal (length (lists_of bounds) - runs)
