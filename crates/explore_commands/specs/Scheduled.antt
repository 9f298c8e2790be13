-- Believed: a contract of a command stands on it.
-- The delays that `detio explore` runs scripts with, or why there are none.
use Rattle.std.specs.Prelude.{◌≡◌, ◌⊎◌, ℕ, nat_le, Bool, true, false, List, codes}
use Rattle.std.specs.Fmt.{decimal}
use Rattle.posix_terms.specs.declared.limits.TheConstants.Limits as limit
use Rattle.command_texts.specs.Printing.{fault_printed}
use Rattle.command_texts.specs.Transcripts.{◌+++◌}
use Rattle.command_texts.specs.declared.printed.Printed.{Printed}
use Rattle.explore_texts.specs.Schedules.{IsTooMany, is_there, schedule_for}
use Rattle.explore_texts.specs.declared.schedule.Schedule.{Schedule}
use Rattle.explore_commands.specs.declared.explore.ExploreOptions.{ExploreOptions}
use Rattle.explore_commands.specs.declared.scheduling.ToSchedule.{ToSchedule}
use Rattle.explore_commands.specs.declared.scheduling.ToSchedule.TheVariants as delays

-- ## Faults

-- the reach is not in its range
abbrev pub bad_reach : Printed
bad_reach = fault_printed 2 (codes "the reach is 0 to 1000000\n")

-- the number of the lists of delays has no room
abbrev pub too_many : Printed
too_many = fault_printed 2 (codes "too many lists of delays: a smaller reach has fewer\n")

-- the first case is past the last list
abbrev pub no_list : ℕ → Printed
no_list case = fault_printed 2 (codes "there is no list " +++ decimal case +++ codes "\n")

-- ## The delays

-- there are delays: those of this schedule
abbrev pub IsScheduled : Schedule → ToSchedule → Type 0
IsScheduled schedule (delays.Delays given) = given ≡ schedule
IsScheduled schedule (delays.Fault fault) = ⊥

-- there are none, and this is printed
abbrev pub IsNotScheduled : Printed → ToSchedule → Type 0
IsNotScheduled printed (delays.Delays given) = ⊥
IsNotScheduled printed (delays.Fault fault) = fault ≡ printed

-- whether the first case is there or not
abbrev pub FirstScheduled : Bool → ℕ → Schedule → ToSchedule → Type 0
FirstScheduled false first schedule made = IsNotScheduled (no_list first) made
FirstScheduled true first schedule made = IsScheduled schedule made

-- whether there are too many lists or not
abbrev pub ListsScheduled : ℕ → Schedule → ToSchedule → Type 0
ListsScheduled first schedule made =
    (IsTooMany schedule × IsNotScheduled too_many made)
    ⊎ FirstScheduled (is_there schedule first) first schedule made

-- whether the reach is in its range or not
abbrev pub ReachScheduled : Bool → ExploreOptions → List (List ℕ) → ToSchedule → Type 0
ReachScheduled false options texts made = IsNotScheduled bad_reach made
ReachScheduled true options texts made =
    ListsScheduled options.first (schedule_for options.schedules options.reach texts) made

-- The delays of these texts. Of the faults the reach comes first, then too many lists, then a first
-- case that is not there
abbrev pub AreScheduled : ExploreOptions → List (List ℕ) → ToSchedule → Type 0
AreScheduled options texts made =
    ReachScheduled (nat_le options.reach limit.WORK) options texts made
