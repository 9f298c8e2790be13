use Rattle.std.proofs.Common.{◌≡◌, ◌-◌, length}
use Rattle.descriptor_table.specs.Table.{lowest_from}
use Rattle.descriptor_table.proofs.slots.lowest_from.Given as goal

-- there is something at all that were passed
abbrev pub invariant-loop-i : goal.invariant-loop-i
invariant-loop-i over l = lowest_from l.slots (length l.slots - l.i) l.i
    ≡ lowest_from l.slots (length l.slots - l.from) l.from
