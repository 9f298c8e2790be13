use Rattle.std.proofs.Common.{take}
use Rattle.script_checks.specs.Sharing.{AddsOf}
use Rattle.script_checks.proofs.descriptors.add_lines.Given as goal

abbrev pub invariant-loop-i : goal.invariant-loop-i
invariant-loop-i l = AddsOf l.scripts (take l.i l.lines) l.initial.shared.items l.shared.items
