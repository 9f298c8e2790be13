use Rattle.std.proofs.Common.{◌≡◌, true, length, slice_get, Some}
use Rattle.script_checks.proofs.Marking.{Sound, without_mark}
use Rattle.script_checks.proofs.reaching.reached.Given as goal

abbrev pub invariant-loop-next : goal.invariant-loop-next
invariant-loop-next l =
    (length l.marks.items ≡ length l.lines) × (slice_get l.marks.items 0 ≡ Some true)
    × Sound l.lines l.marks.items

abbrev pub decreases-loop-next : goal.decreases-loop-next
decreases-loop-next l = without_mark l.marks.items
