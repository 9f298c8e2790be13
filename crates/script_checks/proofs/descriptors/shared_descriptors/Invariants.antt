use Rattle.std.proofs.Common.{◌≡◌, ◌<◌, ℕ, ℤ, true, slice_get, Some, List}
use Rattle.std.specs.List.{list_any}
use Rattle.thread_scripts.specs.declared.line.Line.{Line}
use Rattle.script_checks.specs.Sharing.{AreSharedOnce, IsToldIfShared, names}
use Rattle.script_checks.proofs.descriptors.shared_descriptors.Given as goal

-- what the scripts so far name is there, if it is shared
abbrev pub invariant-loop-i : goal.invariant-loop-i
invariant-loop-i l = AreSharedOnce l.scripts l.shared.items
    × ((k : ℕ) (script : List Line) (n : ℤ) → k < l.i → slice_get l.scripts k ≡ Some script
    → list_any (names n) script ≡ true → IsToldIfShared l.scripts l.shared.items n)
