use Rattle.std.proofs.Common.{length, ◌-◌, ◌≡◌, ℕ, ◌+◌, ◌<◌, ◌≤◌, slice_index}
use Rattle.memory_files.specs.Pages.{byte_at}
use Rattle.memory_files.proofs.pages.Pages.read.Given as goal

abbrev pub invariant-loop-done : goal.invariant-loop-done
invariant-loop-done l = (l.done ≤ length l.into)
    × ((k : ℕ) → k < l.done → slice_index l.into k ≡ byte_at l.self (l.start + k))

abbrev pub decreases-loop-done : goal.decreases-loop-done
decreases-loop-done l = length l.initial.into - l.done
