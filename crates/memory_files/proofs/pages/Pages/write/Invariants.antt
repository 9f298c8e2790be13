use Rattle.std.proofs.Common.{length, ◌-◌, ◌≡◌, ℕ, ◌+◌, ◌*◌, ◌<◌, ◌≤◌, None, slice_index, slice_index_or}
use Rattle.memory_files.specs.Pages.{byte_at}
use Rattle.memory_files.proofs.pages.Pages.write.Given as goal

abbrev pub invariant-loop-done : goal.invariant-loop-done
invariant-loop-done l = record {
  within : l.done ≤ length l.bytes;
  before : (k : ℕ) → k < l.start → byte_at l.self k ≡ byte_at l.initial.self k;
  bytes : (k : ℕ) → k < l.done → byte_at l.self (l.start + k) ≡ slice_index l.bytes k;
  behind : (k : ℕ) → l.start + l.done ≤ k → byte_at l.self k ≡ byte_at l.initial.self k;
  places_before : (place : ℕ) → 512 * place + 512 ≤ l.start
      → slice_index_or l.self place None ≡ slice_index_or l.initial.self place None;
  places_behind : (place : ℕ) → l.start + length l.bytes ≤ 512 * place
      → slice_index_or l.self place None ≡ slice_index_or l.initial.self place None;
}

abbrev pub decreases-loop-done : goal.decreases-loop-done
decreases-loop-done l = length l.bytes - l.done
