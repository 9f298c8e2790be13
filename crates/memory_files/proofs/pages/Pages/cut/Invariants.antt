use Rattle.std.proofs.Common.{◌≡◌, ℕ, ◌*◌, ◌/◌, ◌<◌, ◌≤◌, None, slice_index_or}
use Rattle.memory_files.specs.Pages.{byte_at, EmptyBehind}
use Rattle.memory_files.proofs.pages.Pages.cut.Given as goal

abbrev pub invariant-loop-place : goal.invariant-loop-place
invariant-loop-place l = record {
  kept : (k : ℕ) → k < l.size → byte_at l.self k ≡ byte_at l.fn.self k;
  zero : (k : ℕ) → l.size ≤ k → k / 512 < l.place → byte_at l.self k ≡ 0;
  given : (other : ℕ) → l.size ≤ 512 * other → other < l.place → slice_index_or l.self other None ≡ None;
  empty : EmptyBehind l.self l.end;
}
