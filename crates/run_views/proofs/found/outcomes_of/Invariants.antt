use Rattle.std.proofs.Common.{◌≡◌, ◌+◌, ◌≤◌, drop}
use Rattle.run_views.specs.Found.{outcomes_of}
use Rattle.run_views.proofs.found.outcomes_of.Given as goal

-- those so far, and those from here on
abbrev pub invariant-loop-row : goal.invariant-loop-row
invariant-loop-row l = record {
  all : l.count + outcomes_of l.thread (drop l.row-index l.rows) ≡ outcomes_of l.thread l.rows;
  few : l.count ≤ l.row-index;
}
