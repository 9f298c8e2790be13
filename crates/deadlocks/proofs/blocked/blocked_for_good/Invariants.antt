use Rattle.std.proofs.Common.{◌≡◌, true, [], List, drop, length}
use Rattle.posix_terms.specs.declared.transcript.HistoryRow.{HistoryRow}
use Rattle.deadlocks.specs.Blocked.{are_within, blocked_after}
use Rattle.deadlocks.specs.Places.{ArePlaces}
use Rattle.deadlocks.proofs.blocked.blocked_for_good.Given as goal

-- the places are those between the turns that are past and those that are left, and no moment was
-- one at which all calls are blocked for good
abbrev pub invariant-loop-row : goal.invariant-loop-row
invariant-loop-row l = record {
  past : List HistoryRow;
  count : length past ≡ l.row-index;
  within : are_within (length l.ended) (drop l.row-index l.history) ≡ true;
  places : ArePlaces (length l.ended) past (drop l.row-index l.history) l.places.threads.items;
  whole : blocked_after l.ended past (drop l.row-index l.history) ≡ blocked_after l.ended [] l.history;
}
