use Rattle.std.proofs.Common.{◌≡◌, List, drop, length}
use Rattle.posix_terms.specs.declared.transcript.HistoryRow.{HistoryRow}
use Rattle.deadlocks.specs.Blocked.{are_stuck, waiting_calls}
use Rattle.deadlocks.specs.Places.{ArePlaces}
use Rattle.deadlocks.proofs.Moments.{stuck_from}
use Rattle.deadlocks.proofs.places.ThreadPlaces.are_stuck.Given as goal

abbrev pub invariant-loop-thread : goal.invariant-loop-thread
invariant-loop-thread l =
    (past later : List HistoryRow) → ArePlaces (length l.ended) past later l.self.threads.items
    → stuck_from l.live l.thread (drop l.thread l.ended) past later
    ≡ are_stuck (waiting_calls 0 l.ended past later) past
