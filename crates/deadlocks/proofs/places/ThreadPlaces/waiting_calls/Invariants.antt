use Rattle.std.proofs.Common.{◌≡◌, ◌++◌, List, drop, length}
use Rattle.posix_terms.specs.declared.transcript.HistoryRow.{HistoryRow}
use Rattle.deadlocks.specs.Blocked.{waiting_calls}
use Rattle.deadlocks.specs.Places.{ArePlaces}
use Rattle.deadlocks.proofs.places.ThreadPlaces.waiting_calls.Given as goal

abbrev pub invariant-loop-thread : goal.invariant-loop-thread
invariant-loop-thread l =
    (past later : List HistoryRow) → ArePlaces (length l.ended) past later l.self.threads.items
    → l.calls.items ++ waiting_calls l.thread (drop l.thread l.ended) past later
    ≡ waiting_calls 0 l.ended past later
