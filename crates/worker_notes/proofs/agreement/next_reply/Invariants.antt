use Rattle.std.proofs.Common.{◌≡◌, length}
use Rattle.worker_notes.specs.Agrees.{replies_noted}
use Rattle.worker_notes.proofs.agreement.next_reply.Given as goal

abbrev pub invariant-loop-note : goal.invariant-loop-note
invariant-loop-note l = replies_noted l.notes ≡ replies_noted l.rest

abbrev pub decreases-loop-note : goal.decreases-loop-note
decreases-loop-note l = length l.rest
