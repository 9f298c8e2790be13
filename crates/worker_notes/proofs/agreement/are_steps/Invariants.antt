use Rattle.std.proofs.Common.{◌≡◌, drop}
use Rattle.worker_notes.specs.Agrees.{steps_noted}
use Rattle.worker_notes.proofs.agreement.are_steps.Given as goal

abbrev pub invariant-loop-note : goal.invariant-loop-note
invariant-loop-note l = record {
  on : steps_noted (drop l.note-index l.notes) ≡ l.rest → steps_noted l.notes ≡ l.asked;
  back : steps_noted l.notes ≡ l.asked → steps_noted (drop l.note-index l.notes) ≡ l.rest;
}
