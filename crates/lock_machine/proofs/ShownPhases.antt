-- Each thread is in the phase that it has in the state that the machine shows.
use Rattle.std.proofs.Common.{◌≡◌, ℕ, List, Option, Some, None, refl, sym, ap, ◌∙◌}
use Rattle.lock_machine.specs.Conditions.{Conditions}
use Rattle.lock_machine.specs.Phases.{PhasesShown, ShowsOuting, ShowsPhase}
use Rattle.lock_machine.specs.Shows.{IsOut, PhaseShows}
use Rattle.lock_machine.specs.Threads.{Thread}
use Rattle.lock_machine.specs.Whole.{thread_at}
use Rattle.lock_machine.specs.declared.thread.Outing.{Outing}
use Rattle.lock_machine.specs.declared.thread.Phase.{Phase}
use Rattle.lock_machine.specs.declared.thread.Phase.TheVariants as phase
use Rattle.lock_model.specs.CallTable.Way.{Inside}
use Rattle.lock_model.specs.Held.{object_in}
use Rattle.lock_model.specs.RealCalls.{plan_of}
use Rattle.lock_model.specs.State as lock
use Rattle.lock_model.specs.State.{Job, Row, thread_of}

outing_shown : (terms : Conditions) (i : ℕ) (rows : List Row) (o : Outing) (job : Job) → IsOut terms i rows o job
    → ShowsOuting o job
outing_shown terms i rows o job h = record {
  object = h.object_is ∙ ap object_in (sym h.plan);
  carried = sym h.carried;
  request = h.asks_is;
}

object_of_plan : (object : Option ℕ) → object ≡ object_in (plan_of Inside object)
object_of_plan None = refl
object_of_plan (Some n) = refl

phase_shown : (terms : Conditions) (i : ℕ) (rows : List Row) (t : Thread) (u : lock.Thread) (p : Phase)
    → PhaseShows terms i rows t u p → ShowsPhase p u.phase
phase_shown terms i rows t u phase.Working h = h
phase_shown terms i rows t u (phase.WantsTable call carried) h = h
phase_shown terms i rows t u (phase.WantsObject call carried clock object) h = (h.0, h.1.0)
phase_shown terms i rows t u (phase.Granted place object ends) h =
    (h.0, (h.1.0, object_of_plan object ∙ ap object_in (sym h.1.1.plan)))
phase_shown terms i rows t u (phase.ToOutside o) h = (h.0, (h.1.0, outing_shown terms i rows o h.0 h.1.1))
phase_shown terms i rows t u (phase.Outside o) h = (h.0, (h.1.0, outing_shown terms i rows o h.0 h.1.1))
phase_shown terms i rows t u (phase.Recorded o) h = (h.0, (h.1.0, outing_shown terms i rows o h.0 h.1.1))
phase_shown terms i rows t u (phase.Blocked carried) h = h
phase_shown terms i rows t u phase.Ended h = h

pub phases_shown : PhasesShown
phases_shown terms w s h i = phase_shown terms i s.rows (thread_at w i) (thread_of s i) (thread_at w i).phase
    (h.threads i).phase
