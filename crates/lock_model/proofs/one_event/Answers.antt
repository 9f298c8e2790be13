use Rattle.lock_model.proofs.EventLaws.{event_laws}
use Rattle.lock_model.proofs.one_event.Goals as goal

pub returns : goal.returns
returns c = event_laws
