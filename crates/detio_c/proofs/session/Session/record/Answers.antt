use Rattle.detio_c.proofs.session.Session.record.Goals as goal
use Rattle.detio_c.proofs.Refusing.{filled}

pub returns-in-Err-clause-full : goal.returns-in-Err-clause-full
returns-in-Err-clause-full c = filled _ _ _ c.in-Err.refused.cause _ _ _ _ c.in_ok-outcome.ensures.ok c.in-Some.is
    c.fault_of.ensures c.in-Err.ensures.event.1
