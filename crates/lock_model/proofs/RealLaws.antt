-- The laws for the real calls, as instances.
use Rattle.std.proofs.Common.{refl}
use Rattle.sequential_object.specs.Locked.{LeavesAlike, OutsideLocks}
use Rattle.sequential_object.specs.Step.{nothing_carried}
use Rattle.posix_terms.specs.declared.limits.TheConstants.Limits as limit
use Rattle.sequential_object.specs.Numbers.{first_world}
use Rattle.lock_model.specs.RealLaws.{RealLegal, RealLegalOfArisen, RealPrefix, real_run, real_setup}
use Rattle.lock_model.proofs.Arising.{arises_run, legal_arisen}
use Rattle.lock_model.proofs.Begins.{prefix_law}
use Rattle.lock_model.proofs.RealLegal.{legal_shown}

pub real_legal_arisen : OutsideLocks → LeavesAlike → RealLegalOfArisen
real_legal_arisen locks alike settings supply threads s arises =
    legal_shown locks alike settings 0 first_world (λ i. nothing_carried) (λ i. nothing_carried) s.rows (λ i. refl)
    (legal_arisen (real_setup settings supply) threads limit.OBJECTS first_world s arises)

pub real_legal : OutsideLocks → LeavesAlike → RealLegal
real_legal locks alike settings supply threads events =
    real_legal_arisen locks alike settings supply threads (real_run settings supply threads events)
    (arises_run (real_setup settings supply) threads limit.OBJECTS first_world events)

pub real_prefix : RealPrefix
real_prefix settings supply threads events last h = prefix_law (real_setup settings supply) threads limit.OBJECTS
    first_world events last h
