use Rattle.std.proofs.Common.{◌≡◌, List, [], sym, ap₂, subst}
use Rattle.std.specs.Coded.{×_prop, le_prop}
use Rattle.std.proofs.Math.Bool.{Bool-set}
use Rattle.posix_terms.specs.declared.step.Step.{Step}
use Rattle.lock_machine.specs.Rooms.{HasSpace}
use Rattle.call_turns.specs.Space.{Space, no_space}
use Rattle.lock_machine.specs.Starting.{first_item}
use Rattle.lock_machine.specs.declared.thread.Phase.TheVariants as phase
use Rattle.lock_machine.specs.declared.thread.Thread.{Thread}
use Rattle.lock_machine.proofs.start.first_thread.Goals as goal

-- a thread that works, with this room
abbrev working : List Step → (s : Space) → HasSpace phase.Working s → Thread
working asked s roomy = record { phase = phase.Working; asked = asked; came = 0; room = s; roomy = roomy }

first : (asked : List Step) (s : Space) (roomy : HasSpace phase.Working s) → asked ≡ [] → s ≡ no_space
    → working asked s roomy ≡ first_item
first asked s roomy none is =
    subst (λ (z : Space). (h : HasSpace phase.Working z) → working asked z h ≡ first_item) (sym is)
    (λ h. ap₂ (λ (l : List Step) (g : HasSpace phase.Working no_space). working l no_space g) none
    (×_prop le_prop (×_prop le_prop (Bool-set _ _)) h first_item.roomy)) roomy

pub returns : goal.returns
returns c = first c.in_ok-new.field-0 c.new-2.result c.result-2-1.given.0 c.in_ok-new.ensures c.new-2.ensures
