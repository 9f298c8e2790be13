use Rattle.std.proofs.Common.{arith, ◌∙◌, ap, sym}
use Rattle.std.specs.Option.{option_copied}
use Rattle.thread_scripts.proofs.Executing.{end_there, more_there, performed_script, step_there}
use Rattle.thread_scripts.proofs.actor.ScriptState.run.Goals as goal

pub returns-in_default-clause-ok : goal.returns-in_default-clause-ok
returns-in_default-clause-ok c =
    end_there _ _ _ c.loop-self.invariant.0 (sym c.line.ensures.line ∙ ap option_copied c.in_default.is)

pub returns-in-Some-perform-clause-ok : goal.returns-in-Some-perform-clause-ok
returns-in-Some-perform-clause-ok c = step_there _ _ _ _ c.in-Some.line.now c.in_ok-action.action _
    c.loop-self.invariant.0 (omega arith) (sym c.line.ensures.line ∙ ap option_copied c.in-Some.is)
    c.in_ok-action.ensures (sym c.perform.ensures.step ∙ c.in-Some-perform.is) c.perform.ensures.state

pub loop-self-preserved : goal.loop-self-preserved
loop-self-preserved c = (
  more_there _ _ _ _ c.in-Some.line.now c.in_ok-action.action c.loop-self.invariant.0 (omega arith)
      (sym c.line.ensures.line ∙ ap option_copied c.in-Some.is) c.in_ok-action.ensures (sym c.perform.ensures.step
      ∙ c.in_default-perform.is) c.perform.ensures.state,
  rw c.perform.ensures.state (performed_script c.in_ok-action.action _ ∙ c.loop-self.invariant.1),
  c.perform.ensures.replaced ∙ c.loop-self.invariant.2,
)
