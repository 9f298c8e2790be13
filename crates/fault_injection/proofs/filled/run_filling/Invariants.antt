use Rattle.std.proofs.Common.{◌≡◌, ◌-◌, ◌≤◌, length}
use Rattle.call_machine.specs.declared.plain.Plain.{Plain}
use Rattle.explorer.specs.Subject.{Subject}
use Rattle.fault_injection.specs.Filled.{IsFilledRun}
use Rattle.fault_injection.proofs.filled.run_filling.Given as goal

-- what comes of the outcomes so far, with those that may still be filled in, comes of those that
-- were given
abbrev pub invariant-loop : goal.invariant-loop
invariant-loop l =
    let first : Subject =
    record { texts = l.texts; outcomes = l.fn.outcomes.items; settings = l.settings } in
    record {
      reaches : (plain : Plain)
          → IsFilledRun (l.most - l.counter) l.filling
          (record first { outcomes = l.outcomes.items }) plain
          → IsFilledRun l.most l.filling first plain;
      lists : length l.outcomes.items ≡ length first.outcomes;
      within : l.counter ≤ l.most;
    }
