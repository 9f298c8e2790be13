use Rattle.std.proofs.Common.{◌≡◌, false, refl, rules}
use Rattle.lock_machine.specs.Refusals.{phase_at, wants_lock, wants_object, wants_table}
use Rattle.lock_machine.proofs.AttemptEvents.{idle_event}
use Rattle.lock_machine.proofs.Refusing.{idles_by}
use Rattle.lock_machine.proofs.machine.LockMachine.attempt.Goals as goal

pub returns-in_default : goal.returns-in_default
returns-in_default c =
    let w = c.args.self.now in
    let i = c.args.i in
    let table : wants_table (phase_at w i) ≡ false = search rules in
    let object : wants_object (phase_at w i) ≡ false = search rules in
    let none : wants_lock (phase_at w i) ≡ false = search rules in
    record {
      event = idle_event w i (idles_by (phase_at w i) table object);
      refused = (none, refl);
      got = tt;
      memory = tt;
      count = refl;
      settings = refl;
    }
