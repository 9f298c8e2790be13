use Rattle.std.proofs.Common.{None, sym, subst}
use Rattle.machine.specs.Kept.{IsKept}
use Rattle.machine.proofs.Starting.{first_kept}
use Rattle.machine.proofs.machine.Machine.new.Goals as goal

pub invariant_of-result : goal.invariant_of-result
invariant_of-result g c =
    let x = c.in-Ok-Ok.ensures in
    let y = c.in-Ok-Ok.ensures' in
    subst (IsKept g.row.D.Denot) (λ k. record {
      whole = sym x k;
      log = sym c.requires.begun k;
      doors = sym y k;
      stop = None;
    })
    (first_kept g.row.D.Denot c.args.settings c.args.threads c.arising_states.ensures.at_start
    c.machines_show.ensures.start c.requires.range)
