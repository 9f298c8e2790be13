use Rattle.std.proofs.Common.{◌≤◌, sym, subst}
use Rattle.machine.specs.Shown.{Shown}
use Rattle.machine.proofs.Recording.{some_threads}
use Rattle.machine.proofs.machine.Machine.len.Goals as goal

pub returns-clause-some : goal.returns-clause-some
returns-clause-some g c =
    let m = c.self.inside in
    let D = g.row.D.Denot in
    let x : Shown D = record { whole = m.calls; log = m.log; doors = m.doors.items; stop = m.stop } in
    subst (λ n. 1 ≤ n) (sym c.len.ensures.count) (some_threads D x c.self.invariant)
