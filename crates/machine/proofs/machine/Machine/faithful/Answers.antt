use Rattle.std.proofs.Common.{subst}
use Rattle.machine.specs.Faithful.{IsFaithful}
use Rattle.machine.specs.Shown.{Shown}
use Rattle.machine.proofs.Beginning.{begins_plain}
use Rattle.machine.proofs.Covering.{covered, legal, rises}
use Rattle.machine.proofs.machine.Machine.faithful.Goals as goal

pub returns : goal.returns
returns g c =
    let m = c.self.inside in
    let D = g.row.D.Denot in
    let x : Shown D = record { whole = m.calls; log = m.log; doors = m.doors.items; stop = m.stop } in
    let h = c.self.invariant in
    let came = c.outcomes_that_came.ensures.rows in
    subst (IsFaithful D) c.self.view_is (record {
      kept = h;
      legal = legal D x h c.real_runs.ensures.arisen;
      rising = rises D x h c.arising_states.ensures.rising;
      covered = covered D x h came c.arising_states.ensures.dated c.arising_states.ensures.legal
          c.requests_asked.ensures.kinds;
      begins = begins_plain D x h c.prefix_law.ensures.under_followed c.arising_states.ensures.follows
          c.plain_run_ends.ensures.ends c.plain_run_ends.ensures.own_finite;
    })
