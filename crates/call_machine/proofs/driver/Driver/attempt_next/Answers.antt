use Rattle.std.proofs.Common.{◌∙◌, Bool, sym, subst}
use Rattle.call_machine.specs.Playing.{Attempted, played_of}
use Rattle.call_machine.proofs.Skipping.{attempted_next, over_next, refused_next, with_whole}
use Rattle.call_machine.proofs.driver.Driver.attempt_next.Goals as goal

pub returns-in_default-clause-event : goal.returns-in_default-clause-event
returns-in_default-clause-event g c =
    let laws = c.laws.ensures in
    over_next laws.events laws.arises laws.holder laws.clocks (played_of c.args.self.now) c.skip_failures.new.self
    c.skip_failures.ensures.count c.skip_failures.ensures.event (sym c.skip_failures.ensures.holder
    ∙ c.in_default.is)

pub returns-then-branch-clause-event : goal.returns-then-branch-clause-event
returns-then-branch-clause-event g c =
    let laws = c.laws.ensures in
    let p = played_of c.args.self.now in
    let w = c.skip_failures.new.self in
    let new = played_of c.attempt.new.self in
    let Q : Bool → Type 0 = λ b. Attempted b c.in-Some.i (with_whole p w) new in
    attempted_next laws.events laws.arises laws.holder laws.clocks c.in-Some.i p new w c.args.self.now.seats
    c.in-Some.ensures.inside c.skip_failures.ensures.count c.skip_failures.ensures.event
    (sym c.skip_failures.ensures.holder ∙ c.in-Some.is) (subst Q c.if-branch.true c.in_ok-attempt.ensures.event)

pub returns-else-branch-clause-event : goal.returns-else-branch-clause-event
returns-else-branch-clause-event g c =
    let laws = c.laws.ensures in
    let p = played_of c.args.self.now in
    let w = c.skip_failures.new.self in
    let new = played_of c.attempt.new.self in
    let Q : Bool → Type 0 = λ b. Attempted b c.in-Some.i (with_whole p w) new in
    refused_next laws.events laws.arises laws.holder laws.clocks c.in-Some.i p new w c.skip_failures.ensures.count
    c.skip_failures.ensures.event (sym c.skip_failures.ensures.holder ∙ c.in-Some.is)
    (subst Q c.if-branch.false c.in_ok-attempt.ensures.event)
