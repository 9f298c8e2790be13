use Rattle.std.proofs.Common.{◌∙◌, subst}
use Rattle.call_machine.specs.Playing.{Makes, played_of}
use Rattle.lock_machine.specs.declared.outside.Progress.{Progress}
use Rattle.call_machine.proofs.Scheduling.{keeps_first, keeps_lower, keeps_more, went_apart, went_on}
use Rattle.call_machine.proofs.driver.Driver.go_on.Goals as goal

pub loop-watch-init : goal.loop-watch-init
loop-watch-init g c = keeps_first c.args.i (played_of c.args.self.now)

pub loop-watch-preserved : goal.loop-watch-preserved
loop-watch-preserved g c =
    let now = played_of c.loop-watch.self in
    let new = played_of c.advance.new.self in
    let Q : Progress → Type 0 = λ p. Makes p c.args.i now new in
    keeps_more c.laws.ensures.events c.laws.ensures.arises c.laws.ensures.least c.args.i (played_of c.args.self.now) now
    new c.requires.inside c.in_ok-advance.ensures.count c.loop-watch.invariant
    (subst Q c.in-Moves.is c.in_ok-advance.ensures.event)

pub loop-watch-smaller : goal.loop-watch-smaller
loop-watch-smaller g c =
    let now = played_of c.loop-watch.self in
    let new = played_of c.advance.new.self in
    let Q : Progress → Type 0 = λ p. Makes p c.args.i now new in
    let r = c.requires.rests in
    keeps_lower c.laws.ensures.events c.laws.ensures.arises c.laws.ensures.least r.0 r.1 c.args.i
    (played_of c.args.self.now) now new c.requires.inside r.2 r.3 c.loop-watch.invariant
    (subst Q c.in-Moves.is c.in_ok-advance.ensures.event)

pub returns-in-Diverges : goal.returns-in-Diverges
returns-in-Diverges g c =
    let now = played_of c.loop-watch.self in
    let new = played_of c.advance.new.self in
    let Q : Progress → Type 0 = λ p. Makes p c.args.i now new in
    record {
      event = went_apart c.laws.ensures.events c.laws.ensures.least c.args.i (played_of c.args.self.now) now new
          c.requires.inside c.loop-watch.invariant (subst Q c.in-Diverges.is c.in_ok-advance.ensures.event);
      count = c.in_ok-advance.ensures.count ∙ c.loop-watch.invariant.count;
    }

pub returns-in-Stays : goal.returns-in-Stays
returns-in-Stays g c =
    let now = played_of c.loop-watch.self in
    let new = played_of c.advance.new.self in
    let Q : Progress → Type 0 = λ p. Makes p c.args.i now new in
    record {
      event = went_on c.laws.ensures.events c.args.i (played_of c.args.self.now) now new c.loop-watch.invariant
          (subst Q c.in-Stays.is c.in_ok-advance.ensures.event);
      count = c.in_ok-advance.ensures.count ∙ c.loop-watch.invariant.count;
    }
