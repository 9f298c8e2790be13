use Rattle.std.proofs.Common.{Bool, is_some, sym, subst}
use Rattle.lock_machine.specs.Shows as shows
use Rattle.call_machine.specs.Playing.{Attempted, played_of}
use Rattle.call_machine.proofs.Coming.{tried_told}
use Rattle.call_machine.proofs.Playing.{attempts_made}
use Rattle.call_machine.proofs.driver.Driver.attempt.Goals as goal

pub returns-clause-event : goal.returns-clause-event
returns-clause-event c =
    let p = played_of c.args.self.now in
    let w = c.attempt.new.self in
    let o = c.in_ok-told.field-0 in
    let P : Bool → Type 0 = λ made. shows.Attempts made c.args.i p.whole w in
    let Q : Bool → Type 0 = λ made. Attempted made c.args.i p (record p { whole = w }) in
    subst Q (sym c.is_some.ensures)
    (attempts_made c.laws.ensures.events p c.args.i w (is_some o) c.requires.inside
    (tried_told c.attempt.result o P c.attempt.ensures.event c.in_ok-told.ensures))
