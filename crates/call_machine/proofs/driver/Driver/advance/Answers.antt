use Rattle.std.proofs.Common.{◌≡◌, Bool, true, is_some, sym, refl, ap, ◌∙◌, subst}
use Rattle.lock_machine.specs.Refusals.{goes_outside, is_blocked, phase_at}
use Rattle.lock_machine.specs.Shows.{AdvancesQuietly}
use Rattle.lock_machine.specs.declared.outside.Progress.{Progress}
use Rattle.lock_machine.specs.declared.thread.Phase.{Phase}
use Rattle.lock_machine.specs.declared.thread.Phase.TheVariants as phase
use Rattle.call_machine.specs.Playing.{Makes, played_of}
use Rattle.call_machine.proofs.Coming.{comes_told}
use Rattle.call_machine.proofs.Playing.{idle_made, is_idle, moves_made}
use Rattle.call_machine.proofs.Seats.{idle_else}
use Rattle.call_machine.proofs.driver.Driver.advance.Goals as goal

pub returns-in_ok-begun-in-ToOutside-clause-event : goal.returns-in_ok-begun-in-ToOutside-clause-event
returns-in_ok-begun-in-ToOutside-clause-event c =
    let p = played_of c.args.self.now in
    let i = c.args.i in
    let w = c.begin_outside.new.self in
    let q : Phase = phase.ToOutside c.in-ToOutside.field-0 in
    let is : phase_at p.whole i ≡ q = sym c.phase.ensures ∙ c.in-ToOutside.is in
    let R : Bool → Type 0 = λ b. AdvancesQuietly b i p.whole w in
    let event = comes_told (goes_outside (phase_at p.whole i)) c.begin_outside.result c.in_ok-begun-in-ToOutside.begun
    p.whole w (λ y. R (is_some y)) (ap goes_outside is) c.begin_outside.ensures.event
    c.in_ok-begun-in-ToOutside.ensures in
    let Q : Progress → Type 0 = λ b. Makes b i p (record p { whole = w }) in
    subst Q (sym c.progress.ensures)
    (moves_made c.laws.ensures.events p i w q c.is_some.result c.requires is refl refl
    (subst R (sym c.is_some.ensures) event))

pub returns-in_ok-wanted-in-Blocked-clause-event : goal.returns-in_ok-wanted-in-Blocked-clause-event
returns-in_ok-wanted-in-Blocked-clause-event c =
    let p = played_of c.args.self.now in
    let i = c.args.i in
    let w = c.again.new.self in
    let q : Phase = phase.Blocked c.in-Blocked.carried in
    let is : phase_at p.whole i ≡ q = sym c.phase.ensures ∙ c.in-Blocked.is in
    let R : Bool → Type 0 = λ b. AdvancesQuietly b i p.whole w in
    let event = comes_told (is_blocked (phase_at p.whole i)) c.again.result c.in_ok-wanted-in-Blocked.wanted p.whole w
    (λ y. R (is_some y)) (ap is_blocked is) c.again.ensures.event c.in_ok-wanted-in-Blocked.ensures in
    let Q : Progress → Type 0 = λ b. Makes b i p (record p { whole = w }) in
    subst Q (sym c.progress-in-Blocked.ensures)
    (moves_made c.laws.ensures.events p i w q c.is_some-in-Blocked.result c.requires is refl refl
    (subst R (sym c.is_some-in-Blocked.ensures) event))

pub returns-in_default-clause-event : goal.returns-in_default-clause-event
returns-in_default-clause-event c =
    let d = c.args.self.now in
    let i = c.args.i in
    let x = c.phase.result.now in
    let P : Phase → Type 0 = λ q. is_idle q ≡ true in
    idle_made c.laws.ensures.events (played_of d) i c.requires
    (subst P c.phase.ensures (idle_else x c.in_default.not-Working c.in_default.not-Granted c.in_default.not-ToOutside
    c.in_default.not-Outside c.in_default.not-Recorded c.in_default.not-Blocked))
