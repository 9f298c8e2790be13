use Rattle.std.proofs.Common.{◌∙◌, Bool, List, not, is_some, sym, ap, subst}
use Rattle.thread_scripts.specs.Meaning.{next_of}
use Rattle.lock_machine.specs.Refusals.{phase_at, works}
use Rattle.lock_machine.specs.Shows.{AsksFor}
use Rattle.lock_machine.specs.declared.outside.Progress.{Progress}
use Rattle.call_machine.specs.Playing.{Makes, player_at, played_of}
use Rattle.call_machine.specs.declared.players.Player.{Player}
use Rattle.call_machine.proofs.Coming.{comes_told, working_phase}
use Rattle.call_machine.proofs.Playing.{asks_made, stepped, stuck_made, turned}
use Rattle.call_machine.proofs.Seats.{asked_twice, player_is}
use Rattle.call_machine.proofs.driver.Driver.ask.Goals as goal

pub returns-then-index-clause-event : goal.returns-then-index-clause-event
returns-then-index-clause-event c =
    let d = c.args.self.now in
    let i = c.args.i in
    stuck_made c.laws.ensures.events (played_of d) i c.requires.inside
    (working_phase (phase_at d.machine i) c.requires.working)
    (ap (λ (q : Player). q.stuck) (player_is d i c.index.result.now c.requires.inside c.index.ensures)
    ∙ c.if-index.true)

pub returns-clause-event : goal.returns-clause-event
returns-clause-event c =
    let d = c.args.self.now in
    let p = played_of d in
    let i = c.args.i in
    let w = c.ask.new.machine in
    let o = c.in_ok-told.field-0 in
    let moved = c.is_some-moved.result in
    let free = ap (λ (q : Player). q.stuck) (player_is d i c.index.result.now c.requires.inside c.index.ensures)
    ∙ c.if-index.false in
    let x = c.index_mut.result.now in
    let own = player_is d i x c.requires.inside c.index_mut.ensures.value in
    let step_is = c.in_ok-step.ensures.step ∙ ap (λ (q : Player). (next_of q.last q.actor).0) (sym own) in
    let R : Bool → Type 0 = λ b. AsksFor b i c.in_ok-step.step p.whole w in
    let event = subst R (sym c.is_some-moved.ensures)
    (comes_told (works (phase_at p.whole i)) c.ask.result o p.whole w (λ y. R (is_some y)) c.requires.working
    c.ask.ensures.event c.in_ok-told.ensures) in
    let made = asks_made c.laws.ensures.events c.laws.ensures.scripts p i w c.in_ok-step.step moved c.requires.inside
    (working_phase (phase_at p.whole i) c.requires.working) free step_is event in
    let players = asked_twice d.players.items i x c.next.new.self c.index_mut-2.result.now (not moved) c.requires.inside
    c.index_mut.ensures.value c.in_ok-step.ensures.after c.index_mut-2.ensures.value in
    let P : List Player → Type 0 = λ ps. Makes c.progress.result i p (record p { whole = w; players = ps }) in
    let Q : Progress → Type 0 = λ b. Makes b i p (turned p i (stepped (player_at p i) (not moved)) w) in
    subst P (sym players) (subst Q (sym c.progress.ensures) made)
