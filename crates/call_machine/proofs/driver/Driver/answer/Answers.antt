use Rattle.std.proofs.Common.{◌∙◌, Some, None, ap, sym, refl, subst}
use Rattle.std.proofs.lemmas.List.{set-get_or}
use Rattle.std.proofs.Math.ListN.{set}
use Rattle.std.specs.Prelude.{List, Result, Ok, Err}
use Rattle.posix_terms.specs.declared.reply.Answer.{Answer}
use Rattle.lock_machine.specs.Refusals.{Comes, WantsNone, has_answer, phase_at}
use Rattle.lock_machine.specs.Shows.{Tells}
use Rattle.lock_machine.specs.declared.outside.Progress.TheVariants as progress
use Rattle.lock_machine.specs.declared.refused.LockRefused.{LockRefused}
use Rattle.call_machine.specs.Playing.{Makes, heard, played_of}
use Rattle.call_machine.specs.declared.players.Player.{Player}
use Rattle.call_machine.proofs.Coming.{answering, comes_told, refused_told}
use Rattle.call_machine.proofs.Playing.{tells_made}
use Rattle.call_machine.proofs.Seats.{player_is}
use Rattle.call_machine.proofs.driver.Driver.answer.Goals as goal

pub returns-in-Ok-clause-event : goal.returns-in-Ok-clause-event
returns-in-Ok-clause-event c =
    let p = played_of c.args.self.now in
    let i = c.args.i in
    let w = c.answer.new.self in
    let q = phase_at p.whole i in
    let a = c.in-Ok.told in
    let R : Result Answer LockRefused → Type 0 = λ r. Comes (has_answer q) r p.whole w (λ o. Tells o i p.whole w) in
    let h = comes_told (has_answer q) (Ok a) (Some a) p.whole w (λ o. Tells o i p.whole w) c.requires.answered
    (subst R c.in-Ok.is c.answer.ensures.event) refl in
    let P : Player → Type 0 = λ x. Makes progress.Moves i p (record p { whole = w; players = set p.players i x }) in
    let own = player_is c.args.self.now i c.index_mut.result.now c.requires.inside c.index_mut.ensures.value in
    subst P (sym (c.hear.ensures ∙ ap (heard (Some a)) (sym own)))
    (tells_made c.laws.ensures.events p i w q (Some a) c.requires.inside refl (answering q c.requires.answered) h)

pub returns-in-Err-clause-event : goal.returns-in-Err-clause-event
returns-in-Err-clause-event c =
    let p = played_of c.args.self.now in
    let i = c.args.i in
    let w = c.answer.new.self in
    let q = phase_at p.whole i in
    let e = c.in-Err.field-0 in
    let R : Result Answer LockRefused → Type 0 = λ r. Comes (has_answer q) r p.whole w (λ o. Tells o i p.whole w) in
    let N : Result Answer LockRefused → Type 0 = λ r. WantsNone r in
    let none = refused_told Answer e (subst N c.in-Err.is c.answer.ensures.memory) in
    let h = comes_told (has_answer q) (Err e) None p.whole w (λ o. Tells o i p.whole w) c.requires.answered
    (subst R c.in-Err.is c.answer.ensures.event) none in
    let P : List Player → Type 0 = λ x. Makes progress.Stays i p (record p { whole = w; players = x }) in
    subst P (set-get_or p.players i _)
    (tells_made c.laws.ensures.events p i w q None c.requires.inside refl (answering q c.requires.answered) h)
