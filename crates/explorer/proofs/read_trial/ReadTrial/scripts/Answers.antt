use Rattle.std.proofs.Common.{rules, ◌≡◌, ◌∙◌, ◌+◌, ◌∷◌, List, Ok, ap, drop, subst, sym}
use Rattle.std.proofs.lemmas.List.{drop_more}
use Rattle.thread_scripts.specs.Grammar.{script_of}
use Rattle.thread_scripts.specs.declared.line.Line.{Line}
use Rattle.command_texts.specs.Reading.{scripts_from}
use Rattle.explorer.specs.Varied.{varied_text, varied_texts}
use Rattle.explorer.proofs.ReadOnce.{after, next_script}
use Rattle.explorer.proofs.read_trial.ReadTrial.scripts.Goals as goal

-- the script of this thread comes next
pub loop-thread-preserved : goal.loop-thread-preserved
loop-thread-preserved g c =
    let delays = g.D.Delays.delays_of c.args.delays.now c.args.case in
    let texts = c.deref-one-items.result.now in
    let i = c.loop-thread.thread in
    let text = c.one-item.result in
    let script = c.in-Some-2.script in
    let here : drop i texts ≡ text ∷ drop (i + 1) texts =
    drop_more texts i text c.loop-thread-test.true
    ∙ ap (λ one. one ∷ drop (i + 1) texts) (sym c.one-item.is) in
    let reads : script_of (varied_text (delays i) text) ≡ Ok script = search rules in
    let later = scripts_from (i + 1) (varied_texts delays (i + 1) (drop (i + 1) texts)) in
    subst
    (λ (scripts : List (List Line)).
    after scripts later ≡ scripts_from 0 (varied_texts delays 0 texts))
    (sym c.in_ok-push.ensures.items)
    (next_script delays c.loop-thread.scripts.items i text texts (drop (i + 1) texts) script
    (scripts_from 0 (varied_texts delays 0 texts)) here reads c.loop-thread.invariant)
