use Rattle.std.proofs.Common.{◌++◌, ◌∷◌, [], map, rules, subst}
use Rattle.std.proofs.lemmas.Iterator.Adapters.{YieldsList-from_vec}
use Rattle.std.proofs.lemmas.Iterator.Consumers.{YieldsList-so_far, YieldsList-turn}
use Rattle.command_texts.specs.FirstFaults.{IsReadFault}
use Rattle.command_texts.specs.Reading.{AreTexts}
use Rattle.command_texts.proofs.Sources.{more_read, unread_after, split_where}
use Rattle.command_texts.proofs.source.read_all.Goals as goal

pub loop-source-preserved : goal.loop-source-preserved
loop-source-preserved g c =
    subst (λ texts. AreTexts (map (λ s. (s.path.now, g.R.TextReader.remaining s.reader))
    (c.loop-source.yielded ++ c.in-Some.source ∷ [])) texts) (search rules)
    (more_read (λ s. (s.path.now, g.R.TextReader.remaining s.reader)) c.loop-source.yielded c.in-Some.source
    c.loop-source.texts.items c.in-Ok.text c.loop-source.invariant c.in-Ok.ensures.text)

pub returns-in-Err-Failed-clause-unread : goal.returns-in-Err-Failed-clause-unread
returns-in-Err-Failed-clause-unread g c =
    let list = YieldsList-from_vec {s = c.into_iter-source-iterator.result} c.args.sources.items (search rules)
    (search rules) in
    let turn = YieldsList-turn list c.loop-source.yielded c.loop-source.source-iterator c.loop-source.yielded_by
    c.next.result c.next.new.self c.in-Some.source c.in-Some.is c.next.ensures.steps in
    let far = YieldsList-so_far list c.loop-source.yielded c.loop-source.source-iterator c.loop-source.yielded_by in
    let failed = subst (λ fault. IsReadFault (g.R.TextReader.remaining c.in-Some.source.reader) fault)
    c.in-Err-Failed.field-0-is c.in-Err-Failed.ensures.failed in
    unread_after (λ s. (s.path.now, g.R.TextReader.remaining s.reader)) c.loop-source.yielded c.in-Some.source _
    c.args.sources.items c.loop-source.texts.items
    (split_where c.loop-source.yielded c.in-Some.source c.args.sources.items far turn.0 turn.1)
    c.loop-source.invariant failed
